use Rattle.std.proofs.Common.{◌≡◌, ◌++◌, drop, map}
use Rattle.std.specs.List.{flat_map}
use Rattle.driver_core.specs.Renewal.{available_from, decided_from, reading}
use Rattle.stream_registry.specs.Pairs.{pair_of}
use Rattle.driver_core.proofs.state.registry.Registry.push_images_of.Given as goal

-- what was put there so far, and then what comes of the subscriptions that are left
abbrev pub invariant-loop-subscription : goal.invariant-loop-subscription
invariant-loop-subscription l = record {
  told :
      l.messages ++ flat_map (available_from l.ends l.log) (reading l.self l.log (drop l.subscription-index l.subscriptions))
      ≡ l.initial.messages ++ flat_map (available_from l.ends l.log) (reading l.self l.log l.subscriptions);
  decided :
      l.decisions ++ flat_map (decided_from l.self) (reading l.self l.log (drop l.subscription-index l.subscriptions))
      ≡ l.initial.decisions ++ flat_map (decided_from l.self) (reading l.self l.log l.subscriptions);
  come :
      l.come ++ map (pair_of l.log) (reading l.self l.log (drop l.subscription-index l.subscriptions))
      ≡ l.initial.come ++ map (pair_of l.log) (reading l.self l.log l.subscriptions);
}
