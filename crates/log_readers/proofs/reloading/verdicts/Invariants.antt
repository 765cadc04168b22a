use Rattle.std.proofs.Common.{◌≡◌, map, take}
use Rattle.stream_registry.specs.Pairs.{is_allowed}
use Rattle.log_readers.proofs.reloading.verdicts.Given as goal

-- the verdicts on the subscriptions so far
abbrev pub invariant-loop-subscription : goal.invariant-loop-subscription
invariant-loop-subscription l =
    l.allowed ≡ map (is_allowed l.clients.rows l.policy l.epoch) (take l.subscription-index l.subscriptions)
