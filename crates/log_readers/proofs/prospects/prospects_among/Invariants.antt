use Rattle.std.proofs.Common.{◌≡◌, ◌*◌, ◌≤◌, length, take}
use Rattle.std.specs.List.{flat_map}
use Rattle.stream_registry.specs.Pairs.{prospects_at}
use Rattle.policy_core.specs.Moments.{at, coming}
use Rattle.log_readers.proofs.prospects.prospects_among.Given as goal

-- the pairs of the subscriptions so far
abbrev pub invariant-loop-subscription : goal.invariant-loop-subscription
invariant-loop-subscription l = record {
  so_far :
      l.pairs
      ≡ length (flat_map (prospects_at l.clients.rows (at l.policy l.moment) (coming l.policy l.moment) l.epoch (take l.subscription-index l.subscriptions)) l.streams.sources);
  few : l.pairs ≤ 768 * l.subscription-index;
}
