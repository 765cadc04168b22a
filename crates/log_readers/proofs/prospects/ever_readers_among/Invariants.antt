use Rattle.std.proofs.Common.{◌≡◌, ◌+◌, ◌≤◌, drop, length}
use Rattle.stream_registry.specs.Pairs.{prospects_at}
use Rattle.policy_core.specs.Moments.{at, coming}
use Rattle.log_readers.proofs.prospects.ever_readers_among.Given as goal

-- the readers so far, and those among the subscriptions that are left
abbrev pub invariant-loop-subscription : goal.invariant-loop-subscription
invariant-loop-subscription l =
    (l.readers + length (prospects_at l.clients.rows (at l.policy l.moment) (coming l.policy l.moment) l.epoch (drop l.subscription-index l.subscriptions) l.log)
    ≡ length (prospects_at l.clients.rows (at l.policy l.moment) (coming l.policy l.moment) l.epoch l.subscriptions l.log))
    × (l.readers ≤ l.subscription-index)
