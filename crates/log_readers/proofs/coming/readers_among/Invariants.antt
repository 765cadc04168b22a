use Rattle.std.proofs.Common.{◌≡◌, ◌+◌, ◌≤◌, drop, length}
use Rattle.stream_registry.specs.Pairs.{pairs_at}
use Rattle.log_readers.proofs.coming.readers_among.Given as goal

-- the readers so far, and those among the subscriptions that are left
abbrev pub invariant-loop-subscription : goal.invariant-loop-subscription
invariant-loop-subscription l =
    (l.readers + length (pairs_at l.clients.rows l.policy l.epoch (drop l.subscription-index l.subscriptions) l.log)
    ≡ length (pairs_at l.clients.rows l.policy l.epoch l.subscriptions l.log))
    × (l.readers ≤ l.subscription-index)
