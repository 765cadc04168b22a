use Rattle.std.proofs.Common.{◌≡◌, take, map}
use Rattle.log_readers.specs.Readers.{readers_at}
use Rattle.log_readers.proofs.readers.Readers.ask.Given as goal

-- the readers among the subscriptions so far
abbrev pub invariant-loop-subscription : goal.invariant-loop-subscription
invariant-loop-subscription l =
    l.self ≡ map (readers_at l.clients.rows l.policy l.epoch (take l.subscription-index l.subscriptions)) l.logs
