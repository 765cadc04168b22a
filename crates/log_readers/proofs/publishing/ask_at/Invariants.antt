use Rattle.std.proofs.Common.{◌≡◌, ◌≤◌, ◌++◌, drop, length}
use Rattle.log_readers.specs.Readers.{readers_at}
use Rattle.log_readers.proofs.publishing.ask_at.Given as goal

-- the readers so far, and then those among the subscriptions that are left
abbrev pub invariant-loop-subscription : goal.invariant-loop-subscription
invariant-loop-subscription l = record {
  so_far : l.numbers ++ readers_at l.clients.rows l.policy l.epoch (drop l.subscription-index l.subscriptions) l.log
      ≡ readers_at l.clients.rows l.policy l.epoch l.subscriptions l.log;
  few : length l.numbers ≤ l.subscription-index;
}
