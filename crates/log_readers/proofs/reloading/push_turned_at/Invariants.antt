use Rattle.std.proofs.Common.{◌≡◌, ◌++◌, drop}
use Rattle.log_readers.specs.Reloading.{comes, goes, turned_at}
use Rattle.log_readers.proofs.reloading.push_turned_at.Given as goal

-- the pairs so far, and then those of the subscriptions that are left
abbrev pub invariant-loop-at : goal.invariant-loop-at
invariant-loop-at l = record {
  gone :
      l.turnover.gone ++ turned_at goes (drop l.at l.subscriptions) (drop l.at l.allowed) l.log l.numbers
      ≡ l.initial.turnover.gone ++ turned_at goes l.subscriptions l.allowed l.log l.numbers;
  come :
      l.turnover.come ++ turned_at comes (drop l.at l.subscriptions) (drop l.at l.allowed) l.log l.numbers
      ≡ l.initial.turnover.come ++ turned_at comes l.subscriptions l.allowed l.log l.numbers;
}
