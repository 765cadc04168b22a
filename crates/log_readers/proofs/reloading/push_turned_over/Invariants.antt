use Rattle.std.proofs.Common.{◌≡◌, ◌++◌, drop}
use Rattle.log_readers.specs.Reloading.{comes, goes, turned_over}
use Rattle.log_readers.proofs.reloading.push_turned_over.Given as goal

-- the pairs so far, and then those of the logs that are left
abbrev pub invariant-loop-at : goal.invariant-loop-at
invariant-loop-at l = record {
  gone :
      l.turnover.gone ++ turned_over goes l.subscriptions l.allowed (drop l.at l.logs) (drop l.at l.slots)
      ≡ l.initial.turnover.gone ++ turned_over goes l.subscriptions l.allowed l.logs l.slots;
  come :
      l.turnover.come ++ turned_over comes l.subscriptions l.allowed (drop l.at l.logs) (drop l.at l.slots)
      ≡ l.initial.turnover.come ++ turned_over comes l.subscriptions l.allowed l.logs l.slots;
}
