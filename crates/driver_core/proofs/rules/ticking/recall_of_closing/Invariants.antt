use Rattle.std.proofs.Common.{◌≡◌, drop}
use Rattle.driver_core.proofs.RecallLemmas.{recalled_by}
use Rattle.driver_core.proofs.rules.ticking.recall_of_closing.Given as goal

-- once those of the logs that are left go too, all are gone
abbrev pub invariant-loop-log : goal.invariant-loop-log
invariant-loop-log l =
    recalled_by l.now l.silent l.destinations (drop l.log-index l.logs)
    ≡ recalled_by l.now l.silent l.initial.destinations l.logs
