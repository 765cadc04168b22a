use Rattle.log_readers.proofs.BesideLemmas.{IsSettling}
use Rattle.log_readers.proofs.closing.settle.Given as goal

-- what stays of the rows so far stands in front
abbrev pub invariant-loop-at : goal.invariant-loop-at
invariant-loop-at g l = IsSettling (g.S.Test.keeps l.test) l.logs l.initial.slots l.slots l.kept l.at
