use Rattle.std.proofs.lemmas.List.Filters.{FiltersInPlace}
use Rattle.rows.proofs.slots.keep.Given as goal

-- what passes of the rows before this one stands in front, and from this one on they are as they were
abbrev pub invariant-loop-at : goal.invariant-loop-at
invariant-loop-at g l = FiltersInPlace (g.S.Test.keeps l.test) l.initial.slots l.slots l.kept l.at
