use Rattle.std.proofs.Common.{◌<◌, ◌≡◌, length, true, false, arith}
use Rattle.std.proofs.lemmas.List.Filters.{FiltersInPlace-more_no, FiltersInPlace-more_set}
use Rattle.rows.proofs.slots.keep.Goals as goal
use Rattle.rows.proofs.slots.keep.Goals.{then-keeps, else-keeps}

pub loop-at-preserved : goal.loop-at-preserved
loop-at-preserved g c =
    let within : c.loop-at.at < length c.loop-at.slots = omega (arith, c.loop-at.auto.slots, c.requires, c.loop-at-test.true) in
    elim c.if-keeps.branch [
      | then-keeps w ↦
          let passes : g.S.Test.keeps c.args.test.now c.index-slots-at.result ≡ true = cc in
          rw (w.slots-is, w.kept-is, w.put_at.ensures c.index-slots-at.result, ← c.index-slots-at.is)
          (FiltersInPlace-more_set c.loop-at.invariant within passes c.index-slots-at.is)
      | else-keeps w ↦
          let fails : g.S.Test.keeps c.args.test.now c.index-slots-at.result ≡ false = cc in
          rw (w.slots-is, w.kept-is) (FiltersInPlace-more_no c.loop-at.invariant within fails c.index-slots-at.is)
    ]
