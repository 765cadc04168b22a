use Rattle.std.proofs.Common.{◌<◌, length, slice_index_or, arith}
use Rattle.std.proofs.lemmas.List.{get_or_default}
use Rattle.std.proofs.lemmas.List.Edits.{map_over_more}
use Rattle.rows.proofs.slots.change_first.Goals as goal

pub loop-at-preserved : goal.loop-at-preserved
loop-at-preserved g c =
    let within : c.loop-at.at < length c.loop-at.slots = omega (arith, c.loop-at.auto.slots, c.requires, c.loop-at-test.true) in
    let among : c.loop-at.at < length c.args.slots.now = omega (arith, c.requires, c.loop-at-test.true) in
    rw c.change.ensures
    (map_over_more _ _ _ _ (slice_index_or c.loop-at.slots c.loop-at.at c.index-slots-at.result)
    among c.loop-at.invariant (get_or_default _ _ _ _ within))
