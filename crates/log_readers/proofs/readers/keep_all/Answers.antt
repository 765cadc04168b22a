use Rattle.std.proofs.Common.{◌<◌, length, slice_index_or, arith}
use Rattle.std.proofs.lemmas.List.{get_or_default}
use Rattle.std.proofs.lemmas.List.Edits.{map_over_more}
use Rattle.log_readers.proofs.readers.keep_all.Goals as goal

pub loop-numbers-preserved : goal.loop-numbers-preserved
loop-numbers-preserved g c =
    let before : c.loop-numbers.numbers-index < length c.loop-numbers.slots =
    omega (arith, c.loop-numbers.auto.slots, c.loop-numbers-test.true) in
    rw c.retain.ensures
    (map_over_more _ _ _ _ (slice_index_or c.loop-numbers.slots c.loop-numbers.numbers-index c.numbers-item.result)
    c.loop-numbers-test.true c.loop-numbers.invariant (get_or_default _ _ _ _ before))
