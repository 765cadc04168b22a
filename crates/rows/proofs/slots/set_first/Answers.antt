use Rattle.std.proofs.Common.{◌<◌, length, arith, refl}
use Rattle.std.proofs.lemmas.List.{take_more, take_more_set}
use Rattle.rows.proofs.slots.set_first.Goals as goal

pub loop-at-preserved : goal.loop-at-preserved
loop-at-preserved g c =
    let before : c.loop-at.at < length c.loop-at.slots = omega (arith, c.loop-at.auto.slots, c.requires.within, c.loop-at-test.true) in
    let among : c.loop-at.at < length c.args.others.now = omega (arith, c.requires.among, c.loop-at-test.true) in
    rw (take_more_set c.loop-at.slots c.loop-at.at c.set_from.new.self before, take_more c.args.others.now c.loop-at.at c.index-others-at.result among, c.loop-at.invariant, c.set_from.ensures, ← c.index-others-at.is) refl
