use Rattle.std.proofs.Common.{◌≡◌, take, arith, take_all, length-append}
use Rattle.std.proofs.lemmas.List.{take_more}
use Rattle.driver_world.proofs.RunLemmas.{runs_more, runs_continue}
use Rattle.driver_world.proofs.world.World.run.Goals as goal

pub loop-reading-preserved : goal.loop-reading-preserved
loop-reading-preserved c =
    record {
      ran = rw (take_more c.args.readings.now c.loop-reading.reading-index c.reading-item.result c.loop-reading-test.true, ← c.reading-item.is, c.in-Ok.ensures.items)
          (runs_more _ _ _ _ c.reading-item.result _ c.step-answer.result c.loop-reading.invariant.ran c.step-answer.ensures);
      room = omega (arith, c.loop-reading.invariant.room, c.in-Ok.ensures.capacity);
      count = rw (c.in-Ok.ensures.items, length-append) (omega (arith, c.loop-reading.invariant.count));
    }

pub returns-clause-continues : goal.returns-clause-continues
returns-clause-continues c =
    let all : take c.loop-reading.reading-index c.args.readings.now ≡ c.args.readings.now = take_all _ _ c.loop-reading-test.false in
    rw c.from.ensures (runs_continue _ _ c.args.readings.now _ (rw all at c.loop-reading.invariant.ran))
