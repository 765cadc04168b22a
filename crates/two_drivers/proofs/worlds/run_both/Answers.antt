use Rattle.std.proofs.Common.{◌≡◌, ◌∙◌, [], sym, length, take, arith, take_all, length-append}
use Rattle.std.proofs.lemmas.List.{length-take-le, take_more}
use Rattle.two_drivers.specs.Standing.{held_both}
use Rattle.two_drivers.proofs.StandingLemmas.{both_pushed}
use Rattle.two_drivers.proofs.worlds.run_both.Goals as goal

pub loop-step-preserved : goal.loop-step-preserved
loop-step-preserved c =
    let below = c.loop-step-test.true in
    let same : length (take c.loop-step.step-index c.args.steps.now) ≡ length c.loop-step.answers.items =
    length-take-le c.loop-step.step-index c.args.steps.now (omega (arith, below)) ∙ sym c.loop-step.invariant.count in
    record {
      ran = rw (take_more c.args.steps.now c.loop-step.step-index c.step-item.result c.loop-step-test.true, ← c.step-item.is, c.in-Ok.ensures.items)
          (both_pushed (held_both c.args.first.now c.args.second.now []) c.loop-step.first c.loop-step.second c.step_both-answer.new.first
          c.step_both-answer.new.second (take c.loop-step.step-index c.args.steps.now) c.step-item.result c.loop-step.answers.items
          c.step_both-answer.result same c.loop-step.invariant.ran
          (rw (c.as_slice-done.ensures.value, c.loop-step.invariant.count) at c.step_both-answer.ensures));
      room = omega (arith, c.loop-step.invariant.room, c.in-Ok.ensures.capacity);
      count = rw (c.in-Ok.ensures.items, length-append) (omega (arith, c.loop-step.invariant.count));
    }

pub returns-clause-ok : goal.returns-clause-ok
returns-clause-ok c =
    let all : take c.loop-step.step-index c.args.steps.now ≡ c.args.steps.now = take_all _ _ c.loop-step-test.false in
    rw c.from.ensures (rw all at c.loop-step.invariant.ran)
