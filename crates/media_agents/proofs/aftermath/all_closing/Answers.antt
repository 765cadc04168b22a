use Rattle.std.proofs.Common.{ap, ◌∙◌}
use Rattle.std.proofs.lemmas.List.{take_all}
use Rattle.media_agents.specs.Asking.{closing, closing_at}
use Rattle.media_agents.proofs.AskingLemmas.{found_next, none_found}
use Rattle.media_agents.proofs.aftermath.all_closing.Goals as goal
use Rattle.media_agents.proofs.aftermath.all_closing.Goals.{in-Some+in_ok-push, in_default}

pub loop-place-preserved : goal.loop-place-preserved
loop-place-preserved c =
    elim c.match-closing_one.branch [
      | in-Some+in_ok-push w ↦ rw w.logs-is (
          found_next (closing_at c.args.registry.now) c.args.closes.now c.loop-place.place-index _ c.loop-place.logs w.push.new.self w.in-Some.at
          c.loop-place-test.true c.loop-place.invariant w.in-Some.ensures w.in_ok-push.ensures.ok)
      | in_default w ↦ rw w.logs-is (
          none_found (closing_at c.args.registry.now) c.args.closes.now c.loop-place.place-index _ c.loop-place.logs
          c.loop-place-test.true c.loop-place.invariant w.in_default.ensures)
    ]

pub returns : goal.returns
returns c = c.loop-place.invariant ∙ ap (closing c.args.registry.now) (take_all c.loop-place.place-index c.args.closes.now c.loop-place-test.false)
