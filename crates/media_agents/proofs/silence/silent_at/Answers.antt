use Rattle.std.proofs.Common.{ℕ, All, List, [], None, Some, ap, rules, subst, sym, take}
use Rattle.driver_core.specs.declared.state.settings.Settings.{Settings}
use Rattle.media_agents.specs.Acts.{GoesOn}
use Rattle.media_agents.specs.Asking.{Asks, Gathers, LeavesIt, SilenceOf}
use Rattle.media_agents.proofs.AskingLemmas.{all_asked, answered_next, none_next, on_err, silence_ends}
use Rattle.media_agents.proofs.ChainLemmas.{chain_none}
use Rattle.media_agents.proofs.silence.silent_at.Goals as goal
use Rattle.media_agents.proofs.silence.silent_at.Goals.{in-Some+in_ok-push, in_default}
use Rattle.stream_registry.specs.declared.row.LogRow.{LogRow}

pub loop-row-init : goal.loop-row-init
loop-row-init g c =
    let did = g.L.Logs.did in
    let says = SilenceOf c.max-moment.result c.settings-liveness.result.image_liveness in
    subst (λ (silent : List ℕ). GoesOn (Gathers says [] silent) (did c.args.logs.now) (did c.args.logs.now)) (sym c.new-silent.ensures)
    (chain_none (Asks says) [] (did c.args.logs.now))

pub loop-row-preserved : goal.loop-row-preserved
loop-row-preserved g c =
    let did = g.L.Logs.did in
    let says = SilenceOf c.max-moment.result c.settings-liveness.result.image_liveness in
    elim c.match-silent_one.branch [
      | in-Some+in_ok-push w ↦ rw w.silent-is (
          answered_next says c.sources-row-items.result.now c.loop-row.row-index c.row-item.result c.loop-row.silent w.push.new.self w.in-Some.source
          (did c.args.logs.now) (did c.loop-row.logs) (did c.silent_one.new.logs) c.loop-row-test.true c.loop-row.invariant
          (subst (λ (row : LogRow). GoesOn (says row (Some w.in-Some.source)) (did c.loop-row.logs) (did c.silent_one.new.logs)) c.row-item.is w.in-Some.ensures) w.in_ok-push.ensures.ok)
      | in_default w ↦ rw w.silent-is (
          none_next says c.sources-row-items.result.now c.loop-row.row-index c.row-item.result c.loop-row.silent
          (did c.args.logs.now) (did c.loop-row.logs) (did c.silent_one.new.logs) c.loop-row-test.true c.loop-row.invariant
          (subst (λ (row : LogRow). GoesOn (says row None) (did c.loop-row.logs) (did c.silent_one.new.logs)) c.row-item.is w.in_default.ensures))
    ]

pub returns-clause-silent : goal.returns-clause-silent
returns-clause-silent g c =
    all_asked c.args.registry.now c.args.now c.max-moment.result c.settings-liveness.result.image_liveness
    c.sources-row-items.result.now c.loop-row.row-index c.loop-row.silent (g.L.Logs.did c.args.logs.now) (g.L.Logs.did c.loop-row.logs)
    (search rules) (ap (λ (s : Settings). s.image_liveness) c.settings-liveness.ensures)
    c.sources-row-items.ensures c.loop-row-test.false c.loop-row.invariant

pub returns-in_err-push-clause-err : goal.returns-in_err-push-clause-err
returns-in_err-push-clause-err g c =
    let did = g.L.Logs.did in
    on_err (GoesOn (All LeavesIt) (did c.args.logs.now) (did c.silent_one.new.logs)) c.from_residual.result
    (silence_ends c.max-moment.result c.settings-liveness.result.image_liveness (take c.loop-row.row-index c.sources-row-items.result.now) c.loop-row.silent
    c.row-item.result (Some c.in-Some.source) (did c.args.logs.now) (did c.loop-row.logs) (did c.silent_one.new.logs) c.loop-row.invariant c.in-Some.ensures)
