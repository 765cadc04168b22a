use Rattle.std.proofs.Common.{◌+◌, List, [], ◌∷◌, ◌++◌, refl, subst, sym}
use Rattle.std.proofs.lemmas.List.{take_all}
use Rattle.driver_core.specs.declared.state.event.End.{End}
use Rattle.log_steps.proofs.ReaderLemmas.{readers_are_few}
use Rattle.media_agents.specs.Acts.{GoesOn}
use Rattle.media_agents.specs.Asking.{Asks, Gathers, Joins, JoinsSome}
use Rattle.media_agents.proofs.AskingLemmas.{answered_next, joins_some, none_next, on_err}
use Rattle.media_agents.proofs.ChainLemmas.{chain_none}
use Rattle.stream_registry.specs.declared.pairs.Pair.{Pair}
use Rattle.media_agents.proofs.pairing.join.Goals as goal
use Rattle.media_agents.proofs.pairing.join.Goals.{in-Some+in_ok-push, in_default}

pub join_one-requires : goal.join_one-requires
join_one-requires g c = readers_are_few c.args.registry.now c.requires _

pub loop-pair-init : goal.loop-pair-init
loop-pair-init g c =
    let did = g.L.Logs.did in
    let says = Joins c.args.registry.now c.args.come.now in
    subst (λ (ends : List End). GoesOn (Gathers says [] ends) (did c.args.logs.now) (did c.args.logs.now)) (sym c.new-ends.ensures)
    (chain_none (Asks says) [] (did c.args.logs.now))

pub loop-pair-preserved : goal.loop-pair-preserved
loop-pair-preserved g c =
    let did = g.L.Logs.did in
    let says = Joins c.args.registry.now c.args.come.now in
    elim c.match-join_one.branch [
      | in-Some+in_ok-push w ↦ rw w.ends-is (
          answered_next says c.args.come.now c.loop-pair.pair-index _ c.loop-pair.ends w.push.new.self w.in-Some.end
          (did c.args.logs.now) (did c.loop-pair.logs) (did c.join_one.new.logs) c.loop-pair-test.true c.loop-pair.invariant
          w.in-Some.ensures w.in_ok-push.ensures.ok)
      | in_default w ↦ rw w.ends-is (
          none_next says c.args.come.now c.loop-pair.pair-index _ c.loop-pair.ends
          (did c.args.logs.now) (did c.loop-pair.logs) (did c.join_one.new.logs) c.loop-pair-test.true c.loop-pair.invariant w.in_default.ensures)
    ]

pub returns-clause-joins : goal.returns-clause-joins
returns-clause-joins g c =
    subst (λ (those : List Pair). GoesOn (Gathers (Joins c.args.registry.now c.args.come.now) those c.loop-pair.ends) (g.L.Logs.did c.args.logs.now) (g.L.Logs.did c.loop-pair.logs))
    (take_all c.loop-pair.pair-index c.args.come.now c.loop-pair-test.false) c.loop-pair.invariant

pub returns-in_err-push-clause-err : goal.returns-in_err-push-clause-err
returns-in_err-push-clause-err g c =
    let did = g.L.Logs.did in
    let says = Joins c.args.registry.now c.args.come.now in
    on_err (GoesOn (JoinsSome c.args.registry.now c.args.come.now) (did c.args.logs.now) (did c.join_one.new.logs)) c.from_residual.result
    (joins_some c.args.registry.now c.args.come.now (c.loop-pair.pair-index + 1) (c.loop-pair.ends ++ c.in-Some.end ∷ []) (did c.args.logs.now) (did c.join_one.new.logs)
    (answered_next says c.args.come.now c.loop-pair.pair-index _ c.loop-pair.ends (c.loop-pair.ends ++ c.in-Some.end ∷ []) c.in-Some.end
    (did c.args.logs.now) (did c.loop-pair.logs) (did c.join_one.new.logs) c.loop-pair-test.true c.loop-pair.invariant c.in-Some.ensures refl))
