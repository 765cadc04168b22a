-- What is decided of the first log of a source is what is decided at each end that is stood for.
use Rattle.std.proofs.Common.{◌≡◌, ℕ, get_or, Option, Some, None, refl, sym, subst, ap, ◌∙◌}
use Rattle.std.specs.Option.{option_map}
use Rattle.log_traffic.specs.Whole.{position_in}
use Rattle.driver_core.specs.LogRequests.{offering_of, receiving_of}
use Rattle.driver_core.specs.State.{State}
use Rattle.log_steps.specs.declared.answer.Answer.{Answer}
use Rattle.log_steps.specs.declared.answer.Answer.TheVariants.{Gone}
use Rattle.log_steps.specs.Decided.{Decides, offer_decision, poll_decision}
use Rattle.driver_steps.specs.EndDecisions.{DecidesAs, DecidesUnless, decision_in, offer_decided, poll_decided}
use Rattle.driver_steps.specs.OpenLogs.{DecidesFirst, DecidesHeld, HeldLogs, held_at, place_at, MovesFirst}
use Rattle.driver_steps.specs.Ends.{RunEnd, log_at}
use Rattle.log_steps.specs.Held.{HeldLog}
use Rattle.log_steps.specs.Moves.{WholeLog, poll_move}
use Rattle.driver_steps.specs.Standing.{StandAll}
use Rattle.driver_steps.proofs.OpenLogLemmas.{found_at, found_nowhere}
use Rattle.driver_steps.proofs.RunLemmas.{IsTold, first_told, poll_told, sourced, told_unless}
use Rattle.driver_steps.proofs.StandLemmas.{StandAt, stand_at}
use Rattle.policy_core.specs.declared.decision.Decision.{Decision}

-- ---- the first log of a source

-- none is there
pub decides_none : (source : ℕ) (decide : WholeLog → Option Decision) (old : HeldLogs) → place_at old.logs source ≡ None →
    DecidesFirst source decide None old
decides_none source decide old none = rw (found_nowhere old.logs source none) refl

-- the one at that place decides
pub decides_at : (source : ℕ) (decide : WholeLog → Option Decision) (old : HeldLogs) (at : ℕ) (held : HeldLog) (decision : Option Decision) →
    place_at old.logs source ≡ Some at → held ≡ get_or old.logs at held → Decides decide held decision →
    DecidesFirst source decide decision old
decides_at source decide old at held decision place is decides =
    let told = found_at old.logs source at place in
    let found : held_at old.logs source ≡ Some held = told.1 held ∙ ap Some (sym is) in
    subst (λ o. DecidesHeld decide decision o) (sym found) decides

-- ---- at the end of a run

decided_found : (decide : WholeLog → Option Decision) (decision : Option Decision) (found : Option HeldLog) (there : Option WholeLog) →
    StandAt found there → DecidesHeld decide decision found → decision ≡ decision_in there decide
decided_found decide decision None None at is = is
decided_found decide decision None (Some log) at is = absurd at
decided_found decide decision (Some held) None at is = absurd at
decided_found decide decision (Some held) (Some log) at is = is.on log at

pub decided_first : (e : RunEnd) (source : ℕ) (decide : WholeLog → Option Decision) (decision : Option Decision) (old : HeldLogs) →
    StandAll old.logs e.logs → DecidesFirst source decide decision old → decision ≡ decision_in (log_at e.logs source) decide
decided_first e source decide decision old all decides =
    decided_found decide decision (held_at old.logs source) (log_at e.logs source) (stand_at old.logs e.logs source all) decides

-- ---- a step, for each end that the driver stands for

-- an offer to the first log of the registration's source
pub offer_decided_first : (registry : State) (old : HeldLogs) (client registration source : ℕ) (decision : Option Decision) →
    option_map (λ request. request.source) (offering_of registry client registration) ≡ Some source →
    DecidesFirst source (offer_decision registry client registration) decision old →
    DecidesAs (record { registry = registry; logs = old.logs }) (λ e. offer_decided e client registration) decision
offer_decided_first registry old client registration source decision is decides = record {
  on = λ e stands.
      let found = sourced (offering_of registry client registration) source is in
      let asked : offering_of e.registry client registration ≡ Some found.0 = rw (← stands.registry) found.1 in
      let there : DecidesFirst source (offer_decision e.registry client registration) decision old = rw (← stands.registry) decides in
      rw (asked, found.2) (decided_first e source (offer_decision e.registry client registration) decision old stands.logs there);
}

-- a poll of the first log of the source
pub poll_decided_first : (registry : State) (old new : HeldLogs) (client subscription source limit : ℕ) (answer : Answer) (decision : Option Decision) →
    MovesFirst source (poll_move registry client subscription limit) Gone old new answer →
    DecidesFirst source (poll_decision registry client subscription) decision old →
    DecidesUnless (record { registry = registry; logs = old.logs }) (λ e. poll_decided e client subscription source) answer decision
unfolding poll_move
poll_decided_first registry old new client subscription source limit answer decision moves decides = record {
  on = λ e stands.
      let is_told : IsTold answer =
      first_told e old new source (poll_move registry client subscription limit) Gone answer tt
      (λ log. poll_told subscription limit log (receiving_of registry client subscription log.source) (position_in log.whole subscription))
      stands.logs moves in
      let there : DecidesFirst source (poll_decision e.registry client subscription) decision old = rw (← stands.registry) decides in
      rw (told_unless answer (poll_decided e client subscription source) is_told)
      (decided_first e source (poll_decision e.registry client subscription) decision old stands.logs there);
}
