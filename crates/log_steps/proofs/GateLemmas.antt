-- A step that is for the log of a source: with that log it is the step itself, and with another it comes to nothing.
use Rattle.std.proofs.Common.{◌≡◌, ℕ, ◌==◌, Bool, true, false, Option, None, refl, sym, ap, subst, ◌∙◌}
use Rattle.std.specs.Prelude.{if◌then◌else◌}
use Rattle.std.proofs.lemmas.Bool.{eq-eqb}
use Rattle.log_steps.specs.declared.answer.Answer.{Answer}
use Rattle.log_steps.specs.Decided.{Decides, decision_for}
use Rattle.log_steps.specs.Held.{HeldLog}
use Rattle.log_steps.specs.Memory.{Gives, is_listed}
use Rattle.log_steps.specs.Moves.{Does, Move, StandsForLog, WholeLog, for_source}
use Rattle.log_traffic.specs.declared.any_log.AnyLog.{AnyLog}
use Rattle.log_traffic.specs.Whole.{AnyWhole, Carries, HasWhole}
use Rattle.policy_core.specs.declared.decision.Decision.{Decision}

-- ---- the source of the log

own_source : (source : ℕ) (held : HeldLog) (log : WholeLog) → held.source ≡ source → StandsForLog held log → (log.source == source) ≡ true
own_source source held log is stands = eq-eqb log.source source (sym stands.source_is ∙ is)

other_source : (source : ℕ) (held : HeldLog) (log : WholeLog) → (held.source == source) ≡ false → StandsForLog held log →
    (log.source == source) ≡ false
other_source source held log is stands = subst (λ n. (n == source) ≡ false) stands.source_is is

-- ---- the step is for it

own_move : (source : ℕ) (move : WholeLog → Move) (absent : Answer) (held : HeldLog) (log : WholeLog) → held.source ≡ source →
    StandsForLog held log → for_source source move absent log ≡ move log
own_move source move absent held log is stands = rw (own_source source held log is stands) refl

pub gated_does : (source : ℕ) (move : WholeLog → Move) (absent answer : Answer) (held after : HeldLog) → held.source ≡ source →
    Does move held after answer → Does (for_source source move absent) held after answer
gated_does source move absent answer held after is does = record {
  on = λ log stands.
      subst (λ (m : Move). (answer ≡ m.answer) × StandsForLog after m.after) (sym (own_move source move absent held log is stands)) (does.on log stands);
}

pub ungated_does : (source : ℕ) (move : WholeLog → Move) (absent answer : Answer) (held after : HeldLog) → held.source ≡ source →
    Does (for_source source move absent) held after answer → Does move held after answer
ungated_does source move absent answer held after is does = record {
  on = λ log stands.
      subst (λ (m : Move). (answer ≡ m.answer) × StandsForLog after m.after) (own_move source move absent held log is stands) (does.on log stands);
}

pub gated_gives : (source : ℕ) (move : WholeLog → Move) (absent : Answer) (held : HeldLog) → held.source ≡ source → Gives move held →
    Gives (for_source source move absent) held
gated_gives source move absent held is gives = record {
  on = λ log stands.
      subst (λ (m : Move). is_listed m.answer ≡ true) (sym (own_move source move absent held log is stands)) (gives.on log stands);
}

pub ungated_gives : (source : ℕ) (move : WholeLog → Move) (absent : Answer) (held : HeldLog) → held.source ≡ source →
    Gives (for_source source move absent) held → Gives move held
ungated_gives source move absent held is gives = record {
  on = λ log stands.
      subst (λ (m : Move). is_listed m.answer ≡ true) (own_move source move absent held log is stands) (gives.on log stands);
}

pub gated_decides : (source : ℕ) (decide : WholeLog → Option Decision) (held : HeldLog) (decision : Option Decision) → held.source ≡ source →
    Decides decide held decision → Decides (decision_for source decide) held decision
gated_decides source decide held decision is decides = record {
  on = λ log stands. rw (own_source source held log is stands) (decides.on log stands);
}

pub ungated_decides : (source : ℕ) (decide : WholeLog → Option Decision) (held : HeldLog) (decision : Option Decision) → held.source ≡ source →
    Decides (decision_for source decide) held decision → Decides decide held decision
ungated_decides source decide held decision is decides = record {
  on = λ log stands.
      decides.on log stands ∙ ap (λ (b : Bool). let d : Option Decision = if b then decide log else None in d) (own_source source held log is stands);
}

-- ---- it is for another

pub elsewhere_does : (source : ℕ) (move : WholeLog → Move) (absent : Answer) (held : HeldLog) → (held.source == source) ≡ false →
    Does (for_source source move absent) held held absent
elsewhere_does source move absent held is = record {
  on = λ log stands. rw (other_source source held log is stands) (refl, stands);
}

pub other_decides : (source : ℕ) (decide : WholeLog → Option Decision) (held : HeldLog) → (held.source == source) ≡ false →
    Decides (decision_for source decide) held None
other_decides source decide held is = record {
  on = λ log stands. rw (other_source source held log is stands) refl;
}

-- ---- some whole log stands behind what is held

-- the log as if it were that one
abbrev of_whole : HeldLog → AnyWhole → WholeLog
of_whole held w = record { source = held.source; whole = w; recovery = held.recovery }

-- after a step
pub has_after : (move : WholeLog → Move) (held after : HeldLog) (answer : Answer) → Does move held after answer → HasWhole held.log → HasWhole after.log
has_after move held after answer does has =
    let log : WholeLog = of_whole held has.whole in
    let done = does.on log (record { source_is = refl; whole = has.stands; recovery_is = refl }) in
    record { whole = (move log).after.whole; stands = done.1.whole }

-- after a call
pub has_carried : (f : AnyWhole → AnyWhole) (old new : AnyLog) → Carries old new f → HasWhole old → HasWhole new
has_carried f old new carries has = record { whole = f has.whole; stands = carries.on has.whole has.stands }

-- where it is as it was
pub has_same : (old new : AnyLog) → new ≡ old → HasWhole old → HasWhole new
has_same old new same has = subst HasWhole (sym same) has
