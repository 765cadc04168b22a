-- A step that is for the log of a source moves the first one of that source.
use Rattle.std.proofs.Common.{◌≡◌, ℕ, ◌==◌, Bool, true, false, List, [], ◌∷◌, cond, get_or, Option, Some, refl, sym, ap, ◌∙◌}
use Rattle.std.specs.Prelude.{slice_set}
use Rattle.std.proofs.lemmas.Bool.{eqb-true}
use Rattle.log_steps.specs.declared.answer.Answer.{Answer}
use Rattle.log_steps.specs.Decided.{Decides, decision_for}
use Rattle.driver_steps.specs.OpenLogs.{DecidesFirst, HeldLogs, held_at, place_at, GivesFirst, MovesFirst}
use Rattle.log_steps.specs.Held.{HeldLog, LiesAsBefore}
use Rattle.log_steps.specs.Memory.{Gives}
use Rattle.log_steps.specs.Moves.{Does, Move, WholeLog, for_source}
use Rattle.driver_steps.proofs.EndDecisionLemmas.{decides_at}
use Rattle.driver_steps.proofs.OpenLogLemmas.{found_at, gives_at, moves_at}
use Rattle.policy_core.specs.declared.decision.Decision.{Decision}
use Rattle.log_steps.proofs.GateLemmas.{ungated_decides, ungated_does, ungated_gives}

-- ---- among the open logs

found_step : (b : Bool) (source : ℕ) (first held : HeldLog) (rest : Option HeldLog) → (first.source == source) ≡ b →
    (rest ≡ Some held → held.source ≡ source) → cond b (Some first) rest ≡ Some held → held.source ≡ source
found_step true source first held rest equal later is =
    let one : first ≡ held = cc in
    ap (λ (h : HeldLog). h.source) (sym one) ∙ eqb-true first.source source equal
found_step false source first held rest equal later is = later is

pub found_source : (logs : List HeldLog) (source : ℕ) (held : HeldLog) → held_at logs source ≡ Some held → held.source ≡ source
found_source [] source held is = absurd (cc is)
found_source (first ∷ logs) source held is =
    found_step (first.source == source) source first held (held_at logs source) refl (found_source logs source held) is

pub source_at : (logs : List HeldLog) (source at : ℕ) (held : HeldLog) → place_at logs source ≡ Some at → held ≡ get_or logs at held →
    held.source ≡ source
source_at logs source at held place is =
    found_source logs source held ((found_at logs source at place).1 held ∙ ap Some (sym is))

-- the one at that place is another now
pub moves_for : (source : ℕ) (move : WholeLog → Move) (absent answer : Answer) (old : HeldLogs) (at : ℕ) (held log : HeldLog) →
    place_at old.logs source ≡ Some at → held ≡ get_or old.logs at held → Does (for_source source move absent) held log answer →
    LiesAsBefore held log →
    let new : HeldLogs = record old { logs = slice_set old.logs at log } in MovesFirst source move absent old new answer
moves_for source move absent answer old at held log place is does lies =
    moves_at source move absent answer old at held log place is
    (ungated_does source move absent answer held log (source_at old.logs source at held place is) does) lies

pub gives_for : (source : ℕ) (move : WholeLog → Move) (absent : Answer) (old : HeldLogs) (at : ℕ) (held : HeldLog) →
    place_at old.logs source ≡ Some at → held ≡ get_or old.logs at held → Gives (for_source source move absent) held →
    GivesFirst source move old
gives_for source move absent old at held place is gives =
    gives_at source move old at held place is (ungated_gives source move absent held (source_at old.logs source at held place is) gives)

pub decides_for : (source : ℕ) (decide : WholeLog → Option Decision) (old : HeldLogs) (at : ℕ) (held : HeldLog) (decision : Option Decision) →
    place_at old.logs source ≡ Some at → held ≡ get_or old.logs at held → Decides (decision_for source decide) held decision →
    DecidesFirst source decide decision old
decides_for source decide old at held decision place is decides =
    decides_at source decide old at held decision place is
    (ungated_decides source decide held decision (source_at old.logs source at held place is) decides)
