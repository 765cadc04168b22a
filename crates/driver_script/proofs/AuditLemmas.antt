-- The text of an audit in which nothing was decided.
use Rattle.std.proofs.Common.{◌≡◌, ℕ, List, None, Result, Ok, Err, IfOk, sym, ap, append-nil, ◌∙◌}
use Rattle.audit_ring.specs.Audit.{Kept, kept_of}
use Rattle.driver_world.specs.Audits.{IsAuditOf}
use Rattle.driver_script.specs.declared.answers.AnswerLine.TheVariants.{Audit}
use Rattle.driver_script.specs.Answers.{audit_line, line_text}
use Rattle.driver_script.specs.Script.{audit_text}

pub nothing_text : (text : List ℕ) → text ≡ line_text (Audit 0 0) → (kept : Kept) → IsAuditOf None kept → text ≡ audit_text kept
unfolding kept_of line_text
nothing_text text is kept none = is ∙ sym (ap audit_text none ∙ append-nil (audit_line 0 0))

-- what holds of each value that an answer may be, where another thing does
pub if_ok : {T E : Type 0} (P Q : T → Type 0) (r : Result T E) → ((x : T) → P x → Q x) → IfOk r P → IfOk r Q
if_ok P Q (Ok x) all p = all x p
if_ok P Q (Err e) all p = tt
