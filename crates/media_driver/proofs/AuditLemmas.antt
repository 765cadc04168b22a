-- What a step reports to its client's audit.
use Rattle.std.proofs.Common.{◌≡◌, Option, Some, None, IfSome, ap, inl, inr, refl, subst}
use Rattle.audit_ring.specs.Audit.{KeptOf}
use Rattle.log_steps.specs.declared.answer.Answer.{Answer}
use Rattle.log_steps.specs.Moves.{Move, WholeLog}
use Rattle.log_arena.specs.Homes.{Home}
use Rattle.media_agents.specs.declared.journal.Dated.{Dated}
use Rattle.media_agents.specs.declared.journal.Stamp.{Stamp}
use Rattle.media_agents.specs.Journals.{audited_if}
use Rattle.media_driver.specs.Audits.{IsDecided, IsDecidedBy, ReportsStep}
use Rattle.media_driver.specs.Clients.{Attached, Looks}
use Rattle.policy_core.specs.declared.decision.Decision.{Decision}

-- none was taken, and the client looked at most
pub step_unseen : (home : Home) (move : WholeLog → Move) (decide : WholeLog → Option Decision) (absent : Answer) (stamp : Stamp) (old new : Attached) →
    Looks old new → ReportsStep home move decide absent None stamp old.audited new.audited
step_unseen home move decide absent stamp old new looks = record {
  decision = None;
  decided = inl refl;
  kept = ap (λ (client : Attached). client.audited) looks.new_is;
}

told_by : (home : Home) (move : WholeLog → Move) (decide : WholeLog → Option Decision) (absent : Answer) (found : Option Answer) (answer : Answer)
    (decision : Option Decision) → IfSome found (λ other. answer ≡ other) → IsDecided home move decide absent answer decision →
    IsDecidedBy home move decide absent found decision
told_by home move decide absent None answer decision is so = inr (answer, so)
told_by home move decide absent (Some other) answer decision is so =
    subst (λ (a : Answer). IsDecided home move decide absent a decision) is so

-- one was taken, and its decision is reported
pub step_told : (home : Home) (move : WholeLog → Move) (decide : WholeLog → Option Decision) (absent : Answer) (found : Option Answer) (answer : Answer)
    (decision : Option Decision) (stamp : Stamp) (old new : KeptOf Dated) → IfSome found (λ other. answer ≡ other) → IsDecided home move decide absent answer decision →
    new ≡ audited_if stamp decision old → ReportsStep home move decide absent found stamp old new
step_told home move decide absent found answer decision stamp old new is so kept = record {
  decision = decision;
  decided = told_by home move decide absent found answer decision is so;
  kept = kept;
}
