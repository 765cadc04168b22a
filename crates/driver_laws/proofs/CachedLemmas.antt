-- A verdict that is kept is right as long as no rule begins or ends.
use Rattle.std.proofs.Common.{◌≡◌, ℕ, sym, ap, ◌∙◌}
use Rattle.decision_cache.specs.declared.key.Key.{Key}
use Rattle.driver_core.specs.Cached.{IsCached, offer_question, poll_question}
use Rattle.driver_core.specs.Looking.{IsAtItsMoment}
use Rattle.driver_core.specs.State.{State}
use Rattle.driver_core.specs.Verdicts.{verdict_on}
use Rattle.driver_laws.specs.CacheLaws.{CachedVerdictsAreRightUntilTheNextBound, IsStillRight, IsStillSteady}
use Rattle.policy_core.specs.declared.verdict.Verdict.{Verdict}
use Rattle.policy_core.specs.Moments.{at}
use Rattle.policy_core.specs.RuleList.{Rules}
use Rattle.policy_core.specs.Rules.{verdict_of}
use Rattle.policy_core.proofs.Bounds.{steady}
use Rattle.driver_laws.proofs.MomentLemmas.{policies_stand}

still_right : (s : State) (entry : Key × Verdict) → IsAtItsMoment s → IsCached s entry → IsStillSteady s entry.0 →
    IsStillRight s entry
still_right s entry timely cached still =
    let same : at s.given entry.0.moment ≡ s.policy =
    sym (steady s.given entry.0.moment s.moment still.past still.steady) ∙ sym timely.0 in
    record {
      offered = λ client registration log who has live number source act.
          cached.offer registration log has live number source still.epoch act
          ∙ ap (λ (policy : Rules). verdict_of policy s.epoch (offer_question entry.0.principal registration log)) same
          ∙ ap (λ (of : ℕ). verdict_on s (offer_question of registration log)) (sym who);
      polled = λ client subscription who has number act.
          cached.poll subscription has number still.epoch act
          ∙ ap (λ (policy : Rules). verdict_of policy s.epoch (poll_question entry.0.principal subscription)) same
          ∙ ap (λ (of : ℕ). verdict_on s (poll_question of subscription)) (sym who);
    }

pub still_cached : CachedVerdictsAreRightUntilTheNextBound
still_cached settings policy peers events entries entry cached has still =
    still_right _ entry (policies_stand settings policy peers events) (cached.each entry has) still
