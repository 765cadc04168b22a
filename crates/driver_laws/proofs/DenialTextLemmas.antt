-- A denial in words.
use Rattle.std.proofs.Common.{◌≡◌, ℕ, false, Option, Some, None, refl, ap, ◌∙◌, ⊎_elim}
use Rattle.driver_core.specs.declared.state.refusal.Refusal.TheVariants.{Denied}
use Rattle.driver_core.specs.Replies.{refusal_text}
use Rattle.driver_core.specs.State.{State}
use Rattle.driver_core.specs.Verdicts.{verdict_on}
use Rattle.driver_laws.specs.DenialLaws.{denial_text}
use Rattle.policy_core.specs.declared.verdict.Verdict.{Verdict}
use Rattle.policy_core.specs.Question.{Question}
use Rattle.policy_core.specs.Verdict.{verdict_text}
use Rattle.driver_core.proofs.VerdictLemmas.{by_policy}

-- a verdict carries the number of the policy in force
pub epoch_of : (s : State) (question : Question) → (verdict_on s question).epoch ≡ s.epoch
epoch_of s question =
    ⊎_elim
    (λ by. ap (λ (v : Verdict). v.epoch) by.verdict_is)
    (λ by. ap (λ (v : Verdict). v.epoch) by.verdict_is)
    (by_policy s question)

pub denial_words : (verdict : Verdict) → refusal_text (Denied verdict) ≡ verdict_text verdict
unfolding refusal_text
denial_words verdict = refl

texts : (rule : Option ℕ) (epoch : ℕ) →
    verdict_text (record { allow = false; rule = rule; epoch = epoch }) ≡ denial_text rule epoch
unfolding verdict_text
texts (Some rule) epoch = refl
texts None epoch = refl

pub denial_is_named : (verdict : Verdict) (epoch : ℕ) → verdict.allow ≡ false → verdict.epoch ≡ epoch →
    refusal_text (Denied verdict) ≡ denial_text verdict.rule epoch
denial_is_named verdict epoch denies same =
    let is : verdict ≡ record { allow = false; rule = verdict.rule; epoch = epoch } = rw (← denies, ← same) refl in
    denial_words verdict ∙ ap verdict_text is ∙ texts verdict.rule epoch
