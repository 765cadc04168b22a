use Rattle.std.proofs.Common.{◌≡◌, ℕ, subst}
use Rattle.std.proofs.lemmas.Bool.{eqb-true, not-false}
use Rattle.std.specs.Int.{bit_at}
use Rattle.compiled_policy.proofs.SearchLemmas.{by_four, none_of_four}
use Rattle.compiled_policy.proofs.candidates.meet.Goals as goal

pub returns : goal.returns
returns c = λ nothing other bit low high.
    let each = none_of_four c.common_word.result c.common_word-2.result c.common_word-3.result c.common_word-4.result bit (eqb-true _ 0 (not-false _ nothing)) in
    by_four c.args.sets.now c.args.word other bit low high (
      subst (λ (w : ℕ). bit_at w bit ≡ 0) c.common_word.ensures each.0,
      subst (λ (w : ℕ). bit_at w bit ≡ 0) c.common_word-2.ensures each.1,
      subst (λ (w : ℕ). bit_at w bit ≡ 0) c.common_word-3.ensures each.2,
      subst (λ (w : ℕ). bit_at w bit ≡ 0) c.common_word-4.ensures each.3,
    )
