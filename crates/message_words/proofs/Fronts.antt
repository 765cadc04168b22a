-- What `strip_prefix` says of a front.
use Rattle.std.proofs.Common.{◌≡◌, ℕ, true, List, Option, Some, None, refl, ap, ◌∙◌, sym, length, drop, nat_eq, ⊎_elim}
use Rattle.std.specs.List.{starts_with}
use Rattle.std.specs.Option.{MatchOption, option_copied}
use Rattle.std.specs.Str.Pattern.{FindsTextPrefix, StripsPrefix}
use denote.Ref.{Bor}
use Rattle.std.proofs.lemmas.Bool.{cond-true, cond-false, cases_Bool}
use Rattle.std.proofs.lemmas.Bool.Decides.{Decides-eqb}
use Rattle.std.proofs.lemmas.Slice.Eq.{starts_is}
use Rattle.message_words.specs.Given.{after}

-- the answer of `strip_prefix` is what stands after the front
pub after_stripped : (front text : List ℕ) (stripped : Option (Bor (List ℕ))) →
    MatchOption stripped (FindsTextPrefix front text None) (λ rest. StripsPrefix (FindsTextPrefix front) text rest.now) →
    option_copied stripped ≡ after front text
after_stripped front text None never =
    ⊎_elim
    (λ yes'. absurd (never _ ((starts_is Decides-eqb text front _ refl).0 yes')))
    (λ no'. sym (cond-false _ _ _ no'))
    (cases_Bool (starts_with nat_eq text front))
after_stripped front text (Some rest) strips =
    let begins : starts_with nat_eq text front ≡ true = (starts_is Decides-eqb text front _ refl).1 _ strips.1.1 in
    let same : rest.now ≡ drop (length front) text = rw strips.1.0 at strips.2 in
    sym (cond-true _ _ _ begins ∙ ap Some (sym same))
