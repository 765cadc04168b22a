-- What `strip_suffix` says of an ending.
use Rattle.std.proofs.Common.{◌≡◌, ℕ, ◌-◌, true, List, ◌++◌, Option, Some, None, refl, ap, ◌∙◌, sym, length, nat_eq, arith, length-append, ⊎_elim}
use Rattle.std.specs.List.{ends_with}
use Rattle.std.specs.Option.{MatchOption, option_copied}
use Rattle.std.specs.Str.Pattern.{FindsTextSuffix, StripsSuffix}
use denote.Ref.{Bor}
use Rattle.std.proofs.Math.Seq.{take-append_seam}
use Rattle.std.proofs.lemmas.Bool.{cond-true, cond-false, cases_Bool}
use Rattle.std.proofs.lemmas.Bool.Decides.{Decides-eqb}
use Rattle.std.proofs.lemmas.Slice.Eq.{ends_is}
use Rattle.channel_uri.specs.Syntax.{before_end}

-- a text with that ending has the front before it
before_end-some : (end text front : List ℕ) → text ≡ front ++ end → before_end end text ≡ Some front
before_end-some end text front e =
    let ends : ends_with nat_eq text end ≡ true = (ends_is Decides-eqb text end _ refl).1 front e in
    let fits : length text - length end ≡ length front = omega (arith, ap length e, length-append front end) in
    cond-true _ _ _ ends ∙ ap Some (rw (fits, e) (take-append_seam front end))

-- a text with another ending has none
before_end-none : (end text : List ℕ) → ((front : List ℕ) → text ≡ front ++ end → ⊥) → before_end end text ≡ None
before_end-none end text never =
    ⊎_elim
    (λ yes'. absurd (never _ ((ends_is Decides-eqb text end _ refl).0 yes')))
    (λ no'. cond-false _ _ _ no')
    (cases_Bool (ends_with nat_eq text end))

-- the answer of `strip_suffix` is the front
pub before_end-stripped : (end text : List ℕ) (stripped : Option (Bor (List ℕ))) →
    MatchOption stripped (FindsTextSuffix end text None) (λ front. StripsSuffix (FindsTextSuffix end) text front.now) →
    option_copied stripped ≡ before_end end text
before_end-stripped end text None never = sym (before_end-none end text never)
before_end-stripped end text (Some front) strips =
    sym (before_end-some end text front.now (strips.1.1 ∙ ap (λ x. x ++ end) (sym strips.2)))
