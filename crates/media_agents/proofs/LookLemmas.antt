-- How far a pass knows a history, look by look.
use Rattle.std.proofs.Common.{◌≡◌, List, [], ◌++◌, ap, append_assoc, refl, subst, sym, ◌∙◌}
use Rattle.std.proofs.lemmas.List.{append-nil}
use Rattle.published_registry.specs.Histories.{History, IsContinuedBy}
use mathlib.Core.List.{IsPrefix}

prefix_self : {X : Type 0} (xs : List X) → IsPrefix xs xs
prefix_self xs = ([], append-nil xs)

prefix_trans : {X : Type 0} (xs ys zs : List X) → IsPrefix xs ys → IsPrefix ys zs → IsPrefix xs zs
prefix_trans xs ys zs first then =
    (first.0 ++ then.0, sym (append_assoc xs first.0 then.0) ∙ (ap (λ w. w ++ then.0) first.1 ∙ then.1))

pub stays_known : (one : History) → IsContinuedBy one one
stays_known one = record { book = refl; opening = refl; entries = prefix_self one.entries }

pub continues : {one two three : History} → IsContinuedBy one two → IsContinuedBy two three → IsContinuedBy one three
continues {one} {two} {three} first then = record {
  book = then.book ∙ first.book;
  opening = then.opening ∙ first.opening;
  entries = prefix_trans one.entries two.entries three.entries first.entries then.entries;
}

-- a look was taken and left
pub left : {one two three : History} → IsContinuedBy one two → three ≡ two → IsContinuedBy one three
left {one} {two} {three} later same = subst (IsContinuedBy one) (sym same) later

-- none was taken
pub kept : {one two : History} → two ≡ one → IsContinuedBy one two
kept {one} {two} same = subst (IsContinuedBy one) (sym same) (stays_known one)
