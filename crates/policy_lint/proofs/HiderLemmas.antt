-- A rule that hides another one by itself, and what is found of such rules.
use Rattle.std.proofs.Common.{◌≡◌, ℕ, zero, suc, ◌+◌, ◌<◌, true, false, List, [], ◌∷◌, ◌++◌, Some, ap, ◌∙◌, sym, subst, get_or, slice_get, length, map, arith, ⊎_elim, refl, true≢false}
use Rattle.std.specs.List.{All, Contains}
use Rattle.std.proofs.lemmas.Bool.{and_parts, cases_lt}
use Rattle.std.proofs.lemmas.List.Elements.{Contains-append_left, Contains-push}
use Rattle.std.proofs.lemmas.Option.{get_or_from_slice_get, slice_get-get_or, slice_get_within}
use Rattle.policy_core.specs.declared.rule.Rule.{Rule}
use Rattle.policy_core.specs.Moments.{stands_at}
use Rattle.policy_core.specs.Question.{Question}
use Rattle.policy_core.specs.Rule.{matches}
use Rattle.policy_lint.specs.declared.hiding.Hidden.{Hidden}
use Rattle.policy_lint.specs.Hiding.{AreFound, IsHiddenBy, IsHider, IsTaken, hides}
use Rattle.policy_lint.specs.Lasting.{outlasts}
use Rattle.policy_lint.proofs.LastingLemmas.{lasts}
use Rattle.policy_tools.specs.Sharing.{is_over}
use Rattle.policy_tools.proofs.SharingLemmas.{taken}

-- ---- one that hides

some_same : {X : Type 0} (x y : X) → Some x ≡ Some y → x ≡ y
some_same x y is = cc

taken_by : (rules : List Rule) (place at moment : ℕ) (question : Question) (rule : Rule) (hider : IsHider rules place at) → slice_get rules at ≡ Some rule →
    stands_at rule moment ≡ true → matches rule question ≡ true → IsTaken rules (place ∷ []) moment question
taken_by rules place at moment question rule hider found stands is_match =
    let both = and_parts (outlasts hider.wide hider.narrow) (is_over hider.wide hider.narrow) hider.hidden in
    let same : rule ≡ hider.narrow = some_same rule hider.narrow (sym found ∙ hider.second) in
    record {
      index = 0;
      place = place;
      rule = hider.wide;
      listed = refl;
      found = hider.first;
      stands = lasts hider.wide hider.narrow (outlasts hider.wide hider.narrow) refl both.0 moment (subst (λ r. stands_at r moment ≡ true) same stands);
      is_match = taken hider.wide hider.narrow question both.1 (subst (λ r. matches r question ≡ true) same is_match);
    }

one_place : (place index other at : ℕ) → slice_get (place ∷ []) index ≡ Some other → place < at → other < at
one_place place zero other at is before = let same : place ≡ other = some_same place other is in subst (λ p. p < at) same before
one_place place (suc index) other at is before = absurd (cc)

-- a rule that one rule hides by itself is hidden by it
pub hidden_by_one : (rules : List Rule) (place at : ℕ) → IsHider rules place at → IsHiddenBy rules at (place ∷ [])
hidden_by_one rules place at hider = record {
  before = λ index other is. one_place place index other at is hider.before;
  taken = λ moment question rule found stands is_match. taken_by rules place at moment question rule hider found stands is_match;
}

-- the first one that is found is one
pub hider_at : (rules : List Rule) (place at : ℕ) (narrow : Rule) → place < at → at < length rules → narrow ≡ get_or rules at narrow →
    hides (get_or rules place narrow) narrow ≡ true → IsHider rules place at
hider_at rules place at narrow before within is found = record {
  wide = get_or rules place narrow;
  narrow = narrow;
  before = before;
  first = slice_get-get_or rules place narrow (omega arith);
  second = slice_get-get_or rules at narrow within ∙ ap Some (sym is);
  hidden = found;
}

-- where none before it is found there is none
pub no_hider : (rules : List Rule) (at : ℕ) (narrow : Rule) → narrow ≡ get_or rules at narrow → ((k : ℕ) → k < at → hides (get_or rules k narrow) narrow ≡ false) →
    (place : ℕ) → IsHider rules place at → ⊥
no_hider rules at narrow is none place hider =
    let wide : get_or rules place narrow ≡ hider.wide = get_or_from_slice_get rules place hider.wide narrow hider.first in
    let same : narrow ≡ hider.narrow = is ∙ get_or_from_slice_get rules at hider.narrow narrow hider.second in
    true≢false (sym hider.hidden ∙ (ap (λ r. hides r hider.narrow) (sym wide) ∙ (ap (λ r. hides (get_or rules place narrow) r) (sym same) ∙ none place hider.before)))

-- ---- rule by rule

map_pushed : (xs : List Hidden) (x : Hidden) → map (λ hidden. hidden.at) (xs ++ x ∷ []) ≡ map (λ hidden. hidden.at) xs ++ x.at ∷ []
map_pushed [] x = refl
map_pushed (y ∷ ys) x = ap (λ rest. y.at ∷ rest) (map_pushed ys x)

pub found_more : (rules : List Rule) (old new : List Hidden) (one : Hidden) (count : ℕ) → new ≡ old ++ one ∷ [] → one.at ≡ count → AreFound rules old count →
    AreFound rules new (count + 1)
found_more rules old new one count is here known = λ at place within hider.
    let mapped : map (λ hidden. hidden.at) new ≡ map (λ hidden. hidden.at) old ++ one.at ∷ [] = ap (map (λ hidden. hidden.at)) is ∙ map_pushed old one in
    subst (λ (places : List ℕ). Contains places at) (sym mapped)
    (⊎_elim
    (λ less. Contains-append_left _ _ at (known at place less hider))
    (λ more.
    let same : one.at ≡ at = here ∙ (omega arith) in
    subst (λ (x : ℕ). Contains (map (λ hidden. hidden.at) old ++ one.at ∷ []) x) same (Contains-push (map (λ hidden. hidden.at) old) one.at))
    (cases_lt at count))

pub found_skip : (rules : List Rule) (old : List Hidden) (count : ℕ) → ((place : ℕ) → IsHider rules place count → ⊥) → AreFound rules old count →
    AreFound rules old (count + 1)
found_skip rules old count none known = λ at place within hider.
    ⊎_elim
    (λ less. known at place less hider)
    (λ more.
    let same : at ≡ count = omega arith in
    absurd (none place (subst (λ (x : ℕ). IsHider rules place x) same hider)))
    (cases_lt at count)

-- a rule that is hidden so stands within the policy
pub hider_within : (rules : List Rule) (place at : ℕ) → IsHider rules place at → at < length rules
hider_within rules place at hider = slice_get_within rules at hider.narrow hider.second
