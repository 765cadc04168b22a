-- Rules that don't match, and the one after them.
use Rattle.std.proofs.Common.{◌≡◌, ℕ, zero, suc, ◌<◌, Bool, true, false, List, [], ◌∷◌, ◌++◌, Option, Some, None, refl, ap, ◌∙◌, subst, length, slice_get, ⊎_elim, inl, inr, arith}
use Rattle.std.specs.Prelude.{◌⊎◌, Ok, ◌==◌}
use Rattle.std.specs.List.{AllByRecursion}
use Rattle.std.proofs.lemmas.Bool.{cases_lt}
use Rattle.std.proofs.lemmas.Option.{slice_get_within}
use Rattle.policy_core.specs.Question.{Question}
use Rattle.policy_core.specs.Rule.{matches}
use Rattle.policy_core.specs.RuleList.{Rules}
use Rattle.policy_core.specs.Rules.{IsFirstMatch, defaulted, ruled, verdict_of}
use Rattle.policy_core.specs.declared.rule.Rule.{Rule}
use Rattle.policy_core.specs.declared.verdict.Verdict.{Verdict}
use Rattle.policy_core.proofs.FirstMatch.{first_decides, none_defaults}
use Rattle.channel_uri.specs.Channel.{Shape}
use Rattle.channel_uri.specs.Keys.{Pair, value_at}
use Rattle.channel_uri.specs.Media.{media_number}
use Rattle.channel_uri.specs.Pattern.{all_fit, covers, is_fit, pattern_of}
use Rattle.channel_uri.specs.Pieces.{pieces_in}
use Rattle.channel_uri.specs.declared.media.Media.{Media}
use Rattle.channel_uri.specs.declared.pattern.Pattern.TheVariants.{Of}
use Rattle.policy_tools.proofs.WiderLemmas.{IsFound, OfKey, each_found, keys_of_text, of_text}
use Rattle.policy_tools.specs.Wider.{all_keys, pairs_in}
use Rattle.policy_tools.specs.Explaining.{AreMisses, Explains, IsCount, IsFirstMiss, fits_from, key_fits}
use Rattle.policy_tools.specs.declared.explaining.Miss.{Miss}
use Rattle.policy_tools.specs.declared.explaining.Miss.TheVariants.{Principal, Act, Channel, Stream}

-- what stands below the length of a list
pub slice_get_found : {A : Type 0} (xs : List A) (at : ℕ) → at < length xs → (x : A) × (slice_get xs at ≡ Some x)
slice_get_found [] at below = absurd (omega arith)
slice_get_found (x ∷ xs) zero below = (x, refl)
slice_get_found (x ∷ xs) (suc at) below = slice_get_found xs at (omega arith)

-- each miss so far is the rule's own
abbrev pub EachMiss : List Rule → Question → List Miss → Type 0
EachMiss rules question misses =
    (at : ℕ) (rule : Rule) (miss : Miss) → slice_get rules at ≡ Some rule → slice_get misses at ≡ Some miss → IsFirstMiss rule question miss

-- what stands in a list that gained one
pub stands_in_more : {A : Type 0} (xs : List A) (x y : A) (at : ℕ) → slice_get (xs ++ x ∷ []) at ≡ Some y → (slice_get xs at ≡ Some y) ⊎ ((at ≡ length xs) × (x ≡ y))
stands_in_more [] x y zero is = inr (refl, cc)
stands_in_more [] x y (suc at) is = absurd (cc)
stands_in_more (z ∷ xs) x y zero is = inl is
stands_in_more (z ∷ xs) x y (suc at) is =
    ⊎_elim (λ before. inl before) (λ last. inr (ap suc last.0, last.1)) (stands_in_more xs x y at is)

pub each_more : (rules : List Rule) (question : Question) (misses : List Miss) (rule : Rule) (miss : Miss) → slice_get rules (length misses) ≡ Some rule →
    IsFirstMiss rule question miss → EachMiss rules question misses → EachMiss rules question (misses ++ miss ∷ [])
each_more rules question misses rule miss here is each = λ at other found stands there.
    ⊎_elim
    (λ before. each at other found stands before)
    (λ last.
    let same_rule : rule ≡ other = let a = subst (λ (n : ℕ). slice_get rules n ≡ Some other) last.0 stands in cc in
    subst (λ (m : Miss). IsFirstMiss other question m) last.1 (subst (λ (r : Rule). IsFirstMiss r question miss) same_rule is))
    (stands_in_more misses miss found at there)

-- a rule with a miss doesn't match
miss_not : (rule : Rule) (question : Question) (miss : Miss) → IsFirstMiss rule question miss → matches rule question ≡ false
unfolding matches
miss_not rule question Principal is = rw is refl
miss_not rule question Act is = rw (is.0, is.1) refl
miss_not rule question Channel is = rw (is.0, is.1, is.2) refl
miss_not rule question Stream is = rw (is.0, is.1, is.2, is.3) refl

-- ---- how many rules stand before the one that decides

before_not : (rules : List Rule) (question : Question) (misses : List Miss) → AreMisses rules question misses → (at : ℕ) (rule : Rule) → at < length misses →
    slice_get rules at ≡ Some rule → matches rule question ≡ false
before_not rules question misses are at rule below stands =
    let found = slice_get_found misses at below in
    miss_not rule question found.0 (are.each at rule found.0 stands found.1)

count_ruled : (policy : Rules) (question : Question) (misses : List Miss) (verdict : Verdict) (allow : Bool) → verdict ≡ ruled allow (length misses) 1 → IsCount policy verdict.rule (length misses)
count_ruled policy question misses verdict allow is = rw is refl

count_defaulted : (policy : Rules) (misses : List Miss) (verdict : Verdict) (allow : Bool) → verdict ≡ defaulted allow 1 → length policy.rules ≡ length misses → IsCount policy verdict.rule (length misses)
count_defaulted policy misses verdict allow is same = rw is same

pub explains : (policy : Rules) (question : Question) (misses : List Miss) (verdict : Verdict) → AreMisses policy.rules question misses → verdict ≡ verdict_of policy 1 question →
    Explains policy question verdict misses
explains policy question misses verdict are is = record {
  verdict_is = is;
  each = are.each;
  all = ⊎_elim
      (λ within. let rule = slice_get_found policy.rules (length misses) within in
      let first : IsFirstMatch policy.rules question (length misses) rule.0 = record {
        stands = rule.1;
        is_match = are.then_matches rule.0 rule.1;
        none_before = λ at earlier below stands. before_not policy.rules question misses are at earlier below stands;
      } in
      count_ruled policy question misses verdict rule.0.allow (is ∙ first_decides policy 1 question (length misses) rule.0 first))
      (λ past. count_defaulted policy misses verdict policy.default_allows
      (is ∙ none_defaults policy 1 question (λ at rule stands. before_not policy.rules question misses are at rule (let w = slice_get_within policy.rules at rule stands in omega arith) stands))
      (let few = are.few in omega arith))
      (cases_lt (length misses) (length policy.rules));
}

-- ---- keys

-- a key that doesn't fit is one of the pattern's
unfit_from : (wanted value : Option (List ℕ)) → fits_from wanted value ≡ false → (text : List ℕ) × (wanted ≡ Some text) × (is_fit text value ≡ false)
unfit_from None value is = absurd (cc)
unfit_from (Some text) value is = (text, refl, is)

pub unfit_stands : (wanted keys : List Pair) (key : List ℕ) → key_fits wanted keys key ≡ false →
    (value : List ℕ) × (value_at key wanted ≡ Some value) × (is_fit value (value_at key keys) ≡ false)
unfit_stands wanted keys key is = unfit_from (value_at key wanted) (value_at key keys) is

all_fit_from : (wanted keys es : List Pair) → AllByRecursion (OfKey (key_fits wanted keys)) es → AllByRecursion (IsFound wanted) es → all_fit es keys ≡ true
all_fit_from wanted keys [] each found = refl
all_fit_from wanted keys (e ∷ es) each found =
    let here : is_fit e.1 (value_at e.0 keys) ≡ true = subst (λ (o : Option (List ℕ)). fits_from o (value_at e.0 keys) ≡ true) found.0 each.0 in
    rw here (all_fit_from wanted keys es each.1 found.1)

-- a pattern covers a channel of its medium to which each key of its text fits
pub all_keys_fit : (text : List ℕ) (media : Media) (wanted : List Pair) (channel : Shape) → pattern_of text ≡ Ok (Of media wanted) →
    (media_number media == media_number channel.media) ≡ true → all_keys (key_fits wanted channel.keys) (pieces_in (pairs_in text)) ≡ true →
    covers (Of media wanted) channel ≡ true
unfolding covers
all_keys_fit text media wanted channel is same all =
    let known = of_text (key_fits wanted channel.keys) (pairs_in text) wanted (keys_of_text text media wanted is) all in
    rw same (all_fit_from wanted channel.keys wanted known.0 (each_found wanted known.1))
