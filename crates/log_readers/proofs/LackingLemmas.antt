-- What pairs lack that are a part of others.
use Rattle.std.proofs.Common.{◌≡◌, ℕ, ◌==◌, Bool, true, false, not, List, [], ◌∷◌, filter, refl, sym, ap, ◌∙◌, eq-eqb, eqb-true}
use Rattle.std.specs.Prelude.{◌&&◌, ◌||◌, All}
use Rattle.std.specs.List.{list_any}
use Rattle.std.proofs.lemmas.Bool.{and_parts}
use Rattle.std.proofs.lemmas.List.Elements.{All-nil, All-cons, All-weaker, All-filter}
use Rattle.std.proofs.lemmas.Map.Views.{any-filter_same}
use Rattle.log_readers.specs.Turnover.{is_lacked_by, is_same_pair, lacking}
use Rattle.stream_registry.specs.declared.pairs.Pair.{Pair}
use Rattle.log_readers.proofs.ListLemmas.{all_pass, filter_alike, filter_both, none_pass}

same_itself : (pair : Pair) → is_same_pair pair pair ≡ true
same_itself pair = rw (eq-eqb pair.source pair.source refl, eq-eqb pair.subscription pair.subscription refl) refl

or_true : (b : Bool) → (b || true) ≡ true
or_true true = refl
or_true false = refl

and_true : (b : Bool) → (b && true) ≡ b
and_true true = refl
and_true false = refl

all_there : (pairs : List Pair) → All (λ pair. list_any (is_same_pair pair) pairs ≡ true) pairs
all_there [] = All-nil (λ pair. list_any (is_same_pair pair) [] ≡ true)
all_there (one ∷ pairs) =
    All-cons (λ pair. list_any (is_same_pair pair) (one ∷ pairs) ≡ true) one pairs (rw (same_itself one) refl)
    (All-weaker (λ pair. list_any (is_same_pair pair) pairs ≡ true) (λ pair. list_any (is_same_pair pair) (one ∷ pairs) ≡ true)
    (λ pair h. rw h (or_true (is_same_pair pair one))) pairs (all_there pairs))

-- the test tells no two pairs of the same numbers apart
abbrev Respects : (Pair → Bool) → Type 0
Respects test = (pair other : Pair) → is_same_pair pair other ≡ true → test other ≡ test pair

lacked_in : (test : Pair → Bool) → Respects test → (pairs : List Pair) →
    All (λ pair. is_lacked_by (filter test pairs) pair ≡ not (test pair)) pairs
lacked_in test respects pairs =
    All-weaker (λ pair. list_any (is_same_pair pair) pairs ≡ true) (λ pair. is_lacked_by (filter test pairs) pair ≡ not (test pair))
    (λ pair h. ap not (any-filter_same (is_same_pair pair) test (test pair) (respects pair) pairs ∙ rw h (and_true (test pair))))
    pairs (all_there pairs)

-- those that a part of the pairs lacks
lacked_by_part : (test : Pair → Bool) → Respects test → (pairs : List Pair) →
    lacking pairs (filter test pairs) ≡ filter (λ pair. not (test pair)) pairs
lacked_by_part test respects pairs =
    filter_alike (is_lacked_by (filter test pairs)) (λ pair. not (test pair)) pairs (lacked_in test respects pairs)

-- a part of the pairs has none that they lack
pub part_lacks_none : (test : Pair → Bool) (pairs : List Pair) → lacking (filter test pairs) pairs ≡ []
part_lacks_none test pairs =
    filter_alike (is_lacked_by pairs) (λ pair. false) (filter test pairs)
    (All-filter test (λ pair. is_lacked_by pairs pair ≡ false) pairs
    (All-weaker (λ pair. list_any (is_same_pair pair) pairs ≡ true) (λ pair. is_lacked_by pairs pair ≡ false)
    (λ pair h. ap not h) pairs (all_there pairs)))
    ∙ none_pass (filter test pairs)

-- where nothing is changed
pub same_lack_none : (pairs : List Pair) → lacking pairs pairs ≡ []
same_lack_none pairs = ap (λ (some : List Pair). lacking some pairs) (sym (all_pass pairs)) ∙ part_lacks_none (λ pair. true) pairs

-- a test of the subscription, or of the log
respects_number : (test : ℕ → Bool) → Respects (λ pair. test pair.subscription)
respects_number test pair other same =
    ap test (sym (eqb-true pair.subscription other.subscription
    (and_parts (pair.source == other.source) (pair.subscription == other.subscription) same).1))

pub lacked_by_number : (test : ℕ → Bool) (pairs : List Pair) →
    lacking pairs (filter (λ pair. test pair.subscription) pairs) ≡ filter (λ pair. not (test pair.subscription)) pairs
lacked_by_number test pairs = lacked_by_part (λ pair. test pair.subscription) (respects_number test) pairs

-- those of one part that another lacks
pub lacked_parts : (test other : ℕ → Bool) (pairs : List Pair) →
    lacking (filter (λ pair. test pair.subscription) pairs) (filter (λ pair. other pair.subscription) pairs)
    ≡ filter (λ pair. test pair.subscription && not (other pair.subscription)) pairs
lacked_parts test other pairs =
    filter_alike (is_lacked_by (filter (λ pair. other pair.subscription) pairs)) (λ pair. not (other pair.subscription))
    (filter (λ pair. test pair.subscription) pairs)
    (All-filter (λ pair. test pair.subscription)
    (λ pair. is_lacked_by (filter (λ pair. other pair.subscription) pairs) pair ≡ not (other pair.subscription)) pairs
    (lacked_in (λ pair. other pair.subscription) (respects_number other) pairs))
    ∙ filter_both (λ pair. not (other pair.subscription)) (λ pair. test pair.subscription) pairs

pub lacked_by_source : (test : ℕ → Bool) (pairs : List Pair) →
    lacking pairs (filter (λ pair. test pair.source) pairs) ≡ filter (λ pair. not (test pair.source)) pairs
lacked_by_source test pairs =
    lacked_by_part (λ pair. test pair.source)
    (λ pair other same.
    ap test (sym (eqb-true pair.source other.source
    (and_parts (pair.source == other.source) (pair.subscription == other.subscription) same).0))) pairs

pub lacked_by_both : (by_number by_source : ℕ → Bool) (pairs : List Pair) →
    lacking pairs (filter (λ pair. by_number pair.subscription && by_source pair.source) pairs)
    ≡ filter (λ pair. not (by_number pair.subscription && by_source pair.source)) pairs
lacked_by_both by_number by_source pairs =
    lacked_by_part (λ pair. by_number pair.subscription && by_source pair.source)
    (λ pair other same.
    let parts = and_parts (pair.source == other.source) (pair.subscription == other.subscription) same in
    ap (λ (n : ℕ). by_number n && by_source other.source) (sym (eqb-true pair.subscription other.subscription parts.1))
    ∙ ap (λ (n : ℕ). by_number pair.subscription && by_source n) (sym (eqb-true pair.source other.source parts.0))) pairs
