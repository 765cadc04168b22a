-- The rows, one after the other, and why none is missed.
use Rattle.std.proofs.Common.{◌≡◌, ℕ, zero, suc, ◌+◌, ◌<◌, ◌≤◌, Bool, true, false, not, List, [], ◌∷◌, ◌++◌, Option, Some, None, Result, Ok, Err, refl, sym, ap, ◌∙◌, subst, get_or, slice_get, length, map, position, append_assoc, zero-add, arith, ⊎_elim, inl, inr}
use Rattle.std.specs.Bool.{beq}
use Rattle.std.specs.Prelude.{◌⊎◌, filter, flat_map}
use Rattle.std.specs.Result.{OnOk}
use Rattle.std.specs.List.{Contains, position_or_len, range_with_len}
use Rattle.std.proofs.lemmas.Bool.{and_from, cases_eq, cases_lt, cond-false, cond-true, le-ltb, lt-ltb}
use Rattle.std.proofs.lemmas.Grind.{flat_map-append}
use Rattle.std.proofs.lemmas.List.{append-nil, get_or-map, length-map, map-append}
use Rattle.std.proofs.lemmas.List.Elements.{filter-append}
use Rattle.std.proofs.lemmas.List.FromFn.{map-range_with_len_more}
use Rattle.std.proofs.lemmas.List.Quantifiers.{position-Some}
use Rattle.std.proofs.lemmas.Option.{get_or_from_slice_get, slice_get_cases}
use Rattle.policy_core.specs.Question.{Question}
use Rattle.policy_core.specs.Rule.{matches}
use Rattle.policy_core.specs.RuleList.{Rules}
use Rattle.policy_core.specs.Rules.{verdict_at, verdict_of}
use Rattle.policy_core.specs.declared.rule.Rule.{Rule}
use Rattle.policy_diff.specs.Deciding.{IsDecidedBy}
use Rattle.policy_diff.specs.Diff.{AreApart, IsDecider, IsOf, all_pairs, deciders, is_pair, is_within, meet_from, reach_from, pairs_from, rule_of, word_of}
use Rattle.policy_diff.specs.Reach.{reach_of}
use Rattle.policy_diff.specs.declared.reach.Reach.{Reach}
use Rattle.policy_diff.specs.declared.pairs.Deciders.{Deciders}
use Rattle.policy_diff.proofs.ReachLemmas.{upto}
use Rattle.policy_tools.proofs.SharingLemmas.{met}

-- ---- one after the other

-- the places of so many rules
abbrev pub places : ℕ → List (Option ℕ)
places count = map (λ at. Some at) (range_with_len 0 count)

abbrev pub row_with : Option ℕ → Option ℕ → Deciders
row_with decider other = record { old = decider; new = other }

-- the rows of what decides in the old policy with the first rules of the new one
abbrev pub rows_to : Rules → Rules → Option ℕ → ℕ → List Deciders
rows_to old new decider count = filter (is_pair old new) (map (row_with decider) (places count))

places_more : (count : ℕ) → places (count + 1) ≡ places count ++ Some count ∷ []
places_more count = map-range_with_len_more (λ at. Some at) 0 count count (zero-add count)

rows_append : (old new : Rules) (decider : Option ℕ) (some : List (Option ℕ)) (one : Option ℕ) →
    filter (is_pair old new) (map (row_with decider) (some ++ one ∷ [])) ≡ filter (is_pair old new) (map (row_with decider) some) ++ filter (is_pair old new) (row_with decider one ∷ [])
rows_append old new decider some one =
    ap (filter (is_pair old new)) (map-append (row_with decider) some (one ∷ []))
    ∙ filter-append (is_pair old new) (map (row_with decider) some) (row_with decider one ∷ [])

pub rows_more : (old new : Rules) (decider : Option ℕ) (count : ℕ) (first now next : List Deciders) → now ≡ first ++ rows_to old new decider count →
    next ≡ now ++ filter (is_pair old new) (row_with decider (Some count) ∷ []) → next ≡ first ++ rows_to old new decider (count + 1)
rows_more old new decider count first now next so_far more =
    more ∙ ap (λ rows. rows ++ filter (is_pair old new) (row_with decider (Some count) ∷ [])) so_far
    ∙ append_assoc first _ _
    ∙ ap (λ rows. first ++ rows) (sym (
    ap (λ some. filter (is_pair old new) (map (row_with decider) some)) (places_more count)
    ∙ rows_append old new decider (places count) (Some count)))

pub rows_whole : (old new : Rules) (decider : Option ℕ) (count : ℕ) (first now next : List Deciders) → now ≡ first ++ rows_to old new decider count → count ≡ length new.rules →
    next ≡ now ++ filter (is_pair old new) (row_with decider None ∷ []) → next ≡ first ++ pairs_from old new decider
rows_whole old new decider count first now next so_far is more =
    more ∙ ap (λ rows. rows ++ filter (is_pair old new) (row_with decider None ∷ [])) so_far
    ∙ append_assoc first _ _
    ∙ ap (λ rows. first ++ rows) (sym (rows_append old new decider (places count) None))
    ∙ ap (λ n. first ++ filter (is_pair old new) (map (row_with decider) (deciders n))) is

-- the rows of the first rules of the old policy
abbrev pub all_to : Rules → Rules → ℕ → List Deciders
all_to old new count = flat_map (pairs_from old new) (places count)

all_append : (old new : Rules) (some : List (Option ℕ)) (one : Option ℕ) →
    flat_map (pairs_from old new) (some ++ one ∷ []) ≡ flat_map (pairs_from old new) some ++ pairs_from old new one
all_append old new some one =
    flat_map-append (pairs_from old new) some (one ∷ [])
    ∙ ap (λ rows. flat_map (pairs_from old new) some ++ rows) (append-nil (pairs_from old new one))

pub all_more : (old new : Rules) (count : ℕ) (first now next : List Deciders) → now ≡ first ++ all_to old new count →
    next ≡ now ++ pairs_from old new (Some count) → next ≡ first ++ all_to old new (count + 1)
all_more old new count first now next so_far more =
    more ∙ ap (λ rows. rows ++ pairs_from old new (Some count)) so_far
    ∙ append_assoc first _ _
    ∙ ap (λ rows. first ++ rows) (sym (
    ap (flat_map (pairs_from old new)) (places_more count) ∙ all_append old new (places count) (Some count)))

pub all_whole : (old new : Rules) (count : ℕ) (first now next : List Deciders) → now ≡ first ++ all_to old new count → count ≡ length old.rules →
    next ≡ now ++ pairs_from old new None → next ≡ first ++ all_pairs old new
all_whole old new count first now next so_far is more =
    more ∙ ap (λ rows. rows ++ pairs_from old new None) so_far
    ∙ append_assoc first _ _
    ∙ ap (λ rows. first ++ rows) (sym (all_append old new (places count) None))
    ∙ ap (λ n. first ++ flat_map (pairs_from old new) (deciders n)) is

-- what follows of a call that may be refused memory
pub ok_then : {T E : Type 0} (result : Result T E) (P Q : Type 0) → (P → Q) → OnOk result P → OnOk result Q
ok_then (Ok value) P Q next is = next is
ok_then (Err error) P Q next is = is

-- the reach at a place is that of the rule there
pub reach_stands : (old new : Rules) (rules : List Rule) (reaches : List Reach) (at : ℕ) (d : Reach) → reaches ≡ map (reach_of old new) rules → at < length reaches →
    get_or reaches at d ≡ reach_from old new (slice_get rules at)
reach_stands old new rules reaches at d is within =
    let same : length reaches ≡ length rules = ap length is ∙ length-map rules (reach_of old new) in
    ⊎_elim
    (λ found.
    ap (λ all. get_or all at d) is ∙ get_or-map (reach_of old new) rules at found.0 d found.1
    ∙ ap (reach_of old new) found.3 ∙ ap (reach_from old new) (sym found.2))
    (λ past. let beyond = past.0 in absurd (omega arith))
    (slice_get_cases rules at).1

pub place_within : (old new : Rules) (rules : List Rule) (reaches : List Reach) (at : ℕ) → reaches ≡ map (reach_of old new) rules → at < length reaches → at < length rules
place_within old new rules reaches at is within =
    let same : length reaches ≡ length rules = ap length is ∙ length-map rules (reach_of old new) in
    omega arith

-- ---- what is in a list

abbrev pub Among : {X : Type 0} → List X → X → Type 0
Among [] x = ⊥
Among (y ∷ ys) x = (x ≡ y) ⊎ Among ys x

among_left : {X : Type 0} (xs ys : List X) (x : X) → Among xs x → Among (xs ++ ys) x
among_left [] ys x is = absurd is
among_left (y ∷ xs) ys x is = ⊎_elim (λ here. inl here) (λ later. inr (among_left xs ys x later)) is

among_right : {X : Type 0} (xs ys : List X) (x : X) → Among ys x → Among (xs ++ ys) x
among_right [] ys x is = is
among_right (y ∷ xs) ys x is = inr (among_right xs ys x is)

among_map : {X Y : Type 0} (f : X → Y) (xs : List X) (x : X) → Among xs x → Among (map f xs) (f x)
among_map f [] x is = absurd is
among_map f (y ∷ xs) x is = ⊎_elim (λ here. inl (ap f here)) (λ later. inr (among_map f xs x later)) is

among_flat_map : {X Y : Type 0} (f : X → List Y) (xs : List X) (x : X) (y : Y) → Among xs x → Among (f x) y → Among (flat_map f xs) y
among_flat_map f [] x y is within = absurd is
among_flat_map f (z ∷ xs) x y is within =
    ⊎_elim
    (λ here. among_left (f z) (flat_map f xs) y (subst (λ k. Among (f k) y) here within))
    (λ later. among_right (f z) (flat_map f xs) y (among_flat_map f xs x y later within))
    is

filtered : {X : Type 0} (p : X → Bool) (y : X) (xs : List X) (x : X) (b : Bool) → p y ≡ b → p x ≡ true → (x ≡ y) ⊎ Among (filter p xs) x → Among (filter p (y ∷ xs)) x
filtered p y xs x true is passes among = rw is among
filtered p y xs x false is passes among =
    ⊎_elim
    (λ here. absurd (let e : false ≡ true = sym is ∙ (ap p (sym here) ∙ passes) in cc))
    (λ later. rw is later)
    among

among_filter : {X : Type 0} (p : X → Bool) (xs : List X) (x : X) → p x ≡ true → Among xs x → Among (filter p xs) x
among_filter p [] x passes is = is
among_filter p (y ∷ xs) x passes is =
    filtered p y xs x (p y) refl passes (⊎_elim (λ here. inl here) (λ later. inr (among_filter p xs x passes later)) is)

contained : {X : Type 0} (xs : List X) (x : X) → Among xs x → Contains xs x
contained [] x is = absurd is
contained (y ∷ xs) x is =
    ⊎_elim
    (λ here. (0, omega arith, sym here))
    (λ later. let found = contained xs x later in (suc found.0, let within = found.1 in omega arith, found.2))
    is

-- ---- what decides

among_range : (at from count : ℕ) → from ≤ at → at < from + count → Among (map (λ n. Some n) (range_with_len from count)) (Some at)
among_range at from zero low high = absurd (omega arith)
among_range at from (suc count) low high =
    ⊎_elim
    (λ here. inl (ap (λ n. Some n) here))
    (λ later. inr (among_range at (from + 1) count (omega (arith, later)) (omega arith)))
    (cases_eq at from)

among_deciders : (policy : Rules) (decider : Option ℕ) → IsDecider policy decider → Among (deciders (length policy.rules)) decider
among_deciders policy (Some at) is = among_left (places (length policy.rules)) (None ∷ []) (Some at) (among_range at 0 (length policy.rules) (omega arith) (omega arith))
among_deciders policy None is = among_right (places (length policy.rules)) (None ∷ []) None (inl refl)

-- what decides a request, and that it matches where it is a rule
pub record Decides (policy : Rules) (question : Question) (decider : Option ℕ) : Type 0 where
  pub of_policy : IsDecider policy decider
  pub is_match : (rule : Rule) → rule_of policy decider ≡ Some rule → matches rule question ≡ true

position_within : {X : Type 0} (p : X → Bool) (xs : List X) (at : ℕ) → position p xs ≡ Some at → at < length xs
position_within p xs at is =
    ⊎_elim
    (λ (inside : position_or_len p xs < length xs).
    let found : Some (position_or_len p xs) ≡ Some at = sym (cond-true _ _ _ (lt-ltb _ _ inside)) ∙ is in
    let same : position_or_len p xs ≡ at = cc in
    omega arith)
    (λ (past : length xs ≤ position_or_len p xs).
    let none : None ≡ Some at = sym (cond-false _ _ _ (le-ltb _ _ past)) ∙ is in
    absurd (cc))
    (cases_lt (position_or_len p xs) (length xs))

decides_from : (policy : Rules) (question : Question) (decider : Option ℕ) → position (λ rule. matches rule question) policy.rules ≡ decider → Decides policy question decider
decides_from policy question None is = record { of_policy = tt; is_match = λ rule stands. absurd (cc) }
decides_from policy question (Some at) is = record {
  of_policy = position_within (λ r. matches r question) policy.rules at is;
  is_match = λ rule stands.
      let found = position-Some (λ r. matches r question) policy.rules at rule is in
      ap (λ r. matches r question) (sym (get_or_from_slice_get policy.rules at rule rule stands)) ∙ found.1;
}

word_is : (policy : Rules) (epoch : ℕ) (decider : Option ℕ) → (verdict_at policy epoch decider).allow ≡ word_of policy decider
word_is policy epoch (Some at) = refl
word_is policy epoch None = refl

differ : (one other : Bool) → (one ≡ other → ⊥) → not (beq one other) ≡ true
differ true true apart = absurd (apart refl)
differ true false apart = refl
differ false true apart = refl
differ false false apart = absurd (apart refl)

within_from : (old new : Rules) (question : Question) (o : Option Rule) → ((rule : Rule) → o ≡ Some rule → matches rule question ≡ true) →
    is_within (row_with (position (λ r. matches r question) old.rules) (position (λ r. matches r question) new.rules)) (reach_from old new o) ≡ true
within_from old new question None is = refl
within_from old new question (Some rule) is = and_from _ _ (upto old.rules rule question (is rule refl)) (upto new.rules rule question (is rule refl))

meet_matched : (question : Question) (one other : Option Rule) → ((rule : Rule) → one ≡ Some rule → matches rule question ≡ true) →
    ((rule : Rule) → other ≡ Some rule → matches rule question ≡ true) → meet_from one other ≡ true
meet_matched question None other first second = refl
meet_matched question (Some one) None first second = refl
meet_matched question (Some one) (Some other) first second = met one other question (first one refl) (second other refl)

-- a request with different words is of the pair that decides it
pub missed_by_none : (old new : Rules) (question : Question) → AreApart old new question → (deciders : Deciders) × Contains (all_pairs old new) deciders × IsDecidedBy old new question deciders
unfolding verdict_of
missed_by_none old new question apart =
    let one = position (λ r. matches r question) old.rules in
    let other = position (λ r. matches r question) new.rules in
    let row = row_with one other in
    let a : Decides old question one = decides_from old question one refl in
    let b : Decides new question other = decides_from new question other refl in
    let words : not (beq (word_of old one) (word_of new other)) ≡ true =
    differ (word_of old one) (word_of new other) (λ same. apart (word_is old 1 one ∙ same ∙ sym (word_is new 1 other))) in
    let is : is_pair old new row ≡ true =
    and_from _ _
    (and_from _ _ (and_from _ _ words (within_from old new question (rule_of old one) a.is_match)) (within_from old new question (rule_of new other) b.is_match))
    (meet_matched question (rule_of old one) (rule_of new other) a.is_match b.is_match) in (
      row,
      contained (all_pairs old new) row
          (among_flat_map (pairs_from old new) (deciders (length old.rules)) one row
          (among_deciders old one a.of_policy)
          (among_filter (is_pair old new) (map (row_with one) (deciders (length new.rules))) row is
          (among_map (row_with one) (deciders (length new.rules)) other (among_deciders new other b.of_policy)))),
      record { by_old = refl; by_new = refl },
    )

-- a request that is decided by two places is of the two
pub is_of_deciders : (old new : Rules) (question : Question) (deciders : Deciders) → IsDecidedBy old new question deciders → IsOf old new question deciders
unfolding verdict_of
is_of_deciders old new question deciders is = record {
  by_old = λ epoch. ap (verdict_at old epoch) is.by_old;
  by_new = λ epoch. ap (verdict_at new epoch) is.by_new;
}

-- with different words, where those of the two differ
pub apart_of_words : (old new : Rules) (question : Question) (deciders : Deciders) → IsDecidedBy old new question deciders → (word_of old deciders.old ≡ word_of new deciders.new → ⊥) →
    AreApart old new question
unfolding verdict_of
apart_of_words old new question two is words = λ same.
    words (
    sym (ap (λ verdict. verdict.allow) (ap (verdict_at old 1) is.by_old) ∙ word_is old 1 two.old)
    ∙ same
    ∙ (ap (λ verdict. verdict.allow) (ap (verdict_at new 1) is.by_new) ∙ word_is new 1 two.new))

-- and the other way round
pub words_of_apart : (old new : Rules) (question : Question) (deciders : Deciders) → IsDecidedBy old new question deciders → AreApart old new question →
    word_of old deciders.old ≡ word_of new deciders.new → ⊥
unfolding verdict_of
words_of_apart old new question two is apart same =
    apart (
    ap (λ verdict. verdict.allow) (ap (verdict_at old 1) is.by_old) ∙ word_is old 1 two.old
    ∙ same
    ∙ sym (ap (λ verdict. verdict.allow) (ap (verdict_at new 1) is.by_new) ∙ word_is new 1 two.new))
