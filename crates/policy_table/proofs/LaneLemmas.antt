-- The parts of a lane: one after the other, each with what decides its requests.
use Rattle.std.proofs.Common.{◌≡◌, ℕ, zero, suc, ◌+◌, ◌<◌, ℤ, pos, ◌+ℤ◌, ◌≤ℤ◌, ◌<ℤ◌, true, false, cond, List, [], ◌∷◌, refl, sym, ap, subst, ⊎_elim, arith, add-one}
use Rattle.std.proofs.lemmas.Bool.{cases_Bool}
use Rattle.std.proofs.lemmas.Int.{ints}
use Rattle.std.specs.Prelude.{int_le}
use Rattle.policy_core.specs.declared.act.Act.{Act}
use Rattle.policy_core.specs.declared.rule.Rule.{Rule}
use Rattle.policy_table.specs.Lane.{Part, from_on, is_last, left_of, part_at, parts_from, some_parts, up_to}
use Rattle.policy_table.specs.Stretch.{Span, span_at}
use Rattle.policy_table.specs.declared.scope.Asker.{Asker}
use Rattle.policy_table.specs.declared.scope.Scope.{Scope}
use Rattle.policy_table.proofs.PartLemmas.{left_less}
use Rattle.policy_table.proofs.StreamLemmas.{le_false}
use Rattle.policy_table.proofs.StretchLemmas.{span_is}

pub part_scope : (rules : List Rule) (scope : Scope) → (part_at rules scope).scope ≡ up_to scope (span_at rules scope).high
unfolding part_at
part_scope rules scope = refl

pub part_places : (rules : List Rule) (scope : Scope) → (part_at rules scope).places ≡ (span_at rules scope).places
unfolding part_at
part_places rules scope = refl

pub part_ahead : (rules : List Rule) (asker : Asker) (act : Act) (low : ℤ) → low ≤ℤ pos 2147483647
    → low ≤ℤ (part_at rules (from_on asker act low)).scope.high
unfolding part_at
part_ahead rules asker act low order = (span_is rules (from_on asker act low) order).ahead

-- the stream after a part that is not the last
pub record Goes (low high : ℤ) : Type 0 where
  pub within : (high +ℤ pos 1) ≤ℤ pos 2147483647
  pub less : left_of (high +ℤ pos 1) < left_of low

goes_on : (low high : ℤ) → low ≤ℤ high → high <ℤ pos 2147483647 → Goes low high
goes_on low high ahead below = record {
  within = omega (arith, ints);
  less = left_less low high (high +ℤ pos 1) ahead below refl;
}

pub part_goes_on : (rules : List Rule) (asker : Asker) (act : Act) (low : ℤ) → low ≤ℤ pos 2147483647
    → is_last (part_at rules (from_on asker act low)) ≡ false → Goes low (part_at rules (from_on asker act low)).scope.high
part_goes_on rules asker act low order is_false =
    goes_on low (part_at rules (from_on asker act low)).scope.high (part_ahead rules asker act low order)
    (le_false (pos 2147483647) (part_at rules (from_on asker act low)).scope.high is_false)

some_enough : (n m : ℕ) (rules : List Rule) (asker : Asker) (act : Act) (low : ℤ) → low ≤ℤ pos 2147483647 → left_of low < n → left_of low < m
    → some_parts n rules asker act low ≡ some_parts m rules asker act low
unfolding some_parts
some_enough zero m rules asker act low order few enough = absurd (omega arith)
some_enough (suc n) zero rules asker act low order few enough = absurd (omega arith)
some_enough (suc n) (suc m) rules asker act low order few enough =
    let part = part_at rules (from_on asker act low) in
    ⊎_elim
    (λ (yes : is_last part ≡ true). rw yes refl)
    (λ (no : is_last part ≡ false).
    let goes = part_goes_on rules asker act low order no in
    let less = goes.less in
    rw no (ap (λ (l : List Part). part ∷ l) (some_enough n m rules asker act (part.scope.high +ℤ pos 1) goes.within (omega arith) (omega arith))))
    (cases_Bool (is_last part))

-- the first part, and those after it
pub next_parts : (rules : List Rule) (asker : Asker) (act : Act) (low : ℤ) → low ≤ℤ pos 2147483647
    → parts_from rules asker act low
    ≡ part_at rules (from_on asker act low)
    ∷ cond (is_last (part_at rules (from_on asker act low))) [] (parts_from rules asker act ((part_at rules (from_on asker act low)).scope.high +ℤ pos 1))
unfolding parts_from some_parts
next_parts rules asker act low order =
    let part = part_at rules (from_on asker act low) in
    let next = part.scope.high +ℤ pos 1 in
    rw add-one (
    ⊎_elim
    (λ (yes : is_last part ≡ true). rw yes refl)
    (λ (no : is_last part ≡ false).
    let goes = part_goes_on rules asker act low order no in
    let less = goes.less in
    rw no (ap (λ (l : List Part). part ∷ l) (some_enough (left_of low) (left_of next + 1) rules asker act next goes.within less (omega arith))))
    (cases_Bool (is_last part)))

-- ---- a span that was found

pub record Found (rules : List Rule) (asker : Asker) (act : Act) (low : ℤ) (span : Span) : Type 0 where
  pub ahead : low ≤ℤ span.high
  pub within : span.high ≤ℤ pos 2147483647

pub found_is : (rules : List Rule) (asker : Asker) (act : Act) (low : ℤ) (span : Span) → low ≤ℤ pos 2147483647
    → span ≡ span_at rules (from_on asker act low) → Found rules asker act low span
found_is rules asker act low span order is =
    let stretch = span_is rules (from_on asker act low) order in
    subst (λ (s : Span). Found rules asker act low s) (sym is) (record { ahead = stretch.ahead; within = stretch.within })

pub found_part : (rules : List Rule) (asker : Asker) (act : Act) (low : ℤ) (span : Span) → span ≡ span_at rules (from_on asker act low)
    → part_at rules (from_on asker act low) ≡ record { scope = record { asker = asker; act = act; low = low; high = span.high }; places = span.places }
unfolding part_at
found_part rules asker act low span is =
    ap (λ (s : Span). let p : Part = record { scope = record { asker = asker; act = act; low = low; high = s.high }; places = s.places } in p) (sym is)

pub is_end : (high : ℤ) → high ≡ pos 2147483647 → int_le (pos 2147483647) high ≡ true
is_end high is = ap (int_le (pos 2147483647)) is
