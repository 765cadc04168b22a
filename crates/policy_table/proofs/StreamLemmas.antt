-- Streams and intervals of them.
use Rattle.std.proofs.Common.{◌≡◌, ℤ, pos, ◌-ℤ◌, ◌≤ℤ◌, ◌<ℤ◌, Bool, true, false, cond, refl, sym, ◌∙◌, arith}
use Rattle.std.proofs.lemmas.Bool.{and_from, and_parts, and_right}
use Rattle.std.proofs.lemmas.Int.{ints}
use Rattle.std.specs.Prelude.{int_le}
use Rattle.policy_core.specs.declared.rule.Rule.{Rule}
use Rattle.policy_table.specs.Scope.{is_within}
use Rattle.policy_table.specs.Stretch.{end_at, in_range, least}

pub le_true : (a b : ℤ) → int_le a b ≡ true → a ≤ℤ b
le_true a b h = grind (arith, ints)

pub true_le : (a b : ℤ) → a ≤ℤ b → int_le a b ≡ true
true_le a b h = grind (arith, ints)

pub le_false : (a b : ℤ) → int_le a b ≡ false → b <ℤ a
le_false a b h = grind (arith, ints)

pub lt_false : (a b : ℤ) → b <ℤ a → int_le a b ≡ false
lt_false a b h = grind (arith, ints)

-- streams that are within stay so where the end is not nearer
pub within_wider : (low near far stream : ℤ) → near ≤ℤ far → is_within low near stream ≡ true → is_within low far stream ≡ true
within_wider low near far stream wide h =
    let parts = and_parts _ _ h in
    let high = le_true stream near parts.1 in
    and_from _ _ parts.0 (true_le stream far (omega (arith, ints)))

-- from `low` to `end`, which is not beyond `high`, the rule's range holds every stream or none
pub record EndsAt (rule : Rule) (low high end : ℤ) : Type 0 where
  pub ahead : low ≤ℤ end
  pub within : end ≤ℤ high
  pub alike : (stream : ℤ) → is_within low end stream ≡ true → in_range rule stream ≡ in_range rule low

-- before the range
pub ends_before : (rule : Rule) (low high end : ℤ) → low <ℤ rule.low → end <ℤ rule.low → low ≤ℤ end → end ≤ℤ high → EndsAt rule low high end
ends_before rule low high end before until ahead within = record {
  ahead = ahead;
  within = within;
  alike = λ stream h.
      let above : stream ≤ℤ end = le_true stream end (and_parts (int_le low stream) (int_le stream end) h).1 in
      rw (lt_false rule.low stream (omega (arith, ints)), lt_false rule.low low before) refl;
}

-- within the range
pub ends_inside : (rule : Rule) (low high end : ℤ) → rule.low ≤ℤ low → low ≤ℤ rule.high → end ≤ℤ rule.high → low ≤ℤ end → end ≤ℤ high
    → EndsAt rule low high end
ends_inside rule low high end from to until ahead within = record {
  ahead = ahead;
  within = within;
  alike = λ stream h.
      let parts = and_parts _ _ h in
      let below = le_true low stream parts.0 in
      let above = le_true stream end parts.1 in
      rw (
        true_le rule.low stream (omega (arith, ints)),
        true_le stream rule.high (omega (arith, ints)),
        true_le rule.low low from,
        true_le low rule.high to,
      )
      refl;
}

past_range : (rule : Rule) (stream : ℤ) → int_le stream rule.high ≡ false → in_range rule stream ≡ false
past_range rule stream h = and_right _ _ h

-- after the range
pub ends_after : (rule : Rule) (low high : ℤ) → rule.high <ℤ low → low ≤ℤ high → EndsAt rule low high high
ends_after rule low high past ahead = record {
  ahead = ahead;
  within = omega (arith, ints);
  alike = λ stream h.
      let parts = and_parts _ _ h in
      let below = le_true low stream parts.0 in
      past_range rule stream (lt_false stream rule.high (omega (arith, ints)))
      ∙ sym (past_range rule low (lt_false low rule.high past));
}

-- ---- the lesser of two

pub record IsLeast (one other least : ℤ) : Type 0 where
  pub first : least ≤ℤ one
  pub second : least ≤ℤ other
  pub greatest : (stream : ℤ) → stream ≤ℤ one → stream ≤ℤ other → stream ≤ℤ least

least_by : (one other : ℤ) (test : Bool) → int_le one other ≡ test → IsLeast one other (cond test one other)
least_by one other true e = let below = le_true one other e in record {
  first = omega (arith, ints);
  second = below;
  greatest = λ stream first second. first;
}
least_by one other false e = let above = le_false one other e in record {
  first = omega (arith, ints);
  second = omega (arith, ints);
  greatest = λ stream first second. second;
}

least_is : (one other : ℤ) → IsLeast one other (least one other)
least_is one other = least_by one other (int_le one other) refl

-- ---- where it ends

end_before : (rule : Rule) (low high : ℤ) → low <ℤ rule.low → low ≤ℤ high → EndsAt rule low high (least (rule.low -ℤ pos 1) high)
end_before rule low high before order =
    let is = least_is (rule.low -ℤ pos 1) high in
    let first = is.first in
    ends_before rule low high (least (rule.low -ℤ pos 1) high) before (omega (arith, ints)) (is.greatest low (omega (arith, ints)) order) is.second

end_inside : (rule : Rule) (low high : ℤ) → rule.low ≤ℤ low → low ≤ℤ rule.high → low ≤ℤ high → EndsAt rule low high (least rule.high high)
end_inside rule low high from to order =
    let is = least_is rule.high high in
    ends_inside rule low high (least rule.high high) from to is.first (is.greatest low to order) is.second

end_by : (rule : Rule) (low high : ℤ) (from to : Bool) → int_le rule.low low ≡ from → int_le low rule.high ≡ to → low ≤ℤ high
    → EndsAt rule low high (cond from (cond to (least rule.high high) high) (least (rule.low -ℤ pos 1) high))
end_by rule low high false to e f order = end_before rule low high (le_false rule.low low e) order
end_by rule low high true true e f order = end_inside rule low high (le_true rule.low low e) (le_true low rule.high f) order
end_by rule low high true false e f order = ends_after rule low high (le_false low rule.high f) order

pub end_is : (rule : Rule) (low high : ℤ) → low ≤ℤ high → EndsAt rule low high (end_at rule low high)
end_is rule low high order = end_by rule low high (int_le rule.low low) (int_le low rule.high) refl refl order
