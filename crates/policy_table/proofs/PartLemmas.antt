-- Streams below one, and from it on.
use Rattle.std.proofs.Common.{◌≡◌, ℕ, ℤ, pos, negsuc, ◌+◌, ◌-◌, ◌<◌, ◌≤◌, ◌≤ℤ◌, ◌<ℤ◌, ◌+ℤ◌, true, false, refl, ap, ⊎_elim, arith}
use Rattle.std.proofs.lemmas.Bool.{and_parts, cases_Bool, cases_eq}
use Rattle.std.proofs.lemmas.Int.{ints}
use Rattle.std.specs.Prelude.{int_le, int_lt}
use Rattle.policy_table.specs.Lane.{left_of}
use Rattle.policy_table.specs.Scope.{is_stream, is_within}
use Rattle.policy_table.specs.Table.{one_if}
use Rattle.policy_table.proofs.StreamLemmas.{le_false, le_true, lt_false}

lt_true : (a b : ℤ) → a <ℤ b → int_lt a b ≡ true
lt_true a b h = grind (arith, ints)

le_lt_false : (a b : ℤ) → b ≤ℤ a → int_lt a b ≡ false
le_lt_false a b h = grind (arith, ints)

pub before_lowest : (stream : ℤ) → is_stream stream ≡ true → int_lt stream (negsuc 2147483647) ≡ false
before_lowest stream h =
    let parts = and_parts _ _ h in
    le_lt_false stream (negsuc 2147483647) (le_true (negsuc 2147483647) stream parts.0)

within_false_low : (low high stream : ℤ) → stream <ℤ low → is_within low high stream ≡ false
within_false_low low high stream h = rw (lt_false low stream h) refl

within_false_high : (low high stream : ℤ) → int_le low stream ≡ true → high <ℤ stream → is_within low high stream ≡ false
within_false_high low high stream low_is h = rw (low_is, lt_false stream high h) refl

pub next_part : (low high next stream : ℤ) → low ≤ℤ high → next ≡ high +ℤ pos 1
    → one_if (int_lt stream low) + one_if (is_within low high stream) ≡ one_if (int_lt stream next)
next_part low high next stream order is =
    ⊎_elim
    (λ from. let above = le_true low stream from in
    ⊎_elim
    (λ to. let below = le_true stream high to in
    rw (le_lt_false stream low above, from, to, lt_true stream next (omega (arith, ints))) refl)
    (λ past. let over = le_false stream high past in
    rw (le_lt_false stream low above, within_false_high low high stream from over, le_lt_false stream next (omega (arith, ints))) refl)
    (cases_Bool (int_le stream high)))
    (λ before. let under = le_false low stream before in
    rw (lt_true stream low under, within_false_low low high stream under, lt_true stream next (omega (arith, ints))) refl)
    (cases_Bool (int_le low stream))

pub last_part : (low stream : ℤ) → is_stream stream ≡ true → one_if (int_lt stream low) + one_if (is_within low (pos 2147483647) stream) ≡ 1
last_part low stream h =
    let upper : int_le stream (pos 2147483647) ≡ true = (and_parts (int_le (negsuc 2147483647) stream) (int_le stream (pos 2147483647)) h).1 in
    ⊎_elim
    (λ from. let above = le_true low stream from in rw (le_lt_false stream low above, from, upper) refl)
    (λ before. let under = le_false low stream before in rw (lt_true stream low under, within_false_low low (pos 2147483647) stream under) refl)
    (cases_Bool (int_le low stream))

less_above : (low next : ℕ) → low < next → next ≤ 2147483647 → 2147483647 - next < 2147483647 - low
less_above low next order within = omega arith

less_across : (low next : ℕ) → 2147483647 - next < 2147483648 + low
less_across low next = omega arith

less_below : (low next : ℕ) → next < low → 2147483648 + next < 2147483648 + low
less_below low next order = omega arith

pub left_less : (low high next : ℤ) → low ≤ℤ high → high <ℤ pos 2147483647 → next ≡ high +ℤ pos 1 → left_of next < left_of low
left_less (pos l) high (pos n) order within step = less_above l n (omega (arith, ints)) (omega (arith, ints))
left_less (pos l) high (negsuc n) order within step = absurd (omega (arith, ints))
left_less (negsuc l) high (pos n) order within step = less_across l n
left_less (negsuc l) high (negsuc n) order within step = less_below l n (omega (arith, ints))

-- a stream of 32 bits that is not the highest
pub below_last : (high : ℤ) → high ≤ℤ pos 2147483647 → (high ≡ pos 2147483647 → ⊥) → high <ℤ pos 2147483647
below_last (pos n) order not_end =
    ⊎_elim (λ (e : n ≡ 2147483647). absurd (not_end (ap pos e))) (λ (ne : n ≡ 2147483647 → ⊥). omega (arith, ints)) (cases_eq n 2147483647)
below_last (negsuc n) order not_end = omega (arith, ints)
