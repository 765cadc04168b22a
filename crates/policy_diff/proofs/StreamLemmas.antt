-- How many streams are left.
use Rattle.std.proofs.Common.{◌≡◌, ⊎_elim, ℕ, ℤ, pos, negsuc, ◌+◌, ◌-◌, ◌<◌, ◌≤◌, ◌≤ℤ◌, ◌<ℤ◌, ◌+ℤ◌, arith}
use Rattle.std.proofs.lemmas.Int.{ints}
use Rattle.std.specs.Prelude.{◌⊎◌}

pub left_of : ℤ → ℕ
left_of (pos n) = 2147483647 - n
left_of (negsuc n) = 2147483648 + n

less_above : (low next : ℕ) → low < next → next ≤ 2147483647 → 2147483647 - next < 2147483647 - low
less_above low next order within = omega arith

less_across : (low next : ℕ) → 2147483647 - next < 2147483648 + low
less_across low next = omega arith

less_below : (low next : ℕ) → next < low → 2147483648 + next < 2147483648 + low
less_below low next order = omega arith

pub left_less : (low high next : ℤ) → low ≤ℤ high → high <ℤ pos 2147483647 → next ≡ high +ℤ pos 1 → left_of next < left_of low
unfolding left_of
left_less (pos l) high (pos n) order within step = less_above l n (omega (arith, ints)) (omega (arith, ints))
left_less (pos l) high (negsuc n) order within step = absurd (omega (arith, ints))
left_less (negsuc l) high (pos n) order within step = less_across l n
left_less (negsuc l) high (negsuc n) order within step = less_below l n (omega (arith, ints))

int_cases : (a b : ℤ) → (a <ℤ b) ⊎ (b ≤ℤ a)
int_cases a b = grind (arith, ints)

int_same : (a b : ℤ) → a ≤ℤ b → b ≤ℤ a → a ≡ b
int_same a b first second = omega (arith, ints)

-- not the last one, and so before it
pub before_last : (a b : ℤ) → a ≤ℤ b → (a ≡ b → ⊥) → a <ℤ b
before_last a b upto apart = ⊎_elim (λ less. less) (λ more. absurd (apart (int_same a b upto more))) (int_cases a b)
