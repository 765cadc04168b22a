-- A flag is one bit.
use Rattle.std.proofs.Common.{◌≡◌, ℕ, zero, suc, ◌*◌, ◌<◌, ◌==◌, arith}
use Rattle.std.specs.Prelude.{bit_and}
use Rattle.std.specs.Int.{bit_at}
use Rattle.std.proofs.lemmas.Bool.{eq-eqb, ne_eqb}
use Rattle.std.proofs.lemmas.Nat.Bits.{and_pow, bit_at-lt}

-- what is a weight or nothing is the weight exactly where the bit is set
weighed : (x bit weight : ℕ) → 0 < weight → (bit ≡ 0 → x ≡ 0) → (bit ≡ 1 → x ≡ weight) → bit < 2 → (x == weight) ≡ (bit == 1)
weighed x zero weight some none one below = ne_eqb x weight (λ same. omega (arith, same, some, none (omega arith)))
weighed x (suc zero) weight some none one below = eq-eqb x weight (one (omega arith))
weighed x (suc (suc n)) weight some none one below = absurd (omega (arith, below))

pub highest_bit : (n : ℕ) → (bit_and n 128 == 128) ≡ (bit_at n 7 == 1)
highest_bit n =
    let is : bit_and n 128 ≡ bit_at n 7 * 128 = and_pow n 7 in
    weighed (bit_and n 128) (bit_at n 7) 128 (omega arith) (λ e. omega (arith, e, is)) (λ e. omega (arith, e, is)) (bit_at-lt n 7)

pub second_bit : (n : ℕ) → (bit_and n 64 == 64) ≡ (bit_at n 6 == 1)
second_bit n =
    let is : bit_and n 64 ≡ bit_at n 6 * 64 = and_pow n 6 in
    weighed (bit_and n 64) (bit_at n 6) 64 (omega arith) (λ e. omega (arith, e, is)) (λ e. omega (arith, e, is)) (bit_at-lt n 6)

pub third_bit : (n : ℕ) → (bit_and n 32 == 32) ≡ (bit_at n 5 == 1)
third_bit n =
    let is : bit_and n 32 ≡ bit_at n 5 * 32 = and_pow n 5 in
    weighed (bit_and n 32) (bit_at n 5) 32 (omega arith) (λ e. omega (arith, e, is)) (λ e. omega (arith, e, is)) (bit_at-lt n 5)
