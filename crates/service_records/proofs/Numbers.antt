-- The bytes of the number that was read are the bytes that it was read from.
use Rattle.std.proofs.Common.{◌≡◌, ℕ, zero, suc, ◌+◌, ◌*◌, ◌/◌, ◌%◌, ◌^◌, ◌<◌, ◌≤◌, List, [], ◌∷◌, length, take, refl, sym, ap, ◌∙◌, arith}
use Rattle.std.proofs.Math.Nat.{div-div-eq-div-mul, pow-succ'}
use Rattle.std.specs.Int.{byte_at, bytes_low_first}
use Rattle.byteorder.specs.Endian.{little_bytes, little_from, little_number}
use Rattle.byteorder.specs.Numbers.{little_from-cons}
use Rattle.service_records.specs.Fields.{IsBytes}

-- a byte by its place, at each place alike
byte_at-is : (i n : ℕ) → byte_at i n ≡ n / 256 ^ i % 256
byte_at-is zero n = omega arith
byte_at-is (suc i) n = refl

byte_above : (i a r : ℕ) → a < 256 → byte_at (suc i) (a + 256 * r) ≡ byte_at i r
byte_above i a r h =
    let low : (a + 256 * r) / 256 ≡ r = omega arith in
    let split : (a + 256 * r) / 256 ^ suc i ≡ (a + 256 * r) / 256 / 256 ^ i = ap (λ (p : ℕ). (a + 256 * r) / p) (pow-succ' 256 i) ∙ sym (div-div-eq-div-mul (a + 256 * r) 256 (256 ^ i)) in
    ap (λ (n : ℕ). n % 256) (split ∙ ap (λ (n : ℕ). n / 256 ^ i) low) ∙ sym (byte_at-is i r)

bytes_above : (k i a r : ℕ) → a < 256 → bytes_low_first (suc i) k (a + 256 * r) ≡ bytes_low_first i k r
bytes_above zero i a r h = refl
bytes_above (suc k) i a r h =
    let first = byte_above i a r h in
    let others = bytes_above k (suc i) a r h in
    rw (first, others) refl

pub bytes_of_number : (n : ℕ) (bytes : List ℕ) → n ≤ length bytes → IsBytes bytes → little_bytes n (little_number n bytes) ≡ take n bytes
bytes_of_number zero bytes h fits = refl
bytes_of_number (suc n) [] h fits = absurd (omega arith)
bytes_of_number (suc n) (b ∷ bytes) h fits =
    let fit : b < 256 = fits 0 in
    let moved = little_from-cons 0 n b bytes in
    let r = little_from 0 n bytes in
    let low : (b + 256 * r) % 256 ≡ b = omega arith in
    let above = bytes_above n 0 b r fit in
    let others = bytes_of_number n bytes (omega arith) (λ i. fits (suc i)) in
    rw (moved, low, above, others) refl
