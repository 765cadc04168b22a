-- Where a position lies in its term.
use Rattle.std.proofs.Common.{◌≡◌, ℕ, ℤ, zero, suc, ◌+◌, ◌-◌, ◌*◌, ◌/◌, ◌%◌, ◌^◌, ◌<◌, ◌≤◌, ap, ◌∙◌, arith}
use Rattle.std.specs.Int.{w32, cast_signed, cast_unsigned}
use Rattle.std.proofs.Math.Nat.{mul-sub}
use Rattle.std.proofs.lemmas.Nat.{div-add-mod', div-mul-add, mod-mul-add, mul-le}
use Rattle.frame_codec.specs.Position.{term_id_of}

-- where a position's term begins: at the multiple of the term's length that is less than a term before it
pub start_is : (position terms term : ℕ) → terms * term ≤ position → position < terms * term + term → position - position % term ≡ terms * term
start_is position terms term low high =
    let rest : ℕ = position - terms * term in
    let here : position ≡ terms * term + rest = omega arith in
    let offset : position % term ≡ rest = ap (λ (n : ℕ). n % term) here ∙ mod-mul-add terms term rest (omega arith) in
    omega arith

-- a position further on in the same term
div_within : (position more term : ℕ) → position % term + more < term → (position + more) / term ≡ position / term
div_within position more term within =
    let own = div-add-mod' position term in
    let here : position + more ≡ position / term * term + (position % term + more) = omega arith in
    ap (λ (n : ℕ). n / term) here ∙ div-mul-add (position / term) term (position % term + more) within

pub term_within : (initial : ℤ) (position more term : ℕ) → position % term + more < term
    → term_id_of initial (position + more) term ≡ term_id_of initial position term
unfolding term_id_of
term_within initial position more term within =
    ap (λ (n : ℕ). cast_signed w32 ((cast_unsigned w32 initial + n % 2 ^ 32) % 2 ^ 32)) (div_within position more term within)

-- the last three terms begin at the newest one's start, a term before it, and two terms before it
pub newest_start : (tail position term : ℕ) → 0 < term → tail - tail % term ≤ position → position ≤ tail → tail - tail % term ≡ position - position % term
newest_start tail position term some low high =
    let own = div-add-mod' tail term in
    let rest : tail % term < term = omega arith in
    let is = start_is position (tail / term) term (omega arith) (omega arith) in
    omega arith

less_one : (n term : ℕ) → (n - 1) * term ≡ n * term - term
less_one n term = omega (arith, mul-sub term n 1)

less_two : (n term : ℕ) → (n - 2) * term ≡ n * term - 2 * term
less_two n term = omega (arith, mul-sub term n 2)

some_terms : (n term : ℕ) → 0 < n * term → 0 < n
some_terms zero term some = absurd (omega (arith, some))
some_terms (suc n) term some = omega arith

pub before_start : (tail position term : ℕ) → 0 < term → position < tail - tail % term → tail - tail % term - term ≤ position
    → tail - tail % term - term ≡ position - position % term
before_start tail position term some high low =
    let own = div-add-mod' tail term in
    let less = less_one (tail / term) term in
    let several = some_terms (tail / term) term (omega arith) in
    let enough : 1 * term ≤ tail / term * term = mul-le 1 term (tail / term) term several (omega arith) in
    let is = start_is position (tail / term - 1) term (omega arith) (omega arith) in
    omega arith

pub oldest_start : (tail position term : ℕ) → 0 < term → position < tail - tail % term - term → (tail / term - 2) * term ≤ position
    → tail - tail % term - term - term ≡ position - position % term
oldest_start tail position term some high low =
    let own = div-add-mod' tail term in
    let less = less_two (tail / term) term in
    let is = start_is position (tail / term - 2) term low (omega arith) in
    omega arith
