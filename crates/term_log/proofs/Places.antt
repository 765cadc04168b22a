-- Places in terms.
use Rattle.std.proofs.Common.{◌≡◌, ℕ, ◌+◌, ◌*◌, ◌-◌, ◌/◌, ◌%◌, ◌<◌, ◌≤◌, sym, ap, ◌∙◌, arith}
use Rattle.std.proofs.lemmas.Nat.{div-add-mod', mul-mod_first, mod-mul-add}

-- a position further on in the same term
pub mod_within : (t n term : ℕ) → 0 < term → t % term + n < term → (t + n) % term ≡ t % term + n
mod_within t n term some within =
    let split = div-add-mod' t term in
    let here : t + n ≡ t / term * term + (t % term + n) = omega arith in
    ap (λ (x : ℕ). x % term) here ∙ mod-mul-add (t / term) term (t % term + n) within

-- the start of the next term
pub mod_full : (t n term : ℕ) → 0 < term → t % term + n ≡ term → (t + n) % term ≡ 0
mod_full t n term some full =
    let split = div-add-mod' t term in
    let more : (t / term + 1) * term ≡ t / term * term + term = omega arith in
    let here : t + n ≡ (t / term + 1) * term + 0 = omega arith in
    ap (λ (x : ℕ). x % term) here ∙ mod-mul-add (t / term + 1) term 0 some

-- positions that are multiples of 32 lie at multiples of 32 in their terms
pub aligned_offset : (t term : ℕ) → t % 32 ≡ 0 → term % 32 ≡ 0 → (t % term) % 32 ≡ 0
aligned_offset t term aligned whole =
    let split = div-add-mod' t term in
    let none : (0 * (t / term)) % 32 ≡ 0 = omega arith in
    let terms : (term * (t / term)) % 32 ≡ 0 =
    sym (mul-mod_first term (t / term) 32) ∙ ap (λ (k : ℕ). (k * (t / term)) % 32) whole ∙ none in
    let turn : t / term * term ≡ term * (t / term) = omega arith in
    let same : (t / term * term) % 32 ≡ 0 = ap (λ (k : ℕ). k % 32) turn ∙ terms in
    omega arith

pub aligned_rest : (t term : ℕ) → t % 32 ≡ 0 → term % 32 ≡ 0 → 0 < term → ((term - t % term) % 32 ≡ 0) × (32 ≤ term - t % term)
aligned_rest t term aligned whole some =
    let here = aligned_offset t term aligned whole in
    (omega arith, omega arith)
