-- Positions and places are told by one another.
use Rattle.std.proofs.Common.{◌≡◌, ℕ, ◌+◌, ◌-◌, ◌*◌, ◌/◌, ◌%◌, ◌^◌, ◌<◌, ◌≤◌, ℤ, ◌∙◌, arith}
use Rattle.std.specs.Prelude.{FitsSigned}
use Rattle.std.specs.Int.{w32, cast_unsigned}
use Rattle.std.proofs.lemmas.Int.{of_z-to_z, to_z-of_z}
use Rattle.std.proofs.lemmas.Nat.{div-mul-add, mul-lt}
use Rattle.std.proofs.Math.Nat.{mul-add-mod_self_right, mod-eq_of_lt, div-add-mod', mul-le-mul_right, mul_comm, lt_of_mul-lt-mul_right, div-mul-le_self}
use Rattle.std.proofs.Math.Facts.{Fits-of_z}
use Rattle.frame_codec.specs.Position.{terms_before, position_of, term_id_of}

-- ---- no sum passes 64 bits

pub place_fits : (terms size : ℕ) → terms < 2 ^ 32 → size < 2 ^ 32 → terms * size < 2 ^ 64
place_fits terms size h k = mul-lt terms size (2 ^ 32) (2 ^ 32) h k

pub position_fits : (terms size offset : ℕ) → terms < 2 ^ 32 → size < 2 ^ 32 → offset < 2 ^ 32 → terms * size + offset < 2 ^ 64
position_fits terms size offset h k o =
    let low : terms * size ≤ (2 ^ 32 - 1) * size = mul-le-mul_right size (omega arith) in
    omega (arith, low)

-- ---- there and back

back_wrapped : (i t : ℕ) → i < 2 ^ 32 → t < 2 ^ 32 → (i + (t + (2 ^ 32 - i)) % 2 ^ 32 % 2 ^ 32) % 2 ^ 32 ≡ t
back_wrapped i t h k = omega arith

there_wrapped : (i d : ℕ) → i < 2 ^ 32 → d < 2 ^ 32 → ((i + d) % 2 ^ 32 + (2 ^ 32 - i)) % 2 ^ 32 ≡ d
there_wrapped i d h k = omega arith

pub term_id_back : (initial term : ℤ) (offset size : ℕ) → FitsSigned w32 initial → FitsSigned w32 term → offset < size
    → term_id_of initial (position_of initial term offset size) size ≡ term
unfolding position_of term_id_of
term_id_back initial term offset size f g h =
    let i : cast_unsigned w32 initial < 2 ^ 32 = (Fits-of_z f).fits in
    let t : cast_unsigned w32 term < 2 ^ 32 = (Fits-of_z g).fits in
    let terms = div-mul-add (terms_before initial term) size offset h in
    rw (terms, back_wrapped (cast_unsigned w32 initial) (cast_unsigned w32 term) i t) (to_z-of_z w32 term g)

pub offset_back : (initial term : ℤ) (offset size : ℕ) → offset < size → position_of initial term offset size % size ≡ offset
unfolding position_of
offset_back initial term offset size h = mul-add-mod_self_right (terms_before initial term) size offset ∙ mod-eq_of_lt h

pub position_back : (initial : ℤ) (position size : ℕ) → FitsSigned w32 initial → 0 < size → position < size * 2 ^ 32
    → position_of initial (term_id_of initial position size) (position % size) size ≡ position
unfolding position_of term_id_of
position_back initial position size f h k =
    let i : cast_unsigned w32 initial < 2 ^ 32 = (Fits-of_z f).fits in
    let within = div-mul-le_self position size in
    let swapped = mul_comm size (2 ^ 32) in
    let below : position / size < 2 ^ 32 = lt_of_mul-lt-mul_right size (omega (arith, within, swapped, k)) in
    let small : position / size % 2 ^ 32 ≡ position / size = mod-eq_of_lt below in
    let wrapped : (cast_unsigned w32 initial + position / size) % 2 ^ 32 < 2 ^ 32 = omega arith in
    rw (small, of_z-to_z w32 _ wrapped, there_wrapped (cast_unsigned w32 initial) (position / size) i below) (div-add-mod' position size)
