-- Positions in a stream (Aeron Transport Protocol Specification, positions).
use Rattle.std.specs.Prelude.{ℕ, ◌+◌, ◌-◌, ◌*◌, ◌/◌, ◌%◌, ◌^◌, ℤ}
use Rattle.std.specs.Int.{w32, cast_signed, cast_unsigned}

-- how many terms come before a term: the difference of the ids, modulo 2 ^ 32
abbrev pub terms_before : ℤ → ℤ → ℕ
terms_before initial term = (cast_unsigned w32 term + (2 ^ 32 - cast_unsigned w32 initial)) % 2 ^ 32

-- the terms before it, and what stands before it in its own term
unfoldable pub position_of : ℤ → ℤ → ℕ → ℕ → ℕ
position_of initial term offset size = terms_before initial term * size + offset

-- the id of the term in which a position lies
unfoldable pub term_id_of : ℤ → ℕ → ℕ → ℤ
term_id_of initial position size = cast_signed w32 ((cast_unsigned w32 initial + position / size % 2 ^ 32) % 2 ^ 32)
