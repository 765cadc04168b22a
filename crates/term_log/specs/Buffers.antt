-- The three term buffers of a log, in the order of their positions.
use Rattle.std.specs.Prelude.{ℕ, ◌+◌, ◌-◌, ◌*◌, ◌==◌, ◌||◌, ◌++◌, IsTrue, Bool, List, length, take, drop, replicate, if◌then◌else◌, refl}
use Rattle.std.specs.Coded.{Coded, code_by, coded×, coded_ℕ, coded_list}
use denote.RawPtr.{Ptr, coded_ptr}
use Rattle.log_arena.specs.Homes.{Home}

-- the lease's region and its place there, how many bytes a term has, and the bytes of the oldest term, of the one
-- after it and of the newest, one after another, as they are seen
pub record Buffers : Type 0 where
  pub home : Home
  pub place : ℕ
  pub term_length : ℕ
  pub bytes : List ℕ

-- stored as the tuple of its fields
abbrev pub buffers_code : Coded Buffers
buffers_code =
    code_by (Ptr × (ℕ × (ℕ × (ℕ × List ℕ)))) (coded× coded_ptr (coded× coded_ℕ (coded× coded_ℕ (coded× coded_ℕ (coded_list coded_ℕ)))))
    (λ b. (b.home.base, (b.home.pages, (b.place, (b.term_length, b.bytes)))))
    (λ p. record { home = record { base = p.0; pages = p.1.0 }; place = p.1.1.0; term_length = p.1.1.1.0; bytes = p.1.1.1.1 })
    (λ _. refl)

-- The buffers as they are kept: what is seen of them, and how many bytes at the front of the newest term's buffer are as
-- they are seen. What stands behind those is left of an earlier term, and seen as zeros.
pub record Filled : Type 0 where
  pub seen : Buffers
  pub filled : ℕ

-- stored as the pair of its fields
abbrev pub filled_code : Coded Filled
filled_code =
    code_by (Buffers × ℕ) (coded× buffers_code coded_ℕ)
    (λ b. (b.seen, b.filled))
    (λ p. record { seen = p.0; filled = p.1 })
    (λ _. refl)

-- what is seen of bytes, of which so many at the front of the newest term count
abbrev pub seen_of : ℕ → ℕ → List ℕ → List ℕ
seen_of term_length filled bytes = take (2 * term_length + filled) bytes ++ replicate (term_length - filled) 0

-- the bytes from a place on are these now, and all others are as they were
abbrev pub written : ℕ → List ℕ → List ℕ → List ℕ
written at new bytes = take at bytes ++ (new ++ drop (at + length new) bytes)

-- the oldest term is gone, and a new one is there, all zeros
abbrev pub turned : ℕ → List ℕ → List ℕ
turned term_length bytes = drop term_length bytes ++ replicate term_length 0

-- a new term begins where the newest one is full
abbrev pub settled : ℕ → Bool → List ℕ → List ℕ
settled term_length full bytes = if full then turned term_length bytes else bytes

-- where one of the three terms begins among the bytes
abbrev pub IsBase : ℕ → ℕ → Type 0
IsBase term_length base = IsTrue (base == 0 || base == term_length || base == 2 * term_length)
