-- Which region bytes are of, and where in it.
use Rattle.std.specs.Prelude.{◌≡◌, ℕ, ◌+◌, ◌-◌, ◌*◌, ◌%◌, ◌<◌, ◌≤◌}
use denote.RawPtr.{Ptr, block_ptr, null_ptr, count_of}

-- where a region begins, and how many pages it has: while one of its leases is held, no other region has this
pub record Home : Type 0 where
  pub base : Ptr
  pub pages : ℕ

-- the place n bytes before p
abbrev pub back : Ptr → ℕ → Ptr
back (block_ptr b o) n = block_ptr b (o - n)
back null_ptr n = null_ptr

-- n bytes at p are whole pages of a region of so many pages, which begins `place` bytes before them
pub record IsHoused (pages place : ℕ) (p : Ptr) (n : ℕ) : Type 0 where
  pub some : 0 < n
  pub whole_place : place % 4096 ≡ 0
  pub whole_len : n % 4096 ≡ 0
  pub within : place + n ≤ 4096 * pages
  pub behind : place ≤ count_of p
