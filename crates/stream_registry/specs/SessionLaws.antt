-- What holds of the sessions that logs are given.
use Rattle.std.specs.Prelude.{◌≡◌, ℕ, zero, suc, ◌<◌, ◌^◌, ℤ, true, false, List, length, FitsSigned}
use Rattle.std.specs.Int.{w32}
use Rattle.stream_registry.specs.declared.row.LogRow.{LogRow}
use Rattle.stream_registry.specs.Sessions.{after, is_taken, free_session}

-- the session that comes so many after this one
abbrev pub nth_after : ℕ → ℤ → ℤ
nth_after zero session = session
nth_after (suc many) session = nth_after many (after session)

-- no live publication has the session, and each one before it, from the first on, some publication has
pub record IsFirstFree (logs : List LogRow) (first session : ℤ) : Type 0 where
  pub many : ℕ
  pub found : session ≡ nth_after many first
  pub is_free : is_taken logs session ≡ false
  pub taken_before : (k : ℕ) → k < many → is_taken logs (nth_after k first) ≡ true

-- so it is with the session that is found, however many logs there are below 2^32
abbrev pub SessionsAreFree : Type 0
SessionsAreFree =
    (logs : List LogRow) (first : ℤ) → length logs < 2 ^ 32 → FitsSigned w32 first →
    IsFirstFree logs first (free_session logs first)
