-- The date of a moment (RFC 3339).
use Rattle.std.specs.Prelude.{◌≡◌, ◌++◌, ℕ, pos, List, codes}
use Rattle.jiff.specs.Words.{civil_nanos, iso_datetime_text}
use Rattle.jiff.specs.Types.{DateTime}

-- the text is that of the date and the time which a clock in UTC shows so many nanoseconds after 1970 began
pub record IsDateOf (moment : ℕ) (text : List ℕ) : Type 0 where
  pub shown : DateTime
  pub at_moment : civil_nanos shown ≡ pos moment
  pub written : text ≡ iso_datetime_text shown ++ codes "Z"
