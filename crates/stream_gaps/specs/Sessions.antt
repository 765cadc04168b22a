-- Up to which position each session was read. Own rules.
use Rattle.std.specs.Prelude.{ℕ, ℤ, Bool, List, Option}
use Rattle.std.specs.Ordering.{is_eq, int_cmp}
use Rattle.std.specs.Map.{lookup}

-- whether they are the same session
abbrev pub is_session : ℤ → ℤ → Bool
is_session one other = is_eq (int_cmp one other)

-- up to which position a session was read, if it was
abbrev pub read_to : List (ℤ × ℕ) → ℤ → Option ℕ
read_to rows session = lookup (is_session session) rows
