-- Where the subscriptions stand that read a log. Own rules.
use Rattle.std.specs.Prelude.{ℕ, ◌+◌, ◌≤◌, List}
use Rattle.log_pairs.specs.Pairs.{AreAt}
use Rattle.log_pairs.specs.declared.pair.Pair.{Pair}

-- a position is within a term of the tail, and not before the log's start
abbrev pub IsNear : ℕ → ℕ → ℕ → ℕ → Type 0
IsNear start tail term position = (start ≤ position) × (position ≤ tail) × (tail ≤ position + term)

abbrev pub AreNear : ℕ → ℕ → ℕ → List Pair → Type 0
AreNear start tail term pairs = AreAt (IsNear start tail term) pairs
