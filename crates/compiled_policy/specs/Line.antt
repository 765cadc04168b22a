-- The line of streams, cut into intervals where the range of a rule starts or ends.
use Rattle.std.specs.Prelude.{◌≡◌, ℕ, ◌+◌, ◌-◌, ◌*◌, ◌<◌, ◌≤◌, ℤ, pos, Bool, ◌&&◌, Some, List, if◌then◌else◌, int_lt, length, nat_le, slice_get, slice_index, unsigned_abs}
use Rattle.policy_core.specs.declared.rule.Rule.{Rule}

-- where a stream stands on the line, from the lowest of 32 bits on
abbrev pub on_line : ℤ → ℕ
on_line stream = if int_lt stream (pos 0) then 2147483648 - unsigned_abs stream else 2147483648 + unsigned_abs stream

-- an interval starts here
abbrev pub Starts : List ℕ → ℕ → Type 0
Starts starts at = (row : ℕ) × (row < length starts) × (slice_index starts row ≡ at)

-- each start is below the next
abbrev pub Ascend : List ℕ → Type 0
Ascend starts = (i j : ℕ) → i < j → j < length starts → slice_index starts i < slice_index starts j

-- the starts of the intervals: the line's own, and where the range of one of the first `end` rules starts, and where the
-- streams after it do
pub record AreStarts (rules : List Rule) (end : ℕ) (starts : List ℕ) : Type 0 where
  pub ascend : Ascend starts
  pub few : length starts ≤ 1 + 2 * end
  pub line : Starts starts 0
  pub low : (place : ℕ) (rule : Rule) → place < end → slice_get rules place ≡ Some rule → Starts starts (on_line rule.low)
  pub high : (place : ℕ) (rule : Rule) → place < end → slice_get rules place ≡ Some rule → Starts starts (on_line rule.high + 1)

-- the rule's range holds the interval at this row
abbrev pub is_on : List ℕ → ℕ → Rule → Bool
is_on starts row rule = nat_le (on_line rule.low) (slice_index starts row) && nat_le (slice_index starts row) (on_line rule.high)

-- after the starts below `at`, and before the others
pub record IsPlace (starts : List ℕ) (at place : ℕ) : Type 0 where
  pub within : place ≤ length starts
  pub before : (row : ℕ) → row < place → slice_index starts row < at
  pub behind : (row : ℕ) → place ≤ row → row < length starts → at ≤ slice_index starts row
