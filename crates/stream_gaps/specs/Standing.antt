-- A reader that stands at a gap in a stream, as looks at it show. Own rules.
use Rattle.std.specs.Prelude.{ℕ, ◌+◌, ◌-◌, ◌^◌, Bool, ◌&&◌, ◌||◌, ◌==◌, nat_lt, min, if◌then◌else◌}
use Rattle.stream_gaps.specs.declared.standing.Reading.{Reading}
use Rattle.stream_gaps.specs.declared.standing.Standing.{Standing}

-- it has read all that is there without a gap, and is where it was at the last look
abbrev pub is_still : Standing → Reading → Bool
is_still before reading = (reading.position == before.position) && (reading.received == reading.position)

-- and bytes are missing there: they were asked for since the last look, or before
abbrev pub is_at_gap : Standing → Reading → Bool
is_at_gap before reading = is_still before reading && (reading.asked || nat_lt 0 before.looks)

-- one more look, as long as it is the same gap
abbrev pub stood : Standing → Reading → Standing
stood before reading = record {
  position = reading.position;
  looks = if is_at_gap before reading then min (before.looks + 1) (2 ^ 64 - 1) else 0;
}

-- so many looks found it there, and the bytes were asked for again since the last of them
abbrev pub stands_at_gap : Standing → Reading → ℕ → Bool
stands_at_gap before reading most = is_still before reading && (reading.asked && nat_lt most before.looks)
