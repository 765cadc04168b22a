-- The frames of a log whose ranges meet a range of positions, over all the terms that are held. Own rules.
use Rattle.std.specs.Prelude.{◌≡◌, ℕ, ◌+◌, ◌-◌, ◌%◌, ◌^◌, ◌≤◌, max, min, nat_lt, nat_le, ◌&&◌, Bool, List, ◌++◌, filter}
use Rattle.term_log.specs.declared.ranges.FramesOver.{FramesOver}
use Rattle.term_log.specs.declared.ident.Ident.{Ident}
use Rattle.term_log.specs.Frames.{Frame, span}
use Rattle.term_log.specs.Kept.{IsStart, Kept, StandsFor}
use Rattle.term_log.specs.Log.{low_of}
use Rattle.term_log.specs.Reading.{Given, all_given, frames_left}

-- The frame's range and that of `size` positions from `position` on have a position in common: the greater of their
-- starts is below the lesser of their ends.
abbrev pub meets : ℕ → ℕ → Given → Bool
meets position size g = nat_lt (max g.position position) (min (g.position + span g.frame) (position + size))

-- the frame is held, and its range meets that one
abbrev pub is_over : ℕ → ℕ → ℕ → Given → Bool
is_over low position size g = nat_le low g.position && meets position size g

-- what is given over a range: of all frames, whichever the log stands for, those that are held and meet it
pub record GivesOver (k : Kept) (position size : ℕ) (left : List Given) : Type 0 where
  pub on : (frames : List Frame) → StandsFor k frames
      → left ≡ filter (is_over (low_of k) position size) (all_given k.ident k.ident.start frames)

-- where frames that are held and meet a range from `position` on may begin: at the start of its term, as far as that is held
abbrev pub over_start : Kept → ℕ → ℕ
over_start k position = min k.tail (max (low_of k) (position - position % k.ident.term_length))

-- Frames that meet a range from `position` on may be looked for from there on: a frame begins there, and those before it are not
-- held, or end where the range begins or before.
pub record IsSearchStart (k : Kept) (position at : ℕ) : Type 0 where
  pub low : low_of k ≤ at
  pub high : at ≤ k.tail
  pub near : at ≤ max (low_of k) position
  pub starts : (frames : List Frame) → StandsFor k frames → IsStart k.ident.start frames at

-- a budget of bytes from a position on goes up to the range's end and over one frame more, or up to the greatest position
abbrev pub Reaches : Ident → ℕ → ℕ → ℕ → ℕ → Type 0
Reaches i position size from budget = min (position + size + (i.mtu + 32)) (2 ^ 64 - 1) ≤ from + budget

-- all that is to come of three terms, before it is asked what meets the range
abbrev pub all_left : FramesOver → List Given
all_left over = frames_left over.first ++ frames_left over.second ++ frames_left over.third

-- the frames that are still to come
unfoldable pub over_left : FramesOver → List Given
over_left over = filter (meets over.position over.size) (all_left over)
