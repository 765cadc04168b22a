-- What a poll passes of what is whole from a position on, and what it gives of it. Own rules.
use Rattle.std.specs.Prelude.{ℕ, ◌≤◌, if◌then◌else◌, Option, Some, None, List, [], map, drop, filter}
use Rattle.image_log.specs.Frame.{Frame, end_of}
use Rattle.image_log.specs.Order.{begins_within}
use Rattle.image_log.specs.Reading.{flags_of, is_pad}
use Rattle.image_log.specs.Rebuilt.{IsStart, Rebuilt, advanced, contiguous_of, settled}
use Rattle.log_pairs.specs.Pairs.{position_of}
use Rattle.log_pairs.specs.Polling.{Fetched, Polled, behind, fragments_of, passed}

-- what a data frame gives
abbrev pub fetched : Frame → Fetched
fetched f = record { position = end_of f; flags = flags_of f; payload = drop 32 f.bytes }

-- a frame as a poll comes to it
abbrev pub polled_frame : Frame → Polled
polled_frame f = record { end = end_of f; fragment = if is_pad f then None else Some (fetched f) }

-- what is whole from a position on
abbrev pub whole_from : Rebuilt → ℕ → List Frame
whole_from r p = filter (begins_within p (contiguous_of r)) r.frames

-- a position to which a subscription may move on that stands at p
pub record IsAhead (r : Rebuilt) (p q : ℕ) : Type 0 where
  pub ahead : p ≤ q
  pub within : q ≤ contiguous_of r
  pub start : IsStart r q

-- what a poll gives, and what it leaves
pub record Poll : Type 0 where
  pub fragments : List Fetched
  pub after : Rebuilt

-- these frames are passed from a position on
abbrev pub passes : Rebuilt → ℕ → ℕ → List Polled → Poll
passes r subscription at frames = record {
  fragments = fragments_of frames;
  after = settled (advanced r subscription (behind at frames));
}

-- a subscription that does not read the log is given nothing
abbrev pub polled_from : Rebuilt → ℕ → ℕ → Option ℕ → Poll
polled_from r subscription limit None = record { fragments = []; after = r }
polled_from r subscription limit (Some at) = passes r subscription at (passed limit (map polled_frame (whole_from r at)))

-- A poll of a subscription: from its position on frame by frame, over the ends of terms, until so many fragments were
-- given or there is no more that is whole. Pads are passed uncounted; it then stands after what was passed.
unfoldable pub polled : Rebuilt → ℕ → ℕ → Poll
polled r subscription limit = polled_from r subscription limit (position_of r.pairs subscription)
