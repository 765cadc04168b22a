-- The frames of a log as a poll comes to them, and what it gives of them. Own rules.
use Rattle.std.specs.Prelude.{◌≡◌, ℕ, ◌+◌, ◌-◌, ◌^◌, min, Option, Some, None, List, [], ◌∷◌, ◌++◌}
use Rattle.log_pairs.specs.Polling.{Fetched, Polled, behind, fragments_of, passed}
use Rattle.term_log.specs.Frames.{Frame, fragment, pad, span, total}
use Rattle.term_log.specs.Kept.{Kept, StandsFor}
use Rattle.term_log.specs.Reading.{Given}

-- the fragment of a frame that ends at a position; a pad gives none
abbrev pub fetched : ℕ → Frame → Option Fetched
fetched end (fragment flags payload) = Some (record { position = end; flags = flags; payload = payload })
fetched end (pad size) = None

abbrev pub polled_frame : ℕ → Frame → Polled
polled_frame end f = record { end = end; fragment = fetched end f }

-- frames one after another, the first of them at that position
abbrev pub polled_run : ℕ → List Frame → List Polled
polled_run position [] = []
polled_run position (f ∷ fs) = polled_frame (position + span f) f ∷ polled_run (position + span f) fs

-- ---- what calls give, of all frames from a position on, whichever the log stands for

-- the fragments of those that a poll passes
pub record GivesFragments (k : Kept) (position limit : ℕ) (left : List Fetched) : Type 0 where
  pub on : (before after : List Frame) → StandsFor k (before ++ after) → position ≡ k.ident.start + total before
      → left ≡ fragments_of (passed limit (polled_run position after))

-- the position after those that a poll passes
pub record PassesTo (k : Kept) (position limit end : ℕ) : Type 0 where
  pub on : (before after : List Frame) → StandsFor k (before ++ after) → position ≡ k.ident.start + total before
      → end ≡ behind position (passed limit (polled_run position after))

-- ---- of any frames that are read, whose ends are cut to what a position can be

abbrev pub polled_given : Given → Polled
polled_given g = polled_frame (min (g.position + span g.frame) (2 ^ 64 - 1)) g.frame
