-- What polls give of a log.
use Rattle.std.specs.Prelude.{◌≡◌, ℕ, ◌+◌, List, [], ◌∷◌, ◌++◌}
use Rattle.log_pairs.specs.Polling.{Fetched}
use Rattle.term_log.specs.Frames.{Frame, fragment, span, total}
use Rattle.term_log.specs.Log.{Log}
use Rattle.term_log.specs.Whole.{Whole, polled, Stands}

-- a fragment is a frame of the log, with its flags and what it carries, that ends at the fragment's position
pub record IsFragmentOf (w : Whole) (f : Fetched) : Type 0 where
  pub before : List Frame
  pub after : List Frame
  pub is : w.frames ≡ before ++ fragment f.flags f.payload ∷ after
  pub place : f.position ≡ w.ident.start + total before + span (fragment f.flags f.payload)

abbrev pub AreFragmentsOf : Whole → List Fetched → Type 0
AreFragmentsOf w [] = Unit {0}
AreFragmentsOf w (f ∷ fs) = IsFragmentOf w f × AreFragmentsOf w fs

-- so it is with each fragment that a poll gives
abbrev pub PollsGiveFrames : Type 0
PollsGiveFrames =
    (l : Log) (w : Whole) (subscription limit : ℕ) → Stands l w → AreFragmentsOf w (polled w subscription limit).fragments
