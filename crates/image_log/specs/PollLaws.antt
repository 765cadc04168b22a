-- What polls give of a log.
use Rattle.std.specs.Prelude.{◌≡◌, ℕ, false, List, [], ◌∷◌, ◌++◌}
use Rattle.image_log.specs.Frame.{Frame}
use Rattle.image_log.specs.Polling.{fetched, polled}
use Rattle.image_log.specs.Reading.{is_pad}
use Rattle.image_log.specs.Rebuilt.{Rebuilt}
use Rattle.log_pairs.specs.Polling.{Fetched}

-- a fragment is what one of the frames gives, which is no pad
pub record IsFragmentOf (fs : List Frame) (f : Fetched) : Type 0 where
  pub before : List Frame
  pub frame : Frame
  pub after : List Frame
  pub is : fs ≡ before ++ frame ∷ after
  pub fragment : is_pad frame ≡ false
  pub given : f ≡ fetched frame

abbrev pub AreFragmentsOf : List Frame → List Fetched → Type 0
AreFragmentsOf fs [] = Unit {0}
AreFragmentsOf fs (f ∷ given) = IsFragmentOf fs f × AreFragmentsOf fs given

-- so it is with each fragment that a poll gives
abbrev pub PollsGiveFrames : Type 0
PollsGiveFrames = (r : Rebuilt) (subscription limit : ℕ) → AreFragmentsOf r.frames (polled r subscription limit).fragments
