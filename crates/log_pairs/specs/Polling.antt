-- What a poll passes of the frames that it comes to, and what it gives of them. Own rules.
use Rattle.std.specs.Prelude.{ℕ, ◌-◌, ◌==◌, if◌then◌else◌, Option, Some, None, List, [], ◌∷◌}
use Rattle.std.specs.Option.{option_map}
use Rattle.frame_codec.specs.declared.flags.Flags.{Flags}
use Rattle.log_pairs.specs.declared.fragment.Fragment.{Fragment}
use Rattle.log_pairs.specs.declared.fragment.PolledFrame.{PolledFrame}

-- a fragment that a poll gives: the position after its frame, the frame's flags, and what it carries
pub record Fetched : Type 0 where
  pub position : ℕ
  pub flags : Flags
  pub payload : List ℕ

-- a frame that a poll comes to: the position after it, and the fragment that it gives; a pad gives none
pub record Polled : Type 0 where
  pub end : ℕ
  pub fragment : Option Fetched

-- how many fragments a frame gives
abbrev pub count_of : Option Fetched → ℕ
count_of None = 0
count_of (Some f) = 1

abbrev pub counted : Polled → ℕ
counted frame = count_of frame.fragment

-- the frames that are passed, one after another until so many fragments were given; none after the last of them
abbrev pub passed : ℕ → List Polled → List Polled
passed limit [] = []
passed limit (f ∷ fs) = if limit == 0 then [] else f ∷ passed (limit - counted f) fs

abbrev pub with_fragment : Option Fetched → List Fetched → List Fetched
with_fragment None others = others
with_fragment (Some f) others = f ∷ others

-- the fragments of frames
abbrev pub fragments_of : List Polled → List Fetched
fragments_of [] = []
fragments_of (f ∷ fs) = with_fragment f.fragment (fragments_of fs)

-- the position after frames, the first of which begins at p
abbrev pub behind : ℕ → List Polled → ℕ
behind p [] = p
behind p (f ∷ fs) = behind f.end fs

-- ---- of what is lent

abbrev pub fetched_of : Fragment → Fetched
fetched_of f = record { position = f.position; flags = f.flags; payload = f.payload.now }

-- where that is what a fragment is
abbrev pub polled_by : {T : Type 0} → (T → Fetched) → PolledFrame T → Polled
polled_by fetched f = record { end = f.end; fragment = option_map fetched f.fragment }
