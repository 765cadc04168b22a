-- What a reader of a log is given (Aeron Transport Protocol Specification, data frame and padding).
use Rattle.std.specs.Prelude.{◌≡◌, ℕ, ◌-◌, ◌≤◌, ◌==◌, Bool, nat_lt, if◌then◌else◌, List, [], ◌∷◌, length, take, drop}
use Rattle.frame_codec.specs.Fields.{byte_at, half_at}
use Rattle.frame_codec.specs.declared.flags.Flags.{Flags}
use Rattle.image_log.specs.Frame.{Frame, end_of}

-- a frame of type 0 is a pad
unfoldable pub is_pad : Frame → Bool
is_pad f = half_at 6 f.bytes == 0

abbrev pub flags_of : Frame → Flags
flags_of f = record { bits = byte_at 5 f.bytes }

-- how many bytes of a datagram it takes: a pad is sent as its header alone
unfoldable pub sent_size : Frame → ℕ
sent_size f = if is_pad f then 32 else f.span

-- the longest front of the frames whose sent sizes add up to at most so many bytes, and which ends after a pad
abbrev pub cut_to : ℕ → List Frame → List Frame
cut_to bytes [] = []
cut_to bytes (f ∷ fs) =
    if nat_lt bytes (sent_size f) then []
    else if is_pad f then f ∷ []
    else f ∷ cut_to (bytes - sent_size f) fs

-- each frame has its whole header
abbrev pub AreHeaded : List Frame → Type 0
AreHeaded [] = Unit {0}
AreHeaded (f ∷ fs) = (32 ≤ length f.bytes) × AreHeaded fs

-- those of the frames from one index up to another, cut
abbrev pub left_of : List Frame → ℕ → ℕ → ℕ → List Frame
left_of fs index last bytes = cut_to bytes (drop index (take last fs))

-- each frame begins at one position or above it, and ends at another or below it
abbrev pub AreBetween : ℕ → ℕ → List Frame → Type 0
AreBetween from to [] = Unit {0}
AreBetween from to (f ∷ fs) = (from ≤ f.position) × (end_of f ≤ to) × AreBetween from to fs

-- the frames stand one after another, the first at a position
abbrev pub Adjoin : ℕ → List Frame → Type 0
Adjoin p [] = Unit {0}
Adjoin p (f ∷ fs) = (f.position ≡ p) × Adjoin (end_of f) fs
