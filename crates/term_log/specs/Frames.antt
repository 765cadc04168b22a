-- The frames of a log, one after another (Aeron Transport Protocol Specification, data frame, padding, positions).
use Rattle.std.specs.Prelude.{◌≡◌, ℕ, ◌+◌, ◌-◌, ◌%◌, ◌≤◌, List, [], ◌∷◌, ◌++◌, length, replicate, if◌then◌else◌}
use Rattle.frame_codec.specs.declared.flags.Flags.{Flags}
use Rattle.frame_codec.specs.Flags.{contains}
use Rattle.frame_codec.specs.Frame.{padded, data_bytes, pad_bytes}
use Rattle.term_log.specs.declared.ident.Ident.{Ident}
use Rattle.term_log.specs.Ident.{place_at}

-- a part of a message, with the flags of its frame; or nothing, up to the end of a term
pub data Frame : Type 0 where
  fragment : Flags → List ℕ → Frame
  pad : ℕ → Frame

abbrev pub begin_flag : Flags
begin_flag = record { bits = 128 }

abbrev pub pad_flags : Flags
pad_flags = record { bits = 192 }

-- how many positions a frame takes: header and payload, up to the next multiple of 32
abbrev pub span : Frame → ℕ
span (fragment flags payload) = padded (32 + length payload)
span (pad size) = size

-- how many positions frames take, one after another
abbrev pub total : List Frame → ℕ
total [] = 0
total (f ∷ fs) = span f + total fs

-- a message begins with a frame that has the begin flag and is no pad
abbrev pub begins : Frame → ℕ
begins (fragment flags payload) = if contains flags begin_flag then 1 else 0
begins (pad size) = 0

-- how many messages frames begin
abbrev pub messages_of : List Frame → ℕ
messages_of [] = 0
messages_of (f ∷ fs) = begins f + messages_of fs

-- the bytes of a frame at a position, but for the zeros after the header of a pad
abbrev pub front_of : Ident → ℕ → Frame → List ℕ
front_of i position (fragment flags payload) = data_bytes flags (place_at i position) payload
front_of i position (pad size) = pad_bytes pad_flags (place_at i position) size

-- the bytes of a frame at a position
abbrev pub bytes_of : Ident → ℕ → Frame → List ℕ
bytes_of i position f = front_of i position f ++ replicate (span f - length (front_of i position f)) 0

-- the bytes of frames, the first of them at that position
abbrev pub run_of : Ident → ℕ → List Frame → List ℕ
run_of i position [] = []
run_of i position (f ∷ fs) = bytes_of i position f ++ run_of i (position + span f) fs

-- a frame at a position is no longer than the MTU and ends within its term; a pad goes up to the end of its term
abbrev pub IsFrame : Ident → ℕ → Frame → Type 0
IsFrame i position (fragment flags payload) =
    (32 + length payload ≤ i.mtu) × (position % i.term_length + padded (32 + length payload) ≤ i.term_length)
IsFrame i position (pad size) = (32 ≤ size) × (position % i.term_length + size ≡ i.term_length)

abbrev pub IsRun : Ident → ℕ → List Frame → Type 0
IsRun i position [] = Unit {0}
IsRun i position (f ∷ fs) = IsFrame i position f × IsRun i (position + span f) fs
