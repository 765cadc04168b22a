-- How a message is cut into frames (Aeron Transport Protocol Specification, fragmentation).
use Rattle.std.specs.Prelude.{ℕ, ◌+◌, ◌-◌, ◌*◌, ◌/◌, ◌==◌, List, length, take, drop, map, if◌then◌else◌}
use Rattle.std.specs.List.{range_with_len}
use Rattle.frame_codec.specs.declared.flags.Flags.{Flags}
use Rattle.term_log.specs.Frames.{Frame, fragment}

-- the number of a message's last frame, counted from 0: an empty message has one frame
abbrev pub last_part : ℕ → ℕ → ℕ
last_part payload size = (size - 1) / payload

-- the first frame begins the message, the last one ends it
abbrev pub flags_of : ℕ → ℕ → Flags
flags_of last i = record { bits = (if i == 0 then 128 else 0) + (if i == last then 64 else 0) }

-- each frame carries as many bytes as fit, after those of the frames before it
abbrev pub part_of : ℕ → List ℕ → ℕ → Frame
part_of payload message i =
    fragment (flags_of (last_part payload (length message)) i) (take payload (drop (i * payload) message))

-- the frames of a message, of which each has room for `payload` bytes
unfoldable pub cut : ℕ → List ℕ → List Frame
cut payload message = map (part_of payload message) (range_with_len 0 (last_part payload (length message) + 1))
