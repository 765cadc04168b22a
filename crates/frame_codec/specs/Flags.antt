-- The flags byte of a frame (Aeron Transport Protocol Specification, frame headers).
use Rattle.std.specs.Prelude.{ℕ, Bool, ◌==◌, bit_and}
use Rattle.std.specs.Int.{bit_at}
use Rattle.frame_codec.specs.declared.flags.Flags.{Flags}

-- all bits of the second are set in the first
abbrev pub contains : Flags → Flags → Bool
contains flags some = bit_and flags.bits some.bits == some.bits

-- the bit is set, counted from the lowest: 2^7 is 0x80
abbrev pub has_bit : ℕ → Flags → Bool
has_bit bit flags = bit_at flags.bits bit == 1

-- a data frame begins a message
abbrev pub begins_message : Flags → Bool
begins_message flags = has_bit 7 flags

-- a data frame ends a message
abbrev pub ends_message : Flags → Bool
ends_message flags = has_bit 6 flags

-- a data frame or heartbeat is of a stream that has ended
abbrev pub ends_stream : Flags → Bool
ends_stream flags = has_bit 5 flags

-- a status message asks for a SETUP
abbrev pub asks_for_setup : Flags → Bool
asks_for_setup flags = has_bit 7 flags
