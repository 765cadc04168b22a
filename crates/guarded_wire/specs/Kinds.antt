-- What a datagram is by its first bytes.
use Rattle.std.specs.Prelude.{ℕ, ◌==◌, Bool, true, false, nat_lt, if◌then◌else◌, List, length}
use Rattle.frame_codec.specs.Fields.{half_at, number_at}
use Rattle.guarded_wire.specs.declared.kind.Kind.{Kind}
use Rattle.guarded_wire.specs.declared.kind.Kind.TheVariants.{Setup, Data, Status, Nak, Other}

-- by the number of its type: 0 is a pad, and 1 data or a heartbeat
abbrev pub kind_numbered : ℕ → Kind
kind_numbered number =
    if number == 0 then Data
    else if number == 1 then Data
    else if number == 2 then Nak
    else if number == 3 then Status
    else if number == 5 then Setup
    else Other

-- the type stands in the bytes 6 and 7
unfoldable pub kind_of : List ℕ → Kind
kind_of bytes = if nat_lt (length bytes) 8 then Other else kind_numbered (half_at 6 bytes)

-- it makes a sender send
abbrev pub is_ask : Kind → Bool
is_ask Nak = true
is_ask Status = true
is_ask Setup = false
is_ask Data = false
is_ask Other = false

-- a NAK for more than a window. How much it asks for stands in the bytes 24 to 27: less than nothing is more than any, too
unfoldable pub asks_too_much : ℕ → Kind → List ℕ → Bool
asks_too_much window Nak bytes = if nat_lt (length bytes) 28 then false else nat_lt window (number_at 24 bytes)
asks_too_much window Status bytes = false
asks_too_much window Setup bytes = false
asks_too_much window Data bytes = false
asks_too_much window Other bytes = false
