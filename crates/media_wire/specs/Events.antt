-- What the calls of a wire did.
use Rattle.std.specs.Prelude.{ℕ, ◌+◌, ◌-◌, ◌^◌, List, [], ◌∷◌, Option, Some, None, Result, Ok, Err, min, take}
use Rattle.channel_uri.specs.declared.address.Address.{Address}
use Rattle.media_wire.specs.Letters.{letter}
use Rattle.media_wire.specs.declared.letter.Letter.{Letter}
use Rattle.media_wire.specs.declared.wire.WireFault.{WireFault}

-- a call sent this letter, read this one, found none that came to this address, or failed
pub data Event : Type 0 where
  sent : Letter → Event
  read : Letter → Event
  nothing : Address → Event
  failed : Event

-- by what it answered
abbrev pub sent_event : Letter → Result Unit WireFault → Event
sent_event it (Ok done) = sent it
sent_event it (Err fault) = failed

abbrev pub read_event : Address → List ℕ → Result (Option (ℕ × Address)) WireFault → Event
read_event local buffer (Ok None) = nothing local
read_event local buffer (Ok (Some datagram)) = read (letter datagram.1 local (take datagram.0 buffer))
read_event local buffer (Err fault) = failed

-- how many calls failed
abbrev pub failures : List Event → ℕ
failures [] = 0
failures (sent it ∷ events) = failures events
failures (read it ∷ events) = failures events
failures (nothing address ∷ events) = failures events
failures (failed ∷ events) = failures events + 1

-- as far as a number of 64 bits counts
abbrev pub counted : List Event → ℕ
counted events = min (failures events) (2 ^ 64 - 1)

-- what is left of them without the failures
abbrev pub calm : List Event → List Event
calm [] = []
calm (sent it ∷ events) = sent it ∷ calm events
calm (read it ∷ events) = read it ∷ calm events
calm (nothing address ∷ events) = nothing address ∷ calm events
calm (failed ∷ events) = calm events
