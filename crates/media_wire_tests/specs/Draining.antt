-- What a walk over the datagrams at an address does to the wire.
use Rattle.std.specs.Prelude.{◌≡◌, ℕ, List, [], ◌∷◌, ◌++◌, ◌⊎◌, length}
use Rattle.channel_uri.specs.declared.address.Address.{Address}
use Rattle.media_wire.specs.Events.{Event, sent, read, nothing, failed}

-- each read a datagram at this address
abbrev pub AreReads : Address → List Event → Type 0
AreReads local [] = Unit {0}
AreReads local (sent it ∷ events) = ⊥
AreReads local (read it ∷ events) = (it.to ≡ local) × AreReads local events
AreReads local (nothing address ∷ events) = ⊥
AreReads local (failed ∷ events) = ⊥

-- it ended with the datagrams that were read, as many as may be, or none was there any more, or a read failed
abbrev pub EndsWith : Address → ℕ → List Event → List Event → Type 0
EndsWith local most reads events = ((events ≡ reads) × (length reads ≡ most))
    ⊎ ((events ≡ reads ++ nothing local ∷ []) ⊎ (events ≡ reads ++ failed ∷ []))

-- so many datagrams were read at this address
pub record Drains (local : Address) (most : ℕ) (count : ℕ) (events : List Event) : Type 0 where
  pub reads : List Event
  pub all : AreReads local reads
  pub many : length reads ≡ count
  pub end : EndsWith local most reads events
