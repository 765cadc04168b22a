-- A walk over the datagrams at an address, read by read.
use Rattle.std.proofs.Common.{◌≡◌, ℕ, ◌+◌, List, [], ◌∷◌, ◌++◌, length, refl, arith, length-append, inl, inr}
use Rattle.channel_uri.specs.declared.address.Address.{Address}
use Rattle.media_wire.specs.Events.{Event, sent, read, nothing, failed}
use Rattle.media_wire.specs.Letters.{letter}
use Rattle.media_wire_tests.specs.Draining.{AreReads, Drains}

-- one more is read
pub more_reads : (local from : Address) (bytes : List ℕ) (reads : List Event) → AreReads local reads →
    AreReads local (reads ++ read (letter from local bytes) ∷ [])
more_reads local from bytes [] all = (refl, tt)
more_reads local from bytes (sent it ∷ reads) all = absurd all
more_reads local from bytes (read it ∷ reads) all = (all.0, more_reads local from bytes reads all.1)
more_reads local from bytes (nothing address ∷ reads) all = absurd all
more_reads local from bytes (failed ∷ reads) all = absurd all

pub one_more : (reads : List Event) (event : Event) (count : ℕ) → length reads ≡ count → length (reads ++ event ∷ []) ≡ count + 1
one_more reads event count many = omega (arith, many, length-append reads (event ∷ []))

pub at_nothing : (local : Address) (most count : ℕ) (reads : List Event) → AreReads local reads → length reads ≡ count →
    Drains local most count (reads ++ nothing local ∷ [])
at_nothing local most count reads all many = record { reads = reads; all = all; many = many; end = inr (inl refl) }

pub at_failure : (local : Address) (most count : ℕ) (reads : List Event) → AreReads local reads → length reads ≡ count →
    Drains local most count (reads ++ failed ∷ [])
at_failure local most count reads all many = record { reads = reads; all = all; many = many; end = inr (inr refl) }

pub at_most : (local : Address) (most : ℕ) (reads : List Event) → AreReads local reads → length reads ≡ most → Drains local most most reads
at_most local most reads all many = record { reads = reads; all = all; many = many; end = inl (refl, many) }
