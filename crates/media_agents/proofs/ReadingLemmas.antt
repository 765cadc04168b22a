-- A datagram that was read, and what came of it.
use Rattle.std.proofs.Common.{◌≡◌, ℕ, List, ◌++◌, Option, refl, subst, sym, drop, length, take}
use Rattle.std.proofs.Math.Seq.{take-append_seam}
use Rattle.channel_uri.specs.declared.address.Address.{Address}
use Rattle.drop_tallies.specs.declared.miss.Miss.TheVariants.{Unread}
use Rattle.frame_codec.specs.Datagram.{Content, nak, packet_of}
use Rattle.frame_codec.specs.declared.fault.BadPacket.{BadPacket}
use Rattle.frame_codec.specs.declared.nak.Nak.{Nak}
use Rattle.media_agents.specs.Acts.{Access, Act, Alone, GoesOn, Trail, Writes}
use Rattle.media_agents.specs.declared.stepping.Stepped.{Stepped}
use Rattle.media_agents.specs.Journals.{after_miss, after_nak}
use Rattle.media_agents.specs.SetUps.{SettingUp}
use Rattle.media_agents.specs.Traffic.{Answers, IsReading, ReceiverHears, ReceiverTakes, SenderHears, SenderTakes}
use Rattle.media_agents.proofs.ActLemmas.{alone, goes_on, goes_on_as, goes_then}
use Rattle.media_wire.specs.Events.{Event}
use Rattle.media_wire.specs.Letters.{letter}
use Rattle.published_registry.specs.Histories.{History}
use Rattle.std.specs.Prelude.{Some, Result, Ok, Err}

pub sender_takes : (now : ℕ) (local at : Address) (datagram : ℕ × Address) (buffer bytes : List ℕ) (s t : History)
    (old between new : List Act → Type 0) → bytes ≡ take datagram.0 buffer
    → GoesOn (IsReading at (Some datagram) buffer) old between
    → GoesOn (SenderHears now local at datagram.1 (packet_of bytes) s t) between new
    → GoesOn (SenderTakes now local (letter datagram.1 at (take datagram.0 buffer)) s t) old new
sender_takes now local at datagram buffer bytes s t old between new is first then =
    goes_then (IsReading at (Some datagram) buffer) (SenderHears now local at datagram.1 (packet_of (take datagram.0 buffer)) s t) old between new
    first
    (subst (λ (bytes : List ℕ). GoesOn (SenderHears now local at datagram.1 (packet_of bytes) s t) between new) is then)

pub receiver_takes : (now : ℕ) (at : Address) (datagram : ℕ × Address) (buffer bytes : List ℕ) (s t : History × SettingUp)
    (old : List Act → Type 0) (did done : List Access → Type 0) (went : List Event → Type 0) → bytes ≡ take datagram.0 buffer
    → GoesOn (IsReading at (Some datagram) buffer) old (Trail did went)
    → GoesOn (ReceiverHears now at datagram.1 (packet_of bytes) s t) did done
    → GoesOn (ReceiverTakes now (letter datagram.1 at (take datagram.0 buffer)) s t) old (Trail done went)
receiver_takes now at datagram buffer bytes s t old did done went is first hears =
    let Hears = ReceiverHears now at datagram.1 (packet_of (take datagram.0 buffer)) s t in
    goes_then (IsReading at (Some datagram) buffer) (Alone Hears) old (Trail did went) (Trail done went)
    first
    (alone Hears did done went (subst (λ (bytes : List ℕ). GoesOn (ReceiverHears now at datagram.1 (packet_of bytes) s t) did done) is hears))

-- a NAK was noted, and came to its publication
pub nak_heard : (now : ℕ) (local at from : Address) (packet : Result Content BadPacket) (fields : Nak) (s t : History)
    (did noted : List Access → Type 0) (went : List Event → Type 0) (new : List Act → Type 0) → packet ≡ Ok (nak fields)
    → GoesOn (Writes after_nak) did noted
    → ((it : Option Stepped) × GoesOn (Answers now local at from (nak fields) it s t) (Trail noted went) new)
    → GoesOn (SenderHears now local at from packet s t) (Trail did went) new
nak_heard now local at from packet fields s t did noted went new is notes answers =
    let Whole = λ (packet : Result Content BadPacket). GoesOn (SenderHears now local at from packet s t) (Trail did went) new in
    subst Whole (sym is)
    (goes_on (Alone (Writes after_nak)) (Answers now local at from (nak fields) answers.0 s t) (SenderHears now local at from (Ok (nak fields)) s t)
    (Trail did went) (Trail noted went) new
    (λ a b one two. (answers.0, (a, b, refl, one, two)))
    (alone (Writes after_nak) did noted went notes) answers.1)

-- bytes that are no datagram were counted
pub unread_heard : (now : ℕ) (local at from : Address) (packet : Result Content BadPacket) (fault : BadPacket) (s : History)
    (did noted : List Access → Type 0) (went : List Event → Type 0) → packet ≡ Err fault
    → GoesOn (Writes (after_miss Unread from)) did noted
    → GoesOn (SenderHears now local at from packet s s) (Trail did went) (Trail noted went)
unread_heard now local at from packet fault s did noted went is notes =
    let Counts = Writes (after_miss Unread from) in
    subst (λ (packet : Result Content BadPacket). GoesOn (SenderHears now local at from packet s s) (Trail did went) (Trail noted went)) (sym is)
    (goes_on_as (Alone Counts) (SenderHears now local at from (Err fault) s s) (Trail did went) (Trail noted went) (λ a one. (refl, one))
    (alone Counts did noted went notes))

-- what was written at the beginning of a buffer of that length is all of it
pub written : (size : ℕ) (new old : List ℕ) → length new ≡ size → new ≡ take size (new ++ drop (length new) old)
written size new old is =
    sym (subst (λ (size : ℕ). take size (new ++ drop (length new) old) ≡ new) is (take-append_seam new (drop (length new) old)))
