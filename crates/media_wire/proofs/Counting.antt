-- How many calls failed, call by call.
use Rattle.std.proofs.Common.{◌≡◌, ℕ, ◌+◌, ◌-◌, ◌^◌, List, [], ◌∷◌, ◌++◌, min, refl, ap, sym, ◌∙◌, arith, zero-add}
use Rattle.std.proofs.Common.{Option, Some, None, Result, Ok, Err, is_ok}
use Rattle.channel_uri.specs.declared.address.Address.{Address}
use Rattle.media_wire.specs.Events.{Event, sent, read, nothing, failed, failures, counted, calm, read_event, sent_event}
use Rattle.media_wire.specs.declared.letter.Letter.{Letter}
use Rattle.media_wire.specs.Sockets.{counted_once}
use Rattle.media_wire.specs.declared.wire.WireFault.{WireFault}

pub failures-append : (events : List Event) (event : Event) → failures (events ++ event ∷ []) ≡ failures events + failures (event ∷ [])
failures-append [] event = sym (zero-add (failures (event ∷ [])))
failures-append (sent it ∷ events) event = failures-append events event
failures-append (read it ∷ events) event = failures-append events event
failures-append (nothing address ∷ events) event = failures-append events event
failures-append (failed ∷ events) event =
    let rest : failures (events ++ event ∷ []) ≡ failures events + failures (event ∷ []) = failures-append events event in
    omega (arith, rest)

-- a call that did not fail leaves the count, and one that failed adds one
pub counted-calm : (events : List Event) (event : Event) → failures (event ∷ []) ≡ 0 → counted (events ++ event ∷ []) ≡ counted events
counted-calm events event none =
    let all : failures (events ++ event ∷ []) ≡ failures events + failures (event ∷ []) = failures-append events event in
    let same : failures (events ++ event ∷ []) ≡ failures events = omega (arith, all, none) in
    ap (λ (count : ℕ). min count (2 ^ 64 - 1)) same

pub counted-failed : (events : List Event) (count : ℕ) → count ≡ counted events → min (count + 1) (2 ^ 64 - 1) ≡ counted (events ++ failed ∷ [])
counted-failed events count is =
    let all : failures (events ++ failed ∷ []) ≡ failures events + failures (failed ∷ []) = failures-append events failed in
    by (failures events) (failures (events ++ failed ∷ [])) all is where
      by : (before after : ℕ) → after ≡ before + 1 → count ≡ min before (2 ^ 64 - 1) → min (count + 1) (2 ^ 64 - 1) ≡ min after (2 ^ 64 - 1)
      by before after more is = omega arith

pub calm-append : (events : List Event) (event : Event) → calm (events ++ event ∷ []) ≡ calm events ++ calm (event ∷ [])
calm-append [] event = refl
calm-append (sent it ∷ events) event = ap (λ (rest : List Event). sent it ∷ rest) (calm-append events event)
calm-append (read it ∷ events) event = ap (λ (rest : List Event). read it ∷ rest) (calm-append events event)
calm-append (nothing address ∷ events) event = ap (λ (rest : List Event). nothing address ∷ rest) (calm-append events event)
calm-append (failed ∷ events) event = calm-append events event

-- a read that is answered did not fail
pub read_counts_none : (local : Address) (buffer : List ℕ) (answer : Option (ℕ × Address)) → failures (read_event local buffer (Ok answer) ∷ []) ≡ 0
read_counts_none local buffer None = refl
read_counts_none local buffer (Some datagram) = refl

-- one more call, by what it answered
pub counts_sent : (events : List Event) (it : Letter) (answered : Result Unit WireFault) (count : ℕ) → count ≡ counted events →
    counted_once (is_ok answered) count ≡ counted (events ++ sent_event it answered ∷ [])
counts_sent events it (Ok done) count is = is ∙ sym (counted-calm events _ refl)
counts_sent events it (Err fault) count is = counted-failed events count is

pub counts_read : (events : List Event) (local : Address) (buffer : List ℕ) (answered : Result (Option (ℕ × Address)) WireFault) (count : ℕ) →
    count ≡ counted events → counted_once (is_ok answered) count ≡ counted (events ++ read_event local buffer answered ∷ [])
counts_read events local buffer (Ok answer) count is = is ∙ sym (counted-calm events _ (read_counts_none local buffer answer))
counts_read events local buffer (Err fault) count is = counted-failed events count is
