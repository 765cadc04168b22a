-- What a sender keeps of the log that it sends: how far it has sent, how far it may, and when it did what (Aeron
-- Transport Protocol Specification, flow control by status messages, SETUP frames and heartbeats).
use Rattle.std.specs.Prelude.{ℕ, ◌+◌, ◌-◌, Bool, true, false, not, ◌&&◌, ◌||◌, nat_lt, max, min, Option, Some, None, if◌then◌else◌, refl}
use Rattle.std.specs.Coded.{Coded, code_by, coded×, coded_ℕ, coded_bool, coded_option}
use Rattle.term_log.specs.declared.status.Status.{Status}
use Rattle.term_log.specs.declared.status.Status.TheVariants.{Accepted, OutOfWindow}

-- the positions up to which it has sent and may send, when the last status message was accepted, whether a SETUP was
-- asked for, and when the last SETUP, and the last datagram of any kind, was cut
pub record Sending : Type 0 where
  pub position : ℕ
  pub limit : ℕ
  pub status : Option ℕ
  pub elicited : Bool
  pub setup : Option ℕ
  pub datagram : Option ℕ

abbrev pub sending_code : Coded Sending
sending_code =
    code_by (ℕ × (ℕ × (Option ℕ × (Bool × (Option ℕ × Option ℕ)))))
    (coded× coded_ℕ (coded× coded_ℕ (coded× (coded_option coded_ℕ) (coded× coded_bool (coded× (coded_option coded_ℕ) (coded_option coded_ℕ))))))
    (λ s. (s.position, (s.limit, (s.status, (s.elicited, (s.setup, s.datagram))))))
    (λ p. record { position = p.0; limit = p.1.0; status = p.1.1.0; elicited = p.1.1.1.0; setup = p.1.1.1.1.0; datagram = p.1.1.1.1.1 })
    (λ _. refl)

-- of a log that begins there nothing was sent, and nobody was heard
abbrev pub sending : ℕ → Sending
sending start = record { position = start; limit = start; status = None; elicited = false; setup = None; datagram = None }

-- past the limit since the last time: what never was is, and at a moment below the last one nothing is, since a
-- difference is at least 0
abbrev pub is_past : ℕ → Option ℕ → ℕ → Bool
is_past now None limit = true
is_past now (Some last) limit = nat_lt limit (now - last)

-- the greatest moment counts
abbrev pub later_of : Option ℕ → ℕ → Option ℕ
later_of None now = Some now
later_of (Some last) now = Some (max last now)

-- a status message that has room after a position: beyond what was sent it is dropped
abbrev pub status_of : Sending → ℕ → ℕ → Status
status_of s position room = if nat_lt s.position position then OutOfWindow else Accepted (max s.limit (position + room))

-- only one that is accepted raises the limit, and counts as heard
abbrev pub limit_after : Status → ℕ → ℕ
limit_after (Accepted limit) before = limit
limit_after OutOfWindow before = before

abbrev pub heard_after : Status → ℕ → Option ℕ → Option ℕ
heard_after (Accepted limit) now before = later_of before now
heard_after OutOfWindow now before = before

abbrev pub after_status : Status → ℕ → Sending → Sending
after_status answer now s = record s { limit = limit_after answer s.limit; status = heard_after answer now s.status }

-- a SETUP was cut: whoever asked for one is answered
abbrev pub after_setup : ℕ → Sending → Sending
after_setup now s = record s { elicited = false; setup = later_of s.setup now; datagram = later_of s.datagram now }

-- a SETUP is due where one was asked for, or where nobody is connected and the last one is past the interval
abbrev pub is_setup_due : Sending → Bool → ℕ → ℕ → Bool
is_setup_due s connected now interval = s.elicited || (not connected && is_past now s.setup interval)

-- how many bytes the next datagram may have
abbrev pub budget_of : Sending → ℕ → ℕ
budget_of s mtu = min mtu (s.limit - s.position)
