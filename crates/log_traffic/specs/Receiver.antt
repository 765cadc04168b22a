-- What a receiver reports to the sender of an image (Aeron Transport Protocol Specification, loss recovery, and flow and
-- congestion control).
use Rattle.std.specs.Prelude.{ℕ, Bool, if◌then◌else◌, Option, Some, None}
use Rattle.image_log.specs.Rebuilt.{Rebuilt, gap_of, window_of}
use Rattle.image_log.specs.Status.{is_due, told}
use Rattle.log_traffic.specs.declared.receiver.Due.{Due}
use Rattle.log_traffic.specs.declared.receiver.Status.{Status}
use Rattle.retransmit_gate.specs.Moment.{later_of}
use Rattle.retransmit_gate.specs.Nakker.{Watch, after_tick, nak_of, watching}

-- the interval of status messages, the greatest moment of a tick, and what is known of the gap
pub record Receiving : Type 0 where
  pub interval : ℕ
  pub latest : ℕ
  pub watch : Watch

-- no tick was yet
abbrev pub begun : ℕ → ℕ → ℕ → Receiving
begun interval delay repeat = record { interval = interval; latest = 0; watch = watching delay repeat }

-- the moment that a tick counts as: one before an earlier tick's counts as that
abbrev pub moment_of : Receiving → ℕ → ℕ
moment_of receiver now = later_of receiver.latest now

-- whether a status message is due
abbrev pub tells : ℕ → ℕ → Rebuilt → Bool
tells interval moment r = is_due moment interval r.base (window_of r.ident.term_length) r.status

-- it says the base, and how far above it frames may begin
abbrev pub status_of : Rebuilt → Status
status_of r = record { base = r.base; window = window_of r.ident.term_length }

unfoldable pub status_due : ℕ → ℕ → Rebuilt → Option Status
status_due interval moment r = if tells interval moment r then Some (status_of r) else None

-- the log keeps the status message that it sent last
unfoldable pub after_status : ℕ → ℕ → Rebuilt → Rebuilt
after_status interval moment r =
    if tells interval moment r then record r { status = Some (told moment r.base) } else r

-- What is due at a tick: a NAK of the log's gap, by the two delays, and a status message.
unfoldable pub due_of : Receiving → Rebuilt → ℕ → Due
due_of receiver r now = record {
  nak = nak_of receiver.watch (moment_of receiver now) (gap_of r);
  status = status_due receiver.interval (moment_of receiver now) r;
}

-- what is known after the tick
unfoldable pub receiver_after : Receiving → Rebuilt → ℕ → Receiving
receiver_after receiver r now = record {
  interval = receiver.interval;
  latest = moment_of receiver now;
  watch = after_tick receiver.watch (moment_of receiver now) (gap_of r);
}

-- the log after the tick
abbrev pub log_after : Receiving → Rebuilt → ℕ → Rebuilt
log_after receiver r now = after_status receiver.interval (moment_of receiver now) r
