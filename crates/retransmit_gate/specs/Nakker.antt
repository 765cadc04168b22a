-- When a receiver sends a NAK of a gap (Aeron Transport Protocol Specification, loss recovery): once the gap has lasted
-- longer than a delay, and then whenever the last NAK of it is longer ago than a repeat.
use Rattle.std.specs.Prelude.{ℕ, Bool, ◌==◌, Option, Some, None, if◌then◌else◌}
use Rattle.retransmit_gate.specs.declared.nakker.Missing.{Missing}
use Rattle.retransmit_gate.specs.declared.nakker.Nak.{Nak}
use Rattle.retransmit_gate.specs.Moment.{is_past, later_of}

-- the two delays, the greatest moment seen, and the gap that the last tick had
pub record Watch : Type 0 where
  pub delay : ℕ
  pub repeat : ℕ
  pub latest : ℕ
  pub missing : Option Missing

-- no tick was yet
abbrev pub watching : ℕ → ℕ → Watch
watching delay repeat = record { delay = delay; repeat = repeat; latest = 0; missing = None }

-- a gap of which nothing was known
abbrev pub first_seen : ℕ → ℕ → Missing
first_seen position moment = record { position = position; seen = moment; asked = None }

-- what is known of a gap: what the tick before knew, where the gap is at the same position
abbrev pub known_of : Option Missing → ℕ → ℕ → Missing
known_of None position moment = first_seen position moment
known_of (Some missing) position moment =
    if missing.position == position then missing else first_seen position moment

-- past the repeat since the last NAK of it, or, without one, past the delay since it was first seen
abbrev pub is_due_since : ℕ → ℕ → ℕ → ℕ → Option ℕ → Bool
is_due_since delay repeat moment seen None = is_past moment seen delay
is_due_since delay repeat moment seen (Some asked) = is_past moment asked repeat

abbrev pub is_due : Watch → ℕ → Missing → Bool
is_due watch moment missing = is_due_since watch.delay watch.repeat moment missing.seen missing.asked

-- the NAK of a tick, if one is due
unfoldable pub nak_of : Watch → ℕ → Option (ℕ × ℕ) → Option Nak
nak_of watch now None = None
nak_of watch now (Some gap) =
    if is_due watch (later_of watch.latest now) (known_of watch.missing gap.0 (later_of watch.latest now))
    then Some (record { position = gap.0; length = gap.1 }) else None

-- what is known of the gap after the tick: with a NAK, that it was asked for
abbrev pub asked_if : Bool → ℕ → Missing → Missing
asked_if due moment missing = record {
  position = missing.position;
  seen = missing.seen;
  asked = if due then Some moment else missing.asked;
}

-- the gap that is missing after a tick; without one, what was known of it is forgotten
abbrev pub missing_after : Watch → ℕ → Option (ℕ × ℕ) → Option Missing
missing_after watch moment None = None
missing_after watch moment (Some gap) =
    Some (asked_if (is_due watch moment (known_of watch.missing gap.0 moment)) moment (known_of watch.missing gap.0 moment))

unfoldable pub after_tick : Watch → ℕ → Option (ℕ × ℕ) → Watch
after_tick watch now gap = record {
  delay = watch.delay;
  repeat = watch.repeat;
  latest = later_of watch.latest now;
  missing = missing_after watch (later_of watch.latest now) gap;
}
