-- What the receiver of a remote stream reports to its publisher (Aeron Transport Protocol Specification, loss recovery, and flow
-- and congestion control). A publication of this driver has no publisher elsewhere.
use Rattle.std.specs.Prelude.{◌≡◌, ℕ, Bool, true, false, List, [], ◌∷◌, Option, Some, None}
use Rattle.log_traffic.specs.declared.any_log.AnyLog.{AnyLog}
use Rattle.log_traffic.specs.Frames.{datagrams_of}
use Rattle.log_traffic.specs.Receiver.{Receiving, due_of, log_after, receiver_after}
use Rattle.log_traffic.specs.Whole.{AnyWhole, whole, rebuilt, StandsFor}

-- the datagrams that are due, the NAK first, by a receiver of that id
abbrev pub report_of : ℕ → ℕ → Receiving → AnyWhole → Option (List (List ℕ))
report_of now id receiver (whole w) = None
report_of now id receiver (rebuilt r) = Some (datagrams_of r.ident id (due_of receiver r now))

-- what is due counts as reported
abbrev pub after_report : ℕ → Receiving → AnyWhole → AnyWhole
after_report now receiver (whole w) = whole w
after_report now receiver (rebuilt r) = rebuilt (log_after receiver r now)

abbrev pub receiver_behind : ℕ → Receiving → AnyWhole → Receiving
receiver_behind now receiver (whole w) = receiver
receiver_behind now receiver (rebuilt r) = receiver_after receiver r now

-- there are some
abbrev pub are_some : List (List ℕ) → Bool
are_some [] = false
are_some (bytes ∷ others) = true

-- something is due
abbrev pub is_report : Option (List (List ℕ)) → Bool
is_report None = false
is_report (Some datagrams) = are_some datagrams

-- ---- of a log that is held, whatever it stands for

pub record Reports (log : AnyLog) (now id : ℕ) (receiver : Receiving) (report : Option (List (List ℕ))) : Type 0 where
  pub on : (w : AnyWhole) → StandsFor log w → report ≡ report_of now id receiver w

pub record Receives (log : AnyLog) (now : ℕ) (old new : Receiving) : Type 0 where
  pub on : (w : AnyWhole) → StandsFor log w → new ≡ receiver_behind now old w

pub record IsToReport (log : AnyLog) (now id : ℕ) (receiver : Receiving) : Type 0 where
  pub on : (w : AnyWhole) → StandsFor log w → is_report (report_of now id receiver w) ≡ true
