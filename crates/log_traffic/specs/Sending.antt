-- A turn of the sender with a log (Aeron Transport Protocol Specification, SETUP frames, data frames and heartbeats). Only
-- the log of a publication over datagrams is sent.
use Rattle.std.specs.Prelude.{◌≡◌, ℕ, Bool, true, false, List, Option, Some, None, if◌then◌else◌}
use Rattle.std.specs.Option.{option_map}
use Rattle.log_traffic.specs.declared.any_log.AnyLog.{AnyLog}
use Rattle.log_traffic.specs.declared.any_log.AnyLog.TheVariants.{Term, Image}
use Rattle.log_traffic.specs.Whole.{AnyWhole, whole, rebuilt, StandsFor}
use Rattle.log_traffic.specs.declared.cutting.Cut.{Cut}
use Rattle.log_traffic.specs.declared.cutting.DatagramKind.{DatagramKind}
use Rattle.log_traffic.specs.declared.cutting.Next.{Next}
use Rattle.log_traffic.specs.declared.cutting.Pace.{Pace}
use Rattle.log_traffic.specs.Cutting.{IsCut, bytes_next, cut_of, datagram_of, due_of, kind_next, passed}
use Rattle.term_log.specs.Ident.{is_udp}

-- what is due, if anything is; of a log that is not sent there is nothing to say
abbrev pub due_in : Pace → ℕ → AnyWhole → Option (Option DatagramKind)
due_in pace now (whole w) = if is_udp w.ident.kind then Some (due_of pace now w) else None
due_in pace now (rebuilt r) = None

-- the datagram that is cut, if one is due
abbrev pub turn_of : Pace → ℕ → Bool → AnyWhole → Option (Option (List ℕ))
turn_of pace now lingers (whole w) = if is_udp w.ident.kind then Some (datagram_of pace now lingers w) else None
turn_of pace now lingers (rebuilt r) = None

abbrev pub is_some_due : Option (Option DatagramKind) → Bool
is_some_due (Some (Some kind)) = true
is_some_due due = false

-- the log moves on by what was cut, whoever gets it
abbrev pub after_turn : Pace → ℕ → AnyWhole → AnyWhole
after_turn pace now (whole w) = if is_udp w.ident.kind then whole (cut_of pace now w) else whole w
after_turn pace now (rebuilt r) = rebuilt r

-- it moves on by what was cut, whoever gets it
abbrev pub passed_in : ℕ → DatagramKind → AnyWhole → AnyWhole
passed_in now kind (whole w) = whole (passed now kind w)
passed_in now kind (rebuilt r) = rebuilt r

-- ---- of a log that is held, whatever it stands for

abbrev pub kind_of : Option (Option Next) → Option (Option DatagramKind)
kind_of next = option_map kind_next next

abbrev pub datagram_in : Option (Option Next) → Option (Option (List ℕ))
datagram_in next = option_map bytes_next next

-- the datagram that is due, if one is
pub record IsNextOf (log : AnyLog) (pace : Pace) (now : ℕ) (lingers : Bool) (next : Option (Option Next)) : Type 0 where
  pub on : (w : AnyWhole) → StandsFor log w → (kind_of next ≡ due_in pace now w) × (datagram_in next ≡ turn_of pace now lingers w)

-- a datagram is due
pub record SomeDueOf (log : AnyLog) (pace : Pace) (now : ℕ) : Type 0 where
  pub on : (w : AnyWhole) → StandsFor log w → is_some_due (due_in pace now w) ≡ true

-- the log can move on by it
abbrev pub IsCutOf : AnyLog → Cut → Type 0
IsCutOf (Term log) cut = IsCut log cut
IsCutOf (Image log) cut = ⊥

abbrev pub CanPass : AnyLog → Option (Option Next) → Type 0
CanPass log (Some (Some next)) = IsCutOf log next.cut
CanPass log next = Unit {0}
