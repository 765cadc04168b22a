-- What a turn of the sender comes to, by what is due.
use Rattle.std.proofs.Common.{◌≡◌, ℕ, Bool, true, false, cond, List, Some, None, refl, sym, ap}
use Rattle.std.specs.Option.{option_map}
use Rattle.log_traffic.specs.Sending.{after_turn, due_in, passed_in, turn_of}
use Rattle.log_traffic.specs.Whole.{AnyWhole, whole, rebuilt}
use Rattle.log_traffic.specs.declared.cutting.DatagramKind.{DatagramKind}
use Rattle.log_traffic.specs.declared.cutting.Pace.{Pace}
use Rattle.log_traffic.specs.Cutting.{after_due, bytes_as, cut_of, datagram_of, due_of, passed}
use Rattle.term_log.specs.Ident.{is_udp}
use Rattle.term_log.specs.Whole.{Whole}

-- ---- the log is not sent

unsent_by : (b : Bool) (pace : Pace) (now : ℕ) (lingers : Bool) (w : Whole) → cond b (Some (due_of pace now w)) None ≡ None
    → (cond b (Some (datagram_of pace now lingers w)) None ≡ None) × (cond b (whole (cut_of pace now w)) (whole w) ≡ whole w)
unsent_by true pace now lingers w is = absurd (cc is)
unsent_by false pace now lingers w is = (refl, refl)

pub unsent_turn : (pace : Pace) (now : ℕ) (lingers : Bool) (w : AnyWhole) → due_in pace now w ≡ None → turn_of pace now lingers w ≡ None
unsent_turn pace now lingers (whole w) is = (unsent_by (is_udp w.ident.kind) pace now lingers w is).0
unsent_turn pace now lingers (rebuilt r) is = refl

pub unsent_stays : (pace : Pace) (now : ℕ) (w : AnyWhole) → due_in pace now w ≡ None → after_turn pace now w ≡ w
unsent_stays pace now (whole w) is = (unsent_by (is_udp w.ident.kind) pace now false w is).1
unsent_stays pace now (rebuilt r) is = refl

-- ---- nothing is due

idle_by : (b : Bool) (pace : Pace) (now : ℕ) (lingers : Bool) (w : Whole) → cond b (Some (due_of pace now w)) None ≡ Some None
    → (cond b (Some (datagram_of pace now lingers w)) None ≡ Some None) × (cond b (whole (cut_of pace now w)) (whole w) ≡ whole w)
unfolding datagram_of cut_of
idle_by true pace now lingers w is =
    let none : due_of pace now w ≡ None = cc is in
    (ap Some (ap (option_map (bytes_as lingers w)) none), ap whole (ap (after_due now w) none))
idle_by false pace now lingers w is = absurd (cc is)

pub idle_turn : (pace : Pace) (now : ℕ) (lingers : Bool) (w : AnyWhole) → due_in pace now w ≡ Some None → turn_of pace now lingers w ≡ Some None
idle_turn pace now lingers (whole w) is = (idle_by (is_udp w.ident.kind) pace now lingers w is).0
idle_turn pace now lingers (rebuilt r) is = absurd (cc is)

pub idle_stays : (pace : Pace) (now : ℕ) (w : AnyWhole) → due_in pace now w ≡ Some None → after_turn pace now w ≡ w
idle_stays pace now (whole w) is = (idle_by (is_udp w.ident.kind) pace now false w is).1
idle_stays pace now (rebuilt r) is = absurd (cc is)

-- ---- a datagram is due

some_by : (b : Bool) (pace : Pace) (now : ℕ) (lingers : Bool) (w : Whole) (kind : DatagramKind)
    → cond b (Some (due_of pace now w)) None ≡ Some (Some kind) → cond b (Some (datagram_of pace now lingers w)) None ≡ Some (Some (bytes_as lingers w kind))
unfolding datagram_of
some_by true pace now lingers w kind is =
    let due : due_of pace now w ≡ Some kind = cc is in
    ap Some (ap (option_map (bytes_as lingers w)) due)
some_by false pace now lingers w kind is = absurd (cc is)

pub some_turn : (pace : Pace) (now : ℕ) (lingers : Bool) (w : AnyWhole) (kind : DatagramKind) → due_in pace now w ≡ Some (Some kind)
    → (bytes : List ℕ) × (turn_of pace now lingers w ≡ Some (Some bytes))
some_turn pace now lingers (whole w) kind is = (bytes_as lingers w kind, some_by (is_udp w.ident.kind) pace now lingers w kind is)
some_turn pace now lingers (rebuilt r) kind is = absurd (cc is)

-- ---- what is cut moves the log on

passed_by : (b : Bool) (pace : Pace) (now : ℕ) (w : Whole) (kind : DatagramKind) → cond b (Some (due_of pace now w)) None ≡ Some (Some kind)
    → whole (passed now kind w) ≡ cond b (whole (cut_of pace now w)) (whole w)
unfolding cut_of
passed_by true pace now w kind is =
    let due : due_of pace now w ≡ Some kind = cc is in
    ap whole (ap (after_due now w) (sym due))
passed_by false pace now w kind is = absurd (cc is)

pub passed_due : (pace : Pace) (now : ℕ) (w : AnyWhole) (kind : DatagramKind) → due_in pace now w ≡ Some (Some kind)
    → passed_in now kind w ≡ after_turn pace now w
passed_due pace now (whole w) kind is = passed_by (is_udp w.ident.kind) pace now w kind is
passed_due pace now (rebuilt r) kind is = absurd (cc is)
