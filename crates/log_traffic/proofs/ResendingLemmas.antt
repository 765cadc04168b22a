-- What a log that is held sends again is what each whole log does that it stands for.
use Rattle.std.proofs.Common.{◌≡◌, ◌<◌, ◌≤◌, ℕ, ◌+◌, ◌-◌, ◌*◌, ◌/◌, ◌%◌, pos, Bool, true, false, cond, not, List, [], ◌∷◌, length, max, min, refl, sym, ap, ap₂, ◌∙◌, arith, unsigned_abs}
use Rattle.std.specs.Prelude.{◌&&◌, filter, int_le, nat_le, if◌then◌else◌}
use Rattle.std.specs.List.{list_any}
use Rattle.std.proofs.lemmas.Bool.Decides.{nat_tests}
use Rattle.std.proofs.lemmas.Nat.{div-add-mod', mul-le}
use Rattle.frame_codec.specs.declared.nak.Nak.{Nak}
use Rattle.log_traffic.specs.Datagrams.{datagrams_of}
use Rattle.log_traffic.specs.Resending.{ResendsOver, asked_at, asking_at, asking_in, asking_of, resent_of, window_at}
use Rattle.retransmit_gate.specs.declared.answer.Answer.TheVariants.{Resend, Lingering, Busy, OutOfWindow, Empty}
use Rattle.retransmit_gate.specs.Gate.{Resends, answer_of, is_within, lingering, meets as shares}
use Rattle.retransmit_gate.specs.Moment.{later_of}
use Rattle.retransmit_gate.specs.ResendLaws.{Asking, answer_to}
use Rattle.term_log.specs.declared.ident.Ident.{Ident}
use Rattle.term_log.specs.declared.ranges.FramesOver.{FramesOver}
use Rattle.term_log.specs.Frames.{Frame, IsFrame, IsRun, span, total}
use Rattle.term_log.specs.Ident.{IsIdent}
use Rattle.term_log.specs.Log.{Log}
use Rattle.term_log.specs.Ranges.{GivesOver, is_over, meets, over_left}
use Rattle.term_log.specs.Reading.{Given, all_given, given}
use Rattle.term_log.specs.Sender.{Sending}
use Rattle.term_log.specs.Whole.{Stands, Whole, tail_of}
use Rattle.term_log.proofs.Stands.{frame_fits}

-- ---- what is asked

pub asks_same : (now : ℕ) (l : Log) (w : Whole) (nak : Nak) → Stands l w → asking_of now l nak ≡ asking_in now w nak
asks_same now l w nak s =
    let tail : l.kept.tail ≡ tail_of w = s.frames.tail ∙ ap (λ (i : Ident). i.start + total w.frames) s.ident in
    ap (λ (i : Ident). asking_at now i l.kept.tail l.sender.position nak) s.ident
    ∙ ap (λ (n : ℕ). asking_at now w.ident n l.sender.position nak) tail
    ∙ ap (λ (x : Sending). asking_at now w.ident (tail_of w) x.position nak) s.sender

within_test : (a b c d : Bool) → (if a then Empty else if not b then OutOfWindow else if c then Lingering else if d then Busy else Resend) ≡ Resend
    → b ≡ true
within_test true b c d is = absurd cc
within_test false false c d is = absurd cc
within_test false true c d is = refl

-- what is sent again lies in the window
granted_within : (gate : Resends) (asking : Asking) → answer_to gate asking ≡ Resend → asking.window.start ≤ asking.position
unfolding answer_of
granted_within gate asking is =
    let list = lingering gate.linger (later_of gate.latest asking.now) gate.list in
    let within = within_test (int_le asking.size (pos 0)) (is_within asking.position (unsigned_abs asking.size) asking.window)
    (list_any (shares asking.position (asking.position + unsigned_abs asking.size)) list) (nat_le 16 (length list)) is in
    grind (arith, nat_tests, within)

-- so it is held
abbrev low_at : Ident → ℕ → ℕ
low_at i tail = max i.start ((tail / i.term_length - 2) * i.term_length)

granted_held : (i : Ident) (tail sent position : ℕ) → (window_at i tail sent).start ≤ position → low_at i tail ≤ position
unfolding window_at
granted_held i tail sent position within = omega (arith, within)

-- ---- which frames meet what is held

-- what begins in a term and does not cross its end ends at or below each later term's start
ends_below : (at size term terms : ℕ) → 0 < term → at < terms * term → at % term + size ≤ term → at + size ≤ terms * term
ends_below at size term terms some before fits =
    let own = div-add-mod' at term in
    elim (nat_le terms (at / term)) as (λ b. nat_le terms (at / term) ≡ b → at + size ≤ terms * term) [
      | true ↦ λ over.
          let least : terms ≤ at / term = grind (arith, nat_tests, over) in
          let under : terms * term ≤ at / term * term = mul-le terms term (at / term) term least (omega arith) in
          absurd (omega arith)
      | false ↦ λ below.
          let more : at / term + 1 ≤ terms = grind (arith, nat_tests, below) in
          let up : (at / term + 1) * term ≡ at / term * term + term = omega arith in
          let above : (at / term + 1) * term ≤ terms * term = mul-le (at / term + 1) term terms term more (omega arith) in
          omega arith
    ]
    refl

-- a frame that is not held meets nothing that is
held_where_met : (i : Ident) (tail position size at : ℕ) (f : Frame) → 0 < i.term_length → i.start ≤ at → IsFrame i at f → low_at i tail ≤ position
    → is_over (low_at i tail) position size (given i at f) ≡ meets position size (given i at f)
held_where_met i tail position size at f some start is low =
    elim (nat_le (low_at i tail) at) as (λ b. nat_le (low_at i tail) at ≡ b → (b && meets position size (given i at f)) ≡ meets position size (given i at f)) [
      | true ↦ λ held. refl
      | false ↦ λ below.
          let under : at < low_at i tail = grind (arith, nat_tests, below) in
          let before : at < (tail / i.term_length - 2) * i.term_length = omega (arith, under, start) in
          let ends = ends_below at (span f) i.term_length (tail / i.term_length - 2) some before (frame_fits i at f is) in
          let apart : min (at + span f) (position + size) ≤ max at position = omega (arith, ends, low) in
          let none : meets position size (given i at f) ≡ false = grind (arith, nat_tests, apart) in
          sym none
    ]
    refl

all_held : (i : Ident) (tail position size at : ℕ) (fs : List Frame) → 0 < i.term_length → i.start ≤ at → IsRun i at fs → low_at i tail ≤ position
    → filter (is_over (low_at i tail) position size) (all_given i at fs) ≡ filter (meets position size) (all_given i at fs)
all_held i tail position size at [] some start run low = refl
all_held i tail position size at (f ∷ fs) some start run low =
    ap₂ (λ (b : Bool) (others : List Given). cond b (given i at f ∷ others) others) (held_where_met i tail position size at f some start run.0 low)
    (all_held i tail position size (at + span f) fs some (omega (arith, start)) run.1 low)

pub resends_over : (gate : Resends) (now : ℕ) (l : Log) (nak : Nak) (over : FramesOver) → IsIdent l.kept.ident
    → answer_to gate (asking_of now l nak) ≡ Resend
    → GivesOver l.kept (asked_at l.kept.ident nak) (unsigned_abs nak.length) (over_left over)
    → ResendsOver l nak (record { mtu = l.kept.ident.mtu; datagrams = datagrams_of l.kept.ident.term_length l.kept.ident.mtu (over_left over) })
unfolding resent_of
resends_over gate now l nak over sound granted gives =
    let own : Ident = l.kept.ident in
    let at : ℕ = asked_at own nak in
    let size : ℕ = unsigned_abs nak.length in
    let term_low = sound.term_low in
    let low = granted_held own l.kept.tail l.sender.position at (granted_within gate (asking_of now l nak) granted) in
    record {
      mtu = refl;
      on = λ w s.
          ap (datagrams_of own.term_length own.mtu)
          (gives.on w.frames s.frames ∙ all_held own l.kept.tail at size own.start w.frames (omega arith) (omega arith) s.frames.sound low)
          ∙ ap (λ (i : Ident). datagrams_of i.term_length i.mtu (filter (meets (asked_at i nak) size) (all_given i i.start w.frames))) s.ident;
    }
