-- What is due of a log that is held is what is due of each whole log that it stands for.
use Rattle.std.proofs.Common.{◌≡◌, ℕ, ◌+◌, ◌<◌, true, List, [], ◌∷◌, length, Option, Some, None, refl, sym, ap, ap₂, ◌∙◌, arith}
use Rattle.std.specs.Prelude.{◌++◌, Bool, nat_lt}
use Rattle.std.proofs.lemmas.Bool.Decides.{nat_tests}
use Rattle.std.proofs.lemmas.List.{length-append}
use Rattle.std.specs.Option.{is_some, option_map}
use Rattle.std.specs.Result.{OnErr}
use Rattle.std.specs.Prelude.{Result, Ok, Err}
use Rattle.log_traffic.specs.declared.cutting.DatagramKind.{DatagramKind}
use Rattle.log_traffic.specs.declared.cutting.DatagramKind.TheVariants as kinds
use Rattle.log_traffic.specs.declared.cutting.Next.{Next}
use Rattle.log_traffic.specs.declared.cutting.Pace.{Pace}
use Rattle.log_traffic.specs.Cutting.{IsDue, IsNext, SomeDue, bytes_as, datagram_of, due_among, due_of, has_frames}
use Rattle.term_log.specs.declared.ident.Ident.{Ident}
use Rattle.term_log.specs.Frames.{Frame, fragment, front_of, pad, span, total}
use Rattle.term_log.specs.Log.{Log, connected_of}
use Rattle.term_log.specs.Reading.{Given, all_given, sent_bytes, spans}
use Rattle.term_log.specs.Sender.{Sending, budget_of, is_past, is_setup_due}
use Rattle.term_log.specs.SenderSteps.{IsStartIn, ReadsFrom, frames_for, next_frames}
use Rattle.term_log.specs.Whole.{Stands, Whole, is_connected}
use Rattle.term_log.proofs.Fronts.{length-front}

-- ---- the frames of the next datagram

-- what is read from where the sender stands, as far as it may send, are those
pub reads_next : (l : Log) (w : Whole) (position budget : ℕ) (left : List Given) → ReadsFrom l position budget left
    → position ≡ l.sender.position → budget ≡ budget_of l.sender l.kept.ident.mtu → IsStartIn l position → Stands l w
    → left ≡ all_given w.ident w.sender.position (next_frames w)
reads_next l w position budget left reads here some start s =
    let at : position ≡ w.sender.position = here ∙ ap (λ (x : Sending). x.position) s.sender in
    let most : budget ≡ budget_of w.sender w.ident.mtu = some ∙ rw (s.sender, s.ident) refl in
    (reads.on w s (start.on w s)).0
    ∙ ap₂ (λ (p b : ℕ). all_given w.ident p (frames_for w p b)) at most

-- and so are the positions that they take
pub spans_next : (l : Log) (w : Whole) (position budget : ℕ) (left : List Given) → ReadsFrom l position budget left
    → position ≡ l.sender.position → budget ≡ budget_of l.sender l.kept.ident.mtu → IsStartIn l position → Stands l w
    → spans left ≡ total (next_frames w)
spans_next l w position budget left reads here some start s =
    let at : position ≡ w.sender.position = here ∙ ap (λ (x : Sending). x.position) s.sender in
    let most : budget ≡ budget_of w.sender w.ident.mtu = some ∙ rw (s.sender, s.ident) refl in
    (reads.on w s (start.on w s)).1
    ∙ ap₂ (λ (p b : ℕ). total (frames_for w p b)) at most

-- whether some frame may be sent
pub record HasFrames (l : Log) (some : Bool) : Type 0 where
  pub on : (w : Whole) → Stands l w → some ≡ has_frames w

-- each frame is sent with a header, and so with some bytes
some_sent : (i : Ident) (position : ℕ) (f : Frame) → 0 < length (front_of i position f)
some_sent i position (fragment flags payload) =
    omega (arith, length-front i position (fragment flags payload), length-front i position (fragment flags payload))
some_sent i position (pad size) = omega (arith, length-front i position (pad size))

some_bytes : (i : Ident) (position : ℕ) (fs : List Frame)
    → nat_lt 0 (length (sent_bytes (all_given i position fs))) ≡ nat_lt 0 (length fs)
some_bytes i position [] = refl
some_bytes i position (f ∷ fs) =
    let front : List ℕ = front_of i position f in
    let later : List ℕ = sent_bytes (all_given i (position + span f) fs) in
    let some : 0 < length (front ++ later) = omega (arith, some_sent i position f, length-append front later) in
    grind (arith, nat_tests, some)

-- they are those that are read from where the sender stands
pub frames_sent : (l : Log) (position budget : ℕ) (left : List Given) (bytes : List ℕ) → ReadsFrom l position budget left
    → position ≡ l.sender.position → budget ≡ budget_of l.sender l.kept.ident.mtu → IsStartIn l position
    → bytes ≡ sent_bytes left → HasFrames l (nat_lt 0 (length bytes))
frames_sent l position budget left bytes reads here some start is =
    record {
      on = λ w s.
          let all : bytes ≡ sent_bytes (all_given w.ident w.sender.position (next_frames w)) =
          is ∙ ap (λ (gs : List Given). sent_bytes gs) (reads_next l w position budget left reads here some start s) in
          ap (λ (bs : List ℕ). nat_lt 0 (length bs)) all ∙ some_bytes w.ident w.sender.position (next_frames w);
    }

-- ---- what is due

-- the first test decides alone
pub due_setup : (pace : Pace) (now : ℕ) (l : Log) → is_setup_due l.sender (connected_of l now pace.connection_timeout) now pace.setup_interval ≡ true
    → IsDue pace now l (Some kinds.Setup)
unfolding due_of connected_of
due_setup pace now l ready =
    record {
      on = λ w s.
          let same : is_setup_due l.sender (connected_of l now pace.connection_timeout) now pace.setup_interval
          ≡ is_setup_due w.sender (is_connected w now pace.connection_timeout) now pace.setup_interval = rw (s.ident, s.pairs, s.sender) refl in
          rw (sym same ∙ ready) refl;
    }

-- then all three
pub due_behind : (pace : Pace) (now : ℕ) (l : Log) (due : Option DatagramKind) (some : Bool) → HasFrames l some
    → due ≡ due_among (is_setup_due l.sender (connected_of l now pace.connection_timeout) now pace.setup_interval) some (is_past now l.sender.datagram pace.heartbeat_interval)
    → IsDue pace now l due
unfolding due_of connected_of
due_behind pace now l due some has is =
    record { on = λ w s. is ∙ rw (s.ident, s.pairs, s.sender, has.on w s) refl }

-- what holds anyhow holds where it did not come
pub err_given : {A E : Type 0} (P : Type 0) → P → (r : Result A E) → OnErr r P
err_given P is (Ok a) = tt
err_given P is (Err e) = is

-- a datagram is due
pub some_due : (pace : Pace) (now : ℕ) (l : Log) (kind : DatagramKind) → IsDue pace now l (Some kind) → SomeDue pace now l
some_due pace now l kind due = record { on = λ w s. ap (λ (d : Option DatagramKind). is_some d) (sym (due.on w s)) }

-- ---- what is due is cut

-- the bytes of what is due
pub next_is : (pace : Pace) (now : ℕ) (lingers : Bool) (l : Log) (next : Next) → IsDue pace now l (Some next.cut.kind)
    → ((w : Whole) → Stands l w → next.bytes.items ≡ bytes_as lingers w next.cut.kind) → IsNext pace now lingers l (Some next)
unfolding datagram_of
next_is pace now lingers l next due bytes =
    record {
      on = λ w s. (
        due.on w s,
        ap Some (bytes w s) ∙ ap (option_map (bytes_as lingers w)) (due.on w s),
      );
    }

pub next_none : (pace : Pace) (now : ℕ) (lingers : Bool) (l : Log) → IsDue pace now l None → IsNext pace now lingers l None
unfolding datagram_of
next_none pace now lingers l due =
    record { on = λ w s. (due.on w s, ap (option_map (bytes_as lingers w)) (due.on w s)) }
