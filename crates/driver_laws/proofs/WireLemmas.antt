-- What is cut of a log, and what is sent again, are frames of it as the wire has them.
use Rattle.std.proofs.Common.{◌≡◌, ◌≤◌, ◌<◌, ℕ, suc, ◌+◌, ◌-◌, ◌*◌, ◌/◌, ◌%◌, Bool, true, false, List, [], ◌∷◌, ◌++◌, length, map, Option, Some, None, inl, inr, refl, sym, ap, ap₂, subst, ◌∙◌, arith, append_assoc, length-append}
use Rattle.std.specs.Prelude.{All, nat_le, nat_lt, unsigned_abs, if◌then◌else◌}
use Rattle.std.specs.Option.{option_map}
use Rattle.std.proofs.lemmas.Bool.Decides.{nat_tests}
use Rattle.std.proofs.lemmas.List.Elements.{All-cons, All-filter, All-head, All-nil, All-tail}
use Rattle.std.proofs.lemmas.Nat.{div-add-mod', div-mul-add}
use Rattle.driver_laws.specs.Wire.{AreOneDatagram, CarryExactly, IsDatagramTo, frames_named, wire_bytes, written_at}
use Rattle.frame_codec.specs.declared.nak.Nak.{Nak}
use Rattle.frame_codec.specs.Written.{written_bytes}
use Rattle.log_traffic.specs.declared.cutting.DatagramKind.{DatagramKind}
use Rattle.log_traffic.specs.declared.cutting.DatagramKind.TheVariants as kinds
use Rattle.log_traffic.specs.declared.cutting.Pace.{Pace}
use Rattle.log_traffic.specs.Cutting.{after_due, beat_flags, bytes_as, cut_of, datagram_of, due_among, due_of, frames_bytes, has_frames, setup_at}
use Rattle.log_traffic.specs.ResendLaws.{ArePacked, IsSound, joined}
use Rattle.log_traffic.specs.Resending.{resent_of}
use Rattle.log_traffic.proofs.PackingLemmas.{resends_carry}
use Rattle.term_log.proofs.Sizes.{length-data_bytes, length-pad_bytes}
use Rattle.term_log.specs.declared.ident.Ident.{Ident}
use Rattle.term_log.specs.Frames.{Frame, fragment, front_of, pad, pad_flags, span, total}
use Rattle.term_log.specs.Ident.{place_at}
use Rattle.term_log.specs.Kept.{IsStart}
use Rattle.term_log.specs.Ranges.{meets}
use Rattle.term_log.specs.Reading.{Given, all_given, given, of_term, sent_bytes, sent_size, within}
use Rattle.term_log.specs.Sender.{budget_of}
use Rattle.term_log.specs.SenderSteps.{datagram_cut, frames_for, next_frames, sent_on, sent_to, setup_cut}
use Rattle.term_log.specs.Whole.{Whole, frames_behind}

-- ---- the bytes of frames

-- what is given of a frame is what the wire has of it
abbrev pub IsOnWire : Ident → Given → Type 0
IsOnWire i g = g.bytes ≡ written_bytes (written_at i g.position g.frame)

front_written : (i : Ident) (position : ℕ) (f : Frame) → front_of i position f ≡ written_bytes (written_at i position f)
front_written i position (fragment flags payload) = refl
front_written i position (pad size) = refl

pub all_on_wire : (i : Ident) (position : ℕ) (fs : List Frame) → All (IsOnWire i) (all_given i position fs)
all_on_wire i position [] = All-nil (IsOnWire i)
all_on_wire i position (f ∷ fs) =
    All-cons (IsOnWire i) (given i position f) (all_given i (position + span f) fs) (front_written i position f)
    (all_on_wire i (position + span f) fs)

pub sent_wire : (i : Ident) (gs : List Given) → All (IsOnWire i) gs → sent_bytes gs ≡ wire_bytes i gs
sent_wire i [] on = refl
sent_wire i (g ∷ gs) on =
    ap₂ (λ (a b : List ℕ). a ++ b) (All-head (IsOnWire i) g gs on) (sent_wire i gs (All-tail (IsOnWire i) g gs on))

-- ---- frames of one term

-- what begins before the end of a term is of that term
same_term : (at size term : ℕ) → 0 < term → at % term + size < term → (at + size) / term ≡ at / term
same_term at size term some before =
    let split = div-add-mod' at term in
    let here : at + size ≡ at / term * term + (at % term + size) = omega (arith, split) in
    ap (λ (x : ℕ). x / term) here ∙ div-mul-add (at / term) term (at % term + size) before

abbrev IsOfTerm : ℕ → ℕ → Given → Type 0
IsOfTerm term number g = g.position / term ≡ number

term_frames : (i : Ident) (number position : ℕ) (fs : List Frame) → position / i.term_length ≡ number →
    All (IsOfTerm i.term_length number) (all_given i position (of_term i.term_length position fs))
term_frames i number position [] is = All-nil (IsOfTerm i.term_length number)
term_frames i number position (f ∷ fs) is =
    let term : ℕ = i.term_length in
    let P : Given → Type 0 = IsOfTerm term number in
    let later : List Frame = of_term term (position + span f) fs in
    elim (nat_le term (position % term + span f)) as (λ b. nat_le term (position % term + span f) ≡ b →
    All P (all_given i position (f ∷ (if b then [] else later)))) [
      | true ↦ λ over. All-cons P (given i position f) [] is (All-nil P)
      | false ↦ λ under.
          let before : position % term + span f < term = grind (arith, nat_tests, under) in
          let goes : (position + span f) / term ≡ number =
          same_term position (span f) term (omega (arith, before)) before ∙ is in
          All-cons P (given i position f) (all_given i (position + span f) later) is (term_frames i number (position + span f) fs goes)
    ]
    refl

-- ---- frames within a budget

within_frames : (P : Given → Type 0) (i : Ident) (position budget : ℕ) (fs : List Frame) → All P (all_given i position fs) →
    All P (all_given i position (within budget fs))
within_frames P i position budget [] all = all
within_frames P i position budget (f ∷ fs) all =
    let later : List Frame = within (budget - sent_size f) fs in
    let rest : List Given = all_given i (position + span f) fs in
    elim (nat_lt budget (sent_size f)) as (λ b. All P (all_given i position (if b then [] else f ∷ later))) [
      | true ↦ All-nil P
      | false ↦
          All-cons P (given i position f) (all_given i (position + span f) later) (All-head P (given i position f) rest all)
          (within_frames P i (position + span f) (budget - sent_size f) fs (All-tail P (given i position f) rest all))
    ]

front_size : (i : Ident) (position : ℕ) (f : Frame) → length (front_of i position f) ≡ sent_size f
front_size i position (fragment flags payload) = length-data_bytes flags (place_at i position) payload
front_size i position (pad size) = length-pad_bytes pad_flags (place_at i position) size

within_size : (i : Ident) (position budget : ℕ) (fs : List Frame) →
    length (sent_bytes (all_given i position (within budget fs))) ≤ budget
within_size i position budget [] = omega arith
within_size i position budget (f ∷ fs) =
    let later : List Frame = within (budget - sent_size f) fs in
    let others : List ℕ = sent_bytes (all_given i (position + span f) later) in
    elim (nat_lt budget (sent_size f)) as (λ b. nat_lt budget (sent_size f) ≡ b →
    length (sent_bytes (all_given i position (if b then [] else f ∷ later))) ≤ budget) [
      | true ↦ λ over. omega arith
      | false ↦ λ fits.
          let size : sent_size f ≤ budget = grind (arith, nat_tests, fits) in
          let less = within_size i (position + span f) (budget - sent_size f) fs in
          let both = length-append (front_of i position f) others in
          let first = front_size i position f in
          omega (arith, size, less, both, first)
    ]
    refl

-- ---- the frames that are due

-- a list begins with another one
record Begins (front all : List Frame) : Type 0 where
  rest : List Frame
  is : all ≡ front ++ rest

within_begins : (budget : ℕ) (fs : List Frame) → Begins (within budget fs) fs
within_begins budget [] = record { rest = []; is = refl }
within_begins budget (f ∷ fs) =
    let others = within_begins (budget - sent_size f) fs in
    elim (nat_lt budget (sent_size f)) as (λ b. Begins (if b then [] else f ∷ within (budget - sent_size f) fs) (f ∷ fs)) [
      | true ↦ record { rest = f ∷ fs; is = refl }
      | false ↦ record { rest = others.rest; is = ap (λ (gs : List Frame). f ∷ gs) others.is }
    ]

term_begins : (term position : ℕ) (fs : List Frame) → Begins (of_term term position fs) fs
term_begins term position [] = record { rest = []; is = refl }
term_begins term position (f ∷ fs) =
    let others = term_begins term (position + span f) fs in
    elim (nat_le term (position % term + span f)) as (λ b. Begins (f ∷ (if b then [] else of_term term (position + span f) fs)) (f ∷ fs)) [
      | true ↦ record { rest = fs; is = refl }
      | false ↦ record { rest = others.rest; is = ap (λ (gs : List Frame). f ∷ gs) others.is }
    ]

both_begin : (front middle all : List Frame) → Begins front middle → Begins middle all → Begins front all
both_begin front middle all first second = record {
  rest = first.rest ++ second.rest;
  is = second.is ∙ ap (λ (fs : List Frame). fs ++ second.rest) first.is ∙ append_assoc front first.rest second.rest;
}

-- the frames from a start on, and those before it
record From (position at : ℕ) (frames : List Frame) : Type 0 where
  before : List Frame
  is : frames ≡ before ++ frames_behind at position frames
  place : at ≡ position + total before

from_first : (position at : ℕ) (f : Frame) (fs : List Frame) (b : Bool) → nat_le at position ≡ b →
    (b ≡ true → at ≡ position) → (b ≡ false → From (position + span f) at fs) → From position at (f ∷ fs)
from_first position at f fs true is first later =
    record { before = []; is = rw is refl; place = omega (arith, first refl) }
from_first position at f fs false is first later =
    let rest = later refl in
    let place = rest.place in
    record {
      before = f ∷ rest.before;
      is = rw is (ap (λ (gs : List Frame). f ∷ gs) rest.is);
      place = omega (arith, place);
    }

from_both : (position at : ℕ) (before after : List Frame) → at ≡ position + total before → From position at (before ++ after)
from_both position at [] [] is = record { before = []; is = refl; place = is }
from_both position at [] (f ∷ fs) is =
    from_first position at f fs (nat_le at position) refl (λ first. omega (arith, is))
    (λ later. absurd (grind (arith, nat_tests, is, later)))
from_both position at (f ∷ fs) after is =
    from_first position at f (fs ++ after) (nat_le at position) refl (λ first. grind (arith, nat_tests, is, first))
    (λ later. from_both (position + span f) at fs after (omega (arith, is)))

-- the frames of the next datagram, those before them and those after them
pub record AreDue (w : Whole) : Type 0 where
  pub before : List Frame
  pub later : List Frame
  pub is : w.frames ≡ before ++ (next_frames w ++ later)
  pub place : w.sender.position ≡ w.ident.start + total before

pub due_frames : (w : Whole) → IsStart w.ident.start w.frames w.sender.position → AreDue w
unfolding frames_for
due_frames w start =
    let at : ℕ = w.sender.position in
    let from : From w.ident.start at w.frames =
    subst (From w.ident.start at) (sym start.is) (from_both w.ident.start at start.before start.after start.place) in
    let behind : List Frame = frames_behind at w.ident.start w.frames in
    let here : List Frame = of_term w.ident.term_length at behind in
    let budget : ℕ = budget_of w.sender w.ident.mtu in
    let front = both_begin (within budget here) here behind (within_begins budget here) (term_begins w.ident.term_length at behind) in
    record {
      before = from.before;
      later = front.rest;
      is = from.is ∙ ap (λ (fs : List Frame). from.before ++ fs) front.is;
      place = from.place;
    }

given_length : (i : Ident) (position : ℕ) (fs : List Frame) → length (all_given i position fs) ≡ length fs
given_length i position [] = refl
given_length i position (f ∷ fs) = ap suc (given_length i (position + span f) fs)

due_one : (w : Whole) → has_frames w ≡ true → AreOneDatagram w.ident (all_given w.ident w.sender.position (next_frames w))
unfolding frames_for
due_one w has =
    let i : Ident = w.ident in
    let at : ℕ = w.sender.position in
    let next : List Frame = next_frames w in
    let here : List Frame = of_term i.term_length at (frames_behind at i.start w.frames) in
    let budget : ℕ = budget_of w.sender i.mtu in
    let some : 0 < length next = grind (arith, nat_tests, has) in
    let same = given_length i at next in
    let size = within_size i at budget here in
    let wire : length (sent_bytes (all_given i at next)) ≡ length (wire_bytes i (all_given i at next)) =
    ap length (sent_wire i (all_given i at next) (all_on_wire i at next)) in
    record {
      some = omega (arith, some, same);
      term = at / i.term_length;
      one_term = within_frames (IsOfTerm i.term_length (at / i.term_length)) i at budget here
          (term_frames i (at / i.term_length) at (frames_behind at i.start w.frames) refl);
      within = omega (arith, size, wire);
    }

-- ---- what is cut

-- a datagram of the log, and what becomes of the log by it
pub record Cuts (w v : Whole) (lingers : Bool) (bytes : List ℕ) : Type 0 where
  pub to : ℕ
  pub holds : IsDatagramTo w lingers bytes to
  pub ident : v.ident ≡ w.ident
  pub frames : v.frames ≡ w.frames
  pub position : v.sender.position ≡ to

frames_due : (setup frames beat : Bool) → due_among setup frames beat ≡ Some kinds.Frames → frames ≡ true
frames_due true frames beat is = absurd (cc is)
frames_due false true beat is = refl
frames_due false false true is = absurd (cc is)
frames_due false false false is = absurd (cc is)

cuts_frames : (now : ℕ) (w : Whole) (lingers : Bool) → IsStart w.ident.start w.frames w.sender.position → has_frames w ≡ true →
    Cuts w (datagram_cut now (sent_on w)) lingers (frames_bytes w)
unfolding datagram_cut sent_on sent_to
cuts_frames now w lingers start has =
    let due = due_frames w start in
    record {
      to = w.sender.position + total (next_frames w);
      holds = inl (record {
        before = due.before;
        cut = next_frames w;
        later = due.later;
        frames_are = due.is;
        from = due.place;
        bytes_are = sent_wire w.ident (all_given w.ident w.sender.position (next_frames w))
            (all_on_wire w.ident w.sender.position (next_frames w));
        one = due_one w has;
        to_is = refl;
      });
      ident = refl;
      frames = refl;
      position = refl;
    }

cuts_setup : (now : ℕ) (w : Whole) (lingers : Bool) →
    Cuts w (setup_cut now w) lingers (bytes_as lingers w kinds.Setup)
unfolding setup_cut
cuts_setup now w lingers = record {
  to = w.sender.position;
  holds = inr (inl (record {
    fields = setup_at w.ident w.sender.position;
    bytes_are = refl;
    session = refl;
    stream = refl;
    initial_term = refl;
    active_term = refl;
    offset = refl;
    term_length = refl;
    mtu = refl;
    to_is = refl;
  }));
  ident = refl;
  frames = refl;
  position = refl;
}

cuts_beat : (now : ℕ) (w : Whole) (lingers : Bool) →
    Cuts w (datagram_cut now w) lingers (bytes_as lingers w kinds.Heartbeat)
unfolding datagram_cut
cuts_beat now w lingers = record {
  to = w.sender.position;
  holds = inr (inr (record { flags = beat_flags lingers; flags_are = refl; bytes_are = refl; to_is = refl }));
  ident = refl;
  frames = refl;
  position = refl;
}

some_is : (a b : List ℕ) → Some a ≡ Some b → a ≡ b
some_is a b is = cc is

cuts_due : (now : ℕ) (w : Whole) (lingers : Bool) (bytes : List ℕ) (due : Option DatagramKind) →
    IsStart w.ident.start w.frames w.sender.position → (due ≡ Some kinds.Frames → has_frames w ≡ true) →
    option_map (bytes_as lingers w) due ≡ Some bytes → Cuts w (after_due now w due) lingers bytes
cuts_due now w lingers bytes None start has is = absurd (cc is)
cuts_due now w lingers bytes (Some kinds.Setup) start has is =
    subst (Cuts w (setup_cut now w) lingers) (some_is _ _ is) (cuts_setup now w lingers)
cuts_due now w lingers bytes (Some kinds.Frames) start has is =
    subst (Cuts w (datagram_cut now (sent_on w)) lingers) (some_is _ _ is) (cuts_frames now w lingers start (has refl))
cuts_due now w lingers bytes (Some kinds.Heartbeat) start has is =
    subst (Cuts w (datagram_cut now w) lingers) (some_is _ _ is) (cuts_beat now w lingers)

frames_wait : (pace : Pace) (now : ℕ) (w : Whole) → due_of pace now w ≡ Some kinds.Frames → has_frames w ≡ true
unfolding due_of
frames_wait pace now w is = frames_due _ (has_frames w) _ is

pub datagram_cuts : (pace : Pace) (now : ℕ) (lingers : Bool) (w : Whole) (bytes : List ℕ) →
    IsStart w.ident.start w.frames w.sender.position → datagram_of pace now lingers w ≡ Some bytes →
    Cuts w (cut_of pace now w) lingers bytes
unfolding datagram_of cut_of
datagram_cuts pace now lingers w bytes start is =
    cuts_due now w lingers bytes (due_of pace now w) start (frames_wait pace now w) is

-- ---- what is sent again

rest_of : (P : Given → Type 0) (xs ys : List Given) → All P (xs ++ ys) → All P ys
rest_of P [] ys all = all
rest_of P (x ∷ xs) ys all = rest_of P xs ys (All-tail P x (xs ++ ys) all)

front_of_both : (P : Given → Type 0) (xs ys : List Given) → All P (xs ++ ys) → All P xs
front_of_both P [] ys all = All-nil P
front_of_both P (x ∷ xs) ys all =
    All-cons P x xs (All-head P x (xs ++ ys) all) (front_of_both P xs ys (All-tail P x (xs ++ ys) all))

wire_runs : (i : Ident) (runs : List (List Given)) → All (IsOnWire i) (joined runs) → map sent_bytes runs ≡ map (wire_bytes i) runs
wire_runs i [] on = refl
wire_runs i (run ∷ runs) on =
    ap₂ (λ (d : List ℕ) (ds : List (List ℕ)). d ∷ ds) (sent_wire i run (front_of_both (IsOnWire i) run (joined runs) on))
    (wire_runs i runs (rest_of (IsOnWire i) run (joined runs) on))

packed_each : (i : Ident) (runs : List (List Given)) → All (IsOnWire i) (joined runs) → ArePacked i.term_length i.mtu runs →
    All (AreOneDatagram i) runs
packed_each i [] on packed = All-nil (AreOneDatagram i)
packed_each i ([] ∷ runs) on packed = absurd packed.0
packed_each i ((g ∷ gs) ∷ runs) on packed =
    let run : List Given = g ∷ gs in
    let term : ℕ = i.term_length in
    let wire = ap length (sent_wire i run (front_of_both (IsOnWire i) run (joined runs) on)) in
    let size = packed.0.1 in
    All-cons (AreOneDatagram i) run runs
    (record {
      some = omega arith;
      term = g.position / term;
      one_term = All-cons (IsOfTerm term (g.position / term)) g gs refl packed.0.0;
      within = omega (arith, wire, size);
    })
    (packed_each i runs (rest_of (IsOnWire i) run (joined runs) on) packed.1)

pub resends_frames : (w : Whole) (fields : Nak) → IsSound w → CarryExactly w.ident (frames_named w fields) (resent_of w fields)
resends_frames w fields sound =
    let all : List Given = all_given w.ident w.ident.start w.frames in
    let carry = resends_carry w fields sound in
    let named : All (IsOnWire w.ident) (frames_named w fields) =
    All-filter (meets _ (unsigned_abs fields.length)) (IsOnWire w.ident) all (all_on_wire w.ident w.ident.start w.frames) in
    let on : All (IsOnWire w.ident) (joined carry.runs) = subst (All (IsOnWire w.ident)) (sym carry.together) named in
    record {
      runs = carry.runs;
      bytes_are = carry.bytes ∙ wire_runs w.ident carry.runs on;
      together = carry.together;
      each = packed_each w.ident carry.runs on carry.packed;
    }
