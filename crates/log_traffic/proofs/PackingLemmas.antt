-- Datagrams have exactly the frames that go into them.
use Rattle.std.proofs.Common.{◌≡◌, ◌≤◌, ℕ, zero, suc, ◌+◌, ◌-◌, ◌/◌, true, false, List, [], ◌∷◌, length, refl, sym, ap, subst, ◌∙◌, arith, length-append}
use Rattle.std.specs.Prelude.{◌++◌, All, drop, nat_le, unsigned_abs, if◌then◌else◌}
use Rattle.std.proofs.lemmas.Bool.{eq-eqb}
use Rattle.std.proofs.lemmas.Bool.Decides.{nat_tests}
use Rattle.std.proofs.lemmas.List.{length-drop}
use Rattle.std.proofs.lemmas.List.Elements.{All-cons, All-drop, All-filter, All-head, All-nil, All-tail}
use Rattle.frame_codec.specs.declared.nak.Nak.{Nak}
use Rattle.log_traffic.specs.Datagrams.{ahead, datagrams_in, datagrams_of, first_run, fits, fitting}
use Rattle.log_traffic.specs.ResendLaws.{Carry, IsFull, IsSound, SameTerm}
use Rattle.log_traffic.specs.Resending.{asked_at, asked_of, resent_of}
use Rattle.log_traffic.proofs.DatagramLemmas.{fits_within}
use Rattle.term_log.proofs.Sizes.{length-data_bytes, length-pad_bytes}
use Rattle.term_log.specs.declared.ident.Ident.{Ident}
use Rattle.term_log.specs.Frames.{Frame, IsFrame, IsRun, fragment, front_of, pad, pad_flags, span}
use Rattle.term_log.specs.Ident.{IsIdent, place_at}
use Rattle.term_log.specs.Log.{Log}
use Rattle.term_log.specs.Ranges.{meets}
use Rattle.term_log.specs.Reading.{Given, all_given, given, sent_bytes}
use Rattle.term_log.specs.Whole.{Stands, Whole}

-- ---- no frame has more bytes than the MTU

abbrev IsShort : ℕ → Given → Type 0
IsShort mtu g = length g.bytes ≤ mtu

front_short : (i : Ident) (position : ℕ) (f : Frame) → IsIdent i → IsFrame i position f → length (front_of i position f) ≤ i.mtu
front_short i position (fragment flags payload) sound is =
    omega (arith, sound.mtu_aligned, is.0, length-data_bytes flags (place_at i position) payload)
front_short i position (pad size) sound is =
    omega (arith, sound.mtu_low, length-pad_bytes pad_flags (place_at i position) size)

all_short : (i : Ident) (position : ℕ) (fs : List Frame) → IsIdent i → IsRun i position fs → All (IsShort i.mtu) (all_given i position fs)
all_short i position [] sound run = All-nil (IsShort i.mtu)
all_short i position (f ∷ fs) sound run =
    All-cons (IsShort i.mtu) (given i position f) (all_given i (position + span f) fs)
    (front_short i position f sound run.0) (all_short i (position + span f) fs sound run.1)

-- ---- the run of one datagram

-- it stands at the front
fitting_front : (term number budget : ℕ) (gs : List Given)
    → fitting term number budget gs ++ drop (length (fitting term number budget gs)) gs ≡ gs
fitting_front term number budget [] = refl
fitting_front term number budget (g ∷ gs) =
    let others : List Given = fitting term number (budget - length g.bytes) gs in
    elim (fits term number budget g) as (λ b. (if b then g ∷ others else []) ++ drop (length (if b then g ∷ others else [])) (g ∷ gs) ≡ g ∷ gs) [
      | true ↦ ap (λ (hs : List Given). g ∷ hs) (fitting_front term number (budget - length g.bytes) gs)
      | false ↦ refl
    ]

-- its bytes are within the budget
fitting_size : (term number budget : ℕ) (gs : List Given) → length (sent_bytes (fitting term number budget gs)) ≤ budget
fitting_size term number budget [] = omega arith
fitting_size term number budget (g ∷ gs) =
    let others : List Given = fitting term number (budget - length g.bytes) gs in
    let less = fitting_size term number (budget - length g.bytes) gs in
    elim (fits term number budget g) as (λ b. fits term number budget g ≡ b → length (sent_bytes (if b then g ∷ others else [])) ≤ budget) [
      | true ↦ λ is. omega (arith, less, fits_within term number budget g is, length-append g.bytes (sent_bytes others))
      | false ↦ λ is. omega arith
    ]
    refl

-- each is of the first one's term
fitting_term : (term budget : ℕ) (first : Given) (gs : List Given)
    → All (λ h. SameTerm term h first) (fitting term (first.position / term) budget gs)
fitting_term term budget first [] = All-nil (λ (h : Given). SameTerm term h first)
fitting_term term budget first (g ∷ gs) =
    let others : List Given = fitting term (first.position / term) (budget - length g.bytes) gs in
    let rest = fitting_term term (budget - length g.bytes) first gs in
    elim (fits term (first.position / term) budget g) as (λ b. fits term (first.position / term) budget g ≡ b
    → All (λ h. SameTerm term h first) (if b then g ∷ others else [])) [
      | true ↦ λ is.
          let same : g.position / term ≡ first.position / term = grind (arith, nat_tests, is) in
          All-cons (λ (h : Given). SameTerm term h first) g others same rest
      | false ↦ λ is. All-nil (λ (h : Given). SameTerm term h first)
    ]
    refl

full_more : (term budget : ℕ) (first g : Given) (run behind : List Given) → length g.bytes ≤ budget
    → IsFull term (budget - length g.bytes) first run behind → IsFull term budget first (g ∷ run) behind
full_more term budget first g run [] within full = full
full_more term budget first g run (h ∷ hs) within full =
    λ same. omega (arith, full same, within, length-append g.bytes (sent_bytes run))

-- and the frame behind it does not go into it
fitting_full : (term budget : ℕ) (first : Given) (gs : List Given)
    → IsFull term budget first (fitting term (first.position / term) budget gs)
    (drop (length (fitting term (first.position / term) budget gs)) gs)
fitting_full term budget first [] = tt
fitting_full term budget first (g ∷ gs) =
    let number : ℕ = first.position / term in
    let others : List Given = fitting term number (budget - length g.bytes) gs in
    let rest = fitting_full term (budget - length g.bytes) first gs in
    elim (fits term number budget g) as (λ b. fits term number budget g ≡ b
    → IsFull term budget first (if b then g ∷ others else []) (drop (length (if b then g ∷ others else [])) (g ∷ gs))) [
      | true ↦ λ is. full_more term budget first g others (drop (length others) gs) (fits_within term number budget g is) rest
      | false ↦ λ is same.
          let long : nat_le (length g.bytes) budget ≡ false = sym (rw (eq-eqb (g.position / term) number same) refl) ∙ is in
          grind (arith, nat_tests, long)
    ]
    refl

-- ---- the datagrams one after the other

pub datagrams_carry : (n term mtu : ℕ) (gs : List Given) → length gs ≤ n → All (IsShort mtu) gs → Carry term mtu gs (datagrams_in n term mtu gs)
datagrams_carry zero term mtu [] less short = record { runs = []; bytes = refl; together = refl; packed = tt }
datagrams_carry zero term mtu (g ∷ gs) less short = absurd (omega (arith, less))
datagrams_carry (suc n) term mtu [] less short = record { runs = []; bytes = refl; together = refl; packed = tt }
datagrams_carry (suc n) term mtu (g ∷ gs) less short =
    let number : ℕ = g.position / term in
    let others : List Given = fitting term number (mtu - length g.bytes) gs in
    let left : List Given = drop (length others) gs in
    let within : length g.bytes ≤ mtu = All-head (IsShort mtu) g gs short in
    let admits : nat_le (length g.bytes) mtu ≡ true = grind (arith, nat_tests, within) in
    let run : first_run term mtu (g ∷ gs) ≡ g ∷ others = rw (eq-eqb number number refl, admits) refl in
    let later = datagrams_carry n term mtu left (omega (arith, less, length-drop (length others) gs))
    (All-drop (IsShort mtu) (length others) gs (All-tail (IsShort mtu) g gs short)) in
    let full : IsFull term mtu g (g ∷ others) left =
    full_more term mtu g g others left within (fitting_full term (mtu - length g.bytes) g gs) in
    record {
      runs = (g ∷ others) ∷ later.runs;
      bytes = ap (λ (hs : List Given). ahead hs (datagrams_in n term mtu (drop (length hs) (g ∷ gs)))) run
          ∙ ap (λ (ds : List (List ℕ)). sent_bytes (g ∷ others) ∷ ds) later.bytes;
      together = ap (λ (hs : List Given). g ∷ others ++ hs) later.together
          ∙ ap (λ (hs : List Given). g ∷ hs) (fitting_front term number (mtu - length g.bytes) gs);
      packed = (
        (
          fitting_term term (mtu - length g.bytes) g gs,
          omega (arith, within, fitting_size term number (mtu - length g.bytes) gs, length-append g.bytes (sent_bytes others)),
          subst (λ (hs : List Given). IsFull term mtu g (g ∷ others) hs) (sym later.together) full,
        ),
        later.packed,
      );
    }

pub resends_carry : (w : Whole) (nak : Nak) → IsSound w → Carry w.ident.term_length w.ident.mtu (asked_of w nak) (resent_of w nak)
unfolding datagrams_of resent_of
resends_carry w nak sound =
    let all : List Given = all_given w.ident w.ident.start w.frames in
    datagrams_carry (length (asked_of w nak)) w.ident.term_length w.ident.mtu (asked_of w nak) (omega arith)
    (All-filter (meets (asked_at w.ident nak) (unsigned_abs nak.length)) (IsShort w.ident.mtu) all
    (all_short w.ident w.ident.start w.frames sound.ident sound.run))

pub held_sound : (l : Log) (w : Whole) → IsIdent l.kept.ident → Stands l w → IsSound w
held_sound l w sound s =
    record {
      ident = subst IsIdent s.ident sound;
      run = subst (λ (i : Ident). IsRun i i.start w.frames) s.ident s.frames.sound;
    }
