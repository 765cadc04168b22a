-- The frames of a datagram, one behind the other.
use Rattle.std.proofs.Common.{◌≡◌, ℕ, zero, suc, ◌+◌, ◌*◌, ◌/◌, ◌<◌, ◌≤◌, true, cond, ltb, List, [], ◌∷◌, length, Some, None, Result, Ok, Err, refl, sym, ap, subst, ◌∙◌, arith}
use Rattle.std.proofs.lemmas.List.{length-drop, nil_from_length}
use Rattle.frame_codec.specs.declared.fault.BadPacket.{BadPacket}
use Rattle.frame_codec.specs.declared.fault.BadPacket.TheVariants.{TooShort, Mixed}
use Rattle.frame_codec.specs.declared.header.Header.{Header}
use Rattle.frame_codec.specs.declared.frames.Frames.{Frames}
use Rattle.frame_codec.specs.Steps.{◌>>=◌, fault_of}
use Rattle.frame_codec.specs.FrameType.{type_of}
use Rattle.frame_codec.specs.Frame.{Sent, padded, frame_of}
use Rattle.frame_codec.specs.Frames.{follows, behind, next_of, later_of, all_later, frames_of, frames_in, frames_left, most_left, and_then}
use Rattle.frame_codec.proofs.Chains.{bind_ok, step, guard_ok, wanted_ok, ok_is}
use Rattle.frame_codec.proofs.Readers.{frame_fits}

-- less is left behind a frame
pub behind_less : (bytes : List ℕ) (frame : Sent) → frame_of bytes ≡ Ok frame → length (behind frame bytes) < length bytes
behind_less bytes frame e =
    let fits = frame_fits bytes frame e in
    let long = fits.0 in
    let within = fits.1 in
    omega (arith, length-drop (padded (length frame.bytes)) bytes)

-- ---- no more frames than there could be

behind_much : (bytes : List ℕ) (frame : Sent) → frame_of bytes ≡ Ok frame → length (behind frame bytes) + 32 ≤ length bytes
behind_much bytes frame e =
    let fits = frame_fits bytes frame e in
    let long = fits.0 in
    let within = fits.1 in
    omega (arith, length-drop (padded (length frame.bytes)) bytes)

most_by : (r : Result Sent BadPacket) (n : ℕ) (bytes : List ℕ) → ((frame : Sent) → r ≡ Ok frame → 32 * length (frames_in n (behind frame bytes)) + 32 ≤ length bytes)
    → 32 * length (and_then r (λ frame. frames_in n (behind frame bytes))) ≤ length bytes
most_by (Ok frame) n bytes few = let h = few frame refl in omega arith
most_by (Err fault) n bytes few = omega arith

most_in : (n : ℕ) (bytes : List ℕ) → 32 * length (frames_in n bytes) ≤ length bytes
unfolding frames_in
most_in zero bytes = omega arith
most_in (suc n) bytes =
    most_by (frame_of bytes) n bytes (λ frame e.
    let much = behind_much bytes frame e in
    let rest = most_in n (behind frame bytes) in
    omega arith)

pub fewer_left : (frames : Frames) → length (frames_left frames) ≤ most_left frames
unfolding frames_left
fewer_left frames = let most = most_in (length frames.rest.now) frames.rest.now in omega arith

-- ---- frames that are there

none_in : (n : ℕ) → frames_in n [] ≡ []
unfolding frames_in frame_of type_of
none_in zero = refl
none_in (suc n) = refl

-- what stands from the front on, by what the front is read as
in_by : (r : Result Sent BadPacket) (n m : ℕ) (bytes : List ℕ) → ((frame : Sent) → r ≡ Ok frame → frames_in n (behind frame bytes) ≡ frames_in m (behind frame bytes))
    → and_then r (λ frame. frames_in n (behind frame bytes)) ≡ and_then r (λ frame. frames_in m (behind frame bytes))
in_by (Ok frame) n m bytes same = ap (λ others. frame ∷ others) (same frame refl)
in_by (Err fault) n m bytes same = refl

-- a number of frames that suffices is as good as another
pub frames_enough : (n m : ℕ) (bytes : List ℕ) → length bytes ≤ n → length bytes ≤ m → frames_in n bytes ≡ frames_in m bytes
unfolding frames_in
frames_enough zero m bytes h k = rw (nil_from_length bytes (omega arith)) (sym (none_in m))
frames_enough (suc n) zero bytes h k = rw (nil_from_length bytes (omega arith)) (none_in (suc n))
frames_enough (suc n) (suc m) bytes h k =
    in_by (frame_of bytes) n m bytes (λ frame e. let less = behind_less bytes frame e in frames_enough n m (behind frame bytes) (omega arith) (omega arith))

-- the first of the frames, and the others
pub frames_first : (n : ℕ) (bytes : List ℕ) (frame : Sent) → frame_of bytes ≡ Ok frame → length bytes ≤ n
    → frames_in n bytes ≡ frame ∷ frames_in (length (behind frame bytes)) (behind frame bytes)
unfolding frames_in
frames_first zero bytes frame e h = let less = behind_less bytes frame e in absurd (omega arith)
frames_first (suc n) bytes frame e h =
    let less = behind_less bytes frame e in
    rw e (ap (λ others. frame ∷ others) (frames_enough n (length (behind frame bytes)) (behind frame bytes) (omega arith) (omega arith)))

pub frames_none : (n : ℕ) (bytes : List ℕ) (fault : BadPacket) → frame_of bytes ≡ Err fault → frames_in n bytes ≡ []
unfolding frames_in
frames_none zero bytes fault e = refl
frames_none (suc n) bytes fault e = rw e refl

-- ---- later frames

-- a later frame that was read
pub next_ok : (before : Header) (bytes : List ℕ) (frame : Sent) → next_of before bytes ≡ Ok frame → (frame_of bytes ≡ Ok frame) × (follows before frame.header ≡ true)
unfolding next_of
next_ok before bytes frame e =
    let a = guard_ok (ltb (length bytes) 32) TooShort (frame_of bytes >>= λ f. cond (follows before f.header) (Ok f) (Err Mixed)) frame e in
    elim (bind_ok (frame_of bytes) (λ f. cond (follows before f.header) (Ok f) (Err Mixed)) frame a.1) [
      | step f f_is after ↦
          let b = wanted_ok (follows before f.header) Mixed (Ok f) frame after in
          let same = ok_is f frame b.1 in
          subst (λ (x : Sent). (frame_of bytes ≡ Ok x) × (follows before x.header ≡ true)) same (f_is, b.0)
    ]

-- a later frame, and those behind it
pub later_step : (n : ℕ) (before : Header) (bytes : List ℕ) (frame : Sent) → 0 < length bytes → next_of before bytes ≡ Ok frame
    → later_of (suc n) before bytes ≡ (later_of n frame.header (behind frame bytes) >>= λ later. Ok (frame ∷ later))
unfolding later_of
later_step n before [] frame h e = absurd (omega arith)
later_step n before (b ∷ bytes) frame h e = rw e refl

abbrev with_later : ℕ → List ℕ → Sent → Result (List Sent) BadPacket
with_later n bytes frame = later_of n frame.header (behind frame bytes) >>= λ later. Ok (frame ∷ later)

later_by : (r : Result Sent BadPacket) (n m : ℕ) (bytes : List ℕ)
    → ((frame : Sent) → r ≡ Ok frame → later_of n frame.header (behind frame bytes) ≡ later_of m frame.header (behind frame bytes))
    → (r >>= with_later n bytes) ≡ (r >>= with_later m bytes)
later_by (Ok frame) n m bytes same = ap (λ read. read >>= λ later. Ok (frame ∷ later)) (same frame refl)
later_by (Err fault) n m bytes same = refl

pub none_later : (n : ℕ) (before : Header) → later_of n before [] ≡ Ok []
unfolding later_of
none_later zero before = refl
none_later (suc n) before = refl

pub later_enough : (n m : ℕ) (before : Header) (bytes : List ℕ) → length bytes ≤ n → length bytes ≤ m → later_of n before bytes ≡ later_of m before bytes
unfolding later_of
later_enough n m before [] h k = none_later n before ∙ sym (none_later m before)
later_enough zero m before (b ∷ bytes) h k = absurd (omega arith)
later_enough (suc n) zero before (b ∷ bytes) h k = absurd (omega arith)
later_enough (suc n) (suc m) before (b ∷ bytes) h k =
    later_by (next_of before (b ∷ bytes)) n m (b ∷ bytes) (λ frame e.
    let less = behind_less (b ∷ bytes) frame (next_ok before (b ∷ bytes) frame e).0 in
    later_enough n m frame.header (behind frame (b ∷ bytes)) (omega arith) (omega arith))

-- the frames that are read later are those that are there
pub later_in : (n : ℕ) (before : Header) (bytes : List ℕ) (later : List Sent) → length bytes ≤ n → later_of n before bytes ≡ Ok later → frames_in n bytes ≡ later
unfolding later_of
later_in zero before bytes later h e = rw (nil_from_length bytes (omega arith)) (none_in zero ∙ ok_is [] later e)
later_in (suc n) before [] later h e = none_in (suc n) ∙ ok_is [] later e
later_in (suc n) before (b ∷ bytes) later h e =
    elim (bind_ok (next_of before (b ∷ bytes)) (with_later n (b ∷ bytes)) later e) [
      | step frame frame_is after ↦
          let read = (next_ok before (b ∷ bytes) frame frame_is).0 in
          let less = behind_less (b ∷ bytes) frame read in
          elim (bind_ok (later_of n frame.header (behind frame (b ∷ bytes))) (λ others. Ok (frame ∷ others)) later after) [
            | step others others_is last ↦
                let ih = later_in n frame.header (behind frame (b ∷ bytes)) others (omega arith) others_is in
                frames_first (suc n) (b ∷ bytes) frame read h
                ∙ ap (λ rest. frame ∷ rest) (frames_enough (length (behind frame (b ∷ bytes))) n (behind frame (b ∷ bytes)) (omega arith) (omega arith) ∙ ih)
                ∙ ok_is (frame ∷ others) later last
          ]
    ]

-- ---- the turns of the loop

-- nothing is left
pub later_end : (before : Header) (bytes : List ℕ) → length bytes ≡ 0 → fault_of (all_later before bytes) ≡ None
later_end before bytes h = rw (nil_from_length bytes h) (rw none_later refl)

fault_more : (frame : Sent) (r : Result (List Sent) BadPacket) → fault_of (r >>= λ later. Ok (frame ∷ later)) ≡ fault_of r
fault_more frame (Ok later) = refl
fault_more frame (Err fault) = refl

-- one frame more was read
pub later_turn : (before : Header) (bytes : List ℕ) (frame : Sent) → 0 < length bytes → next_of before bytes ≡ Ok frame
    → fault_of (all_later frame.header (behind frame bytes)) ≡ fault_of (all_later before bytes)
unfolding later_of
later_turn before [] frame h e = absurd (omega arith)
later_turn before (b ∷ bytes) frame h e =
    let less = behind_less (b ∷ bytes) frame (next_ok before (b ∷ bytes) frame e).0 in
    let enough = later_enough (length (behind frame (b ∷ bytes))) (length bytes) frame.header (behind frame (b ∷ bytes)) (omega arith) (omega arith) in
    rw e (ap fault_of enough ∙ sym (fault_more frame (later_of (length bytes) frame.header (behind frame (b ∷ bytes)))))

-- one was refused
pub later_refused : (before : Header) (bytes : List ℕ) (fault : BadPacket) → 0 < length bytes → next_of before bytes ≡ Err fault
    → fault_of (all_later before bytes) ≡ Some fault
unfolding later_of
later_refused before [] fault h e = absurd (omega arith)
later_refused before (b ∷ bytes) fault h e = rw e refl

-- ---- the whole

some_is : {A : Type 0} (x y : A) → Some x ≡ Some y → x ≡ y
some_is x y e = cc

-- all were read: they are those that are there
pub frames_read : (bytes : List ℕ) (frame : Sent) → frame_of bytes ≡ Ok frame → fault_of (all_later frame.header (behind frame bytes)) ≡ None
    → frames_of bytes ≡ Ok (frames_in (length bytes) bytes)
unfolding frames_of
frames_read bytes frame e c =
    let first = frames_first (length bytes) bytes frame e (omega arith) in
    rw e (elim (all_later frame.header (behind frame bytes)) as (λ r. all_later frame.header (behind frame bytes) ≡ r → fault_of r ≡ None → (r >>= λ later. Ok (frame ∷ later)) ≡ Ok (frames_in (length bytes) bytes)) [
      | Ok later ↦ (λ is h.
          let found = later_in (length (behind frame bytes)) frame.header (behind frame bytes) later (omega arith) is in
          let whole = first ∙ ap (λ rest. frame ∷ rest) found in
          ap (λ list. Ok list) (sym whole))
      | Err fault ↦ (λ is h. absurd cc)
    ]
    refl c)

-- one was refused
pub frames_refused : (bytes : List ℕ) (frame : Sent) (fault : BadPacket) → frame_of bytes ≡ Ok frame → fault_of (all_later frame.header (behind frame bytes)) ≡ Some fault
    → frames_of bytes ≡ Err fault
unfolding frames_of
frames_refused bytes frame fault e c =
    rw e (elim (all_later frame.header (behind frame bytes)) as (λ r. fault_of r ≡ Some fault → (r >>= λ later. Ok (frame ∷ later)) ≡ Err fault) [
      | Ok later ↦ (λ h. absurd cc)
      | Err other ↦ (λ h. ap (λ d. Err d) (some_is other fault h))
    ]
    c)

-- the first was refused
pub first_refused : (bytes : List ℕ) (fault : BadPacket) → frame_of bytes ≡ Err fault → frames_of bytes ≡ Err fault
unfolding frames_of
first_refused bytes fault e = rw e refl
