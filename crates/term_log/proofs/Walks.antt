-- The frames at the front of bytes, one behind the other.
use Rattle.std.proofs.Common.{◌≡◌, ℕ, zero, suc, ◌+◌, ◌-◌, ◌%◌, ◌<◌, ◌≤◌, Bool, true, false, cond, List, [], ◌∷◌, ◌++◌, length, take, drop, Option, Some, None, refl, sym, ap, ap₂, subst, ◌∙◌, arith, length-append, append_assoc}
use Rattle.std.specs.Prelude.{replicate, slice_index, nat_lt, nat_le, ◌==◌, if◌then◌else◌, IfSome}
use Rattle.std.proofs.lemmas.Bool.Decides.{nat_tests}
use Rattle.std.proofs.lemmas.List.{nil_from_length, length-drop, length-take-le, take_all, take_at, take-append-drop, drop_at, length-replicate}
use Rattle.std.proofs.Math.Seq.{take-append-add}
use Rattle.byteorder.specs.Endian.{little_number}
use Rattle.frame_codec.specs.Frame.{padded}
use Rattle.term_log.specs.declared.ident.Ident.{Ident}
use Rattle.term_log.specs.Ident.{IsIdent}
use Rattle.term_log.specs.declared.reading.Frames.{Frames}
use Rattle.term_log.specs.Frames.{Frame, fragment, pad, span, front_of, bytes_of, run_of, IsFrame, IsRun}
use Rattle.term_log.specs.Reading.{Given, given, all_given, sent_size, of_term, within, pad_at, pad_of, fragment_at, first_of, admitted, behind, and_then, frames_in, frames_left, sent_bytes}
use Rattle.term_log.proofs.Fronts.{first_again, length-front}
use Rattle.term_log.proofs.Places.{mod_within}
use Rattle.term_log.proofs.Stands.{frame_fits, length-bytes}

-- ---- less is left behind a frame

abbrev IsLess : List ℕ → Given → Type 0
IsLess bytes g = length (behind g g.frame bytes) < length bytes

first_less : (position : ℕ) (bytes : List ℕ) → IfSome (first_of position bytes) (IsLess bytes)
unfolding first_of
first_less position bytes =
    let n : ℕ = little_number 4 bytes in
    let found : Option Given = Some (fragment_at n position bytes) in
    elim (nat_lt (length bytes) 32) as (λ b. nat_lt (length bytes) 32 ≡ b → IfSome (cond b None (cond (slice_index bytes 6 == 0) (pad_of position bytes) (cond (nat_lt n 32) None (cond (nat_lt (length bytes) (padded n)) None found)))) (IsLess bytes)) [
      | true ↦ λ short. tt
      | false ↦ λ long.
          let enough : 32 ≤ length bytes = grind (arith, nat_tests, long) in
          elim (slice_index bytes 6 == 0) as (λ b. IfSome (cond b (pad_of position bytes) (cond (nat_lt n 32) None (cond (nat_lt (length bytes) (padded n)) None found))) (IsLess bytes)) [
            | true ↦
                elim (nat_lt (length bytes) n) as (λ b. IfSome (cond b None (Some (pad_at position bytes))) (IsLess bytes)) [
                  | true ↦ tt
                  | false ↦ omega (arith, enough)
                ]
            | false ↦
                elim (nat_lt n 32) as (λ b. nat_lt n 32 ≡ b → IfSome (cond b None (cond (nat_lt (length bytes) (padded n)) None found)) (IsLess bytes)) [
                  | true ↦ λ less. tt
                  | false ↦ λ above.
                      let least : 32 ≤ n = grind (arith, nat_tests, above) in
                      elim (nat_lt (length bytes) (padded n)) as (λ b. nat_lt (length bytes) (padded n) ≡ b → IfSome (cond b None found) (IsLess bytes)) [
                        | true ↦ λ less. tt
                        | false ↦ λ all.
                            let there : padded n ≤ length bytes = grind (arith, nat_tests, all) in
                            let size = length-take-le (padded n) bytes there in
                            omega (arith, least, there, size, length-drop (length (take (padded n) bytes)) bytes)
                      ]
                      refl
                ]
                refl
          ]
    ]
    refl

admitted_less : (budget : ℕ) (bytes : List ℕ) (o : Option Given) → IfSome o (IsLess bytes) → IfSome (admitted budget o) (IsLess bytes)
admitted_less budget bytes None less = tt
admitted_less budget bytes (Some g) less =
    elim (nat_lt budget (length g.bytes)) as (λ b. IfSome (cond b None (Some g)) (IsLess bytes)) [
      | true ↦ tt
      | false ↦ less
    ]

next_less : (budget position : ℕ) (bytes : List ℕ) → IfSome (admitted budget (first_of position bytes)) (IsLess bytes)
next_less budget position bytes = admitted_less budget bytes (first_of position bytes) (first_less position bytes)

-- ---- how many frames there are at most does not matter, where it suffices

pub none_in : (n end budget : ℕ) → frames_in n end budget [] ≡ []
unfolding frames_in first_of
none_in zero end budget = refl
none_in (suc n) end budget = refl

in_by : (o : Option Given) (n m end budget : ℕ) (bytes : List ℕ) → IfSome o (IsLess bytes)
    → ((g : Given) → IsLess bytes g → frames_in n end (budget - length g.bytes) (behind g g.frame bytes) ≡ frames_in m end (budget - length g.bytes) (behind g g.frame bytes))
    → and_then o (λ g. frames_in n end (budget - length g.bytes) (behind g g.frame bytes))
    ≡ and_then o (λ g. frames_in m end (budget - length g.bytes) (behind g g.frame bytes))
in_by None n m end budget bytes less same = refl
in_by (Some g) n m end budget bytes less same = ap (λ (others : List Given). g ∷ others) (same g less)

pub in_enough : (n m end budget : ℕ) (bytes : List ℕ) → length bytes ≤ n → length bytes ≤ m → frames_in n end budget bytes ≡ frames_in m end budget bytes
unfolding frames_in
in_enough zero m end budget bytes h k = rw (nil_from_length bytes (omega arith)) (sym (none_in m end budget))
in_enough (suc n) zero end budget bytes h k = rw (nil_from_length bytes (omega arith)) (none_in (suc n) end budget)
in_enough (suc n) (suc m) end budget bytes h k =
    in_by (admitted budget (first_of (end - length bytes) bytes)) n m end budget bytes (next_less budget (end - length bytes) bytes)
    (λ g less. in_enough n m end (budget - length g.bytes) (behind g g.frame bytes) (omega (arith, less)) (omega (arith, less)))

-- the first of the frames, and the others
pub in_first : (n end budget : ℕ) (bytes : List ℕ) (g : Given) → admitted budget (first_of (end - length bytes) bytes) ≡ Some g → length bytes ≤ n
    → frames_in n end budget bytes
    ≡ g ∷ frames_in (length (behind g g.frame bytes)) end (budget - length g.bytes) (behind g g.frame bytes)
unfolding frames_in
in_first n end budget bytes g e h =
    let less : IsLess bytes g = subst (λ (o : Option Given). IfSome o (IsLess bytes)) e (next_less budget (end - length bytes) bytes) in
    let rest : List ℕ = behind g g.frame bytes in
    in_enough n (suc (length bytes)) end budget bytes h (omega arith)
    ∙ ap (λ (o : Option Given). and_then o (λ x. frames_in (length bytes) end (budget - length x.bytes) (behind x x.frame bytes))) e
    ∙ ap (λ (others : List Given). g ∷ others) (in_enough (length bytes) (length rest) end (budget - length g.bytes) rest (omega (arith, less)) (omega arith))

pub in_none : (n end budget : ℕ) (bytes : List ℕ) → admitted budget (first_of (end - length bytes) bytes) ≡ None → frames_in n end budget bytes ≡ []
unfolding frames_in
in_none zero end budget bytes e = refl
in_none (suc n) end budget bytes e = ap (λ (o : Option Given). and_then o (λ x. frames_in n end (budget - length x.bytes) (behind x x.frame bytes))) e

-- ---- frames that were appended are read back

-- how many bytes are left of the term of a position
abbrev pub left_of : Ident → ℕ → ℕ
left_of i position = i.term_length - position % i.term_length

-- the bytes of frames up to the end of their term
abbrev pub term_bytes : Ident → ℕ → List Frame → List ℕ
term_bytes i position fs = take (left_of i position) (run_of i position fs)

-- what is left of the term behind the first frame
abbrev tail_bytes : Ident → ℕ → Frame → List Frame → List ℕ
tail_bytes i position f fs = take (left_of i position - span f) (run_of i (position + span f) fs)

term_first : (i : Ident) (position : ℕ) (f : Frame) (fs : List Frame) → IsFrame i position f
    → term_bytes i position (f ∷ fs) ≡ bytes_of i position f ++ tail_bytes i position f fs
term_first i position f fs is =
    let size = length-bytes i position f is in
    let fits = frame_fits i position f is in
    let count : left_of i position ≡ length (bytes_of i position f) + (left_of i position - span f) = omega (arith, size, fits) in
    ap (λ (k : ℕ). take k (run_of i position (f ∷ fs))) count
    ∙ take-append-add (bytes_of i position f) (run_of i (position + span f) fs) (left_of i position - span f)

-- the frames behind the first one, where it is no pad
behind_data : (i : Ident) (position e budget : ℕ) (f : Frame) (fs : List Frame) (next : List ℕ) → IsIdent i → IsFrame i position f
    → next ≡ tail_bytes i position f fs
    → (position % i.term_length + span f < i.term_length → next ≡ term_bytes i (position + span f) fs
    → frames_in (length next) e budget next ≡ all_given i (position + span f) (within budget (of_term i.term_length (position + span f) fs)))
    → frames_in (length next) e budget next
    ≡ all_given i (position + span f) (within budget (if nat_le i.term_length (position % i.term_length + span f) then [] else of_term i.term_length (position + span f) fs))
behind_data i position e budget f fs next sound is whole more =
    let term : ℕ = i.term_length in
    let term_low = sound.term_low in
    elim (nat_le term (position % term + span f)) as (λ b. nat_le term (position % term + span f) ≡ b → frames_in (length next) e budget next
    ≡ all_given i (position + span f) (within budget (if b then [] else of_term term (position + span f) fs))) [
      | true ↦ λ ends.
          let last : term ≤ position % term + span f = grind (arith, nat_tests, ends) in
          let none : left_of i position - span f ≡ 0 = omega arith in
          let empty : next ≡ [] = whole ∙ ap (λ (k : ℕ). take k (run_of i (position + span f) fs)) none in
          ap (λ (b : List ℕ). frames_in (length b) e budget b) empty ∙ none_in 0 e budget
      | false ↦ λ goes.
          let before : position % term + span f < term = grind (arith, nat_tests, goes) in
          let here : (position + span f) % term ≡ position % term + span f = mod_within position (span f) term (omega arith) before in
          let left : left_of i position - span f ≡ left_of i (position + span f) = omega arith in
          more before (whole ∙ ap (λ (k : ℕ). take k (run_of i (position + span f) fs)) left)
    ]
    refl

behind_frame : (i : Ident) (position e budget : ℕ) (f : Frame) (fs : List Frame) (bytes : List ℕ) → IsIdent i → IsFrame i position f
    → bytes ≡ bytes_of i position f ++ tail_bytes i position f fs
    → (position % i.term_length + span f < i.term_length → (next : List ℕ) → next ≡ term_bytes i (position + span f) fs → length next + span f ≡ length bytes
    → frames_in (length next) e budget next ≡ all_given i (position + span f) (within budget (of_term i.term_length (position + span f) fs)))
    → frames_in (length (behind (given i position f) f bytes)) e budget (behind (given i position f) f bytes)
    ≡ all_given i (position + span f) (within budget (if nat_le i.term_length (position % i.term_length + span f) then [] else of_term i.term_length (position + span f) fs))
behind_frame i position e budget (fragment flags payload) fs bytes sound is whole more =
    let f : Frame = fragment flags payload in
    let size = length-bytes i position f is in
    let front = length-front i position f in
    let tail : List ℕ = tail_bytes i position f fs in
    let rest : behind (given i position f) f bytes ≡ tail =
    ap (drop (length (front_of i position f))) whole ∙ drop_at (bytes_of i position f) tail (length (front_of i position f)) (size ∙ sym front) in
    let count : length (behind (given i position f) f bytes) + span f ≡ length bytes =
    omega (arith, size, ap (length {A = ℕ}) rest, ap (length {A = ℕ}) whole, length-append (bytes_of i position f) tail) in
    behind_data i position e budget f fs (behind (given i position f) f bytes) sound is rest (λ before next_is. more before (behind (given i position f) f bytes) next_is count)
behind_frame i position e budget (pad size) fs bytes sound is whole more =
    let last : i.term_length ≤ position % i.term_length + size = omega (arith, is.1) in
    let ends : nat_le i.term_length (position % i.term_length + size) ≡ true = grind (arith, nat_tests, last) in
    none_in 0 e budget
    ∙ ap (λ (b : Bool). all_given i (position + size) (within budget (if b then [] else of_term i.term_length (position + size) fs))) (sym ends)

pub reads_back : (i : Ident) (position n e budget : ℕ) (fs : List Frame) (bytes : List ℕ) → IsIdent i → IsRun i position fs
    → bytes ≡ term_bytes i position fs → e ≡ position + length bytes → length bytes ≤ n
    → frames_in n e budget bytes ≡ all_given i position (within budget (of_term i.term_length position fs))
reads_back i position n e budget [] bytes sound run whole end enough =
    ap (frames_in n e budget) (whole ∙ take_all (left_of i position) [] (omega arith)) ∙ none_in n e budget
reads_back i position n e budget (f ∷ fs) bytes sound run whole end enough =
    let g : Given = given i position f in
    let size : ℕ = sent_size f in
    let filling : List ℕ = replicate (span f - length (front_of i position f)) 0 in
    let parts : bytes ≡ bytes_of i position f ++ tail_bytes i position f fs = whole ∙ term_first i position f fs run.0 in
    let split : bytes ≡ front_of i position f ++ (filling ++ tail_bytes i position f fs) =
    parts ∙ append_assoc (front_of i position f) filling (tail_bytes i position f fs) in
    let here : e - length bytes ≡ position = omega (arith, end) in
    let front = length-front i position f in
    let fills : length filling ≡ span f - length (front_of i position f) = length-replicate {A = ℕ} (span f - length (front_of i position f)) 0 in
    let range : span f ≤ size + length (filling ++ tail_bytes i position f fs) = omega (arith, front, fills, length-append filling (tail_bytes i position f fs)) in
    let first : admitted budget (first_of (e - length bytes) bytes) ≡ cond (nat_lt budget size) None (Some g) =
    ap (admitted budget) (ap₂ first_of here split ∙ first_again i position f (filling ++ tail_bytes i position f fs) sound run.0 range)
    ∙ ap (λ (k : ℕ). cond (nat_lt budget k) None (Some g)) front in
    let others = behind_frame i position e (budget - size) f fs bytes sound run.0 parts
    (λ before next next_is count. reads_back i (position + span f) (length next) e (budget - size) fs next sound run.1 next_is (omega (arith, end, count)) (omega arith)) in
    elim (nat_lt budget size) as (λ b. nat_lt budget size ≡ b → frames_in n e budget bytes
    ≡ all_given i position (if b then [] else f ∷ within (budget - size) (if nat_le i.term_length (position % i.term_length + span f) then [] else of_term i.term_length (position + span f) fs))) [
      | true ↦ λ over. in_none n e budget bytes (first ∙ ap (λ (b : Bool). cond b None (Some g)) over)
      | false ↦ λ fits.
          in_first n e budget bytes g (first ∙ ap (λ (b : Bool). cond b None (Some g)) fits) enough
          ∙ ap (λ (k : ℕ). g ∷ frames_in (length (behind g f bytes)) e (budget - k) (behind g f bytes)) front
          ∙ ap (λ (others : List Given). g ∷ others) others
    ]
    refl

-- ---- what is sent of frames stands at the front

abbrev IsFront : List ℕ → Given → Type 0
IsFront bytes g = g.bytes ++ drop (length g.bytes) bytes ≡ bytes

taken_front : (n : ℕ) (bytes : List ℕ) → n ≤ length bytes → take n bytes ++ drop (length (take n bytes)) bytes ≡ bytes
taken_front n bytes within =
    ap (λ (k : ℕ). take n bytes ++ drop k bytes) (length-take-le n bytes within) ∙ take-append-drop n bytes

first_front : (position : ℕ) (bytes : List ℕ) → IfSome (first_of position bytes) (IsFront bytes)
unfolding first_of
first_front position bytes =
    let n : ℕ = little_number 4 bytes in
    let found : Option Given = Some (fragment_at n position bytes) in
    elim (nat_lt (length bytes) 32) as (λ b. nat_lt (length bytes) 32 ≡ b → IfSome (cond b None (cond (slice_index bytes 6 == 0) (pad_of position bytes) (cond (nat_lt n 32) None (cond (nat_lt (length bytes) (padded n)) None found)))) (IsFront bytes)) [
      | true ↦ λ short. tt
      | false ↦ λ long.
          let enough : 32 ≤ length bytes = grind (arith, nat_tests, long) in
          elim (slice_index bytes 6 == 0) as (λ b. IfSome (cond b (pad_of position bytes) (cond (nat_lt n 32) None (cond (nat_lt (length bytes) (padded n)) None found))) (IsFront bytes)) [
            | true ↦
                elim (nat_lt (length bytes) n) as (λ b. IfSome (cond b None (Some (pad_at position bytes))) (IsFront bytes)) [
                  | true ↦ tt
                  | false ↦ taken_front 32 bytes enough
                ]
            | false ↦
                elim (nat_lt n 32) as (λ b. IfSome (cond b None (cond (nat_lt (length bytes) (padded n)) None found)) (IsFront bytes)) [
                  | true ↦ tt
                  | false ↦
                      elim (nat_lt (length bytes) (padded n)) as (λ b. nat_lt (length bytes) (padded n) ≡ b → IfSome (cond b None found) (IsFront bytes)) [
                        | true ↦ λ less. tt
                        | false ↦ λ all. taken_front (padded n) bytes (grind (arith, nat_tests, all))
                      ]
                      refl
                ]
          ]
    ]
    refl

admitted_front : (budget : ℕ) (bytes : List ℕ) (o : Option Given) → IfSome o (IsFront bytes) → IfSome (admitted budget o) (IsFront bytes)
admitted_front budget bytes None front = tt
admitted_front budget bytes (Some g) front =
    elim (nat_lt budget (length g.bytes)) as (λ b. IfSome (cond b None (Some g)) (IsFront bytes)) [
      | true ↦ tt
      | false ↦ front
    ]

-- a list begins with another one
record Starts (front bytes : List ℕ) : Type 0 where
  rest : List ℕ
  is : bytes ≡ front ++ rest

-- the bytes behind a frame are the rest, or none
behind_starts : (g : Given) (f : Frame) (front bytes : List ℕ) → Starts front (behind g f bytes) → Starts front (drop (length g.bytes) bytes)
behind_starts g (fragment flags payload) front bytes starts = starts
behind_starts g (pad size) [] bytes starts = record { rest = drop (length g.bytes) bytes; is = refl }
behind_starts g (pad size) (x ∷ front) bytes starts = absurd (omega (arith, ap (length {A = ℕ}) starts.is))

starts_by : (o : Option Given) (n end budget : ℕ) (bytes : List ℕ) → IfSome o (IsFront bytes)
    → ((g : Given) → Starts (sent_bytes (frames_in n end (budget - length g.bytes) (behind g g.frame bytes))) (behind g g.frame bytes))
    → Starts (sent_bytes (and_then o (λ g. frames_in n end (budget - length g.bytes) (behind g g.frame bytes)))) bytes
starts_by None n end budget bytes front more = record { rest = bytes; is = refl }
starts_by (Some g) n end budget bytes front more =
    let others : List ℕ = sent_bytes (frames_in n end (budget - length g.bytes) (behind g g.frame bytes)) in
    let later = behind_starts g g.frame others bytes (more g) in
    record {
      rest = later.rest;
      is = sym front ∙ ap (λ (x : List ℕ). g.bytes ++ x) later.is ∙ sym (append_assoc g.bytes others later.rest);
    }

sent_starts : (n end budget : ℕ) (bytes : List ℕ) → Starts (sent_bytes (frames_in n end budget bytes)) bytes
unfolding frames_in
sent_starts zero end budget bytes = record { rest = bytes; is = refl }
sent_starts (suc n) end budget bytes =
    starts_by (admitted budget (first_of (end - length bytes) bytes)) n end budget bytes
    (admitted_front budget bytes (first_of (end - length bytes) bytes) (first_front (end - length bytes) bytes))
    (λ g. sent_starts n end (budget - length g.bytes) (behind g g.frame bytes))

sent_front : (n end budget size : ℕ) (bytes : List ℕ) → size ≡ length (sent_bytes (frames_in n end budget bytes))
    → (take size bytes ≡ sent_bytes (frames_in n end budget bytes)) × (size ≤ length bytes)
sent_front n end budget size bytes is =
    let starts = sent_starts n end budget bytes in
    let sent : List ℕ = sent_bytes (frames_in n end budget bytes) in
    (ap (take size) starts.is ∙ take_at sent starts.rest size (sym is), omega (arith, is, ap (length {A = ℕ}) starts.is, length-append sent starts.rest))

pub left_front : (frames : Frames) (size : ℕ) → size ≡ length (sent_bytes (frames_left frames))
    → (take size frames.rest.now ≡ sent_bytes (frames_left frames)) × (size ≤ length frames.rest.now)
unfolding frames_left
left_front frames size is = sent_front (length frames.rest.now) frames.end frames.budget size frames.rest.now is

-- one frame more of them was passed
pub left_less : (frames later next : Frames) (g : Given) (size : ℕ) → size + length (sent_bytes (frames_left later)) ≡ length (sent_bytes (frames_left frames))
    → frames_left later ≡ g ∷ frames_left next
    → (size + length g.bytes + length (sent_bytes (frames_left next)) ≡ length (sent_bytes (frames_left frames))) × (size + length g.bytes ≤ length frames.rest.now)
left_less frames later next g size is steps =
    let count = ap (λ (gs : List Given). length (sent_bytes gs)) steps ∙ length-append g.bytes (sent_bytes (frames_left next)) in
    let all = left_front frames (length (sent_bytes (frames_left frames))) refl in
    (omega (arith, is, count), omega (arith, is, count, all.1))
