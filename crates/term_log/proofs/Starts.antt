-- Where frames begin.
use Rattle.std.proofs.Common.{◌≡◌, ℕ, ◌+◌, ◌/◌, ◌==◌, All, true, false, if◌then◌else◌, List, [], ◌++◌, refl, sym, ap, ◌∙◌, append_assoc}
use Rattle.std.specs.Prelude.{slice_index, slice_set}
use Rattle.std.proofs.lemmas.List.{append-nil}
use Rattle.std.proofs.lemmas.List.Elements.{All-set, All-weaker}
use Rattle.term_log.specs.Frames.{Frame, total}
use Rattle.term_log.specs.Kept.{IsStart, marked, slot_of}

abbrev pub end_start : (position : ℕ) (fs : List Frame) → IsStart position fs (position + total fs)
end_start position fs = record { before = fs; after = []; is = sym (append-nil fs); place = refl }

pub start_more : (position at : ℕ) (fs gs : List Frame) → IsStart position fs at → IsStart position (fs ++ gs) at
start_more position at fs gs s =
    record {
      before = s.before;
      after = s.after ++ gs;
      is = ap (λ (xs : List Frame). xs ++ gs) s.is ∙ append_assoc s.before s.after gs;
      place = s.place;
    }

-- what holds of all marks holds of them once one more was made
pub marked_hold : (P : ℕ → Type 0) (at : ℕ) (marks : List ℕ) → P at → All P marks → All P (marked at marks)
marked_hold P at marks here all =
    elim (slice_index marks (slot_of at) / 4096 == at / 4096) as (λ b. All P (if b then marks else slice_set marks (slot_of at) at)) [
      | true ↦ all
      | false ↦ All-set P marks (slot_of at) at here all
    ]

-- a frame more, which is marked
pub marks_more : (position at : ℕ) (fs gs : List Frame) (marks : List ℕ) → at ≡ position + total fs → All (IsStart position fs) marks
    → All (IsStart position (fs ++ gs)) (marked at marks)
marks_more position at fs gs marks place starts =
    let behind : IsStart position fs at = record { before = fs; after = []; is = sym (append-nil fs); place = place } in
    marked_hold (IsStart position (fs ++ gs)) at marks (start_more position at fs gs behind)
    (All-weaker (IsStart position fs) (IsStart position (fs ++ gs)) (λ other start. start_more position other fs gs start) marks starts)
