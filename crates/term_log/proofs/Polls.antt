-- The frames that a poll passes.
use Rattle.std.proofs.Common.{◌≡◌, ℕ, ◌+◌, ◌-◌, ◌^◌, ◌<◌, Bool, true, false, List, [], ◌∷◌, ◌++◌, map, min, max, refl, ap, ap₂, ◌∙◌, arith}
use Rattle.std.specs.Prelude.{◌==◌}
use Rattle.log_pairs.specs.Polling.{Fetched, Polled, behind, counted, fragments_of, passed}
use Rattle.term_log.specs.declared.ident.Ident.{Ident}
use Rattle.term_log.specs.Frames.{Frame, span, total}
use Rattle.term_log.specs.Kept.{Kept}
use Rattle.term_log.specs.Reading.{Given, all_given, GivesAll}
use Rattle.term_log.specs.Polling.{polled_frame, polled_given, polled_run, GivesFragments, PassesTo}
use Rattle.term_log.proofs.Held.{total_both}

-- the frames that a poll passes, and those that it leaves
pub record Taken (position limit : ℕ) (fs : List Frame) : Type 0 where
  pub front : List Frame
  pub rest : List Frame
  pub is : fs ≡ front ++ rest
  pub passes : passed limit (polled_run position fs) ≡ polled_run position front

taken_by : (position limit : ℕ) (f : Frame) (fs : List Frame) → Taken (position + span f) (limit - counted (polled_frame (position + span f) f)) fs
    → (b : Bool) → (limit == 0) ≡ b → Taken position limit (f ∷ fs)
taken_by position limit f fs more true e = record { front = []; rest = f ∷ fs; is = refl; passes = rw (e) refl }
taken_by position limit f fs more false e = record {
  front = f ∷ more.front;
  rest = more.rest;
  is = ap (λ (gs : List Frame). f ∷ gs) more.is;
  passes = rw (e) (ap (λ (gs : List Polled). polled_frame (position + span f) f ∷ gs) more.passes);
}

pub taken : (position limit : ℕ) (fs : List Frame) → Taken position limit fs
taken position limit [] = record { front = []; rest = []; is = refl; passes = refl }
taken position limit (f ∷ fs) =
    taken_by position limit f fs (taken (position + span f) (limit - counted (polled_frame (position + span f) f)) fs) (limit == 0) refl

pub behind_run : (position : ℕ) (fs : List Frame) → behind position (polled_run position fs) ≡ position + total fs
behind_run position [] = omega arith
behind_run position (f ∷ fs) = omega (arith, behind_run (position + span f) fs)

-- the position behind the frames that a poll passes is that behind the front
pub behind_taken : (position limit : ℕ) (fs : List Frame) (t : Taken position limit fs)
    → behind position (passed limit (polled_run position fs)) ≡ position + total t.front
behind_taken position limit fs t = ap (behind position) t.passes ∙ behind_run position t.front

-- no end is cut of frames that end where a position can be
polled_all : (i : Ident) (position : ℕ) (fs : List Frame) → position + total fs < 2 ^ 64 → map polled_given (all_given i position fs) ≡ polled_run position fs
polled_all i position [] fits = refl
polled_all i position (f ∷ fs) fits =
    let here : min (position + span f) (2 ^ 64 - 1) ≡ position + span f = omega arith in
    ap₂ (λ (end : ℕ) (others : List Polled). polled_frame end f ∷ others) here (polled_all i (position + span f) fs (omega (arith, fits)))

-- all frames from a position on, as they are read
run_is : (k : Kept) (position : ℕ) (all : List Given) (before after : List Frame) → all ≡ all_given k.ident position after → position ≡ k.ident.start + total before
    → k.tail ≡ k.ident.start + total (before ++ after) → k.tail < 2 ^ 64 → map polled_given all ≡ polled_run position after
run_is k position all before after is place tail fits =
    ap (λ (gs : List Given). map polled_given gs) is
    ∙ polled_all k.ident position after (omega (arith, place, tail, fits, total_both before after))

pub gives_fragments : (k : Kept) (position limit : ℕ) (all : List Given) (left : List Fetched) → k.tail < 2 ^ 64
    → GivesAll k position all → left ≡ fragments_of (passed limit (map polled_given all)) → GivesFragments k position limit left
gives_fragments k position limit all left fits gives left_is =
    record {
      on = λ before after s place.
          left_is ∙ ap (λ (fs : List Polled). fragments_of (passed limit fs)) (run_is k position all before after (gives.on before after s place) place s.tail fits);
    }

pub passes_to : (k : Kept) (position limit end : ℕ) (all : List Given) → k.tail < 2 ^ 64 → GivesAll k position all
    → end ≡ min (max (behind position (passed limit (map polled_given all))) position) k.tail → PassesTo k position limit end
passes_to k position limit end all fits gives end_is =
    record {
      on = λ before after s place.
          let t = taken position limit after in
          let run = run_is k position all before after (gives.on before after s place) place s.tail fits in
          let same : behind position (passed limit (map polled_given all)) ≡ behind position (passed limit (polled_run position after)) =
          ap (λ (fs : List Polled). behind position (passed limit fs)) run in
          let there = behind_taken position limit after t in
          let parts = ap total t.is in
          omega (arith, end_is, same, there, parts, place, s.tail, total_both before after, total_both t.front t.rest);
    }
