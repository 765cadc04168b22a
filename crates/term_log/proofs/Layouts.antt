-- How a log lies in its lease.
use Rattle.std.proofs.Common.{◌≡◌, ℕ, ℤ, ◌+◌, ◌*◌, ◌≤◌, ◌==◌, ◌||◌, ◌⊎◌, inl, inr, Bool, true, false, List, [], ◌∷◌, ◌++◌, drop, map, refl, sym, ap, subst, ◌∙◌, arith}
use Rattle.std.specs.Int.{w32}
use Rattle.std.specs.List.{All, list_any}
use Rattle.std.specs.Prelude.{FitsSigned, replicate}
use Rattle.std.proofs.lemmas.Bool.{eq-eqb}
use Rattle.std.proofs.lemmas.List.{drop_at}
use Rattle.std.proofs.lemmas.List.Elements.{All-replicate}
use Rattle.frame_codec.specs.Fields.{signed_at}
use Rattle.frame_codec.specs.Frame.{data_bytes, pad_bytes}
use Rattle.frame_codec.specs.Header.{header_bytes}
use Rattle.frame_codec.specs.Writing.{front_bytes, number_bytes, signed_bytes}
use Rattle.frame_codec.proofs.RoundTrips.{signed_back}
use Rattle.log_pairs.specs.Layout.{Apart, AreNamed, IsReading, starts_at}
use Rattle.log_pairs.specs.declared.pair.Pair.{Pair}
use Rattle.log_pairs.proofs.Pairing.{at_both}
use Rattle.term_log.specs.declared.ident.Ident.{Ident}
use Rattle.term_log.specs.Frames.{Frame, fragment, pad, span, total, front_of, IsRun}
use Rattle.term_log.specs.Kept.{IsStart, Kept, StandsFor, offset_of, rest_of}
use Rattle.term_log.specs.Layout.{HasLayout, layout_of, placed, unwritten}
use Rattle.term_log.specs.Log.{IsLog, Log, low_of}
use Rattle.term_log.specs.Pairs.{IsNear}
use Rattle.term_log.specs.Reading.{all_given}
use Rattle.term_log.specs.Whole.{AreStarts}
use Rattle.term_log.proofs.Nears.{near_held}
use Rattle.term_log.proofs.Terms.{some_span}

-- ---- frames one after another

run_apart : (i : Ident) (from position : ℕ) (fs : List Frame) → from ≤ position → IsRun i position fs → Apart from (map placed (all_given i position fs))
run_apart i from position [] below run = tt
run_apart i from position (f ∷ fs) below run = (below, some_span i position f run.0, run_apart i (position + span f) (position + span f) fs (omega arith) run.1)

pub record Names (session stream : ℤ) (bytes : List ℕ) : Type 0 where
  pub session_is : signed_at 12 bytes ≡ session
  pub stream_is : signed_at 16 bytes ≡ stream

front_names : (i : Ident) (position : ℕ) (f : Frame) → FitsSigned w32 i.session → FitsSigned w32 i.stream → Names i.session i.stream (front_of i position f)
unfolding data_bytes pad_bytes header_bytes front_bytes number_bytes signed_bytes
front_names i position (fragment flags payload) session stream = record {
  session_is = signed_back 12 i.session (front_of i position (fragment flags payload)) _ refl session;
  stream_is = signed_back 16 i.stream (front_of i position (fragment flags payload)) _ refl stream;
}
front_names i position (pad size) session stream = record {
  session_is = signed_back 12 i.session (front_of i position (pad size)) _ refl session;
  stream_is = signed_back 16 i.stream (front_of i position (pad size)) _ refl stream;
}

run_named : (i : Ident) (position : ℕ) (fs : List Frame) → FitsSigned w32 i.session → FitsSigned w32 i.stream
    → AreNamed i.session i.stream (map placed (all_given i position fs))
run_named i position [] session stream = tt
run_named i position (f ∷ fs) session stream =
    let names = front_names i position f session stream in
    (names.session_is, names.stream_is, run_named i (position + span f) fs session stream)

-- ---- what is not written

unwritten_zeros : (k : Kept) (frames : List Frame) → StandsFor k frames → All (λ (byte : ℕ). byte ≡ 0) (unwritten k)
unwritten_zeros k frames stands =
    let n : ℕ = 2 * k.ident.term_length + offset_of k in
    let is : unwritten k ≡ replicate (rest_of k) 0 = ap (λ (bytes : List ℕ). drop n bytes) stands.bytes ∙ drop_at stands.held (replicate (rest_of k) 0) n stands.size in
    subst (λ (bytes : List ℕ). All (λ (byte : ℕ). byte ≡ 0) bytes) (sym is) (All-replicate (λ (byte : ℕ). byte ≡ 0) (rest_of k) 0 refl)

-- ---- who reads

or_right : (a b : Bool) → b ≡ true → (a || b) ≡ true
or_right true b is = refl
or_right false b is = is

found : (i : Ident) (position at : ℕ) (before after : List Frame) → at ≡ position + total before
    → (at ≡ position + total (before ++ after)) ⊎ (list_any (starts_at at) (map placed (all_given i position (before ++ after))) ≡ true)
found i position at [] [] is = inl is
found i position at [] (f ∷ after) is =
    inr (ap (λ (b : Bool). b || list_any (starts_at at) (map placed (all_given i (position + span f) after))) (eq-eqb position at (omega (arith, is))))
found i position at (f ∷ before) after is = elim (found i (position + span f) at before after (omega (arith, is))) [
  | inl e ↦ inl (omega (arith, e))
  | inr some ↦ inr (or_right (position == at) _ some)
]

reading : (l : Log) (frames : List Frame) (at : ℕ) → StandsFor l.kept frames → IsNear l.kept.ident.start l.kept.tail l.kept.ident.term_length at
    → IsStart l.kept.ident.start frames at → IsReading (low_of l.kept) l.kept.tail (layout_of l frames).frames at
reading l frames at stands near start =
    let i : Ident = l.kept.ident in
    let tail = stands.tail in
    let here = subst (λ (fs : List Frame). (at ≡ i.start + total fs) ⊎ (list_any (starts_at at) (map placed (all_given i i.start fs)) ≡ true)) (sym start.is)
    (found i i.start at start.before start.after start.place) in
    record {
      above = near_held i.start l.kept.tail i.term_length at near;
      below = near.1;
      start = elim here [ inl e ↦ inl (e ∙ sym tail) | inr some ↦ inr some ];
    }

pub has_layout : (l : Log) → IsLog l.kept l.pairs l.sender.position → FitsSigned w32 l.kept.ident.session → FitsSigned w32 l.kept.ident.stream → HasLayout l
has_layout l is session stream = record {
  on = λ w s.
      let i : Ident = l.kept.ident in
      let read : AreStarts i.start w.frames l.pairs =
      subst (λ (pairs : List Pair). AreStarts i.start w.frames pairs) (sym s.pairs)
      (subst (λ (j : Ident). AreStarts j.start w.frames w.pairs) (sym s.ident) s.read) in
      record {
        apart = run_apart i 0 i.start w.frames (omega arith) s.frames.sound;
        named = run_named i i.start w.frames session stream;
        zeros = unwritten_zeros l.kept w.frames s.frames;
        reading = at_both (IsNear i.start l.kept.tail i.term_length) (IsStart i.start w.frames) (IsReading (low_of l.kept) l.kept.tail (layout_of l w.frames).frames)
            (λ at near start. reading l w.frames at s.frames near start) l.pairs is.near read;
      };
}
