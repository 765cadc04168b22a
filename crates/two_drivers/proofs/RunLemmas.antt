-- A run of what a receiver keeps is a run of the publication's frames.
use Rattle.std.proofs.Common.{◌≡◌, ℕ, ◌+◌, ◌==◌, Bool, true, false, cond, List, [], ◌∷◌, ◌++◌, length, map, drop, Some, None, refl, sym, ap, ap₂, ◌∙◌, arith}
use Rattle.std.proofs.lemmas.List.{drop_at}
use Rattle.frame_codec.specs.declared.flags.Flags.{Flags}
use Rattle.frame_codec.specs.declared.header.TermPlace.{TermPlace}
use Rattle.frame_codec.specs.declared.header.Kind.TheVariants.{Pad}
use Rattle.frame_codec.specs.Fields.{byte_at}
use Rattle.frame_codec.specs.Frame.{data_header, pad_bytes, padded}
use Rattle.frame_codec.specs.Header.{header_bytes, plain_header}
use Rattle.frame_codec.specs.Writing.{front_bytes, number_bytes, signed_bytes}
use Rattle.frame_codec.proofs.RoundTrips.{half_back}
use Rattle.frame_codec.proofs.WritingLemmas.{length-header_bytes}
use Rattle.image_log.specs.Frame.{Frame as Kept, framed}
use Rattle.image_log.specs.Polling.{fetched, polled_frame}
use Rattle.image_log.specs.Reading.{is_pad}
use Rattle.log_pairs.specs.Polling.{Fetched, Polled, fragments_of}
use Rattle.two_drivers.specs.Line.{kept_as, line_of}
use Rattle.two_drivers.specs.LineLaws.{LinesAreRuns}
use Rattle.term_log.specs.declared.ident.Ident.{Ident}
use Rattle.term_log.specs.Frames.{Frame, fragment, pad, pad_flags, span, total}
use Rattle.term_log.specs.Ident.{place_at}
use Rattle.term_log.specs.Polling.{polled_frame as term_polled, polled_run}

-- ---- what a kept frame gives

data_is_none : (flags : Flags) (place : TermPlace) (payload : List ℕ) (position size : ℕ) →
    is_pad (framed position size (header_bytes (data_header flags place payload) ++ payload)) ≡ false
unfolding is_pad header_bytes front_bytes number_bytes signed_bytes
data_is_none flags place payload position size =
    let read = half_back 6 1 (header_bytes (data_header flags place payload) ++ payload) _ refl (omega arith) in
    ap (λ (n : ℕ). n == 0) read

pad_is_one : (flags : Flags) (place : TermPlace) (stated position size : ℕ) → is_pad (framed position size (pad_bytes flags place stated)) ≡ true
unfolding is_pad pad_bytes header_bytes front_bytes number_bytes signed_bytes
pad_is_one flags place stated position size =
    let read = half_back 6 0 (header_bytes (plain_header Pad stated flags place)) _ refl (omega arith) in
    ap (λ (n : ℕ). n == 0) read

data_flags : (flags : Flags) (place : TermPlace) (payload : List ℕ) → byte_at 5 (header_bytes (data_header flags place payload) ++ payload) ≡ flags.bits
unfolding byte_at header_bytes front_bytes number_bytes signed_bytes
data_flags flags place payload = refl

data_payload : (flags : Flags) (place : TermPlace) (payload : List ℕ) → drop 32 (header_bytes (data_header flags place payload) ++ payload) ≡ payload
data_payload flags place payload =
    drop_at (header_bytes (data_header flags place payload)) payload 32 (length-header_bytes (data_header flags place payload))

data_fetched : (flags : Flags) (place : TermPlace) (payload : List ℕ) (position size : ℕ) →
    fetched (framed position size (header_bytes (data_header flags place payload) ++ payload))
    ≡ record { position = position + size; flags = flags; payload = payload }
data_fetched flags place payload position size =
    ap₂ (λ (bits : ℕ) (carried : List ℕ). let f : Fetched = record { position = position + size; flags = record { bits = bits }; payload = carried } in f)
    (data_flags flags place payload) (data_payload flags place payload)

gives_same : (i : Ident) (position : ℕ) (f : Frame) → polled_frame (kept_as i position f) ≡ term_polled (position + span f) f
gives_same i position (fragment flags payload) =
    let k : Kept = kept_as i position (fragment flags payload) in
    ap₂ (λ (b : Bool) (x : Fetched). let p : Polled = record { end = position + padded (32 + length payload); fragment = cond b None (Some x) } in p)
    (data_is_none flags (place_at i position) payload position (padded (32 + length payload)))
    (data_fetched flags (place_at i position) payload position (padded (32 + length payload)))
gives_same i position (pad size) =
    ap (λ (b : Bool). let p : Polled = record { end = position + size; fragment = cond b None (Some (fetched (kept_as i position (pad size)))) } in p)
    (pad_is_one pad_flags (place_at i position) size position size)

pub line_polled : (i : Ident) (position : ℕ) (fs : List Frame) → map polled_frame (line_of i position fs) ≡ polled_run position fs
line_polled i position [] = refl
line_polled i position (f ∷ fs) =
    ap₂ (λ (p : Polled) (ps : List Polled). p ∷ ps) (gives_same i position f) (line_polled i (position + span f) fs)

-- ---- a front of a line is a line of a front

record IsSplit (i : Ident) (position : ℕ) (fs : List Frame) (before after : List Kept) : Type 0 where
  front : List Frame
  rest : List Frame
  is : fs ≡ front ++ rest
  before_is : before ≡ line_of i position front
  after_is : after ≡ line_of i (position + total front) rest

split_at : (i : Ident) (position : ℕ) (fs : List Frame) (before after : List Kept) → line_of i position fs ≡ before ++ after →
    IsSplit i position fs before after
split_at i position fs [] after is = record {
  front = [];
  rest = fs;
  is = refl;
  before_is = refl;
  after_is = sym is ∙ ap (λ (p : ℕ). line_of i p fs) (omega arith);
}
split_at i position [] (g ∷ before) after is = absurd (cc is)
split_at i position (f ∷ fs) (g ∷ before) after is =
    let first : kept_as i position f ≡ g = cc is in
    let later : line_of i (position + span f) fs ≡ before ++ after = cc is in
    let more = split_at i (position + span f) fs before after later in
    let here : position + span f + total more.front ≡ position + (span f + total more.front) = omega arith in
    record {
      front = f ∷ more.front;
      rest = more.rest;
      is = ap (λ (xs : List Frame). f ∷ xs) more.is;
      before_is = ap₂ (λ (k : Kept) (ks : List Kept). k ∷ ks) (sym first) more.before_is;
      after_is = more.after_is ∙ ap (λ (p : ℕ). line_of i p more.rest) here;
    }

pub lines_run : LinesAreRuns
lines_run i all at given run =
    let first = split_at i i.start all run.before (run.run ++ run.after) run.is in
    let second = split_at i (i.start + total first.front) first.rest run.run run.after (sym first.after_is) in
    record {
      before = first.front;
      run = second.front;
      after = second.rest;
      is = first.is ∙ ap (λ (xs : List Frame). first.front ++ xs) second.is;
      given_are = run.given_are
          ∙ ap (λ (ks : List Kept). fragments_of (map polled_frame ks)) second.before_is
          ∙ ap fragments_of (line_polled i (i.start + total first.front) second.front);
    }
