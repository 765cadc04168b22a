-- The frames of a datagram are sound, and of one term.
use Rattle.std.proofs.Common.{◌≡◌, ℕ, ℤ, zero, suc, ◌+◌, ◌*◌, ◌%◌, ◌<◌, ◌≤◌, ◌==◌, inl, inr, Bool, true, false, not, cond, List, [], ◌∷◌, length, take, drop, slice_index, Ok, Err, refl, sym, ap, ap₂, subst, ◌∙◌, arith}
use Rattle.std.specs.Ordering.{int_eq}
use Rattle.std.proofs.lemmas.Bool.{eqb-false, eqb-true}
use Rattle.std.proofs.lemmas.Bool.Decides.{Decides-int_eq}
use Rattle.std.proofs.lemmas.List.{get_or-drop, get_or-take, length-take}
use Rattle.byteorder.specs.Endian.{little_from}
use Rattle.frame_codec.specs.declared.fault.BadPacket.TheVariants.{BadLength, Mixed}
use Rattle.frame_codec.specs.declared.frame_type.FrameType.{FrameType}
use Rattle.frame_codec.specs.declared.frame_type.FrameType.TheVariants as types
use Rattle.frame_codec.specs.declared.header.Kind.{Kind}
use Rattle.frame_codec.specs.declared.header.Kind.TheVariants.{Data, Pad}
use Rattle.frame_codec.specs.declared.header.Header.{Header}
use Rattle.frame_codec.specs.declared.header.TermPlace.{TermPlace}
use Rattle.frame_codec.specs.Steps.{◌>>=◌}
use Rattle.frame_codec.specs.Fields.{byte_at, half_at, number_at, signed_at, long_at, natural_at, stated_length, aligned}
use Rattle.frame_codec.specs.FrameType.{type_of, type_size}
use Rattle.frame_codec.specs.Header.{header_of, kind_number}
use Rattle.frame_codec.specs.Frame.{Sent, data_of, pad_of, pad_length, frame_of, frame_as}
use Rattle.frame_codec.specs.Frames.{follows, is_pad, behind, next_of, later_of, all_later, frames_of}
use Rattle.frame_codec.specs.Nak.{nak_of}
use Rattle.frame_codec.specs.StatusMessage.{status_of}
use Rattle.frame_codec.specs.Setup.{setup_of}
use Rattle.frame_codec.specs.Datagram.{packet_of}
use Rattle.frame_codec.specs.Datagram as contents
use Rattle.frame_codec.specs.Sound.{IsSound, IsTold, AreTold, IsBeside, AreBeside, AreOfOneTerm}
use Rattle.frame_codec.proofs.Chains.{bind_ok, step, guard_ok, wanted_ok, ok_is, not_false}
use Rattle.frame_codec.proofs.Readers.{type_fits, natural_ok, stated_ok, placed_ok, refused}
use Rattle.frame_codec.proofs.FramesLemmas.{next_ok}
use Rattle.frame_codec.proofs.WriteBack.{IsFront, type_number, type_ok, found}
use Rattle.frame_codec.proofs.FramesBack.{AreRead, packet_read}

-- ---- fields in the front of the bytes

byte_front : (place m i : ℕ) (bytes : List ℕ) → place + i < m → slice_index (drop place (take m bytes)) i ≡ slice_index (drop place bytes) i
byte_front place m i bytes h = get_or-drop place (take m bytes) i 0 ∙ get_or-take m bytes (place + i) 0 h ∙ sym (get_or-drop place bytes i 0)

little_front : (place m i n : ℕ) (bytes : List ℕ) → place + (i + n) ≤ m → little_from i n (drop place (take m bytes)) ≡ little_from i n (drop place bytes)
little_front place m i zero bytes h = refl
little_front place m i (suc n) bytes h =
    ap₂ (λ (x y : ℕ). x + 256 * y) (byte_front place m i bytes (omega arith)) (little_front place m (suc i) n bytes (omega arith))

number_front : (place m : ℕ) (bytes : List ℕ) → place + 4 ≤ m → number_at place (take m bytes) ≡ number_at place bytes
unfolding number_at
number_front place m bytes h = little_front place m 0 4 bytes h

half_front : (place m : ℕ) (bytes : List ℕ) → place + 2 ≤ m → half_at place (take m bytes) ≡ half_at place bytes
unfolding half_at
half_front place m bytes h = little_front place m 0 2 bytes h

long_front : (place m : ℕ) (bytes : List ℕ) → place + 8 ≤ m → long_at place (take m bytes) ≡ long_at place bytes
unfolding long_at
long_front place m bytes h = little_front place m 0 8 bytes h

signed_front : (place m : ℕ) (bytes : List ℕ) → place + 4 ≤ m → signed_at place (take m bytes) ≡ signed_at place bytes
unfolding signed_at
signed_front place m bytes h = rw (number_front place m bytes h) refl

byte_at_front : (place m : ℕ) (bytes : List ℕ) → place < m → byte_at place (take m bytes) ≡ byte_at place bytes
unfolding byte_at
byte_at_front place m bytes h = get_or-take m bytes place 0 h

header_front : (kind : Kind) (size offset m : ℕ) (bytes : List ℕ) → 32 ≤ m → header_of kind size offset (take m bytes) ≡ header_of kind size offset bytes
unfolding header_of
header_front kind size offset m bytes h =
    rw (byte_at_front 5 m bytes (omega arith), signed_front 12 m bytes (omega arith), signed_front 16 m bytes (omega arith), signed_front 20 m bytes (omega arith), long_front 24 m bytes (omega arith)) refl

-- ---- one frame

-- what the header says of itself
kind_of : (kind : Kind) (size offset : ℕ) (bytes : List ℕ) → (header_of kind size offset bytes).kind ≡ kind
unfolding header_of
kind_of kind size offset bytes = refl

-- a frame of so many bytes from the front on
told_front : (bytes : List ℕ) (kind : Kind) (size offset m : ℕ) → 32 ≤ m → number_at 0 bytes ≡ size → number_at 8 bytes ≡ offset → IsFront bytes (kind_number kind)
    → IsSound (take m bytes) → IsTold (record { header = header_of kind size offset bytes; bytes = take m bytes })
told_front bytes kind size offset m long stated is front sound =
    let one = kind_of kind size offset bytes in
    record {
      sound = sound;
      kind = half_front 6 m bytes (omega arith) ∙ front.number_is ∙ ap kind_number (sym one);
      header = sym (header_front kind size offset m bytes long)
          ∙ ap₂ (λ (a b : ℕ). header_of kind a b (take m bytes)) (sym (number_front 0 m bytes (omega arith) ∙ stated)) (sym (number_front 8 m bytes (omega arith) ∙ is))
          ∙ ap (λ (k : Kind). header_of k (number_at 0 (take m bytes)) (number_at 8 (take m bytes)) (take m bytes)) (sym one);
    }

data_told : (bytes : List ℕ) (frame : Sent) → IsFront bytes 1 → data_of bytes ≡ Ok frame → IsTold frame
unfolding data_of
data_told bytes frame front e =
    elim (bind_ok (stated_length 32 bytes) (λ size. natural_at 8 bytes >>= λ offset. aligned offset >>= λ start. Ok (record { header = header_of Data size start bytes; bytes = take size bytes })) frame e) [
      | step size size_is after ↦
          let stated = stated_ok 32 bytes size size_is in
          let above = stated.above in let within = stated.within in let low = stated.low in
          let placed = placed_ok 8 bytes (λ start. record { header = header_of Data size start bytes; bytes = take size bytes }) frame after in
          let count : length (take size bytes) ≡ size = omega (arith, length-take size bytes, within) in
          let number = number_front 0 size bytes (omega (arith, above)) in
          let start = number_front 8 size bytes (omega (arith, above)) in
          let sound : IsSound (take size bytes) = record {
            version = byte_at_front 4 size bytes (omega (arith, above)) ∙ front.version;
            header = omega (arith, count, above);
            layout = inl (half_front 6 size bytes (omega (arith, above)) ∙ front.number_is, number ∙ stated.is ∙ sym count);
            short = omega (arith, number, stated.is, low);
            offset = omega (arith, start, placed.is, placed.low);
            aligned = ap (λ (n : ℕ). n % 32) (start ∙ placed.is) ∙ placed.even;
          } in
          subst IsTold placed.made (told_front bytes Data size placed.offset size above stated.is placed.is front sound)
    ]

pad_length_ok : (stated size : ℕ) → pad_length stated ≡ Ok size → (stated ≡ size) × (0 < size) × (size % 32 ≡ 0)
pad_length_ok stated size e =
    let a = guard_ok (stated == 0) BadLength (cond (stated % 32 == 0) (Ok stated) (Err BadLength)) size e in
    let b = wanted_ok (stated % 32 == 0) BadLength (Ok stated) size a.1 in
    let same = ok_is stated size b.1 in
    let some = eqb-false stated 0 a.0 in
    (same, omega (arith, some, same), ap (λ (n : ℕ). n % 32) (sym same) ∙ eqb-true (stated % 32) 0 b.0)

pad_told : (bytes : List ℕ) (frame : Sent) → IsFront bytes 0 → 32 ≤ length bytes → pad_of bytes ≡ Ok frame → IsTold frame
unfolding pad_of
pad_told bytes frame front long e =
    elim (bind_ok (natural_at 0 bytes) (λ stated. pad_length stated >>= λ size. natural_at 8 bytes >>= λ offset. aligned offset >>= λ start. Ok (record { header = header_of Pad size start bytes; bytes = take 32 bytes })) frame e) [
      | step stated stated_is after ↦
          elim (bind_ok (pad_length stated) (λ size. natural_at 8 bytes >>= λ offset. aligned offset >>= λ start. Ok (record { header = header_of Pad size start bytes; bytes = take 32 bytes })) frame after) [
            | step size size_is last ↦
                let placed = placed_ok 8 bytes (λ start. record { header = header_of Pad size start bytes; bytes = take 32 bytes }) frame last in
                let natural = natural_ok 0 bytes stated stated_is in
                let whole = pad_length_ok stated size size_is in
                let count : length (take 32 bytes) ≡ 32 = omega (arith, length-take 32 bytes, long) in
                let number : number_at 0 (take 32 bytes) ≡ size = number_front 0 32 bytes (omega arith) ∙ natural.0 ∙ whole.0 in
                let start : number_at 8 (take 32 bytes) ≡ placed.offset = number_front 8 32 bytes (omega arith) ∙ placed.is in
                let sound : IsSound (take 32 bytes) = record {
                  version = byte_at_front 4 32 bytes (omega arith) ∙ front.version;
                  header = omega (arith, count);
                  layout = inr (half_front 6 32 bytes (omega arith) ∙ front.number_is, count, omega (arith, number, whole.1), ap (λ (n : ℕ). n % 32) number ∙ whole.2);
                  short = omega (arith, number, whole.0, natural.1);
                  offset = omega (arith, start, placed.low);
                  aligned = ap (λ (n : ℕ). n % 32) start ∙ placed.even;
                } in
                subst IsTold placed.made (told_front bytes Pad size placed.offset 32 (omega arith) (natural.0 ∙ whole.0) placed.is front sound)
          ]
    ]

frame_as_told : (bytes : List ℕ) (kind : FrameType) (frame : Sent) → IsFront bytes (type_number kind) → type_size kind ≤ length bytes → frame_as bytes kind ≡ Ok frame → IsTold frame
frame_as_told bytes types.Pad frame front long e = pad_told bytes frame front long e
frame_as_told bytes types.Data frame front long e = data_told bytes frame front e
frame_as_told bytes types.Nak frame front long e = absurd (refused (nak_of bytes) Mixed frame e)
frame_as_told bytes types.StatusMessage frame front long e = absurd (refused (status_of bytes) Mixed frame e)
frame_as_told bytes types.Setup frame front long e = absurd (refused (setup_of bytes) Mixed frame e)

frame_told : (bytes : List ℕ) (frame : Sent) → frame_of bytes ≡ Ok frame → IsTold frame
unfolding frame_of
frame_told bytes frame e =
    elim (bind_ok (type_of bytes) (frame_as bytes) frame e) [
      | step kind kind_is after ↦ frame_as_told bytes kind frame (type_ok bytes kind kind_is) (type_fits bytes kind kind_is) after
    ]

-- ---- all frames

all_told : (frames : List Sent) (bytes : List ℕ) → AreRead frames bytes → AreTold frames
all_told [] bytes are = tt
all_told (frame ∷ later) bytes are = (frame_told bytes frame are.0, all_told later (behind frame bytes) are.1)

pub frames_told : (bytes : List ℕ) (frames : List Sent) → packet_of bytes ≡ Ok (contents.frames frames) → AreTold frames
frames_told bytes frames e = all_told frames bytes (packet_read bytes frames e)

-- ---- one term

-- a chain of tests that ends well passes each
unless : (a b : Bool) → cond a false b ≡ true → (a ≡ false) × (b ≡ true)
unless true b e = absurd cc
unless false b e = (refl, e)

same_int : (x y : ℤ) → not (int_eq x y) ≡ false → x ≡ y
same_int x y e = (Decides-int_eq x y).0 (not_false (int_eq x y) e)

beside : (before next : Header) → follows before next ≡ true → IsBeside before.place next.place
unfolding follows
beside before next e =
    let a = unless (is_pad before.kind) _ e in
    let b = unless (not (int_eq next.place.session_id before.place.session_id)) _ a.1 in
    let c = unless (not (int_eq next.place.stream_id before.place.stream_id)) _ b.1 in
    let d = unless (not (int_eq next.place.term_id before.place.term_id)) _ c.1 in
    record {
      session_id = same_int next.place.session_id before.place.session_id b.0;
      stream_id = same_int next.place.stream_id before.place.stream_id c.0;
      term_id = same_int next.place.term_id before.place.term_id d.0;
    }

beside_more : (a b : TermPlace) (frames : List Sent) → IsBeside a b → AreBeside b frames → AreBeside a frames
beside_more a b [] first are = tt
beside_more a b (frame ∷ later) first are = (
  record {
    session_id = are.0.session_id ∙ first.session_id;
    stream_id = are.0.stream_id ∙ first.stream_id;
    term_id = are.0.term_id ∙ first.term_id;
  },
  beside_more a b later first are.1,
)

later_beside : (n : ℕ) (before : Header) (bytes : List ℕ) (frames : List Sent) → later_of n before bytes ≡ Ok frames → AreBeside before.place frames
unfolding later_of
later_beside zero before bytes frames e = subst (λ (fs : List Sent). AreBeside before.place fs) (ok_is [] frames e) tt
later_beside (suc n) before [] frames e = subst (λ (fs : List Sent). AreBeside before.place fs) (ok_is [] frames e) tt
later_beside (suc n) before (b ∷ bytes) frames e =
    elim (bind_ok (next_of before (b ∷ bytes)) (λ frame. later_of n frame.header (behind frame (b ∷ bytes)) >>= λ later. Ok (frame ∷ later)) frames e) [
      | step frame frame_is after ↦
          let first = beside before frame.header (next_ok before (b ∷ bytes) frame frame_is).1 in
          elim (bind_ok (later_of n frame.header (behind frame (b ∷ bytes))) (λ later. Ok (frame ∷ later)) frames after) [
            | step later later_is last ↦
                subst (λ (fs : List Sent). AreBeside before.place fs) (ok_is (frame ∷ later) frames last)
                (first, beside_more before.place frame.header.place later first (later_beside n frame.header (behind frame (b ∷ bytes)) later later_is))
          ]
    ]

all_beside : (bytes : List ℕ) (frames : List Sent) → frames_of bytes ≡ Ok frames → AreOfOneTerm frames
unfolding frames_of
all_beside bytes frames e =
    elim (bind_ok (frame_of bytes) (λ frame. all_later frame.header (behind frame bytes) >>= λ later. Ok (frame ∷ later)) frames e) [
      | step frame frame_is after ↦
          elim (bind_ok (all_later frame.header (behind frame bytes)) (λ later. Ok (frame ∷ later)) frames after) [
            | step later later_is last ↦
                subst AreOfOneTerm (ok_is (frame ∷ later) frames last) (later_beside (length (behind frame bytes)) frame.header (behind frame bytes) later later_is)
          ]
    ]

pub frames_beside : (bytes : List ℕ) (frames : List Sent) → packet_of bytes ≡ Ok (contents.frames frames) → AreOfOneTerm frames
frames_beside bytes frames e = all_beside bytes frames (found bytes (contents.frames frames) e).is
