-- A frame that was written is read at the front of its bytes.
use Rattle.std.proofs.Common.{◌≡◌, ℕ, ◌+◌, ◌-◌, ◌%◌, ◌^◌, ◌<◌, ◌≤◌, List, ◌++◌, length, take, drop, Some, refl, ap, ◌∙◌, arith, length-append, append_assoc}
use Rattle.std.specs.Prelude.{replicate, slice_index}
use Rattle.std.proofs.lemmas.Bool.{eq-eqb, ne_eqb, le-ltb}
use Rattle.std.proofs.lemmas.List.{take_at, drop_at}
use Rattle.std.proofs.Math.Nat.{mod-eq_of_lt}
use Rattle.byteorder.specs.Endian.{little_bytes, little_number}
use Rattle.byteorder.specs.Numbers.{little_number-reads_back}
use Rattle.frame_codec.specs.declared.flags.Flags.{Flags}
use Rattle.frame_codec.specs.declared.header.Kind.TheVariants.{Data, Pad}
use Rattle.frame_codec.specs.declared.header.Header.{Header}
use Rattle.frame_codec.specs.declared.header.TermPlace.{TermPlace}
use Rattle.frame_codec.specs.Frame.{padded, data_bytes, data_header, pad_bytes}
use Rattle.frame_codec.specs.Header.{header_bytes, plain_header}
use Rattle.frame_codec.specs.Writing.{front_bytes, number_bytes, signed_bytes}
use Rattle.frame_codec.proofs.WritingLemmas.{length-header_bytes}
use Rattle.term_log.specs.declared.ident.Ident.{Ident}
use Rattle.term_log.specs.Ident.{IsIdent, place_at}
use Rattle.term_log.specs.Frames.{Frame, fragment, pad, pad_flags, span, front_of, IsFrame}
use Rattle.term_log.specs.Reading.{given, sent_size, first_of}
use Rattle.term_log.proofs.Sizes.{length-data_bytes, length-pad_bytes}

-- ---- the fields that are looked at

number_front : (x : ℕ) (bytes rest : List ℕ) → bytes ≡ little_bytes 4 x ++ rest → x < 256 ^ 4 → little_number 4 bytes ≡ x
number_front x bytes rest is fits = ap (little_number 4) is ∙ little_number-reads_back 4 x rest fits

header_length : (h : Header) (rest : List ℕ) → h.length < 256 ^ 4 → little_number 4 (header_bytes h ++ rest) ≡ h.length
unfolding header_bytes front_bytes number_bytes signed_bytes
header_length h rest fits = number_front h.length (header_bytes h ++ rest) _ refl fits

header_flags : (h : Header) (rest : List ℕ) → slice_index (header_bytes h ++ rest) 5 ≡ h.flags.bits
unfolding header_bytes front_bytes number_bytes signed_bytes
header_flags h rest = refl

data_kind : (size : ℕ) (flags : Flags) (place : TermPlace) (rest : List ℕ) → slice_index (header_bytes (plain_header Data size flags place) ++ rest) 6 ≡ 1
unfolding header_bytes front_bytes number_bytes signed_bytes
data_kind size flags place rest = refl

pad_kind : (size : ℕ) (flags : Flags) (place : TermPlace) (rest : List ℕ) → slice_index (header_bytes (plain_header Pad size flags place) ++ rest) 6 ≡ 0
unfolding header_bytes front_bytes number_bytes signed_bytes
pad_kind size flags place rest = refl

-- ---- one frame

data_first : (position : ℕ) (bytes header payload filling rest : List ℕ) (flags : Flags) → length header ≡ 32 → 32 + length payload < 256 ^ 4
    → bytes ≡ header ++ payload ++ filling ++ rest → length (header ++ payload ++ filling) ≡ padded (32 + length payload)
    → slice_index bytes 6 ≡ 1 → slice_index bytes 5 ≡ flags.bits → little_number 4 bytes ≡ 32 + length payload
    → first_of position bytes ≡ Some (record { position = position; frame = fragment flags payload; bytes = header ++ payload ++ filling })
unfolding first_of
data_first position bytes header payload filling rest flags long fits whole size kind bits stated =
    let front : List ℕ = header ++ payload ++ filling in
    let n : ℕ = 32 + length payload in
    let total : length bytes ≡ length front + length rest = ap (length {A = ℕ}) whole ∙ length-append front rest in
    let enough : 32 ≤ length bytes = omega (arith, size, total) in
    let above : 32 ≤ n = omega arith in
    let within : padded n ≤ length bytes = omega (arith, size, total) in
    let sent : take (padded n) bytes ≡ front = ap (take (padded n)) whole ∙ take_at front rest (padded n) size in
    let here : length (header ++ payload) ≡ n = omega (arith, length-append header payload, long) in
    let split : bytes ≡ (header ++ payload) ++ (filling ++ rest) = whole ∙ append_assoc (header ++ payload) filling rest in
    let frame : take n bytes ≡ header ++ payload = ap (take n) split ∙ take_at (header ++ payload) (filling ++ rest) n here in
    let part : drop 32 (take n bytes) ≡ payload = ap (drop 32) frame ∙ drop_at header payload 32 long in
    let other : (slice_index bytes 6 ≡ 0) → ⊥ = λ none. omega (arith, none, kind) in
    rw (le-ltb (length bytes) 32 enough, ne_eqb (slice_index bytes 6) 0 other, stated, le-ltb n 32 above, le-ltb (length bytes) (padded n) within, sent, part, bits) refl

pad_first : (position size : ℕ) (bytes header rest : List ℕ) → length header ≡ 32 → bytes ≡ header ++ rest
    → slice_index bytes 6 ≡ 0 → little_number 4 bytes ≡ size → size ≤ length bytes
    → first_of position bytes ≡ Some (record { position = position; frame = pad size; bytes = header })
unfolding first_of
pad_first position size bytes header rest long whole kind stated within =
    let total : length bytes ≡ length header + length rest = ap (length {A = ℕ}) whole ∙ length-append header rest in
    let enough : 32 ≤ length bytes = omega (arith, long, total) in
    let sent : take 32 bytes ≡ header = ap (take 32) whole ∙ take_at header rest 32 long in
    rw (le-ltb (length bytes) 32 enough, eq-eqb (slice_index bytes 6) 0 kind, stated, le-ltb (length bytes) size within, sent) refl

-- ---- one frame as it was appended

data_again : (flags : Flags) (place : TermPlace) (payload rest : List ℕ) (position : ℕ) → 32 + length payload < 256 ^ 4
    → first_of position (data_bytes flags place payload ++ rest) ≡ Some (record { position = position; frame = fragment flags payload; bytes = data_bytes flags place payload })
unfolding data_bytes
data_again flags place payload rest position fits =
    let size : ℕ = 32 + length payload in
    let h : Header = data_header flags place payload in
    let filling : List ℕ = replicate (padded size - size) 0 in
    let own : size % 2 ^ 32 ≡ size = mod-eq_of_lt (omega arith) in
    let split : header_bytes h ++ payload ++ filling ++ rest ≡ header_bytes h ++ (payload ++ (filling ++ rest)) =
    append_assoc (header_bytes h ++ payload) filling rest ∙ append_assoc (header_bytes h) payload (filling ++ rest) in
    let tail : List ℕ = payload ++ (filling ++ rest) in
    data_first position (header_bytes h ++ payload ++ filling ++ rest) (header_bytes h) payload filling rest flags (length-header_bytes h) fits refl
    (length-data_bytes flags place payload)
    (ap (λ (b : List ℕ). slice_index b 6) split ∙ data_kind (size % 2 ^ 32) flags place tail)
    (ap (λ (b : List ℕ). slice_index b 5) split ∙ header_flags h tail)
    (ap (little_number 4) split ∙ header_length h tail (omega (arith, own, fits)) ∙ own)

pad_again : (place : TermPlace) (size position : ℕ) (rest : List ℕ) → size < 256 ^ 4 → size ≤ 32 + length rest
    → first_of position (pad_bytes pad_flags place size ++ rest) ≡ Some (record { position = position; frame = pad size; bytes = pad_bytes pad_flags place size })
unfolding pad_bytes
pad_again place size position rest fits within =
    let h : Header = plain_header Pad size pad_flags place in
    pad_first position size (header_bytes h ++ rest) (header_bytes h) rest (length-header_bytes h) refl
    (pad_kind size pad_flags place rest) (header_length h rest fits) (omega (arith, within, length-append (header_bytes h) rest, length-header_bytes h))

pub first_again : (i : Ident) (position : ℕ) (f : Frame) (rest : List ℕ) → IsIdent i → IsFrame i position f → span f ≤ sent_size f + length rest
    → first_of position (front_of i position f ++ rest) ≡ Some (given i position f)
first_again i position (fragment flags payload) rest sound is within =
    let mtu_high = sound.mtu_high in
    data_again flags (place_at i position) payload rest position (omega (arith, is.0))
first_again i position (pad size) rest sound is within =
    let term_high = sound.term_high in
    pad_again (place_at i position) size position rest (omega (arith, is.1)) within

pub length-front : (i : Ident) (position : ℕ) (f : Frame) → length (front_of i position f) ≡ sent_size f
length-front i position (fragment flags payload) = length-data_bytes flags (place_at i position) payload
length-front i position (pad size) = length-pad_bytes pad_flags (place_at i position) size
