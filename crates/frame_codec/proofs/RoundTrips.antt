-- What was written is read back: fields, and frames of one.
use Rattle.std.proofs.Common.{◌≡◌, ℕ, ℤ, pos, ◌%◌, ◌^◌, ◌<◌, ◌≤◌, List, ◌++◌, length, drop, Ok, refl, sym, ap, ◌∙◌, arith}
use Rattle.std.specs.Prelude.{FitsSigned}
use Rattle.std.specs.Int.{w32, cast_signed, cast_unsigned}
use Rattle.std.proofs.lemmas.Bool.{eq-eqb, le-ltb, lt-ltb}
use Rattle.std.proofs.lemmas.Int.{to_z-of_z}
use Rattle.std.proofs.Math.Facts.{Fits-of_z, sfits_lit}
use Rattle.std.proofs.lemmas.List.{length-append}
use Rattle.byteorder.specs.Endian.{little_bytes, little_number}
use Rattle.byteorder.specs.Numbers.{little_number-reads_back}
use Rattle.frame_codec.specs.declared.frame_type.FrameType.{FrameType}
use Rattle.frame_codec.specs.declared.frame_type.FrameType.TheVariants as types
use Rattle.frame_codec.specs.declared.nak.Nak.{Nak}
use Rattle.frame_codec.specs.declared.status_message.StatusMessage.{StatusMessage}
use Rattle.frame_codec.specs.declared.setup.Setup.{Setup}
use Rattle.frame_codec.specs.Fields.{byte_at, half_at, number_at, signed_at, long_at, natural_at, stated_length, aligned}
use Rattle.frame_codec.specs.FrameType.{type_of, type_numbered, type_size}
use Rattle.frame_codec.specs.Writing.{number_bytes, signed_bytes, front_bytes}
use Rattle.frame_codec.specs.Nak.{nak_of, nak_at, nak_bytes}
use Rattle.frame_codec.specs.StatusMessage.{status_of, status_at, status_bytes}
use Rattle.frame_codec.specs.Setup.{setup_of, setup_at, setup_bytes}
use Rattle.frame_codec.specs.Datagram.{packet_of}
use Rattle.frame_codec.specs.Datagram as contents
use Rattle.frame_codec.specs.Written.{IsNak, IsStatusMessage, IsSetup}

-- ---- fields

pub half_back : (place x : ℕ) (bytes tail : List ℕ) → drop place bytes ≡ little_bytes 2 x ++ tail → x < 256 ^ 2 → half_at place bytes ≡ x
unfolding half_at
half_back place x bytes tail at fits = ap (little_number 2) at ∙ little_number-reads_back 2 x tail fits

pub number_back : (place x : ℕ) (bytes tail : List ℕ) → drop place bytes ≡ little_bytes 4 x ++ tail → x < 256 ^ 4 → number_at place bytes ≡ x
unfolding number_at
number_back place x bytes tail at fits = ap (little_number 4) at ∙ little_number-reads_back 4 x tail fits

pub long_back : (place x : ℕ) (bytes tail : List ℕ) → drop place bytes ≡ little_bytes 8 x ++ tail → x < 256 ^ 8 → long_at place bytes ≡ x
unfolding long_at
long_back place x bytes tail at fits = ap (little_number 8) at ∙ little_number-reads_back 8 x tail fits

pub signed_back : (place : ℕ) (z : ℤ) (bytes tail : List ℕ) → drop place bytes ≡ little_bytes 4 (cast_unsigned w32 z) ++ tail → FitsSigned w32 z → signed_at place bytes ≡ z
unfolding signed_at
signed_back place z bytes tail at fits =
    let fit : cast_unsigned w32 z < 256 ^ 4 = (Fits-of_z fits).fits in
    ap (cast_signed w32) (number_back place (cast_unsigned w32 z) bytes tail at fit) ∙ to_z-of_z w32 z fits

pub natural_back : (place x : ℕ) (bytes tail : List ℕ) → drop place bytes ≡ little_bytes 4 x ++ tail → x < 2 ^ 31 → natural_at place bytes ≡ Ok x
unfolding natural_at
natural_back place x bytes tail at fits =
    let number = number_back place x bytes tail at (omega arith) in
    rw (number, lt-ltb x (2 ^ 31) fits) refl

pub stated_back : (least x : ℕ) (bytes : List ℕ) → natural_at 0 bytes ≡ Ok x → least ≤ x → x ≤ length bytes → stated_length least bytes ≡ Ok x
unfolding stated_length
stated_back least x bytes is above within = rw (is, le-ltb x least above, le-ltb (length bytes) x within) refl

pub aligned_back : (x : ℕ) → x % 32 ≡ 0 → aligned x ≡ Ok x
aligned_back x even = rw (eq-eqb (x % 32) 0 even) refl

pub type_back : (bytes : List ℕ) (number : ℕ) (kind : FrameType) → 8 ≤ length bytes → byte_at 4 bytes ≡ 0 → half_at 6 bytes ≡ number
    → type_numbered number ≡ Ok kind → type_size kind ≤ length bytes → type_of bytes ≡ Ok kind
unfolding type_of
type_back bytes number kind long version is known fits =
    rw (le-ltb (length bytes) 8 long, version, is, known, le-ltb (length bytes) (type_size kind) fits) refl

-- a front of n bytes
pub front_long : (front rest : List ℕ) (n : ℕ) → length front ≡ n → n ≤ length (front ++ rest)
front_long front rest n is = omega (arith, length-append front rest, is)

fewer : (k n m : ℕ) → k ≤ n → n ≤ m → k ≤ m
fewer k n m h g = omega arith

-- ---- NAKs

nak_from : (bytes : List ℕ) (n : Nak) → type_of bytes ≡ Ok types.Nak → stated_length 28 bytes ≡ Ok 28
    → byte_at 5 bytes ≡ n.flags.bits → signed_at 8 bytes ≡ n.session_id → signed_at 12 bytes ≡ n.stream_id → signed_at 16 bytes ≡ n.term_id
    → natural_at 20 bytes ≡ Ok n.term_offset → aligned n.term_offset ≡ Ok n.term_offset → signed_at 24 bytes ≡ n.length
    → packet_of bytes ≡ Ok (contents.nak n)
unfolding packet_of nak_of nak_at
nak_from bytes n kind stated flags session stream term offset even size =
    rw (kind, stated, offset, even, flags, session, stream, term, size) refl

pub nak_again : (n : Nak) (rest : List ℕ) → IsNak n → packet_of (nak_bytes n ++ rest) ≡ Ok (contents.nak n)
unfolding nak_bytes front_bytes number_bytes signed_bytes byte_at
nak_again n rest fits =
    let b : List ℕ = nak_bytes n ++ rest in
    let long : 28 ≤ length b = front_long (nak_bytes n) rest 28 refl in
    let type_is = type_back b 2 types.Nak (fewer 8 28 (length b) (omega arith) long) refl (half_back 6 2 b _ refl (omega arith)) refl long in
    let stated = stated_back 28 28 b (natural_back 0 28 b _ refl (omega arith)) (omega arith) long in
    nak_from b n type_is stated (sym fits.no_flags)
    (signed_back 8 n.session_id b _ refl fits.session_id)
    (signed_back 12 n.stream_id b _ refl fits.stream_id)
    (signed_back 16 n.term_id b _ refl fits.term_id)
    (natural_back 20 n.term_offset b _ refl fits.offset_fits)
    (aligned_back n.term_offset fits.offset_aligned)
    (signed_back 24 n.length b _ refl fits.size)

-- ---- status messages

status_from : (bytes : List ℕ) (s : StatusMessage) → type_of bytes ≡ Ok types.StatusMessage → stated_length 36 bytes ≡ Ok 36
    → byte_at 5 bytes ≡ s.flags.bits → signed_at 8 bytes ≡ s.session_id → signed_at 12 bytes ≡ s.stream_id → signed_at 16 bytes ≡ s.consumption_term_id
    → natural_at 20 bytes ≡ Ok s.consumption_term_offset → natural_at 24 bytes ≡ Ok s.receiver_window → long_at 28 bytes ≡ s.receiver_id
    → packet_of bytes ≡ Ok (contents.status s)
unfolding packet_of status_of status_at
status_from bytes s kind stated flags session stream term offset window receiver =
    rw (kind, stated, offset, window, flags, session, stream, term, receiver) refl

pub status_again : (s : StatusMessage) (rest : List ℕ) → IsStatusMessage s → packet_of (status_bytes s ++ rest) ≡ Ok (contents.status s)
unfolding status_bytes front_bytes number_bytes signed_bytes byte_at
status_again s rest fits =
    let b : List ℕ = status_bytes s ++ rest in
    let long : 36 ≤ length b = front_long (status_bytes s) rest 36 refl in
    let type_is = type_back b 3 types.StatusMessage (fewer 8 36 (length b) (omega arith) long) refl (half_back 6 3 b _ refl (omega arith)) refl long in
    let stated = stated_back 36 36 b (natural_back 0 36 b _ refl (omega arith)) (omega arith) long in
    let receiver : s.receiver_id < 256 ^ 8 = fits.receiver_fits in
    status_from b s type_is stated (sym fits.no_flags)
    (signed_back 8 s.session_id b _ refl fits.session_id)
    (signed_back 12 s.stream_id b _ refl fits.stream_id)
    (signed_back 16 s.consumption_term_id b _ refl fits.term_id)
    (natural_back 20 s.consumption_term_offset b _ refl fits.offset_fits)
    (natural_back 24 s.receiver_window b _ refl fits.window_fits)
    (long_back 28 s.receiver_id b _ refl receiver)

-- ---- SETUPs

setup_from : (bytes : List ℕ) (s : Setup) → type_of bytes ≡ Ok types.Setup → stated_length 40 bytes ≡ Ok 40
    → byte_at 5 bytes ≡ s.flags.bits → natural_at 8 bytes ≡ Ok s.term_offset → aligned s.term_offset ≡ Ok s.term_offset
    → signed_at 12 bytes ≡ s.session_id → signed_at 16 bytes ≡ s.stream_id → signed_at 20 bytes ≡ s.initial_term_id → signed_at 24 bytes ≡ s.active_term_id
    → signed_at 28 bytes ≡ s.term_length → signed_at 32 bytes ≡ s.mtu → signed_at 36 bytes ≡ s.ttl
    → packet_of bytes ≡ Ok (contents.setup s)
unfolding packet_of setup_of setup_at
setup_from bytes s kind stated flags offset even session stream initial active term mtu ttl =
    rw (kind, stated, offset, even, flags, session, stream, initial, active, term, mtu, ttl) refl

pub setup_again : (s : Setup) (rest : List ℕ) → IsSetup s → packet_of (setup_bytes s ++ rest) ≡ Ok (contents.setup s)
unfolding setup_bytes front_bytes number_bytes signed_bytes byte_at
setup_again s rest fits =
    let b : List ℕ = setup_bytes s ++ rest in
    let long : 40 ≤ length b = front_long (setup_bytes s) rest 40 refl in
    let type_is = type_back b 5 types.Setup (fewer 8 40 (length b) (omega arith) long) refl (half_back 6 5 b _ refl (omega arith)) refl long in
    let stated = stated_back 40 40 b (natural_back 0 40 b _ refl (omega arith)) (omega arith) long in
    let zero_fits : FitsSigned w32 (pos 0) = sfits_lit tt in
    setup_from b s type_is stated (sym fits.no_flags)
    (natural_back 8 s.term_offset b _ refl fits.offset_fits)
    (aligned_back s.term_offset fits.offset_aligned)
    (signed_back 12 s.session_id b _ refl fits.session_id)
    (signed_back 16 s.stream_id b _ refl fits.stream_id)
    (signed_back 20 s.initial_term_id b _ refl fits.initial_term_id)
    (signed_back 24 s.active_term_id b _ refl fits.active_term_id)
    (signed_back 28 s.term_length b _ refl fits.term_length)
    (signed_back 32 s.mtu b _ refl fits.mtu)
    (signed_back 36 (pos 0) b _ refl zero_fits ∙ sym fits.no_ttl)
