-- What stands in the bytes where reading did not fail.
use Rattle.std.proofs.Common.{◌≡◌, ℕ, ◌^◌, ◌%◌, ◌==◌, ◌<◌, ◌≤◌, not, cond, ltb, List, length, take, Result, Ok, Err, ap, subst, ◌∙◌, arith}
use Rattle.std.proofs.lemmas.Bool.{ltb-false, ltb-true, eqb-true}
use Rattle.std.proofs.lemmas.List.{length-take}
use Rattle.frame_codec.specs.declared.fault.BadPacket.{BadPacket}
use Rattle.frame_codec.specs.declared.fault.BadPacket.TheVariants.{TooShort, BadVersion, BadLength, Unaligned, Mixed}
use Rattle.frame_codec.specs.declared.frame_type.FrameType.{FrameType}
use Rattle.frame_codec.specs.declared.frame_type.FrameType.TheVariants as types
use Rattle.frame_codec.specs.declared.header.Kind.TheVariants.{Data, Pad}
use Rattle.frame_codec.specs.Steps.{◌>>=◌}
use Rattle.frame_codec.specs.Fields.{byte_at, half_at, number_at, natural_at, stated_length, aligned}
use Rattle.frame_codec.specs.FrameType.{type_of, type_numbered, type_size, sized}
use Rattle.frame_codec.specs.Header.{header_of}
use Rattle.frame_codec.specs.Frame.{Sent, data_of, pad_of, pad_length, frame_of, frame_as}
use Rattle.frame_codec.specs.Nak.{nak_of}
use Rattle.frame_codec.specs.StatusMessage.{status_of}
use Rattle.frame_codec.specs.Setup.{setup_of}
use Rattle.frame_codec.proofs.Chains.{bind_ok, step, guard_ok, wanted_ok, ok_is}

-- there are as many bytes as the type has at least
pub type_fits : (bytes : List ℕ) (t : FrameType) → type_of bytes ≡ Ok t → type_size t ≤ length bytes
unfolding type_of
type_fits bytes t e =
    let a = guard_ok (ltb (length bytes) 8) TooShort (cond (not (byte_at 4 bytes == 0)) (Err BadVersion) (type_numbered (half_at 6 bytes) >>= sized bytes)) t e in
    let b = guard_ok (not (byte_at 4 bytes == 0)) BadVersion (type_numbered (half_at 6 bytes) >>= sized bytes) t a.1 in
    elim (bind_ok (type_numbered (half_at 6 bytes)) (sized bytes) t b.1) [
      | step s s_is after ↦
          let c = guard_ok (ltb (length bytes) (type_size s)) TooShort (Ok s) t after in
          let long : type_size s ≤ length bytes = ltb-false _ _ c.0 in
          subst (λ (x : FrameType). type_size x ≤ length bytes) (ok_is s t c.1) long
    ]

-- a number that may not be negative
pub natural_ok : (place : ℕ) (bytes : List ℕ) (n : ℕ) → natural_at place bytes ≡ Ok n → (number_at place bytes ≡ n) × (n < 2 ^ 31)
unfolding natural_at
natural_ok place bytes n e =
    let a = wanted_ok (ltb (number_at place bytes) (2 ^ 31)) BadLength (Ok (number_at place bytes)) n e in
    let is = ok_is (number_at place bytes) n a.1 in
    let low : number_at place bytes < 2 ^ 31 = ltb-true _ _ a.0 in
    (is, subst (λ (x : ℕ). x < 2 ^ 31) is low)

-- a stated length
pub record IsStated (least : ℕ) (bytes : List ℕ) (n : ℕ) : Type 0 where
  pub is : number_at 0 bytes ≡ n
  pub low : n < 2 ^ 31
  pub above : least ≤ n
  pub within : n ≤ length bytes

pub stated_ok : (least : ℕ) (bytes : List ℕ) (n : ℕ) → stated_length least bytes ≡ Ok n → IsStated least bytes n
unfolding stated_length
stated_ok least bytes n e =
    elim (bind_ok (natural_at 0 bytes) (λ stated. cond (ltb stated least) (Err BadLength) (cond (ltb (length bytes) stated) (Err BadLength) (Ok stated))) n e) [
      | step s s_is after ↦
          let a = guard_ok (ltb s least) BadLength (cond (ltb (length bytes) s) (Err BadLength) (Ok s)) n after in
          let b = guard_ok (ltb (length bytes) s) BadLength (Ok s) n a.1 in
          let natural = natural_ok 0 bytes s s_is in
          let fits : IsStated least bytes s = record { is = natural.0; low = natural.1; above = ltb-false _ _ a.0; within = ltb-false _ _ b.0 } in
          subst (λ (x : ℕ). IsStated least bytes x) (ok_is s n b.1) fits
    ]

-- an offset at which a frame may begin
pub record IsPlaced {X : Type 0} (place : ℕ) (bytes : List ℕ) (make : ℕ → X) (x : X) : Type 0 where
  pub offset : ℕ
  pub is : number_at place bytes ≡ offset
  pub low : offset < 2 ^ 31
  pub even : offset % 32 ≡ 0
  pub made : make offset ≡ x

pub aligned_ok : (offset start : ℕ) → aligned offset ≡ Ok start → (offset % 32 ≡ 0) × (offset ≡ start)
aligned_ok offset start e =
    let a = wanted_ok (offset % 32 == 0) Unaligned (Ok offset) start e in
    (eqb-true _ _ a.0, ok_is offset start a.1)

pub placed_ok : {X : Type 0} (place : ℕ) (bytes : List ℕ) (make : ℕ → X) (x : X)
    → (natural_at place bytes >>= λ offset. aligned offset >>= λ start. Ok (make start)) ≡ Ok x → IsPlaced place bytes make x
placed_ok place bytes make x e =
    elim (bind_ok (natural_at place bytes) (λ offset. aligned offset >>= λ start. Ok (make start)) x e) [
      | step offset offset_is after ↦
          elim (bind_ok (aligned offset) (λ start. Ok (make start)) x after) [
            | step start start_is last ↦
                let natural = natural_ok place bytes offset offset_is in
                let even = aligned_ok offset start start_is in
                let same = even.1 in
                record { offset = offset; is = natural.0; low = natural.1; even = even.0; made = ap make same ∙ ok_is (make start) x last }
          ]
    ]

-- ---- frames of a term have a header at least, and stand in the bytes

abbrev pub Fits : List ℕ → Sent → Type 0
Fits bytes frame = (32 ≤ length frame.bytes) × (length frame.bytes ≤ length bytes)

pub data_fits : (bytes : List ℕ) (frame : Sent) → data_of bytes ≡ Ok frame → Fits bytes frame
unfolding data_of
data_fits bytes frame e =
    elim (bind_ok (stated_length 32 bytes) (λ size. natural_at 8 bytes >>= λ offset. aligned offset >>= λ start. Ok (record { header = header_of Data size start bytes; bytes = take size bytes })) frame e) [
      | step size size_is after ↦
          let stated = stated_ok 32 bytes size size_is in
          let placed = placed_ok 8 bytes (λ start. record { header = header_of Data size start bytes; bytes = take size bytes }) frame after in
          let above = stated.above in
          let within = stated.within in
          let fits : Fits bytes (record { header = header_of Data size placed.offset bytes; bytes = take size bytes }) = (omega (arith, length-take size bytes), omega (arith, length-take size bytes)) in
          subst (Fits bytes) placed.made fits
    ]

pub pad_fits : (bytes : List ℕ) (frame : Sent) → 32 ≤ length bytes → pad_of bytes ≡ Ok frame → Fits bytes frame
unfolding pad_of
pad_fits bytes frame long e =
    elim (bind_ok (natural_at 0 bytes) (λ stated. pad_length stated >>= λ size. natural_at 8 bytes >>= λ offset. aligned offset >>= λ start. Ok (record { header = header_of Pad size start bytes; bytes = take 32 bytes })) frame e) [
      | step stated stated_is after ↦
          elim (bind_ok (pad_length stated) (λ size. natural_at 8 bytes >>= λ offset. aligned offset >>= λ start. Ok (record { header = header_of Pad size start bytes; bytes = take 32 bytes })) frame after) [
            | step size size_is last ↦
                let placed = placed_ok 8 bytes (λ start. record { header = header_of Pad size start bytes; bytes = take 32 bytes }) frame last in
                let fits : Fits bytes (record { header = header_of Pad size placed.offset bytes; bytes = take 32 bytes }) = (omega (arith, length-take 32 bytes), omega (arith, length-take 32 bytes)) in
                subst (Fits bytes) placed.made fits
          ]
    ]

-- a frame of another type is none
pub refused : {A : Type 0} (r : Result A BadPacket) (fault : BadPacket) (frame : Sent) → (r >>= λ x. Err fault) ≡ Ok frame → ⊥
refused r fault frame e = elim (bind_ok r (λ x. Err fault) frame e) [ step x is after ↦ absurd cc ]

frame_as_fits : (bytes : List ℕ) (t : FrameType) (frame : Sent) → type_size t ≤ length bytes → frame_as bytes t ≡ Ok frame → Fits bytes frame
frame_as_fits bytes types.Pad frame long e = pad_fits bytes frame long e
frame_as_fits bytes types.Data frame long e = data_fits bytes frame e
frame_as_fits bytes types.Nak frame long e = absurd (refused (nak_of bytes) Mixed frame e)
frame_as_fits bytes types.StatusMessage frame long e = absurd (refused (status_of bytes) Mixed frame e)
frame_as_fits bytes types.Setup frame long e = absurd (refused (setup_of bytes) Mixed frame e)

pub frame_fits : (bytes : List ℕ) (frame : Sent) → frame_of bytes ≡ Ok frame → Fits bytes frame
unfolding frame_of
frame_fits bytes frame e =
    elim (bind_ok (type_of bytes) (frame_as bytes) frame e) [
      | step t t_is after ↦ frame_as_fits bytes t frame (type_fits bytes t t_is) after
    ]
