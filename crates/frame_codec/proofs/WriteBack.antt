-- What was read is written as the bytes that it was read from.
use Rattle.std.proofs.Common.{◌≡◌, ℕ, ℤ, zero, suc, pos, ◌+◌, ◌^◌, ◌<◌, ◌≤◌, ◌==◌, ◌⊎◌, inl, inr, Bool, true, false, not, cond, ltb, List, [], ◌∷◌, ◌++◌, length, take, drop, slice_index, Result, Ok, Err, refl, sym, ap, subst, ◌∙◌, arith, length-drop}
use Rattle.std.specs.Int.{w32, cast_unsigned}
use Rattle.std.proofs.lemmas.Bool.{eqb-true}
use Rattle.std.proofs.lemmas.Int.{of_z-to_z}
use Rattle.std.proofs.lemmas.List.{take-append-drop, get_or-drop}
use Rattle.std.proofs.Math.Seq.{take-add}
use Rattle.byteorder.specs.Endian.{little_bytes, little_number}
use Rattle.byteorder.specs.Numbers.{little_from-lt}
use Rattle.frame_codec.specs.declared.fault.BadPacket.{BadPacket}
use Rattle.frame_codec.specs.declared.fault.BadPacket.TheVariants.{TooShort, BadVersion, OtherType}
use Rattle.frame_codec.specs.declared.flags.Flags.{Flags}
use Rattle.frame_codec.specs.declared.frame_type.FrameType.{FrameType}
use Rattle.frame_codec.specs.declared.frame_type.FrameType.TheVariants as types
use Rattle.frame_codec.specs.declared.nak.Nak.{Nak}
use Rattle.frame_codec.specs.declared.status_message.StatusMessage.{StatusMessage}
use Rattle.frame_codec.specs.declared.setup.Setup.{Setup}
use Rattle.frame_codec.specs.Steps.{◌>>=◌}
use Rattle.frame_codec.specs.Fields.{IsBytes, byte_at, half_at, number_at, signed_at, long_at, natural_at, stated_length, aligned}
use Rattle.frame_codec.specs.FrameType.{type_of, type_numbered, type_size, sized}
use Rattle.frame_codec.specs.Writing.{number_bytes, signed_bytes, front_bytes, no_flags}
use Rattle.frame_codec.specs.Frame.{beat_of}
use Rattle.frame_codec.specs.Frames.{frames_of}
use Rattle.frame_codec.specs.Nak.{nak_of, nak_at, nak_bytes}
use Rattle.frame_codec.specs.StatusMessage.{status_of, status_at, status_bytes}
use Rattle.frame_codec.specs.Setup.{setup_of, setup_at, setup_bytes}
use Rattle.frame_codec.specs.Datagram.{Content, packet_of, content_as, term_content, data_content}
use Rattle.frame_codec.specs.Datagram as contents
use Rattle.frame_codec.proofs.Chains.{bind_ok, step, guard_ok, ok_is, not_false}
use Rattle.frame_codec.proofs.Readers.{natural_ok, stated_ok, placed_ok}
use Rattle.frame_codec.proofs.Numbers.{bytes_of_number}

-- ---- fields, one behind the other

pub IsBytes-drop : (n : ℕ) (bytes : List ℕ) → IsBytes bytes → IsBytes (drop n bytes)
IsBytes-drop n bytes h i = rw get_or-drop (h (n + i))

number_low : (place : ℕ) (bytes : List ℕ) → IsBytes bytes → number_at place bytes < 2 ^ 32
unfolding number_at
number_low place bytes fits =
    let low : little_number 4 (drop place bytes) < 2 ^ 32 = little_from-lt 0 4 (drop place bytes) (IsBytes-drop place bytes fits) in low

-- the numbers in n bytes
stretch : (n place x : ℕ) (bytes front : List ℕ) → IsBytes bytes → place + n ≤ length bytes → little_number n (drop place bytes) ≡ x → front ≡ take place bytes
    → front ++ little_bytes n x ≡ take (place + n) bytes
stretch n place x bytes front fits long is so =
    let back = bytes_of_number n (drop place bytes) (omega (arith, length-drop place bytes)) (IsBytes-drop place bytes fits) in
    ap (λ (k : ℕ). front ++ little_bytes n k) (sym is) ∙ ap (λ (t : List ℕ). front ++ t) back ∙ ap (λ (f : List ℕ). f ++ take n (drop place bytes)) so ∙ sym (take-add place n bytes)

pub then_number : (place x : ℕ) (bytes front : List ℕ) → IsBytes bytes → place + 4 ≤ length bytes → number_at place bytes ≡ x → front ≡ take place bytes
    → front ++ number_bytes 4 x ≡ take (place + 4) bytes
unfolding number_at number_bytes
then_number place x bytes front fits long is so = stretch 4 place x bytes front fits long is so

then_half : (place x : ℕ) (bytes front : List ℕ) → IsBytes bytes → place + 2 ≤ length bytes → half_at place bytes ≡ x → front ≡ take place bytes
    → front ++ number_bytes 2 x ≡ take (place + 2) bytes
unfolding half_at number_bytes
then_half place x bytes front fits long is so = stretch 2 place x bytes front fits long is so

pub then_long : (place x : ℕ) (bytes front : List ℕ) → IsBytes bytes → place + 8 ≤ length bytes → long_at place bytes ≡ x → front ≡ take place bytes
    → front ++ number_bytes 8 x ≡ take (place + 8) bytes
unfolding long_at number_bytes
then_long place x bytes front fits long is so = stretch 8 place x bytes front fits long is so

signed_number : (place : ℕ) (z : ℤ) (bytes : List ℕ) → IsBytes bytes → signed_at place bytes ≡ z → number_at place bytes ≡ cast_unsigned w32 z
unfolding signed_at
signed_number place z bytes fits is =
    sym (ap (cast_unsigned w32) (sym is) ∙ of_z-to_z w32 (number_at place bytes) (number_low place bytes fits))

pub then_signed : (place : ℕ) (z : ℤ) (bytes front : List ℕ) → IsBytes bytes → place + 4 ≤ length bytes → signed_at place bytes ≡ z → front ≡ take place bytes
    → front ++ signed_bytes z ≡ take (place + 4) bytes
unfolding signed_bytes number_bytes
then_signed place z bytes front fits long is so =
    then_number place (cast_unsigned w32 z) bytes front fits long (signed_number place z bytes fits is) so

byte_stretch : (place : ℕ) (bytes : List ℕ) → place < length bytes → take 1 (drop place bytes) ≡ slice_index bytes place ∷ []
byte_stretch place [] h = absurd (omega arith)
byte_stretch zero (b ∷ bytes) h = refl
byte_stretch (suc place) (b ∷ bytes) h = byte_stretch place bytes (omega arith)

then_byte : (place x : ℕ) (bytes front : List ℕ) → place + 1 ≤ length bytes → byte_at place bytes ≡ x → front ≡ take place bytes
    → front ++ x ∷ [] ≡ take (place + 1) bytes
unfolding byte_at
then_byte place x bytes front long is so =
    ap (λ (k : ℕ). front ++ k ∷ []) (sym is) ∙ ap (λ (t : List ℕ). front ++ t) (sym (byte_stretch place bytes (omega arith)))
    ∙ ap (λ (f : List ℕ). f ++ take 1 (drop place bytes)) so ∙ sym (take-add place 1 bytes)

-- ---- what every frame begins with

pub record IsFront (bytes : List ℕ) (number : ℕ) : Type 0 where
  pub version : byte_at 4 bytes ≡ 0
  pub number_is : half_at 6 bytes ≡ number

abbrev pub type_number : FrameType → ℕ
type_number types.Pad = 0
type_number types.Data = 1
type_number types.Nak = 2
type_number types.StatusMessage = 3
type_number types.Setup = 5

tested : (x k : ℕ) (a : FrameType) (y : Result FrameType BadPacket) (z : FrameType) → cond (x == k) (Ok a) y ≡ Ok z → ((x ≡ k) × (a ≡ z)) ⊎ (y ≡ Ok z)
tested x k a y z e =
    elim (x == k) as (λ (b : Bool). (x == k) ≡ b → cond b (Ok a) y ≡ Ok z → ((x ≡ k) × (a ≡ z)) ⊎ (y ≡ Ok z)) [
      | true ↦ (λ is h. inl (eqb-true x k is, ok_is a z h))
      | false ↦ (λ is h. inr h)
    ]
    refl e

numbered : (x : ℕ) (kind : FrameType) → type_numbered x ≡ Ok kind → x ≡ type_number kind
numbered x kind e =
    elim (tested x 0 types.Pad (cond (x == 1) (Ok types.Data) (cond (x == 2) (Ok types.Nak) (cond (x == 3) (Ok types.StatusMessage) (cond (x == 5) (Ok types.Setup) (Err OtherType))))) kind e) [
      | inl p ↦ p.0 ∙ ap type_number p.1
      | inr e1 ↦ elim (tested x 1 types.Data (cond (x == 2) (Ok types.Nak) (cond (x == 3) (Ok types.StatusMessage) (cond (x == 5) (Ok types.Setup) (Err OtherType)))) kind e1) [
        | inl p ↦ p.0 ∙ ap type_number p.1
        | inr e2 ↦ elim (tested x 2 types.Nak (cond (x == 3) (Ok types.StatusMessage) (cond (x == 5) (Ok types.Setup) (Err OtherType))) kind e2) [
          | inl p ↦ p.0 ∙ ap type_number p.1
          | inr e3 ↦ elim (tested x 3 types.StatusMessage (cond (x == 5) (Ok types.Setup) (Err OtherType)) kind e3) [
            | inl p ↦ p.0 ∙ ap type_number p.1
            | inr e4 ↦ elim (tested x 5 types.Setup (Err OtherType) kind e4) [
              | inl p ↦ p.0 ∙ ap type_number p.1
              | inr e5 ↦ absurd cc
            ]
          ]
        ]
      ]
    ]

pub type_ok : (bytes : List ℕ) (kind : FrameType) → type_of bytes ≡ Ok kind → IsFront bytes (type_number kind)
unfolding type_of
type_ok bytes kind e =
    let a = guard_ok (ltb (length bytes) 8) TooShort (cond (not (byte_at 4 bytes == 0)) (Err BadVersion) (type_numbered (half_at 6 bytes) >>= sized bytes)) kind e in
    let b = guard_ok (not (byte_at 4 bytes == 0)) BadVersion (type_numbered (half_at 6 bytes) >>= sized bytes) kind a.1 in
    elim (bind_ok (type_numbered (half_at 6 bytes)) (sized bytes) kind b.1) [
      | step s s_is after ↦
          let c = guard_ok (ltb (length bytes) (type_size s)) TooShort (Ok s) kind after in
          record { version = eqb-true (byte_at 4 bytes) 0 (not_false (byte_at 4 bytes == 0) b.0); number_is = numbered (half_at 6 bytes) s s_is ∙ ap type_number (ok_is s kind c.1) }
    ]

pub front_back : (bytes : List ℕ) (size : ℕ) (flags : Flags) (number : ℕ) → IsBytes bytes → 8 ≤ length bytes → IsFront bytes number → number_at 0 bytes ≡ size → byte_at 5 bytes ≡ flags.bits
    → front_bytes size flags number ≡ take 8 bytes
unfolding front_bytes
front_back bytes size flags number fits long is stated some =
    let s1 : number_bytes 4 size ≡ take 4 bytes = then_number 0 size bytes [] fits (omega arith) stated refl in
    let s2 = then_byte 4 0 bytes (number_bytes 4 size) (omega arith) is.version s1 in
    let s3 = then_byte 5 flags.bits bytes (number_bytes 4 size ++ 0 ∷ []) (omega arith) some s2 in
    then_half 6 number bytes (number_bytes 4 size ++ 0 ∷ [] ++ flags.bits ∷ []) fits (omega arith) is.number_is s3

-- ---- which content a datagram has

-- what was read, of a datagram of that kind and content
abbrev pub IsRead : List ℕ → FrameType → Content → Type 0
IsRead bytes kind (contents.frames frames) = frames_of bytes ≡ Ok frames
IsRead bytes kind (contents.beat h) = (kind ≡ types.Data) × (length bytes ≡ 32) × (number_at 0 bytes ≡ 0) × (beat_of bytes ≡ Ok h)
IsRead bytes kind (contents.nak n) = (kind ≡ types.Nak) × (nak_of bytes ≡ Ok n)
IsRead bytes kind (contents.status s) = (kind ≡ types.StatusMessage) × (status_of bytes ≡ Ok s)
IsRead bytes kind (contents.setup s) = (kind ≡ types.Setup) × (setup_of bytes ≡ Ok s)

term_read : (bytes : List ℕ) (kind : FrameType) (c : Content) → (frames_of bytes >>= λ sent. Ok (contents.frames sent)) ≡ Ok c → IsRead bytes kind c
term_read bytes kind c e = elim (bind_ok (frames_of bytes) (λ sent. Ok (contents.frames sent)) c e) [
  | step x is after ↦ subst (IsRead bytes kind) (ok_is (contents.frames x) c after) is
]

data_read_by : (a b : Bool) (bytes : List ℕ) (c : Content) → (length bytes == 32) ≡ a → (number_at 0 bytes == 0) ≡ b
    → cond (not a) (frames_of bytes >>= λ sent. Ok (contents.frames sent)) (cond (not b) (frames_of bytes >>= λ sent. Ok (contents.frames sent)) (beat_of bytes >>= λ header. Ok (contents.beat header))) ≡ Ok c
    → IsRead bytes types.Data c
data_read_by false b bytes c size none e = term_read bytes types.Data c e
data_read_by true false bytes c size none e = term_read bytes types.Data c e
data_read_by true true bytes c size none e = elim (bind_ok (beat_of bytes) (λ header. Ok (contents.beat header)) c e) [
  | step x is after ↦ subst (IsRead bytes types.Data) (ok_is (contents.beat x) c after) (refl, eqb-true (length bytes) 32 size, eqb-true (number_at 0 bytes) 0 none, is)
]

data_read : (bytes : List ℕ) (c : Content) → data_content bytes ≡ Ok c → IsRead bytes types.Data c
unfolding data_content
data_read bytes c e = data_read_by (length bytes == 32) (number_at 0 bytes == 0) bytes c refl refl e

content_read : (bytes : List ℕ) (kind : FrameType) (c : Content) → content_as bytes kind ≡ Ok c → IsRead bytes kind c
content_read bytes types.Pad c e = term_read bytes types.Pad c e
content_read bytes types.Data c e = data_read bytes c e
content_read bytes types.Nak c e = elim (bind_ok (nak_of bytes) (λ fields. Ok (contents.nak fields)) c e) [
  | step x is after ↦ subst (IsRead bytes types.Nak) (ok_is (contents.nak x) c after) (refl, is)
]
content_read bytes types.StatusMessage c e = elim (bind_ok (status_of bytes) (λ fields. Ok (contents.status fields)) c e) [
  | step x is after ↦ subst (IsRead bytes types.StatusMessage) (ok_is (contents.status x) c after) (refl, is)
]
content_read bytes types.Setup c e = elim (bind_ok (setup_of bytes) (λ fields. Ok (contents.setup fields)) c e) [
  | step x is after ↦ subst (IsRead bytes types.Setup) (ok_is (contents.setup x) c after) (refl, is)
]

-- the kind of a datagram, its front, and what was read
pub record Found (bytes : List ℕ) (c : Content) : Type 0 where
  pub kind : FrameType
  pub front : IsFront bytes (type_number kind)
  pub is : IsRead bytes kind c

pub found : (bytes : List ℕ) (c : Content) → packet_of bytes ≡ Ok c → Found bytes c
unfolding packet_of
found bytes c e = elim (bind_ok (type_of bytes) (content_as bytes) c e) [
  | step kind kind_is after ↦ record { kind = kind; front = type_ok bytes kind kind_is; is = content_read bytes kind c after }
]

-- ---- NAKs

nak_fields : (bytes : List ℕ) (n : Nak) (offset : ℕ) → IsBytes bytes → 28 ≤ length bytes → IsFront bytes 2 → number_at 0 bytes ≡ 28
    → number_at 20 bytes ≡ offset → nak_at offset bytes ≡ n → n.flags.bits ≡ 0 → nak_bytes n ≡ take 28 bytes
unfolding nak_bytes nak_at
nak_fields bytes n offset fits long front stated is made none =
    let s0 = front_back bytes 28 no_flags 2 fits (omega arith) front stated (ap (λ (m : Nak). m.flags.bits) made ∙ none) in
    let s1 = then_signed 8 n.session_id bytes _ fits (omega arith) (ap (λ (m : Nak). m.session_id) made) s0 in
    let s2 = then_signed 12 n.stream_id bytes _ fits (omega arith) (ap (λ (m : Nak). m.stream_id) made) s1 in
    let s3 = then_signed 16 n.term_id bytes _ fits (omega arith) (ap (λ (m : Nak). m.term_id) made) s2 in
    let s4 = then_number 20 n.term_offset bytes _ fits (omega arith) (is ∙ ap (λ (m : Nak). m.term_offset) made) s3 in
    then_signed 24 n.length bytes _ fits (omega arith) (ap (λ (m : Nak). m.length) made) s4

nak_read : (bytes : List ℕ) (n : Nak) → IsBytes bytes → IsFront bytes 2 → nak_of bytes ≡ Ok n → number_at 0 bytes ≡ 28 → n.flags.bits ≡ 0 → nak_bytes n ++ drop 28 bytes ≡ bytes
unfolding nak_of
nak_read bytes n fits front e stated none =
    elim (bind_ok (stated_length 28 bytes) (λ size. natural_at 20 bytes >>= λ offset. aligned offset >>= λ start. Ok (nak_at start bytes)) n e) [
      | step size size_is after ↦
          let is = stated_ok 28 bytes size size_is in
          let above = is.above in let within = is.within in
          let placed = placed_ok 20 bytes (λ start. nak_at start bytes) n after in
          ap (λ (front : List ℕ). front ++ drop 28 bytes) (nak_fields bytes n placed.offset fits (omega arith) front stated placed.is placed.made none) ∙ take-append-drop 28 bytes
    ]

pub nak_written : (bytes : List ℕ) (n : Nak) → IsBytes bytes → packet_of bytes ≡ Ok (contents.nak n) → number_at 0 bytes ≡ 28 → n.flags.bits ≡ 0 → nak_bytes n ++ drop 28 bytes ≡ bytes
nak_written bytes n fits e stated none =
    let is = found bytes (contents.nak n) e in
    let front : IsFront bytes 2 = subst (λ (kind : FrameType). IsFront bytes (type_number kind)) is.is.0 is.front in
    nak_read bytes n fits front is.is.1 stated none

-- ---- status messages

status_fields : (bytes : List ℕ) (s : StatusMessage) (offset window : ℕ) → IsBytes bytes → 36 ≤ length bytes → IsFront bytes 3 → number_at 0 bytes ≡ 36
    → number_at 20 bytes ≡ offset → number_at 24 bytes ≡ window → status_at offset window bytes ≡ s → s.flags.bits ≡ 0 → status_bytes s ≡ take 36 bytes
unfolding status_bytes status_at
status_fields bytes s offset window fits long front stated is room made none =
    let s0 = front_back bytes 36 no_flags 3 fits (omega arith) front stated (ap (λ (m : StatusMessage). m.flags.bits) made ∙ none) in
    let s1 = then_signed 8 s.session_id bytes _ fits (omega arith) (ap (λ (m : StatusMessage). m.session_id) made) s0 in
    let s2 = then_signed 12 s.stream_id bytes _ fits (omega arith) (ap (λ (m : StatusMessage). m.stream_id) made) s1 in
    let s3 = then_signed 16 s.consumption_term_id bytes _ fits (omega arith) (ap (λ (m : StatusMessage). m.consumption_term_id) made) s2 in
    let s4 = then_number 20 s.consumption_term_offset bytes _ fits (omega arith) (is ∙ ap (λ (m : StatusMessage). m.consumption_term_offset) made) s3 in
    let s5 = then_number 24 s.receiver_window bytes _ fits (omega arith) (room ∙ ap (λ (m : StatusMessage). m.receiver_window) made) s4 in
    then_long 28 s.receiver_id bytes _ fits (omega arith) (ap (λ (m : StatusMessage). m.receiver_id) made) s5

status_read : (bytes : List ℕ) (s : StatusMessage) → IsBytes bytes → IsFront bytes 3 → status_of bytes ≡ Ok s → number_at 0 bytes ≡ 36 → s.flags.bits ≡ 0 → status_bytes s ++ drop 36 bytes ≡ bytes
unfolding status_of
status_read bytes s fits front e stated none =
    elim (bind_ok (stated_length 36 bytes) (λ size. natural_at 20 bytes >>= λ offset. natural_at 24 bytes >>= λ window. Ok (status_at offset window bytes)) s e) [
      | step size size_is after ↦
          let is = stated_ok 36 bytes size size_is in
          let above = is.above in let within = is.within in
          elim (bind_ok (natural_at 20 bytes) (λ offset. natural_at 24 bytes >>= λ window. Ok (status_at offset window bytes)) s after) [
            | step offset offset_is next ↦
                elim (bind_ok (natural_at 24 bytes) (λ window. Ok (status_at offset window bytes)) s next) [
                  | step window window_is last ↦
                      let long : 36 ≤ length bytes = omega (arith, above, within) in
                      ap (λ (front : List ℕ). front ++ drop 36 bytes)
                      (status_fields bytes s offset window fits long front stated (natural_ok 20 bytes offset offset_is).0 (natural_ok 24 bytes window window_is).0 (ok_is (status_at offset window bytes) s last) none)
                      ∙ take-append-drop 36 bytes
                ]
          ]
    ]

pub status_written : (bytes : List ℕ) (s : StatusMessage) → IsBytes bytes → packet_of bytes ≡ Ok (contents.status s) → number_at 0 bytes ≡ 36 → s.flags.bits ≡ 0 → status_bytes s ++ drop 36 bytes ≡ bytes
status_written bytes s fits e stated none =
    let is = found bytes (contents.status s) e in
    let front : IsFront bytes 3 = subst (λ (kind : FrameType). IsFront bytes (type_number kind)) is.is.0 is.front in
    status_read bytes s fits front is.is.1 stated none

-- ---- SETUPs

setup_fields : (bytes : List ℕ) (s : Setup) (offset : ℕ) → IsBytes bytes → 40 ≤ length bytes → IsFront bytes 5 → number_at 0 bytes ≡ 40
    → number_at 8 bytes ≡ offset → setup_at offset bytes ≡ s → s.flags.bits ≡ 0 → s.ttl ≡ pos 0 → setup_bytes s ≡ take 40 bytes
unfolding setup_bytes setup_at
setup_fields bytes s offset fits long front stated is made none ttl =
    let s0 = front_back bytes 40 no_flags 5 fits (omega arith) front stated (ap (λ (m : Setup). m.flags.bits) made ∙ none) in
    let s1 = then_number 8 s.term_offset bytes _ fits (omega arith) (is ∙ ap (λ (m : Setup). m.term_offset) made) s0 in
    let s2 = then_signed 12 s.session_id bytes _ fits (omega arith) (ap (λ (m : Setup). m.session_id) made) s1 in
    let s3 = then_signed 16 s.stream_id bytes _ fits (omega arith) (ap (λ (m : Setup). m.stream_id) made) s2 in
    let s4 = then_signed 20 s.initial_term_id bytes _ fits (omega arith) (ap (λ (m : Setup). m.initial_term_id) made) s3 in
    let s5 = then_signed 24 s.active_term_id bytes _ fits (omega arith) (ap (λ (m : Setup). m.active_term_id) made) s4 in
    let s6 = then_signed 28 s.term_length bytes _ fits (omega arith) (ap (λ (m : Setup). m.term_length) made) s5 in
    let s7 = then_signed 32 s.mtu bytes _ fits (omega arith) (ap (λ (m : Setup). m.mtu) made) s6 in
    then_signed 36 (pos 0) bytes _ fits (omega arith) (ap (λ (m : Setup). m.ttl) made ∙ ttl) s7

setup_read : (bytes : List ℕ) (s : Setup) → IsBytes bytes → IsFront bytes 5 → setup_of bytes ≡ Ok s → number_at 0 bytes ≡ 40 → s.flags.bits ≡ 0 → s.ttl ≡ pos 0 → setup_bytes s ++ drop 40 bytes ≡ bytes
unfolding setup_of
setup_read bytes s fits front e stated none ttl =
    elim (bind_ok (stated_length 40 bytes) (λ size. natural_at 8 bytes >>= λ offset. aligned offset >>= λ start. Ok (setup_at start bytes)) s e) [
      | step size size_is after ↦
          let is = stated_ok 40 bytes size size_is in
          let above = is.above in let within = is.within in
          let placed = placed_ok 8 bytes (λ start. setup_at start bytes) s after in
          ap (λ (front : List ℕ). front ++ drop 40 bytes) (setup_fields bytes s placed.offset fits (omega arith) front stated placed.is placed.made none ttl) ∙ take-append-drop 40 bytes
    ]

pub setup_written : (bytes : List ℕ) (s : Setup) → IsBytes bytes → packet_of bytes ≡ Ok (contents.setup s) → number_at 0 bytes ≡ 40 → s.flags.bits ≡ 0 → s.ttl ≡ pos 0 → setup_bytes s ++ drop 40 bytes ≡ bytes
setup_written bytes s fits e stated none ttl =
    let is = found bytes (contents.setup s) e in
    let front : IsFront bytes 5 = subst (λ (kind : FrameType). IsFront bytes (type_number kind)) is.is.0 is.front in
    setup_read bytes s fits front is.is.1 stated none ttl
