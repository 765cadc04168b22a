-- What a log keeps of all frames that were ever appended to it.
use Rattle.std.specs.Prelude.{◌≡◌, ℕ, ℤ, ◌+◌, ◌-◌, ◌*◌, ◌/◌, ◌%◌, ◌<◌, ◌≤◌, ◌==◌, All, if◌then◌else◌, List, [], ◌∷◌, ◌++◌, length, replicate, slice_index, slice_set, refl}
use Rattle.std.specs.Coded.{Coded, code_by, coded×, coded_ℕ, coded_list}
use Rattle.frame_codec.specs.Position.{term_id_of}
use Rattle.log_arena.specs.Lease.{lease_home, lease_place}
use Rattle.log_arena.specs.declared.lease.Lease.{Lease}
use Rattle.term_log.specs.declared.ident.Ident.{Ident}
use Rattle.term_log.specs.Ident.{IsIdent, ident_code, greatest_position}
use Rattle.term_log.specs.Buffers.{Buffers, buffers_code, written, settled}
use Rattle.term_log.specs.Frames.{Frame, span, total, begins, messages_of, front_of, run_of, IsRun}

-- what it was made for, the position after the last frame, how many messages were appended, its three terms, and where some
-- frames begin
pub record Kept : Type 0 where
  pub ident : Ident
  pub tail : ℕ
  pub messages : ℕ
  pub buffers : Buffers
  pub marks : List ℕ

abbrev pub kept_code : Coded Kept
kept_code =
    code_by (Ident × (ℕ × (ℕ × (List ℕ × Buffers)))) (coded× ident_code (coded× coded_ℕ (coded× coded_ℕ (coded× (coded_list coded_ℕ) buffers_code))))
    (λ k. (k.ident, (k.tail, (k.messages, (k.marks, k.buffers)))))
    (λ p. record { ident = p.0; tail = p.1.0; messages = p.1.1.0; marks = p.1.1.1.0; buffers = p.1.1.1.1 })
    (λ _. refl)

-- how many bytes of the newest term are before the tail, and how many are left
abbrev pub offset_of : Kept → ℕ
offset_of k = k.tail % k.ident.term_length

abbrev pub rest_of : Kept → ℕ
rest_of k = k.ident.term_length - offset_of k

-- all bytes that ever were: those of two terms and of the front of the first term, which no frame has, and all frames
abbrev pub all_of : Ident → List Frame → List ℕ
all_of i frames = replicate (2 * i.term_length + i.start % i.term_length) 0 ++ run_of i i.start frames

-- a position is where one of the frames begins, or after the last one
pub record IsStart (position : ℕ) (frames : List Frame) (at : ℕ) : Type 0 where
  pub before : List Frame
  pub after : List Frame
  pub is : frames ≡ before ++ after
  pub place : at ≡ position + total before

-- The log stands for these frames: all that were ever appended, one after another from its start on. Held are the
-- last bytes of all, those of the term of the tail and of the two before it; all other bytes are zeros.
pub record StandsFor (k : Kept) (frames : List Frame) : Type 0 where
  pub tail : k.tail ≡ k.ident.start + total frames
  pub messages : k.messages ≡ messages_of frames
  pub sound : IsRun k.ident k.ident.start frames
  pub same : k.buffers.term_length ≡ k.ident.term_length
  pub some : 0 < k.ident.term_length
  pub gone : List ℕ
  pub held : List ℕ
  pub all : all_of k.ident frames ≡ gone ++ held
  pub size : length held ≡ 2 * k.ident.term_length + offset_of k
  pub bytes : k.buffers.bytes ≡ held ++ replicate (rest_of k) 0
  pub starts : All (IsStart k.ident.start frames) k.marks

-- what a log is in a fresh lease
abbrev pub opened : Lease → Ident → Kept
opened lease i = record {
  ident = i;
  tail = i.start;
  messages = 0;
  buffers = record { home = lease_home lease; place = lease_place lease; term_length = i.term_length; bytes = replicate (3 * i.term_length) 0 };
  marks = replicate 64 i.start;
}

-- there is a mark for each 4,096 positions, until it is written over 64 times as many later: the first at which a frame begins
abbrev pub slot_of : ℕ → ℕ
slot_of at = at / 4096 % 64

abbrev pub marked : ℕ → List ℕ → List ℕ
marked at marks =
    if slice_index marks (slot_of at) / 4096 == at / 4096 then marks else slice_set marks (slot_of at) at

-- the bytes once a frame's front was written at the tail, and `n` positions were taken
abbrev pub stepped : Kept → ℕ → List ℕ → List ℕ
stepped k n front =
    settled k.buffers.term_length (offset_of k + n == k.ident.term_length)
    (written (2 * k.buffers.term_length + offset_of k) front k.buffers.bytes)

-- what is kept once a frame more was appended
unfoldable pub after_frame : Kept → Frame → Kept
after_frame k f = record k {
  tail = k.tail + span f;
  messages = k.messages + begins f;
  buffers = record k.buffers { bytes = stepped k (span f) (front_of k.ident k.tail f) };
  marks = marked k.tail k.marks;
}

abbrev pub after_frames : Kept → List Frame → Kept
after_frames k [] = k
after_frames k (f ∷ fs) = after_frames (after_frame k f) fs

-- facts on numbers that every log keeps; where the tail is in its term is kept beside it, and all before it is written
pub record IsKept (i : Ident) (tail offset : ℕ) (term_id : ℤ) (messages : ℕ) (buffers : Buffers) (filled : ℕ) : Type 0 where
  pub ident : IsIdent i
  pub same : buffers.term_length ≡ i.term_length
  pub low : i.start ≤ tail
  pub high : tail ≤ greatest_position i
  pub aligned : tail % 32 ≡ 0
  pub counted : i.start + 32 * messages ≤ tail
  pub offset_is : offset ≡ tail % i.term_length
  pub term_is : term_id ≡ term_id_of i.initial_term tail i.term_length
  pub written : offset ≤ filled
