-- A log stands for all frames that were ever appended to it.
use Rattle.std.proofs.Common.{◌≡◌, ℕ, zero, suc, ◌+◌, ◌*◌, ◌-◌, ◌%◌, ◌<◌, ◌≤◌, Bool, true, false, List, [], ◌∷◌, ◌++◌, length, take, drop, map, refl, sym, ap, ap₂, ◌∙◌, subst, arith, length-append, append_assoc}
use Rattle.std.proofs.lemmas.List.{append-nil, take-append-drop, length-drop, drop-replicate, replicate-append-replicate, length-replicate}
use Rattle.std.proofs.lemmas.Bool.Decides.{nat_tests}
use Rattle.std.specs.Prelude.{replicate, ◌==◌}
use Rattle.term_log.specs.declared.ident.Ident.{Ident}
use Rattle.std.proofs.lemmas.List.FromFn.{map-range_with_len_more}
use Rattle.std.specs.List.{range_with_len}
use Rattle.log_arena.specs.declared.lease.Lease.{Lease}
use Rattle.term_log.specs.Ident.{IsIdent, payload_length, place_at}
use Rattle.term_log.specs.Cut.{last_part, part_of, cut}
use Rattle.term_log.specs.Buffers.{written, turned, settled}
use Rattle.term_log.specs.Frames.{Frame, fragment, pad, pad_flags, span, total, begins, messages_of, front_of, bytes_of, run_of, IsFrame, IsRun}
use Rattle.term_log.specs.Kept.{IsStart, Kept, StandsFor, all_of, offset_of, rest_of, after_frame, after_frames, opened}
use Rattle.term_log.proofs.Cuts.{total-append, part_within, length_part}
use Rattle.term_log.proofs.Places.{mod_within, mod_full, aligned_rest}
use Rattle.term_log.proofs.Starts.{marks_more}
use Rattle.std.proofs.lemmas.List.Elements.{All-replicate}
use Rattle.term_log.proofs.Sizes.{length-data_bytes, length-pad_bytes}
use Rattle.term_log.proofs.Turns.{written_behind}

-- ---- one frame more, on lists of frames

messages-append : (fs : List Frame) (f : Frame) → messages_of (fs ++ f ∷ []) ≡ messages_of fs + begins f
messages-append [] f = omega arith
messages-append (g ∷ fs) f = omega (arith, messages-append fs f)

run-append : (i : Ident) (position : ℕ) (fs : List Frame) (f : Frame) → run_of i position (fs ++ f ∷ []) ≡ run_of i position fs ++ bytes_of i (position + total fs) f
run-append i position [] f =
    let here : position ≡ position + 0 = omega arith in
    append-nil (bytes_of i position f) ∙ ap (λ (p : ℕ). bytes_of i p f) here
run-append i position (g ∷ fs) f =
    let here : position + span g + total fs ≡ position + (span g + total fs) = omega arith in
    ap (λ (x : List ℕ). bytes_of i position g ++ x) (run-append i (position + span g) fs f ∙ ap (λ (p : ℕ). run_of i (position + span g) fs ++ bytes_of i p f) here)
    ∙ sym (append_assoc (bytes_of i position g) (run_of i (position + span g) fs) (bytes_of i (position + (span g + total fs)) f))

pub sound-append : (i : Ident) (position : ℕ) (fs : List Frame) (f : Frame) → IsRun i position fs → IsFrame i (position + total fs) f → IsRun i position (fs ++ f ∷ [])
sound-append i position [] f sound is =
    let here : position + 0 ≡ position = omega arith in
    (subst (λ (p : ℕ). IsFrame i p f) here is, tt)
sound-append i position (g ∷ fs) f sound is =
    let here : position + (span g + total fs) ≡ position + span g + total fs = omega arith in
    (sound.0, sound-append i (position + span g) fs f sound.1 (subst (λ (p : ℕ). IsFrame i p f) here is))

front_within : (i : Ident) (position : ℕ) (f : Frame) → IsFrame i position f → length (front_of i position f) ≤ span f
front_within i position (fragment flags payload) is = omega (arith, length-data_bytes flags (place_at i position) payload)
front_within i position (pad size) is = omega (arith, is.0, length-pad_bytes pad_flags (place_at i position) size)

pub frame_fits : (i : Ident) (position : ℕ) (f : Frame) → IsFrame i position f → position % i.term_length + span f ≤ i.term_length
frame_fits i position (fragment flags payload) is = is.1
frame_fits i position (pad size) is = omega (arith, is.1)

-- ---- one frame more, on bytes

-- a front over zeros
spliced : (held front : List ℕ) (n m : ℕ) → length front ≤ n → n ≤ m
    → written (length held) front (held ++ replicate m 0) ≡ (held ++ (front ++ replicate (n - length front) 0)) ++ replicate (m - n) 0
spliced held front n m within fits =
    let zeros : ℕ → List ℕ = λ (k : ℕ). replicate k 0 in
    let count : m - (0 + length front) ≡ n - length front + (m - n) = omega arith in
    let rest : drop (0 + length front) (zeros m) ≡ zeros (n - length front) ++ zeros (m - n) =
    drop-replicate (0 + length front) m 0 ∙ ap zeros count ∙ sym (replicate-append-replicate (n - length front) (m - n) 0) in
    written_behind 0 (length held) front (zeros m) held (omega arith)
    ∙ ap (λ (x : List ℕ). held ++ (front ++ x)) rest
    ∙ ap (λ (x : List ℕ). held ++ x) (sym (append_assoc front (zeros (n - length front)) (zeros (m - n))))
    ∙ sym (append_assoc held (front ++ zeros (n - length front)) (zeros (m - n)))

pub length-bytes : (i : Ident) (position : ℕ) (f : Frame) → IsFrame i position f → length (bytes_of i position f) ≡ span f
length-bytes i position f is =
    let front : List ℕ = front_of i position f in
    omega (arith, front_within i position f is, length-append front (replicate (span f - length front) 0), length-replicate {A = ℕ} (span f - length front) 0)

-- the bytes before a new term may begin
bytes_written : (k : Kept) (fs : List Frame) (f : Frame) → (s : StandsFor k fs) → IsFrame k.ident k.tail f
    → written (2 * k.buffers.term_length + offset_of k) (front_of k.ident k.tail f) k.buffers.bytes
    ≡ (s.held ++ bytes_of k.ident k.tail f) ++ replicate (rest_of k - span f) 0
bytes_written k fs f s is =
    let front : List ℕ = front_of k.ident k.tail f in
    let fits = frame_fits k.ident k.tail f is in
    let size = s.size in
    let same = s.same in
    let at : 2 * k.buffers.term_length + offset_of k ≡ length s.held = omega arith in
    ap₂ (λ (n : ℕ) (b : List ℕ). written n front b) at s.bytes
    ∙ spliced s.held front (span f) (rest_of k) (front_within k.ident k.tail f is) (omega arith)

all_more : (k : Kept) (fs : List Frame) (f : Frame) → (s : StandsFor k fs) → all_of k.ident (fs ++ f ∷ []) ≡ s.gone ++ (s.held ++ bytes_of k.ident k.tail f)
all_more k fs f s =
    let i : Ident = k.ident in
    let empty : List ℕ = replicate (2 * i.term_length + i.start % i.term_length) 0 in
    ap (λ (x : List ℕ). empty ++ x) (run-append i i.start fs f)
    ∙ sym (append_assoc empty (run_of i i.start fs) (bytes_of i (i.start + total fs) f))
    ∙ ap₂ (λ (x : List ℕ) (p : ℕ). x ++ bytes_of i p f) s.all (sym s.tail)
    ∙ append_assoc s.gone s.held (bytes_of i k.tail f)

stays : (k : Kept) (fs : List Frame) (f : Frame) → (s : StandsFor k fs) → IsFrame k.ident k.tail f
    → (offset_of k + span f == k.ident.term_length) ≡ false → StandsFor (after_frame k f) (fs ++ f ∷ [])
unfolding after_frame
stays k fs f s is other =
    let i : Ident = k.ident in
    let some = s.some in
    let size = s.size in
    let fits = frame_fits i k.tail f is in
    let below : offset_of k + span f < i.term_length = grind (arith, nat_tests) in
    let next : (k.tail + span f) % i.term_length ≡ offset_of k + span f = mod_within k.tail (span f) i.term_length some below in
    let left : rest_of k - span f ≡ i.term_length - (k.tail + span f) % i.term_length = omega arith in
    record {
      tail = omega (arith, s.tail, total-append fs f);
      messages = omega (arith, s.messages, messages-append fs f);
      sound = sound-append i i.start fs f s.sound (subst (λ (p : ℕ). IsFrame i p f) s.tail is);
      same = s.same;
      some = some;
      gone = s.gone;
      held = s.held ++ bytes_of i k.tail f;
      all = all_more k fs f s;
      size = omega (arith, length-append s.held (bytes_of i k.tail f), length-bytes i k.tail f is);
      bytes = ap (λ (b : Bool). settled k.buffers.term_length b (written (2 * k.buffers.term_length + offset_of k) (front_of i k.tail f) k.buffers.bytes)) other
          ∙ bytes_written k fs f s is
          ∙ ap (λ (n : ℕ). (s.held ++ bytes_of i k.tail f) ++ replicate n 0) left;
      starts = marks_more i.start k.tail fs (f ∷ []) k.marks s.tail s.starts;
    }

turns : (k : Kept) (fs : List Frame) (f : Frame) → (s : StandsFor k fs) → IsFrame k.ident k.tail f
    → (offset_of k + span f == k.ident.term_length) ≡ true → StandsFor (after_frame k f) (fs ++ f ∷ [])
unfolding after_frame
turns k fs f s is full =
    let i : Ident = k.ident in
    let some = s.some in
    let size = s.size in
    let more : List ℕ = s.held ++ bytes_of i k.tail f in
    let ends : offset_of k + span f ≡ i.term_length = grind (arith, nat_tests) in
    let next : (k.tail + span f) % i.term_length ≡ 0 = mod_full k.tail (span f) i.term_length some ends in
    let left : rest_of k - span f ≡ 0 = omega arith in
    let length_more : length more ≡ 3 * i.term_length = omega (arith, length-append s.held (bytes_of i k.tail f), length-bytes i k.tail f is) in
    let filled : i.term_length ≡ i.term_length - (k.tail + span f) % i.term_length = omega arith in
    record {
      tail = omega (arith, s.tail, total-append fs f);
      messages = omega (arith, s.messages, messages-append fs f);
      sound = sound-append i i.start fs f s.sound (subst (λ (p : ℕ). IsFrame i p f) s.tail is);
      same = s.same;
      some = some;
      gone = s.gone ++ take i.term_length more;
      held = drop i.term_length more;
      all = all_more k fs f s
          ∙ ap (λ (x : List ℕ). s.gone ++ x) (sym (take-append-drop i.term_length more))
          ∙ sym (append_assoc s.gone (take i.term_length more) (drop i.term_length more));
      size = omega (arith, length-drop i.term_length more);
      bytes = ap (λ (b : Bool). settled k.buffers.term_length b (written (2 * k.buffers.term_length + offset_of k) (front_of i k.tail f) k.buffers.bytes)) full
          ∙ ap₂ (λ (t : ℕ) (x : List ℕ). turned t x) s.same (bytes_written k fs f s is ∙ ap (λ (n : ℕ). more ++ replicate n 0) left ∙ append-nil more)
          ∙ ap (λ (n : ℕ). drop i.term_length more ++ replicate n 0) filled;
      starts = marks_more i.start k.tail fs (f ∷ []) k.marks s.tail s.starts;
    }

-- a frame more
pub frame_stands : (k : Kept) (fs : List Frame) (f : Frame) → StandsFor k fs → IsFrame k.ident k.tail f → StandsFor (after_frame k f) (fs ++ f ∷ [])
frame_stands k fs f s is =
    elim (offset_of k + span f == k.ident.term_length) as (λ b. (offset_of k + span f == k.ident.term_length) ≡ b → StandsFor (after_frame k f) (fs ++ f ∷ [])) [
      | true ↦ turns k fs f s is
      | false ↦ stays k fs f s is
    ]
    refl

-- several frames more
pub frames_stand : (k : Kept) (fs gs : List Frame) → StandsFor k fs → IsRun k.ident k.tail gs → StandsFor (after_frames k gs) (fs ++ gs)
unfolding after_frame
frames_stand k fs [] s sound = subst (λ (x : List Frame). StandsFor k x) (sym (append-nil fs)) s
frames_stand k fs (g ∷ gs) s sound =
    subst (λ (x : List Frame). StandsFor (after_frames (after_frame k g) gs) x) (append_assoc fs (g ∷ []) gs)
    (frames_stand (after_frame k g) (fs ++ g ∷ []) gs (frame_stands k fs g s sound.0) sound.1)

-- ---- what offers append

parts_run : (i : Ident) (position : ℕ) (message : List ℕ) (n : ℕ) → IsIdent i → n ≤ last_part (payload_length i) (length message) + 1
    → position % i.term_length + total (cut (payload_length i) message) ≤ i.term_length
    → IsRun i position (map (part_of (payload_length i) message) (range_with_len 0 n))
parts_run i position message zero sound before fits = tt
parts_run i position message (suc n) sound before fits =
    let payload : ℕ = payload_length i in
    let part : ℕ → Frame = part_of payload message in
    let parts : List Frame = map part (range_with_len 0 n) in
    let one : suc n ≡ n + 1 = omega arith in
    let within = part_within payload message n (omega arith) in
    let size = length_part payload message n in
    let mtu_low = sound.mtu_low in
    let term_low = sound.term_low in
    let some : 0 < span (part n) = omega arith in
    let place : (position + total parts) % i.term_length ≡ position % i.term_length + total parts =
    mod_within position (total parts) i.term_length (omega arith) (omega arith) in
    let here : IsFrame i (position + total parts) (part n) = (omega arith, omega arith) in
    subst (λ (fs : List Frame). IsRun i position fs) (sym (ap (λ (m : ℕ). map part (range_with_len 0 m)) one ∙ map-range_with_len_more part 0 n n (omega arith)))
    (sound-append i position parts (part n) (parts_run i position message n sound (omega arith) fits) here)

pub message_stands : (k after : Kept) (message : List ℕ) (fs : List Frame) → IsIdent k.ident
    → offset_of k + total (cut (payload_length k.ident) message) ≤ k.ident.term_length
    → after ≡ after_frames k (cut (payload_length k.ident) message) → StandsFor k fs → StandsFor after (fs ++ cut (payload_length k.ident) message)
unfolding cut
message_stands k after message fs sound fits is s =
    let run = parts_run k.ident k.tail message (last_part (payload_length k.ident) (length message) + 1) sound (omega arith) fits in
    subst (λ (x : Kept). StandsFor x (fs ++ cut (payload_length k.ident) message)) (sym is) (frames_stand k fs (cut (payload_length k.ident) message) s run)

pub pad_stands : (k after : Kept) (fs : List Frame) → IsIdent k.ident → k.tail % 32 ≡ 0
    → after ≡ after_frame k (pad (rest_of k)) → StandsFor k fs → StandsFor after (fs ++ pad (rest_of k) ∷ [])
pad_stands k after fs sound aligned is s =
    let some = s.some in
    let rest = aligned_rest k.tail k.ident.term_length aligned sound.term_aligned some in
    subst (λ (x : Kept). StandsFor x (fs ++ pad (rest_of k) ∷ [])) (sym is)
    (frame_stands k fs (pad (rest_of k)) s (rest.1, omega arith))

pub opened_stands : (lease : Lease) (i : Ident) → IsIdent i → StandsFor (opened lease i) []
opened_stands lease i sound =
    let term_low = sound.term_low in
    let some : 0 < i.term_length = omega arith in
    let front : ℕ = 2 * i.term_length + i.start % i.term_length in
    let count : 3 * i.term_length ≡ front + (i.term_length - i.start % i.term_length) = omega arith in
    record {
      tail = omega arith;
      messages = refl;
      sound = tt;
      same = refl;
      some = some;
      gone = [];
      held = replicate front 0;
      all = append-nil (replicate front 0);
      size = length-replicate front 0;
      bytes = ap (λ (n : ℕ). replicate {A = ℕ} n 0) count ∙ sym (replicate-append-replicate front (i.term_length - i.start % i.term_length) 0);
      starts = All-replicate (IsStart i.start []) 64 i.start (record { before = []; after = []; is = refl; place = omega arith });
    }
