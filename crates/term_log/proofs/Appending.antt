-- Frames that are appended one after the other.
use Rattle.std.proofs.Common.{◌≡◌, ℕ, ◌+◌, ◌*◌, ◌%◌, ◌<◌, ◌≤◌, List, [], ◌∷◌, ◌++◌, length, take, drop, map, refl, sym, ap, ap₂, ◌∙◌, arith}
use Rattle.std.proofs.lemmas.List.FromFn.{map-range_with_len_more}
use Rattle.std.specs.List.{range_with_len}
use Rattle.frame_codec.specs.Frame.{padded}
use Rattle.frame_codec.specs.declared.flags.Flags.{Flags}
use Rattle.term_log.specs.declared.ident.Ident.{Ident}
use Rattle.term_log.specs.Ident.{payload_length, greatest_position}
use Rattle.term_log.specs.Frames.{Frame, fragment, span, total}
use Rattle.term_log.specs.Cut.{last_part, flags_of, part_of, cut}
use Rattle.term_log.specs.Kept.{Kept, after_frame, after_frames, offset_of}
use Rattle.term_log.proofs.Cuts.{part_within}
use Rattle.term_log.proofs.Places.{mod_within}

pub after_frames_push : (k : Kept) (fs : List Frame) (f : Frame) → after_frames k (fs ++ f ∷ []) ≡ after_frame (after_frames k fs) f
after_frames_push k [] f = refl
after_frames_push k (g ∷ fs) f = after_frames_push (after_frame k g) fs f

step_tail : (k : Kept) (f : Frame) → (after_frame k f).tail ≡ k.tail + span f
unfolding after_frame
step_tail k f = refl

step_ident : (k : Kept) (f : Frame) → (after_frame k f).ident ≡ k.ident
unfolding after_frame
step_ident k f = refl

pub tail_after : (k : Kept) (fs : List Frame) → (after_frames k fs).tail ≡ k.tail + total fs
tail_after k [] = omega arith
tail_after k (f ∷ fs) = omega (arith, tail_after (after_frame k f) fs, step_tail k f)

pub ident_after : (k : Kept) (fs : List Frame) → (after_frames k fs).ident ≡ k.ident
ident_after k [] = refl
ident_after k (f ∷ fs) = ident_after (after_frame k f) fs ∙ step_ident k f

step_home : (k : Kept) (f : Frame) → ((after_frame k f).buffers.home ≡ k.buffers.home)
    × ((after_frame k f).buffers.place ≡ k.buffers.place)
    × ((after_frame k f).buffers.term_length ≡ k.buffers.term_length)
unfolding after_frame
step_home k f = (refl, refl, refl)

-- whatever is appended, the log is the same one, in the same place of its home
pub after_frames_home : (k : Kept) (fs : List Frame) → ((after_frames k fs).ident ≡ k.ident)
    × ((after_frames k fs).buffers.home ≡ k.buffers.home)
    × ((after_frames k fs).buffers.place ≡ k.buffers.place)
    × ((after_frames k fs).buffers.term_length ≡ k.buffers.term_length)
after_frames_home k [] = (refl, refl, refl, refl)
after_frames_home k (f ∷ fs) =
    let step = step_home k f in
    let rest = after_frames_home (after_frame k f) fs in
    (rest.0 ∙ step_ident k f, rest.1 ∙ step.0, rest.2 ∙ step.1, rest.3 ∙ step.2)

-- the next frame of a message fits where the whole cut does
pub next_fits : (k now : Kept) (message here : List ℕ) (payload i : ℕ) → now ≡ after_frames k (map (part_of payload message) (range_with_len 0 i))
    → payload ≡ payload_length k.ident → 0 < k.ident.term_length → i < last_part payload (length message) + 1 → here ≡ take payload (drop (i * payload) message)
    → offset_of k + total (cut (payload_length k.ident) message) ≤ k.ident.term_length
    → offset_of now + padded (32 + length here) ≤ now.ident.term_length
next_fits k now message here payload i is payload_is some before here_is fits =
    let parts : List Frame = map (part_of payload message) (range_with_len 0 i) in
    let ident : now.ident ≡ k.ident = ap (λ (x : Kept). x.ident) is ∙ ident_after k parts in
    let tail : now.tail ≡ k.tail + total parts = ap (λ (x : Kept). x.tail) is ∙ tail_after k parts in
    let term : now.ident.term_length ≡ k.ident.term_length = ap (λ (j : Ident). j.term_length) ident in
    let whole : total (cut payload message) ≡ total (cut (payload_length k.ident) message) = ap (λ (p : ℕ). total (cut p message)) payload_is in
    let within = part_within payload message i (omega arith) in
    let size : padded (32 + length here) ≡ span (part_of payload message i) = ap (λ (x : List ℕ). padded (32 + length x)) here_is in
    let some_here : 0 < span (part_of payload message i) = omega arith in
    let offset : offset_of now ≡ offset_of k + total parts =
    ap₂ (λ (t l : ℕ). t % l) tail term ∙ mod_within k.tail (total parts) k.ident.term_length some (omega arith) in
    omega arith

pub next_ends : (k now : Kept) (message here : List ℕ) (payload i : ℕ) → now ≡ after_frames k (map (part_of payload message) (range_with_len 0 i))
    → payload ≡ payload_length k.ident → i < last_part payload (length message) + 1 → here ≡ take payload (drop (i * payload) message)
    → k.tail + total (cut (payload_length k.ident) message) ≤ greatest_position k.ident
    → now.tail + padded (32 + length here) ≤ greatest_position now.ident
next_ends k now message here payload i is payload_is before here_is ends =
    let parts : List Frame = map (part_of payload message) (range_with_len 0 i) in
    let ident : now.ident ≡ k.ident = ap (λ (x : Kept). x.ident) is ∙ ident_after k parts in
    let tail : now.tail ≡ k.tail + total parts = ap (λ (x : Kept). x.tail) is ∙ tail_after k parts in
    let greatest : greatest_position now.ident ≡ greatest_position k.ident = ap greatest_position ident in
    let whole : total (cut payload message) ≡ total (cut (payload_length k.ident) message) = ap (λ (p : ℕ). total (cut p message)) payload_is in
    let within = part_within payload message i (omega arith) in
    let size : padded (32 + length here) ≡ span (part_of payload message i) = ap (λ (x : List ℕ). padded (32 + length x)) here_is in
    omega arith

-- a frame more of a message
pub next_part : (k now after : Kept) (message here : List ℕ) (flags : Flags) (payload last i : ℕ) → now ≡ after_frames k (map (part_of payload message) (range_with_len 0 i))
    → last ≡ last_part payload (length message) → flags ≡ flags_of last i → here ≡ take payload (drop (i * payload) message)
    → after ≡ after_frame now (fragment flags here)
    → after ≡ after_frames k (map (part_of payload message) (range_with_len 0 (i + 1)))
next_part k now after message here flags payload last i is last_is flags_is here_is after_is =
    let part : ℕ → Frame = part_of payload message in
    let frame : fragment flags here ≡ part i = ap₂ fragment (flags_is ∙ ap (λ (l : ℕ). flags_of l i) last_is) here_is in
    after_is
    ∙ ap₂ after_frame is frame
    ∙ sym (after_frames_push k (map part (range_with_len 0 i)) (part i))
    ∙ ap (after_frames k) (sym (map-range_with_len_more part 0 i i (omega arith)))

-- all frames of a message
pub all_parts : (k now : Kept) (message : List ℕ) (payload i : ℕ) → now ≡ after_frames k (map (part_of payload message) (range_with_len 0 i))
    → payload ≡ payload_length k.ident → i ≡ last_part payload (length message) + 1
    → now ≡ after_frames k (cut (payload_length k.ident) message)
unfolding cut
all_parts k now message payload i is payload_is count =
    is
    ∙ ap (λ (n : ℕ). after_frames k (map (part_of payload message) (range_with_len 0 n))) count
    ∙ ap (λ (p : ℕ). after_frames k (map (part_of p message) (range_with_len 0 (last_part p (length message) + 1)))) payload_is
