-- How long the frames of a message are.
use Rattle.std.proofs.Common.{◌≡◌, ℕ, zero, suc, ◌+◌, ◌*◌, ◌-◌, ◌%◌, ◌<◌, ◌≤◌, List, [], ◌∷◌, ◌++◌, length, take, drop, map, sym, ap, ap₂, ◌∙◌, arith, min}
use Rattle.std.proofs.lemmas.List.{length-take, length-drop}
use Rattle.std.proofs.lemmas.List.FromFn.{map-range_with_len_more}
use Rattle.std.proofs.lemmas.Nat.{mul-le, div-add-mod', mul-mod_first}
use Rattle.std.specs.List.{range_with_len}
use Rattle.frame_codec.specs.Frame.{padded}
use Rattle.term_log.specs.Frames.{Frame, span, total}
use Rattle.term_log.specs.Cut.{last_part, part_of, cut}

pub total-append : (fs : List Frame) (f : Frame) → total (fs ++ f ∷ []) ≡ total fs + span f
total-append [] f = omega arith
total-append (g ∷ fs) f = omega (arith, total-append fs f)

-- the last frame begins within the message, and reaches to its end
pub last_within : (payload n : ℕ) → 0 < payload → (last_part payload n * payload ≤ n) × (n ≤ last_part payload n * payload + payload)
last_within payload n some =
    let q = div-add-mod' (n - 1) payload in
    (omega arith, omega arith)

pub length_part : (payload : ℕ) (message : List ℕ) (i : ℕ) → length (take payload (drop (i * payload) message)) ≡ min payload (length message - i * payload)
length_part payload message i = length-take payload (drop (i * payload) message) ∙ ap (min payload) (length-drop (i * payload) message)

-- each frame but the last one is full
full_part : (payload : ℕ) (message : List ℕ) (i : ℕ) → payload % 32 ≡ 0 → (i + 1) * payload ≤ length message → span (part_of payload message i) ≡ 32 + payload
full_part payload message i aligned within =
    let size = length_part payload message i in
    let here : (i + 1) * payload ≡ i * payload + payload = omega arith in
    omega arith

pub total_parts : (payload : ℕ) (message : List ℕ) (i : ℕ) → payload % 32 ≡ 0 → i * payload ≤ length message
    → total (map (part_of payload message) (range_with_len 0 i)) ≡ i * (32 + payload)
total_parts payload message zero aligned within = omega arith
total_parts payload message (suc i) aligned within =
    let part : ℕ → Frame = part_of payload message in
    let one : suc i ≡ i + 1 = omega arith in
    let ends : (i + 1) * payload ≡ i * payload + payload = omega arith in
    let room : (i + 1) * payload ≤ length message = omega arith in
    let before = total_parts payload message i aligned (omega arith) in
    let this = full_part payload message i aligned room in
    let sum : (i + 1) * (32 + payload) ≡ i * (32 + payload) + (32 + payload) = omega arith in
    ap (λ (k : ℕ). total (map part (range_with_len 0 k))) one
    ∙ ap total (map-range_with_len_more part 0 i i (omega arith))
    ∙ total-append (map part (range_with_len 0 i)) (part i)
    ∙ omega arith

pub total_cut : (payload : ℕ) (message : List ℕ) → 0 < payload → payload % 32 ≡ 0
    → total (cut payload message)
    ≡ last_part payload (length message) * (32 + payload) + padded (32 + (length message - last_part payload (length message) * payload))
unfolding cut
total_cut payload message some aligned =
    let last : ℕ = last_part payload (length message) in
    let part : ℕ → Frame = part_of payload message in
    let within = last_within payload (length message) some in
    let size = length_part payload message last in
    let before = total_parts payload message last aligned within.0 in
    let rest : length (take payload (drop (last * payload) message)) ≡ length message - last * payload = omega arith in
    let this : span (part last) ≡ padded (32 + (length message - last * payload)) = ap (λ (n : ℕ). padded (32 + n)) rest in
    ap total (map-range_with_len_more part 0 last last (omega arith))
    ∙ total-append (map part (range_with_len 0 last)) (part last)
    ∙ ap₂ (λ (a b : ℕ). a + b) before this

-- header and filling of a full frame are no more than what it carries
pub size_fits : (payload n : ℕ) → 32 ≤ payload
    → last_part payload n * (32 + payload) + padded (32 + (n - last_part payload n * payload)) ≤ 2 * n + 63
size_fits payload n some =
    let last : ℕ = last_part payload n in
    let within = last_within payload n (omega arith) in
    let half : last * 32 ≤ last * payload = mul-le last 32 last payload (omega arith) some in
    let sum : last * (32 + payload) ≡ last * 32 + last * payload = omega arith in
    omega arith

pub size_aligned : (payload n : ℕ) → payload % 32 ≡ 0
    → (last_part payload n * (32 + payload) + padded (32 + (n - last_part payload n * payload))) % 32 ≡ 0
size_aligned payload n aligned =
    let last : ℕ = last_part payload n in
    let full : (32 + payload) % 32 ≡ 0 = omega arith in
    let none : (0 * last) % 32 ≡ 0 = omega arith in
    let all : ((32 + payload) * last) % 32 ≡ 0 =
    sym (mul-mod_first (32 + payload) last 32) ∙ ap (λ (k : ℕ). (k * last) % 32) full ∙ none in
    let turn : last * (32 + payload) ≡ (32 + payload) * last = omega arith in
    let same : (last * (32 + payload)) % 32 ≡ 0 = ap (λ (k : ℕ). k % 32) turn ∙ all in
    omega arith

more_parts : (part : ℕ → Frame) (n k : ℕ) → total (map part (range_with_len 0 n)) ≤ total (map part (range_with_len 0 (n + k)))
more_parts part n zero =
    let same : n + 0 ≡ n = omega arith in
    let total_same : total (map part (range_with_len 0 (n + 0))) ≡ total (map part (range_with_len 0 n)) = ap (λ (m : ℕ). total (map part (range_with_len 0 m))) same in
    omega arith
more_parts part n (suc k) =
    let before = more_parts part n k in
    let one : n + suc k ≡ n + k + 1 = omega arith in
    let next : total (map part (range_with_len 0 (n + suc k))) ≡ total (map part (range_with_len 0 (n + k))) + span (part (n + k)) =
    ap (λ (m : ℕ). total (map part (range_with_len 0 m))) one
    ∙ ap total (map-range_with_len_more part 0 (n + k) (n + k) (omega arith))
    ∙ total-append (map part (range_with_len 0 (n + k))) (part (n + k)) in
    omega arith

-- a frame of the cut ends no later than the cut does
pub part_within : (payload : ℕ) (message : List ℕ) (i : ℕ) → i ≤ last_part payload (length message)
    → total (map (part_of payload message) (range_with_len 0 i)) + span (part_of payload message i) ≤ total (cut payload message)
unfolding cut
part_within payload message i within =
    let last : ℕ = last_part payload (length message) in
    let part : ℕ → Frame = part_of payload message in
    let more = more_parts part (i + 1) (last - i) in
    let all : i + 1 + (last - i) ≡ last + 1 = omega arith in
    let all_same : total (map part (range_with_len 0 (i + 1 + (last - i)))) ≡ total (map part (range_with_len 0 (last + 1))) = ap (λ (m : ℕ). total (map part (range_with_len 0 m))) all in
    let next : total (map part (range_with_len 0 (i + 1))) ≡ total (map part (range_with_len 0 i)) + span (part i) =
    ap total (map-range_with_len_more part 0 i i (omega arith)) ∙ total-append (map part (range_with_len 0 i)) (part i) in
    omega arith
