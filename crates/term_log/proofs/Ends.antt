-- Where frames that are read begin and end.
use Rattle.std.proofs.Common.{◌≡◌, ℕ, zero, suc, ◌+◌, ◌-◌, ◌≤◌, true, false, cond, List, [], ◌∷◌, length, take, drop, All, Option, Some, None, refl, sym, ap, subst, arith, length-append}
use Rattle.std.specs.Prelude.{slice_index, nat_lt, ◌==◌, IfSome}
use Rattle.std.proofs.lemmas.Bool.Decides.{nat_tests}
use Rattle.std.proofs.lemmas.List.{length-drop, length-take-le}
use Rattle.std.proofs.lemmas.List.Elements.{All-nil, All-cons}
use Rattle.byteorder.specs.Endian.{little_number}
use Rattle.frame_codec.specs.Frame.{padded}
use Rattle.term_log.specs.declared.reading.Frames.{Frames}
use Rattle.term_log.specs.Frames.{Frame, fragment, pad, span}
use Rattle.term_log.specs.Reading.{Given, pad_at, pad_of, fragment_at, first_of, admitted, behind, and_then, frames_in, frames_left, sent_bytes, spans, AreFrom, EndsBy}
use Rattle.term_log.proofs.Walks.{none_in}

-- a frame takes no more positions than there are bytes, and what is behind it is the rest; behind a pad is nothing
abbrev Leaves : Given → Frame → List ℕ → Type 0
Leaves g (fragment flags payload) bytes = span (fragment flags payload) + length (behind g (fragment flags payload) bytes) ≡ length bytes
Leaves g (pad size) bytes = size ≤ length bytes

-- so it is with a frame that begins there
abbrev IsAt : ℕ → List ℕ → Given → Type 0
IsAt position bytes g = (g.position ≡ position) × Leaves g g.frame bytes

fragment_leaves : (n position : ℕ) (bytes : List ℕ) → 32 ≤ n → padded n ≤ length bytes → IsAt position bytes (fragment_at n position bytes)
fragment_leaves n position bytes least there =
    let payload : List ℕ = drop 32 (take n bytes) in
    let frame = length-take-le n bytes (omega (arith, there)) in
    let part = length-drop 32 (take n bytes) in
    let whole : 32 + length payload ≡ n = omega (arith, frame, part, least) in
    let same : padded (32 + length payload) ≡ padded n = ap padded whole in
    let sent = length-take-le (padded n) bytes there in
    (omega arith, omega (arith, same, there, sent, length-drop (length (take (padded n) bytes)) bytes))

pad_leaves : (position : ℕ) (bytes : List ℕ) → IfSome (pad_of position bytes) (IsAt position bytes)
pad_leaves position bytes =
    elim (nat_lt (length bytes) (little_number 4 bytes)) as (λ b. nat_lt (length bytes) (little_number 4 bytes) ≡ b → IfSome (cond b None (Some (pad_at position bytes))) (IsAt position bytes)) [
      | true ↦ λ short. tt
      | false ↦ λ whole.
          let there : little_number 4 bytes ≤ length bytes = grind (arith, nat_tests, whole) in
          (omega arith, there)
    ]
    refl

first_leaves : (position : ℕ) (bytes : List ℕ) → IfSome (first_of position bytes) (IsAt position bytes)
unfolding first_of
first_leaves position bytes =
    let n : ℕ = little_number 4 bytes in
    let found : Option Given = Some (fragment_at n position bytes) in
    elim (nat_lt (length bytes) 32) as (λ b. IfSome (cond b None (cond (slice_index bytes 6 == 0) (pad_of position bytes) (cond (nat_lt n 32) None (cond (nat_lt (length bytes) (padded n)) None found)))) (IsAt position bytes)) [
      | true ↦ tt
      | false ↦
          elim (slice_index bytes 6 == 0) as (λ b. IfSome (cond b (pad_of position bytes) (cond (nat_lt n 32) None (cond (nat_lt (length bytes) (padded n)) None found))) (IsAt position bytes)) [
            | true ↦ pad_leaves position bytes
            | false ↦
                elim (nat_lt n 32) as (λ b. nat_lt n 32 ≡ b → IfSome (cond b None (cond (nat_lt (length bytes) (padded n)) None found)) (IsAt position bytes)) [
                  | true ↦ λ less. tt
                  | false ↦ λ above.
                      elim (nat_lt (length bytes) (padded n)) as (λ b. nat_lt (length bytes) (padded n) ≡ b → IfSome (cond b None found) (IsAt position bytes)) [
                        | true ↦ λ less. tt
                        | false ↦ λ all. fragment_leaves n position bytes (grind (arith, nat_tests, above)) (grind (arith, nat_tests, all))
                      ]
                      refl
                ]
                refl
          ]
    ]

admitted_leaves : (budget position : ℕ) (bytes : List ℕ) (o : Option Given) → IfSome o (IsAt position bytes) → IfSome (admitted budget o) (IsAt position bytes)
admitted_leaves budget position bytes None is = tt
admitted_leaves budget position bytes (Some g) is =
    elim (nat_lt budget (length g.bytes)) as (λ b. IfSome (cond b None (Some g)) (IsAt position bytes)) [
      | true ↦ tt
      | false ↦ is
    ]

-- frames one behind the other, over no more positions than there are bytes up to an end
record IsRow (end : ℕ) (bytes : List ℕ) (gs : List Given) : Type 0 where
  from : length bytes ≤ end → AreFrom (end - length bytes) gs
  within : spans gs ≤ length bytes

row_behind : (g : Given) (f : Frame) (n end budget : ℕ) (bytes : List ℕ) → Leaves g f bytes → IsRow end (behind g f bytes) (frames_in n end budget (behind g f bytes))
    → (length bytes ≤ end → AreFrom (end - length bytes + span f) (frames_in n end budget (behind g f bytes)))
    × (span f + spans (frames_in n end budget (behind g f bytes)) ≤ length bytes)
row_behind g (fragment flags payload) n end budget bytes leaves others =
    let rest : List ℕ = behind g (fragment flags payload) bytes in
    let within = others.within in (
      λ fits.
          let here : end - length rest ≡ end - length bytes + span (fragment flags payload) = omega (arith, leaves, fits) in
          subst (λ (p : ℕ). AreFrom p (frames_in n end budget rest)) here (others.from (omega (arith, leaves, fits))),
      omega (arith, within, leaves),
    )
row_behind g (pad size) n end budget bytes leaves others =
    let none : frames_in n end budget [] ≡ [] = none_in n end budget in (
      λ fits. subst (AreFrom (end - length bytes + size)) (sym none) tt,
      omega (arith, leaves, ap spans none),
    )

row_by : (o : Option Given) (n end budget : ℕ) (bytes : List ℕ) → IfSome o (IsAt (end - length bytes) bytes)
    → ((g : Given) → IsRow end (behind g g.frame bytes) (frames_in n end (budget - length g.bytes) (behind g g.frame bytes)))
    → IsRow end bytes (and_then o (λ g. frames_in n end (budget - length g.bytes) (behind g g.frame bytes)))
row_by None n end budget bytes is more = record { from = λ fits. tt; within = omega arith }
row_by (Some g) n end budget bytes is more =
    let row = row_behind g g.frame n end (budget - length g.bytes) bytes is.1 (more g) in
    record { from = λ fits. (is.0, row.0 fits); within = row.1 }

in_row : (n end budget : ℕ) (bytes : List ℕ) → IsRow end bytes (frames_in n end budget bytes)
unfolding frames_in
in_row zero end budget bytes = record { from = λ fits. tt; within = omega arith }
in_row (suc n) end budget bytes =
    row_by (admitted budget (first_of (end - length bytes) bytes)) n end budget bytes
    (admitted_leaves budget (end - length bytes) bytes (first_of (end - length bytes) bytes) (first_leaves (end - length bytes) bytes))
    (λ g. in_row n end (budget - length g.bytes) (behind g g.frame bytes))

-- ---- how many bytes are given

sized_by : (o : Option Given) (n end budget : ℕ) (bytes : List ℕ)
    → ((g : Given) → length (sent_bytes (frames_in n end (budget - length g.bytes) (behind g g.frame bytes))) ≤ budget - length g.bytes)
    → length (sent_bytes (and_then (admitted budget o) (λ g. frames_in n end (budget - length g.bytes) (behind g g.frame bytes)))) ≤ budget
sized_by None n end budget bytes more = omega arith
sized_by (Some g) n end budget bytes more =
    let others : List Given = frames_in n end (budget - length g.bytes) (behind g g.frame bytes) in
    elim (nat_lt budget (length g.bytes)) as (λ b. nat_lt budget (length g.bytes) ≡ b → length (sent_bytes (and_then (cond b None (Some g)) (λ g. frames_in n end (budget - length g.bytes) (behind g g.frame bytes)))) ≤ budget) [
      | true ↦ λ less. omega arith
      | false ↦ λ fits.
          let there : length g.bytes ≤ budget = grind (arith, nat_tests, fits) in
          omega (arith, there, length-append g.bytes (sent_bytes others), more g)
    ]
    refl

in_sized : (n end budget : ℕ) (bytes : List ℕ) → length (sent_bytes (frames_in n end budget bytes)) ≤ budget
unfolding frames_in
in_sized zero end budget bytes = omega arith
in_sized (suc n) end budget bytes =
    sized_by (first_of (end - length bytes) bytes) n end budget bytes (λ g. in_sized n end (budget - length g.bytes) (behind g g.frame bytes))

-- they are no more than the budget
pub left_sized : (left : List Given) (end budget : ℕ) (bytes : List ℕ) → left ≡ frames_in (length bytes) end budget bytes → length (sent_bytes left) ≤ budget
left_sized left end budget bytes is =
    omega (arith, ap (λ (gs : List Given). length (sent_bytes gs)) is, in_sized (length bytes) end budget bytes)

-- ---- what is lent

-- frames take no more positions than their bytes
pub left_within : (frames : Frames) → spans (frames_left frames) ≤ length frames.rest.now
unfolding frames_left
left_within frames = (in_row (length frames.rest.now) frames.end frames.budget frames.rest.now).within

-- the frames of so many bytes from a position on
pub row_from : (left : List Given) (position count end budget : ℕ) (bytes : List ℕ) → left ≡ frames_in (length bytes) end budget bytes
    → length bytes ≡ count → end ≡ position + count → AreFrom position left × (position + spans left ≤ end)
row_from left position count end budget bytes left_is size ends =
    let row = in_row (length bytes) end budget bytes in
    let here : end - length bytes ≡ position = omega arith in
    let from : AreFrom position (frames_in (length bytes) end budget bytes) =
    subst (λ (p : ℕ). AreFrom p (frames_in (length bytes) end budget bytes)) here (row.from (omega arith)) in
    let within = row.within in
    (subst (AreFrom position) (sym left_is) from, omega (arith, ap spans left_is, within, size, ends))

-- so each ends there or below
pub end_by : (position end : ℕ) (gs : List Given) → AreFrom position gs → position + spans gs ≤ end → All (EndsBy end) gs
end_by position end [] from within = All-nil (EndsBy end)
end_by position end (g ∷ gs) from within =
    All-cons (EndsBy end) g gs (omega (arith, from.0, within)) (end_by (position + span g.frame) end gs from.1 (omega (arith, within)))
