-- How many messages frames begin: those of one message begin one.
use Rattle.std.proofs.Common.{◌≡◌, ℕ, zero, suc, ◌+◌, ◌==◌, Bool, true, false, List, [], ◌∷◌, ◌++◌, length, map, refl, ap, ◌∙◌, arith}
use Rattle.std.specs.Prelude.{if◌then◌else◌}
use Rattle.std.specs.List.{range_with_len}
use Rattle.std.proofs.lemmas.Bool.{ne_eqb}
use Rattle.std.proofs.lemmas.List.FromFn.{map-range_with_len_more}
use Rattle.frame_codec.specs.Flags.{contains}
use Rattle.term_log.specs.Counting.{taken_by}
use Rattle.term_log.specs.Cut.{cut, last_part, part_of}
use Rattle.term_log.specs.declared.offer.Offer.{Offer}
use Rattle.term_log.specs.declared.offer.Offer.TheVariants.{At, TooLong, MaxPosition, BackPressured, AdminAction}
use Rattle.term_log.specs.Frames.{Frame, begin_flag, begins, messages_of, pad}
use Rattle.term_log.specs.Ident.{payload_length}
use Rattle.term_log.specs.Log.{appended_at, rest_at}
use Rattle.term_log.specs.Whole.{Whole, answer_to, offered, tail_of}

pub messages-append : (xs ys : List Frame) → messages_of (xs ++ ys) ≡ messages_of xs + messages_of ys
messages-append [] ys = omega arith
messages-append (x ∷ xs) ys = omega (arith, messages-append xs ys)

-- the first frame of a message begins it, whether it is the last one or not
abbrev begin_of : ℕ → ℕ
begin_of bits = if contains (record { bits = bits }) begin_flag then 1 else 0

first_begins : (b : Bool) → begin_of (128 + (if b then 64 else 0)) ≡ 1
first_begins true = refl
first_begins false = refl

later_begins : (a b : Bool) → a ≡ false → begin_of ((if a then 128 else 0) + (if b then 64 else 0)) ≡ 0
later_begins false true is = refl
later_begins false false is = refl
later_begins true b is = absurd (cc is)

-- so many parts begin one message
parts_begin : (payload : ℕ) (message : List ℕ) (i : ℕ) → messages_of (map (part_of payload message) (range_with_len 0 (i + 1))) ≡ 1
parts_begin payload message zero =
    let one : begins (part_of payload message 0) ≡ 1 = first_begins (0 == last_part payload (length message)) in
    omega (arith, one)
parts_begin payload message (suc i) =
    let part : ℕ → Frame = part_of payload message in
    let before = parts_begin payload message i in
    let later : begins (part (suc i)) ≡ 0 = later_begins (suc i == 0) (suc i == last_part payload (length message)) (ne_eqb (suc i) 0 (omega arith)) in
    let here : suc i ≡ i + 1 = omega arith in
    ap messages_of (map-range_with_len_more part 0 (suc i) (suc i) (omega arith))
    ∙ messages-append (map part (range_with_len 0 (suc i))) (part (suc i) ∷ [])
    ∙ omega (arith, ap (λ (k : ℕ). messages_of (map part (range_with_len 0 k))) here, before, later)

pub cut_begins : (payload : ℕ) (message : List ℕ) → messages_of (cut payload message) ≡ 1
unfolding cut
cut_begins payload message = parts_begin payload message (last_part payload (length message))

-- ---- an offer

appended_counts : (w : Whole) (answer : Offer) (tail : ℕ) (message : List ℕ) →
    messages_of (w.frames ++ appended_at answer w.ident tail message) ≡ messages_of w.frames + taken_by answer
appended_counts w (At position) tail message =
    let one = cut_begins (payload_length w.ident) message in
    messages-append w.frames (cut (payload_length w.ident) message) ∙ omega (arith, one)
appended_counts w TooLong tail message = messages-append w.frames []
appended_counts w MaxPosition tail message = messages-append w.frames []
appended_counts w BackPressured tail message = messages-append w.frames []
appended_counts w AdminAction tail message = messages-append w.frames (pad (rest_at w.ident tail) ∷ [])

-- the log is offered the message: it has one message more where it answers a position
pub offered_counts : (w : Whole) (message : List ℕ) → messages_of (offered w message).frames ≡ messages_of w.frames + taken_by (answer_to w message)
unfolding offered
offered_counts w message = appended_counts w (answer_to w message) (tail_of w) message
