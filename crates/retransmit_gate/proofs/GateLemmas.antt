-- What lingers of a list.
use Rattle.std.proofs.Common.{◌≡◌, ℕ, ◌<◌, ◌≤◌, ℤ, Bool, true, false, cond, List, [], ◌∷◌, ◌++◌, length, take, refl, sym, ap, ◌∙◌, ◌+◌, unsigned_abs, arith, length-take-le}
use Rattle.std.proofs.lemmas.List.Elements.{filter-append}
use Rattle.std.proofs.lemmas.Bool.Decides.{nat_tests}
use Rattle.std.proofs.lemmas.List.Sums.{count_by-le-length, length-filter}
use Rattle.std.specs.Prelude.{filter}
use Rattle.std.specs.declared.ops.Range.{Range}
use Rattle.retransmit_gate.specs.Gate.{Resends, lingers, lingering, answer_among, answer_of, after_nak, joined, kept_of}
use Rattle.retransmit_gate.specs.declared.answer.Answer.{Answer}
use Rattle.retransmit_gate.specs.declared.answer.Answer.TheVariants.{Resend, Lingering, Busy, OutOfWindow, Empty}
use Rattle.retransmit_gate.specs.Moment.{later_of}
use Rattle.retransmit_gate.specs.declared.resent.Resent.{Resent}

-- what passes of the first of a list leaves room for one more
pub room_left : {X : Type 0} (p : X → Bool) (xs : List X) (i n : ℕ) → i < length xs → length xs ≤ n → length (filter p (take i xs)) < n
room_left p xs i n before within =
    omega (arith, length-filter p (take i xs), count_by-le-length p (take i xs), length-take-le i xs (omega arith))

-- where as many are kept as there are, each is
pub all_kept : {X : Type 0} (q : X → Bool) (xs : List X) → length xs ≤ length (filter q xs) → filter q xs ≡ xs
all_kept q [] few = refl
all_kept q (x ∷ xs) few =
    elim (q x) as (λ b. length (x ∷ xs) ≤ length (cond b (x ∷ filter q xs) (filter q xs)) → cond b (x ∷ filter q xs) (filter q xs) ≡ x ∷ xs) [
      | true ↦ (λ h. ap (λ ys. x ∷ ys) (all_kept q xs (omega (arith, h))))
      | false ↦ (λ h. absurd (omega (arith, h, length-filter q xs, count_by-le-length q xs)))
    ] few

-- what lingers at a moment lingered at each earlier one, whatever the lists are
pub lingering-lingering : (linger before moment : ℕ) (list : List Resent) → before ≤ moment
    → lingering linger moment (lingering linger before list) ≡ lingering linger moment list
lingering-lingering linger before moment [] order = refl
lingering-lingering linger before moment (resent ∷ list) order =
    let rest : lingering linger moment (lingering linger before list) ≡ lingering linger moment list = lingering-lingering linger before moment list order in
    elim (lingers linger before resent) as (λ b. lingers linger before resent ≡ b → lingering linger moment (cond b (resent ∷ lingering linger before list) (lingering linger before list)) ≡ lingering linger moment (resent ∷ list)) [
      | true ↦ (λ e. rw rest refl)
      | false ↦ (λ e. let gone : lingers linger moment resent ≡ false = grind (arith, nat_tests) in rw (gone, rest) refl)
    ]
    refl

-- what is sent again at a moment lingers then
pub lingering-more : (linger start end moment : ℕ) (list : List Resent)
    → lingering linger moment (list ++ (record { start = start; end = end; moment = moment }) ∷ [])
    ≡ lingering linger moment list ++ (record { start = start; end = end; moment = moment }) ∷ []
lingering-more linger start end moment list =
    let resent : Resent = record { start = start; end = end; moment = moment } in
    let stays : lingers linger moment resent ≡ true = grind (arith, nat_tests) in
    filter-append (lingers linger moment) list (resent ∷ []) ∙ ap (λ b. lingering linger moment list ++ cond b (resent ∷ []) []) stays

-- what is sent again now lingers, so it may join before or after the rest is forgotten
pub lingering-joined : (answer : Answer) (linger start end moment : ℕ) (list : List Resent)
    → lingering linger moment (joined answer list (record { start = start; end = end; moment = moment }))
    ≡ joined answer (lingering linger moment list) (record { start = start; end = end; moment = moment })
lingering-joined Resend linger start end moment list = lingering-more linger start end moment list
lingering-joined Lingering linger start end moment list = refl
lingering-joined Busy linger start end moment list = refl
lingering-joined OutOfWindow linger start end moment list = refl
lingering-joined Empty linger start end moment list = refl

-- what is kept after a NAK: what lingers, and the range where it is sent again
pub kept_joined : (resends : Resends) (now position : ℕ) (size : ℤ) (window : Range ℕ)
    → kept_of (after_nak resends now position size window) ≡ record {
      linger = resends.linger;
      latest = later_of resends.latest now;
      list = joined (answer_of resends now position size window)
          (lingering resends.linger (later_of resends.latest now) resends.list)
          (record { start = position; end = position + unsigned_abs size; moment = later_of resends.latest now });
    }
unfolding after_nak kept_of
kept_joined resends now position size window = rw lingering-joined refl

-- what is kept decides as all of it does
pub kept_answers : (resends : Resends) (now position : ℕ) (size : ℤ) (window : Range ℕ)
    → answer_of (kept_of resends) now position size window ≡ answer_of resends now position size window
unfolding answer_of kept_of
kept_answers resends now position size window =
    ap (λ list. answer_among list position size window)
    (lingering-lingering resends.linger resends.latest (later_of resends.latest now) resends.list (omega arith))

-- what is kept after a NAK does not hang on what was forgotten before it
pub kept_after : (resends : Resends) (now position : ℕ) (size : ℤ) (window : Range ℕ)
    → kept_of (after_nak (kept_of resends) now position size window) ≡ kept_of (after_nak resends now position size window)
unfolding kept_of
kept_after resends now position size window =
    let moment : ℕ = later_of resends.latest now in
    let resent : Resent = record { start = position; end = position + unsigned_abs size; moment = moment } in
    let with_list : List Resent → Resends = λ list. record { linger = resends.linger; latest = moment; list = list } in
    let same : lingering resends.linger moment (lingering resends.linger resends.latest resends.list) ≡ lingering resends.linger moment resends.list =
    lingering-lingering resends.linger resends.latest moment resends.list (omega arith) in
    kept_joined (kept_of resends) now position size window
    ∙ ap (λ answer. with_list (joined answer (lingering resends.linger moment (lingering resends.linger resends.latest resends.list)) resent)) (kept_answers resends now position size window)
    ∙ ap (λ list. with_list (joined (answer_of resends now position size window) list resent)) same
    ∙ sym (kept_joined resends now position size window)

-- a gate that keeps the list of a decision keeps what is to be kept
pub decided : (resends : Resends) (now position : ℕ) (size : ℤ) (window : Range ℕ) (moment : ℕ) (answer : Answer) (list : List Resent)
    → moment ≡ later_of resends.latest now
    → answer ≡ answer_among (lingering resends.linger moment resends.list) position size window
    → list ≡ joined answer (lingering resends.linger moment resends.list) (record { start = position; end = position + unsigned_abs size; moment = moment })
    → record { linger = resends.linger; latest = moment; list = list } ≡ kept_of (after_nak resends now position size window)
unfolding answer_of
decided resends now position size window moment answer list at answered left =
    rw (left, answered, at) (sym (kept_joined resends now position size window))
