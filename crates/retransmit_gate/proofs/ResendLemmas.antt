-- What holds of all that was sent again, after each NAK.
use Rattle.std.proofs.Common.{◌≡◌, ℕ, ◌+◌, ◌<◌, ◌≤◌, ℤ, pos, negsuc, Bool, true, false, cond, not, List, [], ◌∷◌, ◌++◌, length, max, min, All, refl, sym, ap, subst, ◌∙◌, unsigned_abs, arith, length-append, append_assoc}
use Rattle.std.specs.Prelude.{◌||◌, filter, nat_le, int_le, AllPairs, if◌then◌else◌}
use Rattle.std.specs.List.{list_any}
use Rattle.std.specs.declared.ops.Range.{Range}
use Rattle.std.proofs.lemmas.Bool.Decides.{nat_tests}
use Rattle.std.proofs.lemmas.List.{append-nil}
use Rattle.std.proofs.lemmas.List.Elements.{filter-append, All-nil, All-cons, All-push, All-head, All-tail, Contains-push, Contains-append_left}
use Rattle.std.proofs.lemmas.List.Quantifiers.{all_pairs_push}
use Rattle.retransmit_gate.specs.declared.answer.Answer.{Answer}
use Rattle.retransmit_gate.specs.declared.answer.Answer.TheVariants.{Resend, Lingering, Busy, OutOfWindow, Empty}
use Rattle.retransmit_gate.specs.declared.resent.Resent.{Resent}
use Rattle.retransmit_gate.specs.Gate.{Resends, opened, lingers, lingering, meets, is_within, answer_among, answer_of, joined, after_nak}
use Rattle.retransmit_gate.specs.Moment.{later_of}
use Rattle.retransmit_gate.specs.ResendLaws.{Asking, answer_to, after_asking, after_naks, resends_of, Shares, lingers_at, IsGranted, ResendsExactly, ResendsAreApart, ResendsAreFew, IsOfNak, ResendsWereAsked}

-- ---- what a resend means

-- none of the other answers applies
pub record Passes (list : List Resent) (position : ℕ) (size : ℤ) (window : Range ℕ) : Type 0 where
  pub some : int_le size (pos 0) ≡ false
  pub within : is_within position (unsigned_abs size) window ≡ true
  pub apart : list_any (meets position (position + unsigned_abs size)) list ≡ false
  pub room : nat_le 16 (length list) ≡ false

passed_tests : (a b c d : Bool) → (if a then Empty else if not b then OutOfWindow else if c then Lingering else if d then Busy else Resend) ≡ Resend
    → (a ≡ false) × (b ≡ true) × (c ≡ false) × (d ≡ false)
passed_tests true b c d is = absurd cc
passed_tests false false c d is = absurd cc
passed_tests false true true d is = absurd cc
passed_tests false true false true is = absurd cc
passed_tests false true false false is = (refl, refl, refl, refl)

passes : (list : List Resent) (position : ℕ) (size : ℤ) (window : Range ℕ) → answer_among list position size window ≡ Resend → Passes list position size window
passes list position size window is =
    let tests = passed_tests (int_le size (pos 0)) (is_within position (unsigned_abs size) window)
    (list_any (meets position (position + unsigned_abs size)) list) (nat_le 16 (length list)) is in
    record { some = tests.0; within = tests.1; apart = tests.2; room = tests.3 }

is_resent : (list : List Resent) (position : ℕ) (size : ℤ) (window : Range ℕ) → Passes list position size window → answer_among list position size window ≡ Resend
is_resent list position size window p = rw (p.some, p.within, p.apart, p.room) refl

-- ---- a length

record HasCount (size : ℤ) : Type 0 where
  count : ℕ
  is : size ≡ pos count
  some : 0 < count

counted : (size : ℤ) → int_le size (pos 0) ≡ false → HasCount size
counted (pos n) is =
    let over : nat_le n 0 ≡ false = is in
    record { count = n; is = refl; some = grind (arith, nat_tests, over) }
counted (negsuc n) is = absurd cc

above_none : (size : ℤ) (count : ℕ) → size ≡ pos count → 0 < count → int_le size (pos 0) ≡ false
above_none size count is some =
    let over : nat_le count 0 ≡ false = grind (arith, nat_tests, some) in
    rw is over

-- ---- ranges

within_is : (position count : ℕ) (window : Range ℕ) → is_within position count window ≡ true → (window.start ≤ position) × (position + count ≤ window.end)
within_is position count window is = (grind (arith, nat_tests, is), grind (arith, nat_tests, is))

is_inside : (position count : ℕ) (window : Range ℕ) → window.start ≤ position → position + count ≤ window.end → is_within position count window ≡ true
is_inside position count window low high = grind (arith, nat_tests, low, high)

shares_meets : (start end : ℕ) (resent : Resent) → Shares start end resent → meets start end resent ≡ true
shares_meets start end resent shares =
    let low = shares.low in
    let high = shares.high in
    let resent_low = shares.resent_low in
    let resent_high = shares.resent_high in
    let below : max start resent.start < min end resent.end = omega (arith, low, high, resent_low, resent_high) in
    grind (arith, nat_tests, below)

meets_shares : (start end : ℕ) (resent : Resent) → meets start end resent ≡ true → Shares start end resent
meets_shares start end resent is =
    let below : max start resent.start < min end resent.end = grind (arith, nat_tests, is) in
    record { position = max start resent.start; low = omega arith; high = omega (arith, below); resent_low = omega arith; resent_high = omega (arith, below) }

-- ---- those that linger

-- whoever lingers was sent again not longer ago than the linger
lingers_is : (linger moment : ℕ) (resent : Resent) → lingers linger moment resent ≡ nat_le moment (resent.moment + linger)
lingers_is linger moment resent = grind (arith, nat_tests)

lingering_is : (linger moment : ℕ) (list : List Resent) → lingering linger moment list ≡ filter (λ resent. nat_le moment (resent.moment + linger)) list
lingering_is linger moment [] = refl
lingering_is linger moment (resent ∷ list) =
    rw (lingers_is linger moment resent, lingering_is linger moment list) refl

both_false : (a b : Bool) → (a || b) ≡ false → (a ≡ false) × (b ≡ false)
both_false true b is = absurd cc
both_false false b is = (refl, is)

abbrev IsApart : ℕ → ℕ → ℕ → ℕ → Resent → Type 0
IsApart linger moment start end resent = Shares start end resent → resent.moment + linger < moment

-- where none that lingers meets a range, each that does is longer ago
apart_all : (linger moment start end : ℕ) (list : List Resent) → list_any (meets start end) (lingering linger moment list) ≡ false
    → All (IsApart linger moment start end) list
apart_all linger moment start end [] none = All-nil (IsApart linger moment start end)
apart_all linger moment start end (resent ∷ list) none =
    elim (lingers linger moment resent) as (λ b. lingers linger moment resent ≡ b
    → list_any (meets start end) (cond b (resent ∷ lingering linger moment list) (lingering linger moment list)) ≡ false
    → All (IsApart linger moment start end) (resent ∷ list)) [
      | true ↦ λ stays no.
          let both = both_false (meets start end resent) (list_any (meets start end) (lingering linger moment list)) no in
          let apart : IsApart linger moment start end resent = λ shares. let meet = shares_meets start end resent shares in absurd cc in
          All-cons (IsApart linger moment start end) resent list apart (apart_all linger moment start end list both.1)
      | false ↦ λ gone no.
          let past : resent.moment + linger < moment = grind (arith, nat_tests, gone) in
          All-cons (IsApart linger moment start end) resent list (λ shares. past) (apart_all linger moment start end list no)
    ]
    refl none

none_meets : (linger moment start end : ℕ) (list : List Resent) → All (IsApart linger moment start end) list
    → list_any (meets start end) (lingering linger moment list) ≡ false
none_meets linger moment start end [] apart = refl
none_meets linger moment start end (resent ∷ list) apart =
    let rest = none_meets linger moment start end list (All-tail (IsApart linger moment start end) resent list apart) in
    let first = All-head (IsApart linger moment start end) resent list apart in
    elim (lingers linger moment resent) as (λ b. lingers linger moment resent ≡ b
    → list_any (meets start end) (cond b (resent ∷ lingering linger moment list) (lingering linger moment list)) ≡ false) [
      | true ↦ λ stays.
          let missed : meets start end resent ≡ false =
          elim (meets start end resent) as (λ b. meets start end resent ≡ b → b ≡ false) [
            | true ↦ λ meet.
                let past = first (meets_shares start end resent meet) in
                let gone : lingers linger moment resent ≡ false = grind (arith, nat_tests, past) in
                absurd cc
            | false ↦ λ meet. refl
          ]
          refl in
          rw (missed, rest) refl
      | false ↦ λ gone. rest
    ]
    refl

-- ---- the answer to one NAK

granted : (resends : Resends) (nak : Asking) → answer_to resends nak ≡ Resend → IsGranted resends nak
unfolding answer_of
granted resends nak is =
    let moment : ℕ = later_of resends.latest nak.now in
    let list : List Resent = lingering resends.linger moment resends.list in
    let p = passes list nak.position nak.size nak.window is in
    let c = counted nak.size p.some in
    let size : unsigned_abs nak.size ≡ c.count = ap unsigned_abs c.is in
    let within = within_is nak.position c.count nak.window (subst (λ (n : ℕ). is_within nak.position n nak.window ≡ true) size p.within) in
    let apart : list_any (meets nak.position (nak.position + c.count)) list ≡ false =
    subst (λ (n : ℕ). list_any (meets nak.position (nak.position + n)) list ≡ false) size p.apart in
    let few : length list < 16 = let room = p.room in grind (arith, nat_tests, room) in
    record {
      count = c.count;
      size = c.is;
      some = c.some;
      low = within.0;
      high = within.1;
      apart = apart_all resends.linger moment nak.position (nak.position + c.count) resends.list apart;
      room = omega (arith, few, ap (length {A = Resent}) (lingering_is resends.linger moment resends.list));
    }

grants : (resends : Resends) (nak : Asking) → IsGranted resends nak → answer_to resends nak ≡ Resend
unfolding answer_of
grants resends nak g =
    let moment : ℕ = later_of resends.latest nak.now in
    let list : List Resent = lingering resends.linger moment resends.list in
    let room = g.room in
    let size : g.count ≡ unsigned_abs nak.size = sym (ap unsigned_abs g.size) in
    let few : length list < 16 = omega (arith, room, ap (length {A = Resent}) (lingering_is resends.linger moment resends.list)) in
    let within = is_inside nak.position g.count nak.window g.low g.high in
    let apart = none_meets resends.linger moment nak.position (nak.position + g.count) resends.list g.apart in
    is_resent list nak.position nak.size nak.window
    (record {
      some = above_none nak.size g.count g.size g.some;
      within = subst (λ (n : ℕ). is_within nak.position n nak.window ≡ true) size within;
      apart = subst (λ (n : ℕ). list_any (meets nak.position (nak.position + n)) list ≡ false) size apart;
      room = grind (arith, nat_tests, few);
    })

pub resends_exactly : ResendsExactly
resends_exactly linger naks nak = (granted (resends_of linger naks) nak, grants (resends_of linger naks) nak)

-- ---- what joins the list

-- the range of a NAK, as it is sent again
abbrev range_of : Resends → Asking → Resent
range_of resends nak =
    record { start = nak.position; end = nak.position + unsigned_abs nak.size; moment = later_of resends.latest nak.now }

-- what holds of the list before a NAK, and of the list with its range where it is sent again, holds after it
after_one : (P : List Resent → Type 0) (resends : Resends) (nak : Asking) → P resends.list
    → (answer_to resends nak ≡ Resend → P (resends.list ++ range_of resends nak ∷ [])) → P (after_asking resends nak).list
unfolding after_nak
after_one P resends nak before more =
    elim (answer_to resends nak) as (λ (answer : Answer). answer_to resends nak ≡ answer → P (joined answer resends.list (range_of resends nak))) [
      | Resend ↦ λ is. more is
      | Lingering ↦ λ is. before
      | Busy ↦ λ is. before
      | OutOfWindow ↦ λ is. before
      | Empty ↦ λ is. before
    ]
    refl

linger_stays : (resends : Resends) (nak : Asking) → (after_asking resends nak).linger ≡ resends.linger
unfolding after_nak
linger_stays resends nak = refl

passed_by : (resends : Resends) (nak : Asking) → answer_to resends nak ≡ Resend
    → Passes (lingering resends.linger (later_of resends.latest nak.now) resends.list) nak.position nak.size nak.window
unfolding answer_of
passed_by resends nak is = passes (lingering resends.linger (later_of resends.latest nak.now) resends.list) nak.position nak.size nak.window is

-- ---- ranges that share a position

abbrev AreApart : ℕ → List Resent → Type 0
AreApart linger list = AllPairs (λ earlier later. Shares later.start later.end earlier → earlier.moment + linger < later.moment) list

apart_from : (linger : ℕ) (resends : Resends) (naks : List Asking) → resends.linger ≡ linger → AreApart linger resends.list → AreApart linger (after_naks resends naks).list
apart_from linger resends [] same apart = apart
apart_from linger resends (nak ∷ naks) same apart =
    let new : Resent = range_of resends nak in
    let moment : ℕ = later_of resends.latest nak.now in
    let next : AreApart linger (after_asking resends nak).list =
    after_one (AreApart linger) resends nak apart
    (λ is.
    let all = apart_all resends.linger moment nak.position (nak.position + unsigned_abs nak.size) resends.list (passed_by resends nak is).apart in
    let here : All (IsApart linger moment nak.position (nak.position + unsigned_abs nak.size)) resends.list =
    subst (λ (n : ℕ). All (IsApart n moment nak.position (nak.position + unsigned_abs nak.size)) resends.list) same all in
    all_pairs_push (λ earlier later. Shares later.start later.end earlier → earlier.moment + linger < later.moment) resends.list new apart here) in
    apart_from linger (after_asking resends nak) naks (linger_stays resends nak ∙ same) next

pub resends_apart : ResendsAreApart
resends_apart linger naks = apart_from linger (opened linger) naks refl (λ i j d before within. absurd (omega (arith, within)))

-- ---- ranges that linger at a moment

fewer : (linger before moment : ℕ) (list : List Resent) → before ≤ moment
    → length (filter (lingers_at linger moment) list) ≤ length (filter (lingers linger before) list)
fewer linger before moment [] order = omega arith
fewer linger before moment (resent ∷ list) order =
    let rest = fewer linger before moment list order in
    elim (lingers_at linger moment resent) as (λ b. lingers_at linger moment resent ≡ b
    → length (cond b (resent ∷ filter (lingers_at linger moment) list) (filter (lingers_at linger moment) list)) ≤ length (filter (lingers linger before) (resent ∷ list))) [
      | true ↦ λ stays.
          let near : moment ≤ resent.moment + linger = grind (arith, nat_tests, stays) in
          let here : lingers linger before resent ≡ true = grind (arith, nat_tests, near, order) in
          rw here (omega (arith, rest))
      | false ↦ λ gone.
          elim (lingers linger before resent) as (λ b. length (filter (lingers_at linger moment) list) ≤ length (cond b (resent ∷ filter (lingers linger before) list) (filter (lingers linger before) list))) [
            | true ↦ omega (arith, rest)
            | false ↦ rest
          ]
    ]
    refl

abbrev AreFew : ℕ → List Resent → Type 0
AreFew linger list = (moment : ℕ) → length (filter (lingers_at linger moment) list) ≤ 16

few_more : (linger : ℕ) (list : List Resent) (new : Resent) → AreFew linger list → length (lingering linger new.moment list) < 16 → AreFew linger (list ++ new ∷ [])
few_more linger list new few room moment =
    let test : Resent → Bool = lingers_at linger moment in
    let split : length (filter test (list ++ new ∷ [])) ≡ length (filter test list) + length (filter test (new ∷ [])) =
    ap (length {A = Resent}) (filter-append test list (new ∷ [])) ∙ length-append (filter test list) (filter test (new ∷ [])) in
    elim (lingers_at linger moment new) as (λ b. lingers_at linger moment new ≡ b
    → length (filter test (list ++ new ∷ [])) ≡ length (filter test list) + length (cond b (new ∷ []) []) → length (filter test (list ++ new ∷ [])) ≤ 16) [
      | true ↦ λ stays sum.
          let order : new.moment ≤ moment = grind (arith, nat_tests, stays) in
          omega (arith, sum, room, fewer linger new.moment moment list order)
      | false ↦ λ gone sum. omega (arith, sum, few moment)
    ]
    refl split

few_from : (linger : ℕ) (resends : Resends) (naks : List Asking) → resends.linger ≡ linger → AreFew linger resends.list → AreFew linger (after_naks resends naks).list
few_from linger resends [] same few = few
few_from linger resends (nak ∷ naks) same few =
    let new : Resent = range_of resends nak in
    let next : AreFew linger (after_asking resends nak).list =
    after_one (AreFew linger) resends nak few
    (λ is.
    let none = (passed_by resends nak is).room in
    let room : length (lingering resends.linger new.moment resends.list) < 16 = grind (arith, nat_tests, none) in
    few_more linger resends.list new few (subst (λ (n : ℕ). length (lingering n new.moment resends.list) < 16) same room)) in
    few_from linger (after_asking resends nak) naks (linger_stays resends nak ∙ same) next

pub resends_few : ResendsAreFew
resends_few linger moment naks = few_from linger (opened linger) naks refl (λ at. omega arith) moment

-- ---- ranges that were asked for

of_more : (naks more : List Asking) (resent : Resent) → IsOfNak naks resent → IsOfNak (naks ++ more) resent
of_more naks more resent is =
    record {
      nak = is.nak;
      among = Contains-append_left naks more is.nak is.among;
      start = is.start;
      end = is.end;
      some = is.some;
      low = is.low;
      high = is.high;
    }

all_more : (naks more : List Asking) (list : List Resent) → All (IsOfNak naks) list → All (IsOfNak (naks ++ more)) list
all_more naks more list all = λ k d within. of_more naks more _ (all k d within)

asked_one : (done : List Asking) (resends : Resends) (nak : Asking) → answer_to resends nak ≡ Resend → IsOfNak (done ++ nak ∷ []) (range_of resends nak)
asked_one done resends nak is =
    let p = passed_by resends nak is in
    let c = counted nak.size p.some in
    let size : unsigned_abs nak.size ≡ c.count = ap unsigned_abs c.is in
    let positive = c.some in
    let within = within_is nak.position (unsigned_abs nak.size) nak.window p.within in
    record {
      nak = nak;
      among = Contains-push done nak;
      start = refl;
      end = refl;
      some = omega (arith, size, positive);
      low = within.0;
      high = within.1;
    }

asked_from : (done naks : List Asking) (resends : Resends) → All (IsOfNak done) resends.list → All (IsOfNak (done ++ naks)) (after_naks resends naks).list
asked_from done [] resends all = subst (λ (ns : List Asking). All (IsOfNak ns) resends.list) (sym (append-nil done)) all
asked_from done (nak ∷ naks) resends all =
    let more = all_more done (nak ∷ []) resends.list all in
    let next : All (IsOfNak (done ++ nak ∷ [])) (after_asking resends nak).list =
    after_one (All (IsOfNak (done ++ nak ∷ []))) resends nak more
    (λ is. All-push (IsOfNak (done ++ nak ∷ [])) resends.list (range_of resends nak) more (asked_one done resends nak is)) in
    subst (λ (ns : List Asking). All (IsOfNak ns) (after_naks (after_asking resends nak) naks).list) (append_assoc done (nak ∷ []) naks)
    (asked_from (done ++ nak ∷ []) naks (after_asking resends nak) next)

pub resends_asked : ResendsWereAsked
resends_asked linger naks = asked_from [] naks (opened linger) (All-nil (IsOfNak []))
