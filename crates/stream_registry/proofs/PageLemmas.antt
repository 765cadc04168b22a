-- The least free place is page 0, or the end of a log.
use Rattle.std.proofs.Common.{◌≡◌, ℕ, zero, suc, ◌+◌, ◌-◌, ◌^◌, ◌<◌, ◌≤◌, min, Bool, true, false, not, ◌&&◌, ◌||◌, cond, List, [], ◌∷◌, length, get_or, Option, Some, None, find, refl, sym, ap, subst, ◌∙◌, arith}
use Rattle.std.specs.Prelude.{nat_lt, nat_le}
use Rattle.std.specs.List.{list_any, range_with_len}
use Rattle.std.proofs.lemmas.Bool.{ltb-true, ltb-false, leb-true, leb-false}
use Rattle.std.proofs.lemmas.List.Folds.{Any-from_list_any, list_any_at}
use Rattle.stream_registry.specs.declared.row.LogRow.{LogRow}
use Rattle.stream_registry.specs.LogPages.{log_pages, holds, holds_some, fits, is_below}

-- ---- two rows of pages

-- `pages` pages from `place` on and `held` pages from `begin` on have one in common
pub record Meets (pages place held begin : ℕ) : Type 0 where
  pub some : 0 < pages
  pub any : 0 < held
  pub front : place < begin + held
  pub back : begin < place + pages

abbrev has : ℕ → ℕ → ℕ → Bool
has held begin page = nat_le begin page && nat_lt page (begin + held)

inside : (held begin page : ℕ) (a b : Bool) → nat_le begin page ≡ a → nat_lt page (begin + held) ≡ b → (a && b) ≡ true →
    (begin ≤ page) × (page < begin + held)
inside held begin page true true low high is = (leb-true begin page low, ltb-true page (begin + held) high)
inside held begin page true false low high is = absurd (cc)
inside held begin page false b low high is = absurd (cc)

outside : (held begin page : ℕ) (a b : Bool) → nat_le begin page ≡ a → nat_lt page (begin + held) ≡ b → (a && b) ≡ false →
    begin ≤ page → page < begin + held → ⊥
outside held begin page true true low high is from to = absurd (cc)
outside held begin page true false low high is from to = let no = ltb-false page (begin + held) high in omega (arith, no, to)
outside held begin page false b low high is from to = let no = leb-false begin page low in omega (arith, no, from)

met_step : (b : Bool) (pages place held begin : ℕ) → has held begin place ≡ b →
    (list_any (has held begin) (range_with_len (place + 1) pages) ≡ true → Meets pages (place + 1) held begin) →
    (b || list_any (has held begin) (range_with_len (place + 1) pages)) ≡ true → Meets (suc pages) place held begin
met_step true pages place held begin here rest is =
    let both : (begin ≤ place) × (place < begin + held) =
    inside held begin place (nat_le begin place) (nat_lt place (begin + held)) refl refl here in
    record { some = omega arith; any = omega (arith, both.0, both.1); front = both.1; back = omega (arith, both.0) }
met_step false pages place held begin here rest is =
    let more = rest is in
    record { some = omega arith; any = more.any; front = omega (arith, more.front); back = omega (arith, more.back) }

pub met : (pages place held begin : ℕ) → list_any (has held begin) (range_with_len place pages) ≡ true → Meets pages place held begin
met zero place held begin is = absurd (cc)
met (suc pages) place held begin is =
    met_step (has held begin place) pages place held begin refl (met pages (place + 1) held begin) is

unmet_step : (b c : Bool) (pages place held begin : ℕ) → has held begin place ≡ b → (c ≡ false → Meets pages (place + 1) held begin → ⊥) →
    (b || c) ≡ false → Meets (suc pages) place held begin → ⊥
unmet_step true c pages place held begin here rest is m = absurd (cc)
unmet_step false c pages place held begin here rest is m = by (nat_le begin place) refl
  where
    by : (t : Bool) → nat_le begin place ≡ t → ⊥
    by true low = outside held begin place (nat_le begin place) (nat_lt place (begin + held)) refl refl here
        (leb-true begin place low) m.front
    by false low =
        let after = leb-false begin place low in
        rest is (record {
          some = omega (arith, after, m.back);
          any = m.any;
          front = omega (arith, after, m.any);
          back = omega (arith, m.back);
        })

pub unmet : (pages place held begin : ℕ) → list_any (has held begin) (range_with_len place pages) ≡ false → Meets pages place held begin → ⊥
unmet zero place held begin is m = omega (arith, m.some)
unmet (suc pages) place held begin is m =
    unmet_step (has held begin place) (list_any (has held begin) (range_with_len (place + 1) pages)) pages place held begin refl
    (unmet pages (place + 1) held begin) is m

-- a test that tells of the two rows says the same of the log
pub tells_some : (b : Bool) (pages place : ℕ) (log : LogRow) → (b ≡ true → Meets pages place (log_pages log) log.place) →
    (b ≡ false → Meets pages place (log_pages log) log.place → ⊥) → b ≡ holds_some pages place log
unfolding holds_some
tells_some b pages place log met_ unmet_ = by b (list_any (holds log) (range_with_len place pages)) refl refl
  where
    by : (a t : Bool) → b ≡ a → list_any (holds log) (range_with_len place pages) ≡ t → b ≡ list_any (holds log) (range_with_len place pages)
    by true true is other = is ∙ sym other
    by true false is other = absurd (unmet pages place (log_pages log) log.place other (met_ is))
    by false true is other = absurd (unmet_ is (met pages place (log_pages log) log.place other))
    by false false is other = is ∙ sym other

-- ---- the first number that passes a test

-- the first one from `from` on, among so many
abbrev pub IsFirst : (ℕ → Bool) → ℕ → ℕ → Option ℕ → Type 0
IsFirst test from many None = (n : ℕ) → from ≤ n → n < from + many → test n ≡ false
IsFirst test from many (Some first) =
    (from ≤ first) × (first < from + many) × (test first ≡ true) × ((n : ℕ) → from ≤ n → n < first → test n ≡ false)

at_or_behind : (b : Bool) (test : ℕ → Bool) (from n : ℕ) → nat_lt from n ≡ b → from ≤ n → test from ≡ false →
    (from + 1 ≤ n → test n ≡ false) → test n ≡ false
at_or_behind true test from n is low here rest = let behind = ltb-true from n is in rest (omega (arith, behind))
at_or_behind false test from n is low here rest =
    let same : from ≡ n = let no = ltb-false from n is in omega (arith, no, low) in
    subst (λ k. test k ≡ false) same here

first_step : (b : Bool) (test : ℕ → Bool) (from many : ℕ) (rest : Option ℕ) → test from ≡ b → IsFirst test (from + 1) many rest →
    IsFirst test from (suc many) (cond b (Some from) rest)
first_step true test from many rest is more = (omega arith, omega arith, is, λ n low high. absurd (omega (arith, low, high)))
first_step false test from many None is more = λ n low high.
    at_or_behind (nat_lt from n) test from n refl low is (λ behind. more n behind (omega (arith, high)))
first_step false test from many (Some first) is more = (
  omega (arith, more.0),
  omega (arith, more.1),
  more.2,
  λ n low high. at_or_behind (nat_lt from n) test from n refl low is (λ behind. more.3 n behind high),
)

pub found_first : (test : ℕ → Bool) (from many : ℕ) → IsFirst test from many (find test (range_with_len from many))
found_first test from zero = λ n low high. absurd (omega (arith, low, high))
found_first test from (suc many) =
    first_step (test from) test from many (find test (range_with_len (from + 1) many)) refl (found_first test (from + 1) many)

-- ---- the ends of logs

abbrev pub ending : LogRow → ℕ
ending log = min (log.place + log_pages log) (2 ^ 64 - 1)

-- the lesser of the two, where the end passes the test
abbrev pub tried : (ℕ → Bool) → ℕ → Option ℕ → Option ℕ
tried test end least = cond (is_below end least && test end) (Some end) least

-- the least end that passes, or what was the least before
abbrev pub least_end : (ℕ → Bool) → List LogRow → Option ℕ → Option ℕ
least_end test [] least = least
least_end test (log ∷ logs) least = least_end test logs (tried test (ending log) least)

abbrev Passes : (ℕ → Bool) → Option ℕ → Type 0
Passes test None = Unit {0}
Passes test (Some least) = test least ≡ true

abbrev IsUpTo : Option ℕ → ℕ → Type 0
IsUpTo None n = ⊥
IsUpTo (Some least) n = least ≤ n

second_of : (a b : Bool) → (a && b) ≡ true → b ≡ true
second_of true b is = is
second_of false b is = absurd (cc)

first_of : (a b : Bool) → (a && b) ≡ true → a ≡ true
first_of true b is = refl
first_of false b is = absurd (cc)

tried_passes : (b : Bool) (test : ℕ → Bool) (end : ℕ) (least : Option ℕ) → (is_below end least && test end) ≡ b → Passes test least →
    Passes test (cond b (Some end) least)
tried_passes true test end least is passes = second_of (is_below end least) (test end) is
tried_passes false test end least is passes = passes

least_passes : (test : ℕ → Bool) (logs : List LogRow) (least : Option ℕ) → Passes test least → Passes test (least_end test logs least)
least_passes test [] least passes = passes
least_passes test (log ∷ logs) least passes =
    least_passes test logs (tried test (ending log) least)
    (tried_passes (is_below (ending log) least && test (ending log)) test (ending log) least refl passes)

tried_keeps : (b : Bool) (test : ℕ → Bool) (end n : ℕ) (least : Option ℕ) → (is_below end least && test end) ≡ b → IsUpTo least n →
    IsUpTo (cond b (Some end) least) n
tried_keeps true test end n None is upto = absurd upto
tried_keeps true test end n (Some least) is upto =
    let below = ltb-true end least (first_of (nat_lt end least) (test end) is) in omega (arith, below, upto)
tried_keeps false test end n least is upto = upto

least_keeps : (test : ℕ → Bool) (logs : List LogRow) (n : ℕ) (least : Option ℕ) → IsUpTo least n →
    IsUpTo (least_end test logs least) n
least_keeps test [] n least upto = upto
least_keeps test (log ∷ logs) n least upto =
    least_keeps test logs n (tried test (ending log) least)
    (tried_keeps (is_below (ending log) least && test (ending log)) test (ending log) n least refl upto)

reached : (b c : Bool) (end least : ℕ) → nat_lt end least ≡ b → c ≡ true → IsUpTo (cond (b && c) (Some end) (Some least)) end
reached true true end least is passes = omega arith
reached true false end least is passes = absurd (cc)
reached false c end least is passes = ltb-false end least is

reached_first : (c : Bool) (end : ℕ) → c ≡ true → IsUpTo (cond c (Some end) None) end
reached_first true end passes = omega arith
reached_first false end passes = absurd (cc)

tried_reaches : (test : ℕ → Bool) (end : ℕ) (least : Option ℕ) → test end ≡ true → IsUpTo (tried test end least) end
tried_reaches test end None passes = reached_first (test end) end passes
tried_reaches test end (Some least) passes = reached (nat_lt end least) (test end) end least refl passes

least_reaches : (test : ℕ → Bool) (logs : List LogRow) (k : ℕ) (d : LogRow) (least : Option ℕ) → k < length logs →
    test (ending (get_or logs k d)) ≡ true → IsUpTo (least_end test logs least) (ending (get_or logs k d))
least_reaches test [] k d least within passes = absurd (omega (arith, within))
least_reaches test (log ∷ logs) zero d least within passes =
    least_keeps test logs (ending log) (tried test (ending log) least) (tried_reaches test (ending log) least passes)
least_reaches test (log ∷ logs) (suc k) d least within passes =
    least_reaches test logs k d (tried test (ending log) least) (omega (arith, within)) passes

-- ---- the least place

pub within_and_free : (logs : List LogRow) (arena pages place : ℕ) → fits logs arena pages place ≡ true →
    (place + pages ≤ arena) × (list_any (holds_some pages place) logs ≡ false)
within_and_free logs arena pages place is = by (nat_le (place + pages) arena) (list_any (holds_some pages place) logs) refl refl is
  where
    by : (a b : Bool) → nat_le (place + pages) arena ≡ a → list_any (holds_some pages place) logs ≡ b → (a && not b) ≡ true →
        (place + pages ≤ arena) × (list_any (holds_some pages place) logs ≡ false)
    by true false low free is = (leb-true (place + pages) arena low, free)
    by true true low free is = absurd (cc)
    by false b low free is = absurd (cc)

pub held_within : (logs : List LogRow) (arena pages place : ℕ) → fits logs arena pages place ≡ false → place + pages ≤ arena →
    list_any (holds_some pages place) logs ≡ true
held_within logs arena pages place is within = by (nat_le (place + pages) arena) (list_any (holds_some pages place) logs) refl refl is
  where
    by : (a b : Bool) → nat_le (place + pages) arena ≡ a → list_any (holds_some pages place) logs ≡ b → (a && not b) ≡ false →
        list_any (holds_some pages place) logs ≡ true
    by true true low held is = held
    by true false low held is = absurd (cc)
    by false b low held is = let no = leb-false (place + pages) arena low in absurd (omega (arith, no, within))

-- a log that holds some of the pages from one place on, and none of those from the next one on, ends there
ends_there : (pages place held begin : ℕ) → Meets pages place held begin → (Meets pages (suc place) held begin → ⊥) → begin + held ≡ suc place
ends_there pages place held begin m n = by (nat_lt (suc place) (begin + held)) refl
  where
    by : (t : Bool) → nat_lt (suc place) (begin + held) ≡ t → begin + held ≡ suc place
    by true is =
        let past = ltb-true (suc place) (begin + held) is in
        absurd (n (record { some = m.some; any = m.any; front = past; back = omega (arith, m.back) }))
    by false is = let not_past = ltb-false (suc place) (begin + held) is in omega (arith, not_past, m.front)

pub differs : {X : Type 0} (b : Bool) → b ≡ true → b ≡ false → X
differs b is is_not = absurd (let e : true ≡ false = sym is ∙ is_not in cc)

pub none_held : (logs : List LogRow) (pages place k : ℕ) (d : LogRow) → k < length logs →
    list_any (holds_some pages place) logs ≡ false → Meets pages place (log_pages (get_or logs k d)) (get_or logs k d).place → ⊥
unfolding holds_some
none_held logs pages place k d within none m = by (list_any (holds (get_or logs k d)) (range_with_len place pages)) refl
  where
    by : (b : Bool) → list_any (holds (get_or logs k d)) (range_with_len place pages) ≡ b → ⊥
    by false is = unmet pages place (log_pages (get_or logs k d)) (get_or logs k d).place is m
    by true is =
        differs (list_any (holds_some pages place) logs) (list_any_at (holds_some pages place) logs k d within is) none

-- one of the logs, at its place in the list
pub record IsHolder (logs : List LogRow) (pages place : ℕ) : Type 0 where
  pub at : ℕ
  pub log : LogRow
  pub within : at < length logs
  pub meets : Meets pages place (log_pages (get_or logs at log)) (get_or logs at log).place

pub some_held : (logs : List LogRow) (pages place : ℕ) → list_any (holds_some pages place) logs ≡ true → IsHolder logs pages place
unfolding holds_some
some_held logs pages place held =
    let any = Any-from_list_any (holds_some pages place) logs held in
    let log = get_or logs any.0 any.1 in
    let is : holds_some pages place log ≡ true = ap (holds_some pages place) any.3 ∙ any.4 in
    record { at = any.0; log = any.1; within = any.2; meets = met pages place (log_pages log) log.place is }

end_reached : (logs : List LogRow) (arena pages place : ℕ) (least : Option ℕ) → arena < 2 ^ 32 →
    fits logs arena pages place ≡ false → fits logs arena pages (suc place) ≡ true →
    IsUpTo (least_end (fits logs arena pages) logs least) (suc place)
end_reached logs arena pages place least small before here =
    let both : (suc place + pages ≤ arena) × (list_any (holds_some pages (suc place)) logs ≡ false) =
    within_and_free logs arena pages (suc place) here in
    let holder = some_held logs pages place (held_within logs arena pages place before (omega (arith, both.0))) in
    let log = get_or logs holder.at holder.log in
    let ends : log.place + log_pages log ≡ suc place =
    ends_there pages place (log_pages log) log.place holder.meets (none_held logs pages (suc place) holder.at holder.log holder.within both.1) in
    let at : ending log ≡ suc place = omega (arith, ends, both.0, small) in
    let passes : fits logs arena pages (ending log) ≡ true = subst (λ p. fits logs arena pages p ≡ true) (sym at) here in
    subst (λ p. IsUpTo (least_end (fits logs arena pages) logs least) p) at
    (least_reaches (fits logs arena pages) logs holder.at holder.log least holder.within passes)

-- what passes is within the arena
passes_within : (logs : List LogRow) (arena pages n : ℕ) → fits logs arena pages n ≡ true → n < arena + 1
passes_within logs arena pages n is = let both = within_and_free logs arena pages n is in omega (arith, both.0)

same_place : (logs : List LogRow) (arena pages : ℕ) (first found : Option ℕ) → arena < 2 ^ 32 → fits logs arena pages 0 ≡ false →
    IsFirst (fits logs arena pages) 0 (arena + 1) first → Passes (fits logs arena pages) found →
    ((n : ℕ) → fits logs arena pages n ≡ false → fits logs arena pages (suc n) ≡ true → IsUpTo found (suc n)) → found ≡ first
same_place logs arena pages None None small none is passes reach = refl
same_place logs arena pages None (Some n) small none is passes reach =
    differs (fits logs arena pages n) passes (let within = passes_within logs arena pages n passes in is n (omega arith) (omega (arith, within)))
same_place logs arena pages (Some zero) found small none is passes reach = differs (fits logs arena pages 0) is.2 none
same_place logs arena pages (Some (suc first)) None small none is passes reach =
    absurd (reach first (is.3 first (omega arith) (omega arith)) is.2)
same_place logs arena pages (Some (suc first)) (Some n) small none is passes reach = by (nat_lt n (suc first)) refl
  where
    by : (b : Bool) → nat_lt n (suc first) ≡ b → Some n ≡ Some (suc first)
    by true below =
        differs (fits logs arena pages n) passes (is.3 n (omega arith) (ltb-true n (suc first) below))
    by false above =
        let upto : n ≤ suc first = reach first (is.3 first (omega arith) (omega arith)) is.2 in
        let not_below = ltb-false n (suc first) above in
        ap Some (let e : n ≡ suc first = omega (arith, upto, not_below) in e)

-- the least end is the least place, where page 0 is none
pub least_is : (logs : List LogRow) (arena pages : ℕ) → arena < 2 ^ 32 → fits logs arena pages 0 ≡ false →
    least_end (fits logs arena pages) logs None ≡ find (fits logs arena pages) (range_with_len 0 (arena + 1))
least_is logs arena pages small none =
    same_place logs arena pages (find (fits logs arena pages) (range_with_len 0 (arena + 1))) (least_end (fits logs arena pages) logs None)
    small none (found_first (fits logs arena pages) 0 (arena + 1)) (least_passes (fits logs arena pages) logs None tt)
    (λ n before here. end_reached logs arena pages n None small before here)
