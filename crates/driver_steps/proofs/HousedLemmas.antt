-- Which pages have a lease as a log opens or closes, or goes on where it lies.
use Rattle.std.proofs.Common.{◌≡◌, ℕ, zero, suc, ◌+◌, ◌-◌, ◌*◌, ◌/◌, ◌%◌, ◌<◌, ◌≤◌, ◌⊎◌, inl, inr, Bool, true, false, ◌&&◌, ◌||◌, List, [], ◌∷◌, ◌++◌, length, get_or, take, drop, replicate, All, refl, sym, ap, ap₂, subst, ◌∙◌, arith}
use Rattle.std.specs.Prelude.{nat_le, nat_lt, AllPairs, remove, slice_set}
use Rattle.std.specs.List.{take-map}
use Rattle.std.proofs.Math.Seq.{map-set_same}
use Rattle.std.proofs.lemmas.Bool.{ltb-true, ltb-false, leb-true, leb-false, cases_lt}
use Rattle.std.proofs.lemmas.List.{drop-map, length-map, length-take-le, length-replicate, get_or-map, get_or_append_left, get_or-take, get_or-drop, get_or_past, get_or_default, map-append}
use Rattle.std.proofs.lemmas.List.Elements.{All-push}
use Rattle.std.proofs.lemmas.List.Edits.{get_or-remove_below, get_or-remove_above, length-remove}
use Rattle.std.proofs.lemmas.List.Folds.{list_any-append, list_any_none, list_any_at}
use Rattle.std.proofs.lemmas.List.Quantifiers.{all_pairs_push, all_pairs_remove}
use Rattle.log_steps.specs.Held.{HeldLog, LiesAsBefore, plot_of}
use Rattle.driver_steps.specs.OpenLogs.{plots_of}
use Rattle.log_steps.specs.Plots.{Plot, has_page, is_taken, IsVacant, IsLeastVacant, LiesIn, ShareNoPage, AreHoused}
use Rattle.log_arena.specs.Homes.{Home}
use Rattle.log_arena.specs.Lease.{IsOf, lease_home, lease_place, lease_len}
use Rattle.log_arena.specs.declared.lease.Lease.{Lease}
use Rattle.log_arena.specs.Pages.{Region, has_lease, IsFree, IsLeastPlace, HasNoPlace, marked}
use Rattle.log_arena.proofs.Marks.{first_pages, page_behind, length-marked}
use Rattle.stream_registry.specs.LogPages.{pages_of}

-- ---- marked pages

marked_there : (b : Bool) (at n page : ℕ) (t : List Bool) → at + n ≤ length t → at ≤ page → page < at + n → has_lease (marked b at n t) page ≡ b
unfolding marked
marked_there b at n page t within from to =
    let long : length (take at t) ≡ at = length-take-le at t (omega arith) in
    let here : page ≡ length (take at t) + (page - at) = omega arith in
    page_behind (take at t) (replicate n b ++ drop (at + n) t) page (page - at) here ∙ first_pages b n (page - at) (drop (at + n) t) (omega arith)

before_marked : (b : Bool) (at n page : ℕ) (t : List Bool) → at + n ≤ length t → page < at → has_lease (marked b at n t) page ≡ has_lease t page
unfolding marked
before_marked b at n page t within before =
    let long : length (take at t) ≡ at = length-take-le at t (omega arith) in
    get_or_append_left (take at t) (replicate n b ++ drop (at + n) t) true page (omega arith) ∙ get_or-take at t page true before

behind_marked : (b : Bool) (at n page : ℕ) (t : List Bool) → at + n ≤ length t → at + n ≤ page → has_lease (marked b at n t) page ≡ has_lease t page
unfolding marked
behind_marked b at n page t within behind =
    let long : length (take at t) ≡ at = length-take-le at t (omega arith) in
    let here : page ≡ length (take at t) + (page - at) = omega arith in
    let there : page - at ≡ length (replicate n b) + (page - at - n) = omega (arith, length-replicate n b) in
    let back : at + n + (page - at - n) ≡ page = omega arith in
    page_behind (take at t) (replicate n b ++ drop (at + n) t) page (page - at) here
    ∙ page_behind (replicate n b) (drop (at + n) t) (page - at) (page - at - n) there
    ∙ get_or-drop (at + n) t (page - at - n) true ∙ ap (λ p. has_lease t p) back

-- ---- the pages of a plot

-- where it begins, and how many it has
abbrev pub first_page : Plot → ℕ
first_page plot = plot.place / 4096

abbrev pub page_count : Plot → ℕ
page_count plot = pages_of plot.term_length

has_inside : (plot : Plot) (page : ℕ) → plot.place % 4096 ≡ 0 → has_page page plot ≡ true →
    (first_page plot ≤ page) × (page < first_page plot + page_count plot)
has_inside plot page whole is =
    by (nat_le plot.place (4096 * page)) (nat_lt (4096 * page) (plot.place + 4096 * page_count plot)) refl refl is
  where
    by : (a b : Bool) → nat_le plot.place (4096 * page) ≡ a
        → nat_lt (4096 * page) (plot.place + 4096 * page_count plot) ≡ b → (a && b) ≡ true
        → (first_page plot ≤ page) × (page < first_page plot + page_count plot)
    by true true low high e =
        let from = leb-true plot.place (4096 * page) low in
        let to = ltb-true (4096 * page) (plot.place + 4096 * page_count plot) high in
        (omega (arith, from, whole), omega (arith, to, whole))
    by true false low high e = absurd (cc)
    by false b low high e = absurd (cc)

lacks_outside : (plot : Plot) (page : ℕ) → plot.place % 4096 ≡ 0 → has_page page plot ≡ false →
    (page < first_page plot) ⊎ (first_page plot + page_count plot ≤ page)
lacks_outside plot page whole is =
    by (nat_le plot.place (4096 * page)) (nat_lt (4096 * page) (plot.place + 4096 * page_count plot)) refl refl is
  where
    by : (a b : Bool) → nat_le plot.place (4096 * page) ≡ a
        → nat_lt (4096 * page) (plot.place + 4096 * page_count plot) ≡ b → (a && b) ≡ false
        → (page < first_page plot) ⊎ (first_page plot + page_count plot ≤ page)
    by true true low high e = absurd (cc)
    by true false low high e =
        let past = ltb-false (4096 * page) (plot.place + 4096 * page_count plot) high in inr (omega (arith, past, whole))
    by false b low high e = let before = leb-false plot.place (4096 * page) low in inl (omega (arith, before, whole))

-- as its pages are marked, a page has a lease by the mark, or as before
pub lease_marked : (b : Bool) (t : List Bool) (plot : Plot) (page : ℕ) → plot.place % 4096 ≡ 0
    → first_page plot + page_count plot ≤ length t
    → (has_page page plot ≡ true → has_lease (marked b (first_page plot) (page_count plot) t) page ≡ b)
    × (has_page page plot ≡ false → has_lease (marked b (first_page plot) (page_count plot) t) page ≡ has_lease t page)
lease_marked b t plot page whole within = (
  λ is. let inside = has_inside plot page whole is in
      marked_there b (first_page plot) (page_count plot) page t within inside.0 inside.1,
  λ is. elim (lacks_outside plot page whole is) [
    | inl before ↦ before_marked b (first_page plot) (page_count plot) page t within before
    | inr behind ↦ behind_marked b (first_page plot) (page_count plot) page t within behind
  ],
)

-- ---- lists of plots

by_test : {X : Type 0} (b : Bool) → (b ≡ true → X) → (b ≡ false → X) → X
by_test true is is_not = is refl
by_test false is is_not = is_not refl

differs : {X : Type 0} (b : Bool) → b ≡ true → b ≡ false → X
differs b is is_not = absurd (let e : true ≡ false = sym is ∙ is_not in cc)

apart_back : (plot other : Plot) → ShareNoPage plot other → ShareNoPage other plot
apart_back plot other apart page is = by_test (has_page page plot) (λ has. differs (has_page page other) is (apart page has)) (λ lacks. lacks)

or-true : (b : Bool) → (b || true) ≡ true
or-true true = refl
or-true false = refl

or-false : (b : Bool) → (b || false) ≡ b
or-false true = refl
or-false false = refl

-- the pages of one more plot
taken_more : (plots : List Plot) (plot : Plot) (page : ℕ) → is_taken (plots ++ plot ∷ []) page ≡ (is_taken plots page || has_page page plot)
taken_more plots plot page = list_any-append (has_page page) plots (plot ∷ []) ∙ ap (λ b. is_taken plots page || b) (or-false (has_page page plot))

-- where no two plots share a page, no other than the one at that place has its pages
others_lack : (plots : List Plot) (at page : ℕ) (d : Plot) → at < length plots → AllPairs ShareNoPage plots → has_page page (get_or plots at d) ≡ true
    → is_taken (remove plots at) page ≡ false
others_lack plots at page d within apart is =
    list_any_none (has_page page) (remove plots at) (λ k e l.
    let long = length-remove plots at within in
    elim (cases_lt k at) [
      | inl below ↦
          let other : Plot = get_or plots k d in
          let same : get_or (remove plots at) k e ≡ other = get_or-remove_below plots at e k below within ∙ get_or_default plots k e d (omega arith) in
          ap (λ (p : Plot). has_page page p) same ∙ apart_back other (get_or plots at d) (apart k at d below within) page is
      | inr above ↦
          let other : Plot = get_or plots (k + 1) d in
          let same : get_or (remove plots at) k e ≡ other = get_or-remove_above plots at e k above within ∙ get_or_default plots (k + 1) e d (omega arith) in
          ap (λ (p : Plot). has_page page p) same ∙ apart at (k + 1) d (omega arith) (omega arith) page is
    ])

-- without a plot that lacks the page it is taken as before
same_without : (plots : List Plot) (at page : ℕ) (d : Plot) → at < length plots → has_page page (get_or plots at d) ≡ false
    → is_taken (remove plots at) page ≡ is_taken plots page
same_without [] at page d within lacks = absurd (omega arith)
same_without (plot ∷ plots) zero page d within lacks = ap (λ b. b || is_taken plots page) (sym lacks)
same_without (plot ∷ plots) (suc at) page d within lacks = ap (λ b. has_page page plot || b) (same_without plots at page d (omega arith) lacks)

-- ---- a log goes on where it lies

-- one log is another now, which lies where it lay
pub housed_set : (region : Region) (logs : List HeldLog) (at : ℕ) (log : HeldLog)
    → ((d : HeldLog) → LiesAsBefore (get_or logs at d) log) → AreHoused region (plots_of logs)
    → AreHoused region (plots_of (slice_set logs at log))
housed_set region logs at log alike housed =
    subst (AreHoused region) (sym (map-set_same plot_of logs at log log (alike log).plot_is)) housed

-- ---- a log closes

all_without : (P : Plot → Type 0) (plots : List Plot) (at : ℕ) → at < length plots → All P plots → All P (remove plots at)
all_without P plots at within all k d l =
    let long = length-remove plots at within in
    elim (cases_lt k at) [
      | inl below ↦ subst P (sym (get_or-remove_below plots at d k below within)) (all k d (omega arith))
      | inr above ↦ subst P (sym (get_or-remove_above plots at d k above within)) (all (k + 1) d (omega arith))
    ]

housed_closed : (region : Region) (plots : List Plot) (at : ℕ) (d : Plot) → at < length plots
    → first_page (get_or plots at d) + page_count (get_or plots at d) ≤ region.home.pages → AreHoused region plots
    → let after : Region = record region { leased = marked false (first_page (get_or plots at d)) (page_count (get_or plots at d)) region.leased } in
    AreHoused after (remove plots at)
housed_closed region plots at d within inside housed =
    let plot : Plot = get_or plots at d in
    let whole = (housed.lie at d within).whole in
    let small : first_page plot + page_count plot ≤ length region.leased = omega (arith, inside, housed.sized) in
    record {
      lie = all_without (LiesIn region.home) plots at within housed.lie;
      apart = all_pairs_remove ShareNoPage plots at within housed.apart;
      sized = length-marked false (first_page plot) (page_count plot) region.leased small ∙ housed.sized;
      leased = λ page l.
          let told = lease_marked false region.leased plot page whole small in
          by_test (has_page page plot)
          (λ is. told.0 is ∙ sym (others_lack plots at page d within housed.apart is))
          (λ is. told.1 is ∙ housed.leased page l ∙ sym (same_without plots at page d within is));
    }

-- a lease is that of a plot, of which it is told where it is
pub record IsLeaseOf (plot : Plot) (lease : Lease) : Type 0 where
  pub home : lease_home lease ≡ plot.home
  pub place : lease_place lease ≡ plot.place
  pub len : lease_len lease ≡ 3 * plot.term_length

-- the lease of the plot at that place is given back
plots_given : (region after : Region) (plots : List Plot) (at : ℕ) (plot : Plot) (lease : Lease) → at < length plots
    → get_or plots at plot ≡ plot → IsLeaseOf plot lease
    → (let given : Region = record region { leased = marked false (lease_place lease / 4096) (lease_len lease / 4096) region.leased } in after ≡ given)
    → AreHoused region plots → AreHoused after (remove plots at)
plots_given region after plots at plot lease within found of given housed =
    let there : Plot = get_or plots at plot in
    let lies : LiesIn region.home there = housed.lie at plot within in
    let first : lease_place lease / 4096 ≡ first_page there = ap (λ p. p / 4096) (of.place ∙ ap (λ (p : Plot). p.place) (sym found)) in
    let count : lease_len lease / 4096 ≡ page_count there =
    ap (λ n. n / 4096) (of.len ∙ ap (λ (p : Plot). 3 * p.term_length) (sym found)) in
    let same : lease.pages ≡ region.home.pages =
    ap (λ (h : Home). h.pages) (of.home ∙ ap (λ (p : Plot). p.home) (sym found) ∙ lies.home_is) in
    let inside : first_page there + page_count there ≤ region.home.pages =
    omega (arith, first, count, same, lease.housed.within, lease.housed.whole_place, lease.housed.whole_len) in
    let closed = housed_closed region plots at plot within inside housed in
    let marks : after ≡ record region { leased = marked false (first_page there) (page_count there) region.leased } =
    given ∙ ap₂ (λ a n. let r : Region = record region { leased = marked false a n region.leased } in r) first count in
    subst (λ (r : Region). AreHoused r (remove plots at)) (sym marks) closed

-- without a log, its plot is gone
plots_without : (logs : List HeldLog) (at : ℕ) → plots_of (remove logs at) ≡ remove (plots_of logs) at
plots_without logs at =
    map-append plot_of (take at logs) (drop (suc at) logs)
    ∙ ap₂ (λ (xs ys : List Plot). xs ++ ys) (sym (take-map plot_of at logs)) (sym (drop-map plot_of (suc at) logs))

-- the lease of the log at that place is given back
pub housed_given : (region after : Region) (logs left : List HeldLog) (at : ℕ) (d held : HeldLog) (lease : Lease) → at < length logs
    → get_or logs at d ≡ held → IsLeaseOf (plot_of held) lease
    → (let given : Region = record region { leased = marked false (lease_place lease / 4096) (lease_len lease / 4096) region.leased } in after ≡ given)
    → left ≡ remove logs at → AreHoused region (plots_of logs) → AreHoused after (plots_of left)
housed_given region after logs left at d held lease within found of given rest housed =
    let there : get_or (plots_of logs) at (plot_of held) ≡ plot_of held =
    get_or-map plot_of logs at d (plot_of held) within ∙ ap plot_of found in
    let long : at < length (plots_of logs) = omega (arith, within, length-map logs plot_of) in
    subst (AreHoused after) (sym (ap plots_of rest ∙ plots_without logs at))
    (plots_given region after (plots_of logs) at (plot_of held) lease long there of given housed)

-- which is of the region
pub lease_is_of : (region : Region) (logs : List HeldLog) (at : ℕ) (d held : HeldLog) (lease : Lease) → at < length logs
    → get_or logs at d ≡ held → IsLeaseOf (plot_of held) lease → AreHoused region (plots_of logs) → IsOf region lease
lease_is_of region logs at d held lease within found of housed =
    let there : get_or (plots_of logs) at (plot_of held) ≡ plot_of held =
    get_or-map plot_of logs at d (plot_of held) within ∙ ap plot_of found in
    let long : at < length (plots_of logs) = omega (arith, within, length-map logs plot_of) in
    of.home ∙ ap (λ (p : Plot). p.home) (sym there) ∙ (housed.lie at (plot_of held) long).home_is

-- ---- a log opens

past_leased : (t : List Bool) (page : ℕ) → has_lease t page ≡ false → page < length t
past_leased t page free = elim (cases_lt page (length t)) [
  | inl below ↦ below
  | inr past ↦ differs (has_lease t page) (get_or_past t page true past) free
]

pub vacant_free : (region : Region) (plots : List Plot) (pages place : ℕ) → AreHoused region plots
    → IsVacant region.home.pages plots pages place → IsFree region.leased place pages
vacant_free region plots pages place housed vacant k l =
    housed.leased (place + k) (omega (arith, vacant.within)) ∙ vacant.free (place + k) (omega arith) (omega arith)

pub free_vacant : (region : Region) (plots : List Plot) (pages place : ℕ) → 0 < pages → AreHoused region plots → IsFree region.leased place pages
    → IsVacant region.home.pages plots pages place
free_vacant region plots pages place some housed free = record {
  within =
      let last = past_leased region.leased (place + (pages - 1)) (free (pages - 1) (omega arith)) in
      omega (arith, last, housed.sized);
  free = λ page from to.
      let same : place + (page - place) ≡ page = omega arith in
      let bare : has_lease region.leased page ≡ false = ap (λ p. has_lease region.leased p) (sym same) ∙ free (page - place) (omega arith) in
      let there = past_leased region.leased page bare in
      sym (housed.leased page (omega (arith, there, housed.sized))) ∙ bare;
}

-- two least places are one
pub least_is : (region : Region) (plots : List Plot) (pages place at : ℕ) → 0 < pages → AreHoused region plots
    → IsLeastVacant region.home.pages plots pages place → IsLeastPlace region.leased pages at → at ≡ place
unfolding IsLeastPlace
least_is region plots pages place at some housed vacant least =
    elim (cases_lt at place) [
      | inl below ↦ absurd (vacant.least at below (free_vacant region plots pages at some housed least.0))
      | inr above ↦ elim (cases_lt place at) [
        | inl below ↦ absurd (least.1 place below (vacant_free region plots pages place housed vacant.vacant))
        | inr same ↦ omega arith
      ]
    ]

-- where there is a vacant place, the region has one
pub some_place : (region : Region) (plots : List Plot) (pages place : ℕ) → AreHoused region plots
    → IsLeastVacant region.home.pages plots pages place → HasNoPlace region.leased pages → ⊥
unfolding HasNoPlace
some_place region plots pages place housed vacant none = none place (vacant_free region plots pages place housed vacant.vacant)

pub housed_opened : (region : Region) (plots : List Plot) (plot : Plot) → LiesIn region.home plot → 0 < page_count plot
    → IsFree region.leased (first_page plot) (page_count plot) → AreHoused region plots
    → let after : Region = record region { leased = marked true (first_page plot) (page_count plot) region.leased } in
    AreHoused after (plots ++ plot ∷ [])
housed_opened region plots plot lies some free housed =
    let vacant = free_vacant region plots (page_count plot) (first_page plot) some housed free in
    let small : first_page plot + page_count plot ≤ length region.leased = omega (arith, vacant.within, housed.sized) in
    record {
      lie = All-push (LiesIn region.home) plots plot housed.lie lies;
      apart = all_pairs_push ShareNoPage plots plot housed.apart (λ k d l page is.
          by_test (has_page page plot)
          (λ has. let inside = has_inside plot page lies.whole has in
          differs (is_taken plots page) (list_any_at (has_page page) plots k d l is) (vacant.free page inside.0 inside.1))
          (λ lacks. lacks));
      sized = length-marked true (first_page plot) (page_count plot) region.leased small ∙ housed.sized;
      leased = λ page l.
          let told = lease_marked true region.leased plot page lies.whole small in
          by_test (has_page page plot)
          (λ is. told.0 is ∙ sym (taken_more plots plot page ∙ ap (λ b. is_taken plots page || b) is ∙ or-true (is_taken plots page)))
          (λ is. told.1 is ∙ housed.leased page l ∙ sym (taken_more plots plot page ∙ ap (λ b. is_taken plots page || b) is ∙ or-false (is_taken plots page)));
    }

-- the plot is a lease of the least place
plots_leased : (region after : Region) (plots : List Plot) (plot : Plot) (lease : Lease) → IsLeaseOf plot lease
    → 0 < page_count plot → plot.term_length % 4096 ≡ 0
    → IsLeastPlace region.leased (page_count plot) (lease_place lease / 4096) → IsOf after lease
    → (let taken : Region = record region { leased = marked true (lease_place lease / 4096) (page_count plot) region.leased } in after ≡ taken)
    → AreHoused region plots → AreHoused after (plots ++ plot ∷ [])
unfolding IsLeastPlace
plots_leased region after plots plot lease of some sizes least here taken housed =
    let home : after.home ≡ region.home = ap (λ (r : Region). r.home) taken in
    let first : lease_place lease / 4096 ≡ first_page plot = ap (λ p. p / 4096) of.place in
    let lies : LiesIn region.home plot = record {
      home_is = sym of.home ∙ here ∙ home;
      whole = sym (ap (λ p. p % 4096) of.place) ∙ lease.housed.whole_place;
      sizes = sizes;
    } in
    let free : IsFree region.leased (first_page plot) (page_count plot) =
    subst (λ at. IsFree region.leased at (page_count plot)) first least.0 in
    let opened = housed_opened region plots plot lies some free housed in
    let marks : after ≡ record region { leased = marked true (first_page plot) (page_count plot) region.leased } =
    taken ∙ ap (λ a. let r : Region = record region { leased = marked true a (page_count plot) region.leased } in r) first in
    subst (λ (r : Region). AreHoused r (plots ++ plot ∷ [])) (sym marks) opened

-- the log is in a lease of the least place
pub housed_leased : (region after : Region) (logs all : List HeldLog) (held : HeldLog) (lease : Lease)
    → IsLeaseOf (plot_of held) lease → 0 < page_count (plot_of held) → (plot_of held).term_length % 4096 ≡ 0
    → IsLeastPlace region.leased (page_count (plot_of held)) (lease_place lease / 4096) → IsOf after lease
    → (let taken : Region = record region { leased = marked true (lease_place lease / 4096) (page_count (plot_of held)) region.leased } in after ≡ taken)
    → all ≡ logs ++ held ∷ [] → AreHoused region (plots_of logs) → AreHoused after (plots_of all)
housed_leased region after logs all held lease of some sizes least here taken more housed =
    subst (AreHoused after) (sym (ap plots_of more ∙ map-append plot_of logs (held ∷ [])))
    (plots_leased region after (plots_of logs) (plot_of held) lease of some sizes least here taken housed)
