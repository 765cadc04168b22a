-- Logs that do not begin to linger where all are settled.
use Rattle.std.proofs.Common.{◌≡◌, ℕ, ◌+◌, ◌≤◌, Bool, true, false, not, ◌==◌, ◌&&◌, ◌||◌, cond, List, [], ◌∷◌, ◌++◌, All, length, map, filter, slice_index_or, Some, None, refl, ap, ◌∙◌, sym, arith}
use Rattle.std.specs.List.{list_any}
use Rattle.std.proofs.lemmas.List.Elements.{All-head, All-map, All-push, All-tail, All-weaker}
use Rattle.std.proofs.lemmas.List.Folds.{list_any-append}
use Rattle.stream_registry.specs.declared.row.Origin.{Origin}
use Rattle.stream_registry.specs.declared.row.Origin.TheVariants.{Published, Remote}
use Rattle.stream_registry.specs.declared.row.Registration.{Registration}
use Rattle.stream_registry.specs.declared.row.LogRow.{LogRow}
use Rattle.stream_registry.specs.Leaving.{is_another_registration, is_own_registration, is_own_with}
use Rattle.stream_registry.specs.Lingering.{is_used, is_with, left_alone, settled_one}
use Rattle.stream_registry.specs.Origins.{is_published_by, is_remote, left_by}
use Rattle.stream_registry.specs.Rest.{Rests, RestsBeside, is_left_by, rests, settled_where}

-- ---- once all are settled, each rests

left_rests : (now : ℕ) (origin : Origin) → is_left_by (left_by now origin) ≡ true
left_rests now (Published exclusive since) = refl
left_rests now (Remote address initial_term join) = refl

either_true : (b : Bool) → (b || true) ≡ true
either_true true = refl
either_true false = refl

settled_rests : (registrations : List Registration) (now : ℕ) (log : LogRow) → Rests registrations (settled_one registrations now log)
settled_rests registrations now log = by (is_used registrations log.number) refl
  where
    by : (used : Bool) → is_used registrations log.number ≡ used → Rests registrations (cond used log (left_alone now log))
    by true is = rw is refl
    by false is =
        ap (λ (b : Bool). is_used registrations log.number || b) (left_rests now log.origin)
        ∙ either_true (is_used registrations log.number)

pub all_settled : (registrations : List Registration) (now : ℕ) (logs : List LogRow) →
    All (Rests registrations) (map (settled_one registrations now) logs)
all_settled registrations now logs =
    All-map (Rests registrations) (settled_one registrations now) logs
    (λ k d within. settled_rests registrations now (slice_index_or logs k d))

-- ---- where one rests, it stays as it is

left_same : (now : ℕ) (origin : Origin) → is_left_by origin ≡ true → left_by now origin ≡ origin
left_same now (Published exclusive None) left = absurd (cc)
left_same now (Published exclusive (Some since)) left = refl
left_same now (Remote address initial_term join) left = refl

settled_same : (registrations : List Registration) (now : ℕ) (log : LogRow) → Rests registrations log →
    settled_one registrations now log ≡ log
settled_same registrations now log rest = by (is_used registrations log.number) refl
  where
    left : (used : Bool) → used ≡ false → (used || is_left_by log.origin) ≡ true → is_left_by log.origin ≡ true
    left true not_used rest = absurd (cc)
    left false not_used rest = rest

    by : (used : Bool) → is_used registrations log.number ≡ used → cond used log (left_alone now log) ≡ log
    by true is = refl
    by false is =
        ap (λ (origin : Origin). record log { origin = origin })
        (left_same now log.origin (left (is_used registrations log.number) is rest))

-- ---- and where all but one rest, only that one changes

where_same : (source : ℕ) (registrations : List Registration) (now : ℕ) (log : LogRow) → RestsBeside source registrations log →
    settled_where source registrations now log ≡ settled_one registrations now log
where_same source registrations now log rest = by (log.number == source) rest
  where
    by : (b : Bool) → (b || rests registrations log) ≡ true →
        cond b (settled_one registrations now log) log ≡ settled_one registrations now log
    by true rest = refl
    by false rest = sym (settled_same registrations now log rest)

pub settled_beside : (source : ℕ) (registrations : List Registration) (now : ℕ) (logs : List LogRow) →
    All (RestsBeside source registrations) logs →
    map (settled_where source registrations now) logs ≡ map (settled_one registrations now) logs
settled_beside source registrations now [] all = refl
settled_beside source registrations now (log ∷ logs) all =
    let head = where_same source registrations now log (All-head (RestsBeside source registrations) log logs all) in
    let tail = settled_beside source registrations now logs (All-tail (RestsBeside source registrations) log logs all) in
    rw (head, tail) refl

-- ---- one registers

more_true : (b c : Bool) → b ≡ true → (b || c) ≡ true
more_true true c is = refl
more_true false c is = absurd (cc)

more_used : (registrations : List Registration) (registration : Registration) (source : ℕ) → is_used registrations source ≡ true →
    is_used (registrations ++ registration ∷ []) source ≡ true
more_used registrations registration source used =
    list_any-append (is_with source) registrations (registration ∷ [])
    ∙ more_true (is_used registrations source) (list_any (is_with source) (registration ∷ [])) used

either_more : (b c d : Bool) → (b ≡ true → d ≡ true) → (b || c) ≡ true → (d || c) ≡ true
either_more true c d more is = more_true d c (more refl)
either_more false true d more is = either_true d
either_more false false d more is = absurd (cc)

pub registered_rest : (registrations : List Registration) (registration : Registration) (logs : List LogRow) →
    All (Rests registrations) logs → All (Rests (registrations ++ registration ∷ [])) logs
registered_rest registrations registration =
    All-weaker (Rests registrations) (Rests (registrations ++ registration ∷ []))
    (λ (log : LogRow). either_more (is_used registrations log.number) (is_left_by log.origin)
    (is_used (registrations ++ registration ∷ []) log.number) (more_used registrations registration log.number))

-- ---- a log comes, with which somebody is registered, or an image

pub made_rest : (registrations : List Registration) (logs : List LogRow) (log : LogRow) → is_used registrations log.number ≡ true →
    All (Rests registrations) logs → All (Rests registrations) (logs ++ log ∷ [])
made_rest registrations logs log used all =
    All-push (Rests registrations) logs log all (more_true (is_used registrations log.number) (is_left_by log.origin) used)

remote_left : (origin : Origin) → not (is_published_by origin) ≡ true → is_left_by origin ≡ true
remote_left (Published exclusive since) remote = absurd (cc)
remote_left (Remote address initial_term join) remote = refl

pub imaged_rest : (registrations : List Registration) (logs : List LogRow) (log : LogRow) → is_remote log ≡ true →
    All (Rests registrations) logs → All (Rests registrations) (logs ++ log ∷ [])
imaged_rest registrations logs log remote all =
    All-push (Rests registrations) logs log all
    (ap (λ (b : Bool). is_used registrations log.number || b) (remote_left log.origin remote)
    ∙ either_true (is_used registrations log.number))

-- ---- a registration goes

-- a filter leaves no more rows than there are
kept_step : {X : Type 0} (b : Bool) (row : X) (kept rows : List X) → length kept ≤ length rows →
    length (cond b (row ∷ kept) kept) ≤ length (row ∷ rows)
kept_step true row kept rows few = omega (arith, few)
kept_step false row kept rows few = omega (arith, few)

kept_at_most : {X : Type 0} (test : X → Bool) (rows : List X) → length (filter test rows) ≤ length rows
kept_at_most test [] = omega arith
kept_at_most test (row ∷ rows) = kept_step (test row) row (filter test rows) rows (kept_at_most test rows)

-- where none went, all are there
all_step : {X : Type 0} (b : Bool) (row : X) (kept rows : List X) → length kept ≤ length rows →
    (length kept ≡ length rows → kept ≡ rows) → length (cond b (row ∷ kept) kept) ≡ length (row ∷ rows) →
    cond b (row ∷ kept) kept ≡ row ∷ rows
all_step {X} true row kept rows few all same =
    let fewer : length kept ≡ length rows = omega (arith, same) in
    ap (λ (others : List X). row ∷ others) (all fewer)
all_step false row kept rows few all same = absurd (omega (arith, same, few))

kept_all : {X : Type 0} (test : X → Bool) (rows : List X) → length (filter test rows) ≡ length rows → filter test rows ≡ rows
kept_all test [] same = refl
kept_all test (row ∷ rows) same =
    all_step (test row) row (filter test rows) rows (kept_at_most test rows) (kept_all test rows) same

-- then none is the client's own
none_step : (own with any : Bool) (row : Registration) (kept rows : List Registration) → length kept ≤ length rows →
    (length kept ≡ length rows → any ≡ false) → length (cond (not own) (row ∷ kept) kept) ≡ length (row ∷ rows) →
    ((own && with) || any) ≡ false
none_step true with any row kept rows few none same = absurd (omega (arith, same, few))
none_step false with any row kept rows few none same =
    let fewer : length kept ≡ length rows = omega (arith, same) in
    none fewer

none_own : (client number source : ℕ) (rows : List Registration) →
    length (filter (is_another_registration client number) rows) ≡ length rows →
    list_any (is_own_with client number source) rows ≡ false
none_own client number source [] same = refl
none_own client number source (row ∷ rows) same =
    let kept = filter (is_another_registration client number) rows in
    none_step (is_own_registration client number row) (row.source == source) (list_any (is_own_with client number source) rows)
    row kept rows (kept_at_most (is_another_registration client number) rows) (none_own client number source rows) same

-- two numbers are not both one
apart_from : (number other source : ℕ) → (other == source) ≡ true → (number == source) ≡ false → (other == number) ≡ false
apart_from number other source same apart = search (arith, same, apart)

first_true : (b c : Bool) → c ≡ false → (b || c) ≡ true → b ≡ true
first_true true c none is = refl
first_true false true none is = absurd (cc)
first_true false false none is = absurd (cc)

-- one went, which was with that log, so that all others have those that they had
used_step : (own : Bool) (source other : ℕ) (any : Bool) (row : Registration) (kept rows : List Registration) →
    (length kept ≡ length rows → any ≡ false) → (length kept ≡ length rows → kept ≡ rows) →
    (any ≡ true → length kept + 1 ≡ length rows → is_used kept other ≡ is_used rows other) → (other == source) ≡ false →
    ((own && row.source == source) || any) ≡ true → length (cond (not own) (row ∷ kept) kept) + 1 ≡ length (row ∷ rows) →
    is_used (cond (not own) (row ∷ kept) kept) other ≡ is_used (row ∷ rows) other
used_step true source other any row kept rows none all used apart is one =
    let fewer : length kept ≡ length rows = omega (arith, one) in
    let same = first_true (row.source == source) any (none fewer) is in
    let unlike = apart_from other row.source source same apart in
    rw (all fewer, unlike) refl
used_step false source other any row kept rows none all used apart is one =
    let fewer : length kept + 1 ≡ length rows = omega (arith, one) in
    ap (λ (b : Bool). (row.source == other) || b) (used is fewer)

others_used : (client number source other : ℕ) (rows : List Registration) →
    list_any (is_own_with client number source) rows ≡ true →
    length (filter (is_another_registration client number) rows) + 1 ≡ length rows → (other == source) ≡ false →
    is_used (filter (is_another_registration client number) rows) other ≡ is_used rows other
others_used client number source other [] any one apart = refl
others_used client number source other (row ∷ rows) any one apart =
    let kept = filter (is_another_registration client number) rows in
    used_step (is_own_registration client number row) source other (list_any (is_own_with client number source) rows) row
    kept rows (none_own client number source rows) (kept_all (is_another_registration client number) rows)
    (λ (is : list_any (is_own_with client number source) rows ≡ true) (fewer : length (filter (is_another_registration client number) rows) + 1 ≡ length rows).
    others_used client number source other rows is fewer apart)
    apart any one

rests_step : (same used left after : Bool) → (same ≡ false → after ≡ used) → (used || left) ≡ true → (same || (after || left)) ≡ true
rests_step true used left after is rest = refl
rests_step false used left after is rest = ap (λ (b : Bool). b || left) (is refl) ∙ rest

pub others_rest : (client number source : ℕ) (rows : List Registration) →
    list_any (is_own_with client number source) rows ≡ true →
    length (filter (is_another_registration client number) rows) + 1 ≡ length rows → (logs : List LogRow) →
    All (Rests rows) logs → All (RestsBeside source (filter (is_another_registration client number) rows)) logs
others_rest client number source rows any one =
    All-weaker (Rests rows) (RestsBeside source (filter (is_another_registration client number) rows))
    (λ (log : LogRow). rests_step (log.number == source) (is_used rows log.number) (is_left_by log.origin)
    (is_used (filter (is_another_registration client number) rows) log.number)
    (others_used client number source log.number rows any one))
