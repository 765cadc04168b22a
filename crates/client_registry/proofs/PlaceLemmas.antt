-- Where the client of an id stands: ids rise, so a search finds it.
use Rattle.std.proofs.Common.{◌≡◌, ℕ, zero, suc, ◌<◌, ◌≤◌, ◌==◌, Bool, true, false, cond, List, [], ◌∷◌, length, map, get_or, set, Option, Some, None, Result, Ok, Err, refl, sym, ap, ◌∙◌, arith, max}
use Rattle.std.proofs.lemmas.Bool.Decides.{nat_tests}
use Rattle.std.proofs.lemmas.Cmp.{ranked}
use Rattle.std.proofs.lemmas.List.Sorted.{IsNonDecreasingBy-from_default}
use Rattle.std.proofs.lemmas.Option.{slice_get-get_or}
use Rattle.std.specs.List.Sorted.{IsSearchInRange, IsBinarySearchResult, IsNonDecreasingBy}
use Rattle.std.specs.Ordering.{nat_cmp, ordering_index}
use Rattle.std.specs.Prelude.{slice_get}
use Rattle.client_registry.specs.declared.client.Client.{Client}
use Rattle.client_registry.specs.Clients.{client_at, heard_one}
use Rattle.client_registry.specs.Laws.{Rises}
use Rattle.client_registry.specs.Place.{next_place, place_of}
use Rattle.client_registry.proofs.OrderLemmas.{above}

-- ---- who stands there

abbrev read : List Client → Option ℕ → Option Client
read rows None = None
read rows (Some at) = slice_get rows at

read_next : (row : Client) (rows : List Client) (place : Option ℕ) → read rows place ≡ read (row ∷ rows) (next_place place)
read_next row rows None = refl
read_next row rows (Some at) = refl

client_read : (number : ℕ) (rows : List Client) → client_at rows number ≡ read rows (place_of number rows)
client_read number [] = refl
client_read number (row ∷ rows) =
    elim (row.number == number) as (λ b. cond b (Some row) (client_at rows number) ≡ read (row ∷ rows) (cond b (Some 0) (next_place (place_of number rows)))) [
      | true ↦ refl
      | false ↦ client_read number rows ∙ read_next row rows (place_of number rows)
    ]

pub client_there : (number at : ℕ) (rows : List Client) (d : Client) → Some at ≡ place_of number rows → at < length rows →
    Some (get_or rows at d) ≡ client_at rows number
client_there number at rows d place within =
    sym (slice_get-get_or rows at d within) ∙ (ap (read rows) place ∙ sym (client_read number rows))

pub client_missing : (number : ℕ) (rows : List Client) → None ≡ place_of number rows → None ≡ client_at rows number
client_missing number rows place = ap (read rows) place ∙ sym (client_read number rows)

-- ---- it alone is heard of

abbrev heard_at : ℕ → Client → List Client → Option ℕ → List Client
heard_at now d rows None = rows
heard_at now d rows (Some at) = let client = get_or rows at d in set rows at (record client { heard = max client.heard now })

heard_next : (now : ℕ) (d row : Client) (rows : List Client) (place : Option ℕ) →
    row ∷ heard_at now d rows place ≡ heard_at now d (row ∷ rows) (next_place place)
heard_next now d row rows None = refl
heard_next now d row rows (Some at) = refl

-- those behind it are not
unheard : (number now low last : ℕ) (rows : List Client) → number ≤ low → Rises low last rows → map (heard_one number now) rows ≡ rows
unheard number now low last [] order rises = refl
unheard number now low last (row ∷ rows) order rises =
    let higher : number < row.number = omega (arith, rises.0, order) in
    let miss : (row.number == number) ≡ false = grind (arith, nat_tests) in
    rw miss (ap (λ (others : List Client). row ∷ others) (unheard number now row.number last rows (omega (arith, higher)) rises.1))

heard_case : (number now last : ℕ) (d row : Client) (rows : List Client) (b : Bool) → (row.number == number) ≡ b → Rises row.number last rows →
    map (heard_one number now) rows ≡ heard_at now d rows (place_of number rows) →
    cond b (record row { heard = max row.heard now }) row ∷ map (heard_one number now) rows
    ≡ heard_at now d (row ∷ rows) (cond b (Some 0) (next_place (place_of number rows)))
heard_case number now last d row rows true is rises rest =
    let order : number ≤ row.number = grind (arith, nat_tests) in
    ap (λ (others : List Client). record row { heard = max row.heard now } ∷ others) (unheard number now row.number last rows order rises)
heard_case number now last d row rows false is rises rest =
    ap (λ (others : List Client). row ∷ others) rest ∙ heard_next now d row rows (place_of number rows)

heard_placed : (number now low last : ℕ) (d : Client) (rows : List Client) → Rises low last rows →
    map (heard_one number now) rows ≡ heard_at now d rows (place_of number rows)
heard_placed number now low last d [] rises = refl
heard_placed number now low last d (row ∷ rows) rises =
    heard_case number now last d row rows (row.number == number) refl rises.1 (heard_placed number now row.number last d rows rises.1)

pub heard_there : (number now low last at : ℕ) (rows : List Client) (d : Client) → Rises low last rows → Some at ≡ place_of number rows →
    set rows at (record { number = (get_or rows at d).number; principal = (get_or rows at d).principal; heard = max (get_or rows at d).heard now })
    ≡ map (heard_one number now) rows
heard_there number now low last at rows d rises place =
    ap (heard_at now d rows) place ∙ sym (heard_placed number now low last d rows rises)

pub heard_nowhere : (number now low last : ℕ) (rows : List Client) (d : Client) → Rises low last rows → None ≡ place_of number rows →
    rows ≡ map (heard_one number now) rows
heard_nowhere number now low last rows d rises place =
    ap (heard_at now d rows) place ∙ sym (heard_placed number now low last d rows rises)

-- ---- the search

higher_at : (low last : ℕ) (rows : List Client) (at : ℕ) (d : Client) → Rises low last rows → at < length rows → low < (get_or rows at d).number
higher_at low last rows at d rises within = above low last rows at (get_or rows at d) rises (slice_get-get_or rows at d within)

pub place_here : (number low last : ℕ) (rows : List Client) (at : ℕ) (d : Client) → Rises low last rows → at < length rows → (get_or rows at d).number ≡ number →
    Some at ≡ place_of number rows
place_here number low last [] at d rises within is = absurd (omega (arith, within))
place_here number low last (row ∷ rows) zero d rises within is =
    let hit : (row.number == number) ≡ true = grind (arith, nat_tests) in
    rw hit refl
place_here number low last (row ∷ rows) (suc at) d rises within is =
    let inside : at < length rows = omega (arith, within) in
    let higher : row.number < (get_or rows at d).number = higher_at row.number last rows at d rises.1 inside in
    let miss : (row.number == number) ≡ false = grind (arith, nat_tests) in
    rw miss (ap next_place (place_here number row.number last rows at d rises.1 inside is))

place_missing : (number : ℕ) (rows : List Client) → ((j : ℕ) (d : Client) → j < length rows → ((get_or rows j d).number == number) ≡ false) →
    None ≡ place_of number rows
place_missing number [] none = refl
place_missing number (row ∷ rows) none =
    let miss : (row.number == number) ≡ false = none 0 row (omega arith) in
    rw miss (ap next_place (place_missing number rows (λ j d within. none (suc j) d (omega (arith, within)))))

rises_along : (low last : ℕ) (rows : List Client) (i j : ℕ) (d : Client) → Rises low last rows → i ≤ j → j < length rows →
    (get_or rows i d).number ≤ (get_or rows j d).number
rises_along low last [] i j d rises order within = absurd (omega (arith, within))
rises_along low last (row ∷ rows) zero zero d rises order within = omega arith
rises_along low last (row ∷ rows) zero (suc j) d rises order within =
    omega (arith, higher_at row.number last rows j d rises.1 (omega (arith, within)))
rises_along low last (row ∷ rows) (suc i) zero d rises order within = absurd (omega (arith, order))
rises_along low last (row ∷ rows) (suc i) (suc j) d rises order within =
    rises_along row.number last rows i j d rises.1 (omega (arith, order)) (omega (arith, within))

nobody : Client
nobody = record { number = 0; principal = 0; heard = 0 }

comparisons_rise : (number low last : ℕ) (rows : List Client) → Rises low last rows →
    IsNonDecreasingBy (λ (client : Client). ordering_index (nat_cmp client.number number)) rows
comparisons_rise number low last rows rises =
    IsNonDecreasingBy-from_default (λ (client : Client). ordering_index (nat_cmp client.number number)) rows nobody (λ i j order within.
    let along = rises_along low last rows i j nobody rises order within in
    grind (arith, nat_tests))

-- the place that a search gives
abbrev pub place_in : Result ℕ ℕ → Option ℕ
place_in (Ok at) = Some at
place_in (Err at) = None

pub searched : (number low last : ℕ) (rows : List Client) → Rises low last rows → (result : Result ℕ ℕ) → IsSearchInRange result (length rows) →
    IsBinarySearchResult (λ (client : Client). nat_cmp client.number number) rows result → place_in result ≡ place_of number rows
searched number low last rows rises (Ok at) within equal =
    place_here number low last rows at nobody rises within (ranked _ number _ (sym (equal nobody)))
searched number low last rows rises (Err at) within parted =
    place_missing number rows (λ j d inside.
    let ends = parted (comparisons_rise number low last rows rises) in
    let below : j < at → (get_or rows j d).number < number = λ less. ranked _ number _ (sym (ends.0 j d (omega arith) less)) in
    let beyond : at ≤ j → number < (get_or rows j d).number = λ from. ranked _ number _ (sym (ends.1 j d from inside)) in
    grind (arith, nat_tests, below, beyond))
