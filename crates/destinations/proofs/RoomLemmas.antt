-- The room is for 32 destinations of each of 256 logs.
use Rattle.std.proofs.Common.{◌≡◌, ℕ, ◌+◌, ◌*◌, ◌<◌, ◌≤◌, ◌==◌, ◌||◌, Bool, true, false, List, [], ◌∷◌, length, refl, subst, arith}
use Rattle.std.specs.List.{AllByRecursion, list_any}
use Rattle.std.proofs.lemmas.Bool.Decides.{nat_tests}
use Rattle.destinations.specs.declared.destination.Destination.{Destination}
use Rattle.destinations.specs.Destinations.{is_of, of}
use Rattle.destinations.specs.Laws.{IsAmong, RoomIsForEverySource}

-- how many destinations these logs have together
abbrev total : List ℕ → List Destination → ℕ
total [] rows = 0
total (source ∷ sources) rows = length (of rows source) + total sources rows

grows_from : (b : Bool) (source : ℕ) (row : Destination) (rows : List Destination) → is_of source row ≡ b → length (of rows source) ≤ length (of (row ∷ rows) source)
grows_from true source row rows is = rw is (omega arith)
grows_from false source row rows is = rw is (omega arith)

total_grows : (sources : List ℕ) (row : Destination) (rows : List Destination) → total sources rows ≤ total sources (row ∷ rows)
total_grows [] row rows = omega arith
total_grows (source ∷ sources) row rows = omega (arith, grows_from _ source row rows refl, total_grows sources row rows)

one_counts : (source : ℕ) (row : Destination) (rows : List Destination) → row.source ≡ source → length (of (row ∷ rows) source) ≡ length (of rows source) + 1
one_counts source row rows same =
    let is : (row.source == source) ≡ true = grind (arith, nat_tests, same) in
    rw is (omega arith)

total_more_from : (b : Bool) (source : ℕ) (sources : List ℕ) (row : Destination) (rows : List Destination) → (source == row.source) ≡ b →
    (b || list_any (λ other. other == row.source) sources) ≡ true → (IsAmong sources row.source → total sources rows + 1 ≤ total sources (row ∷ rows)) →
    total (source ∷ sources) rows + 1 ≤ total (source ∷ sources) (row ∷ rows)
total_more_from true source sources row rows is among rest =
    let same : row.source ≡ source = grind (arith, nat_tests, is) in
    omega (arith, one_counts source row rows same, total_grows sources row rows)
total_more_from false source sources row rows is among rest = omega (arith, rest among, grows_from _ source row rows refl)

total_more : (sources : List ℕ) (row : Destination) (rows : List Destination) → IsAmong sources row.source → total sources rows + 1 ≤ total sources (row ∷ rows)
total_more [] row rows among = absurd cc
total_more (source ∷ sources) row rows among = total_more_from _ source sources row rows refl among (total_more sources row rows)

counted : (sources : List ℕ) (rows : List Destination) → AllByRecursion (λ destination. IsAmong sources destination.source) rows → length rows ≤ total sources rows
counted sources [] among = omega arith
counted sources (row ∷ rows) among = omega (arith, counted sources rows among.1, total_more sources row rows among.0)

bounded : (sources : List ℕ) (rows : List Destination) → ((source : ℕ) → length (of rows source) ≤ 32) → total sources rows ≤ length sources * 32
bounded [] rows few = omega arith
bounded (source ∷ sources) rows few = omega (arith, few source, bounded sources rows few)

spare_from : (b : Bool) (first source : ℕ) (sources : List ℕ) (rows : List Destination) → (first == source) ≡ b →
    (b || list_any (λ other. other == source) sources) ≡ true → ((source : ℕ) → length (of rows source) ≤ 32) → length (of rows source) < 32 →
    (IsAmong sources source → total sources rows < length sources * 32) → total (first ∷ sources) rows < length (first ∷ sources) * 32
spare_from true first source sources rows is among few room rest =
    let same : source ≡ first = grind (arith, nat_tests, is) in
    let here : length (of rows first) < 32 = subst (λ n. length (of rows n) < 32) same room in
    omega (arith, here, bounded sources rows few)
spare_from false first source sources rows is among few room rest = omega (arith, few first, rest among)

spare : (sources : List ℕ) (source : ℕ) (rows : List Destination) → ((source : ℕ) → length (of rows source) ≤ 32) → IsAmong sources source →
    length (of rows source) < 32 → total sources rows < length sources * 32
spare [] source rows few among room = absurd cc
spare (first ∷ sources) source rows few among room = spare_from _ first source sources rows refl among few room (λ later. spare sources source rows few later room)

pub room_is_for_every_source : RoomIsForEverySource
room_is_for_every_source destinations sources source orderly few_sources all among room =
    omega (arith, counted sources destinations.rows all, spare sources source destinations.rows orderly.few among room, few_sources)
