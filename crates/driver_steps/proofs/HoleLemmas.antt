-- The holes of the arena are the runs of pages that no live log has.
use Rattle.std.proofs.Common.{◌≡◌, ℕ, ◌<◌, Bool, true, List, [], ◌∷◌, length, get_or, map, refl, sym, ap, ap₂, ◌∙◌, arith}
use Rattle.std.specs.List.{list_any, range_with_len}
use Rattle.std.proofs.lemmas.List.{ext_get_or}
use Rattle.std.proofs.lemmas.List.FromFn.{get_or-map-range_with_len, length-map-range_with_len}
use Rattle.driver_core.specs.State.{State}
use Rattle.driver_steps.specs.OpenLogs.{HeldLogs, plots_of}
use Rattle.log_steps.specs.Plots.{AreHoused, Plot, is_taken, taken_pages}
use Rattle.driver_steps.specs.Standing.{Match, pages_of_logs}
use Rattle.driver_steps.proofs.VacancyLemmas.{taken_held}
use Rattle.log_arena.specs.Pages.{Region}
use Rattle.stream_registry.specs.LogPages.{holds}

-- a list of so many answers is the test of each number
answers_are : (test : ℕ → Bool) (n : ℕ) (xs : List Bool) → length xs ≡ n → ((i : ℕ) → i < n → get_or xs i true ≡ test i)
    → xs ≡ map test (range_with_len 0 n)
answers_are test n xs long each =
    let count : length (map test (range_with_len 0 n)) ≡ n = length-map-range_with_len test 0 n in
    ext_get_or true xs (map test (range_with_len 0 n)) (long ∙ sym count) (λ i inside.
    let below : i < n = omega (arith, long, inside) in
    each i below ∙ sym (get_or-map-range_with_len test 0 n i i true below (omega arith)))

-- the pages with a lease are those of the plots
pub leased_taken : (region : Region) (plots : List Plot) → AreHoused region plots → region.leased ≡ taken_pages region.home.pages plots
unfolding taken_pages
leased_taken region plots housed = answers_are (is_taken plots) region.home.pages region.leased housed.sized housed.leased

same_tests : (f g : ℕ → Bool) (numbers : List ℕ) → ((i : ℕ) → f i ≡ g i) → map f numbers ≡ map g numbers
same_tests f g [] same = refl
same_tests f g (i ∷ numbers) same = ap₂ (λ b bs. b ∷ bs) (same i) (same_tests f g numbers same)

-- the pages of the open logs are those of the live ones
pub taken_live : (s : State) (held : HeldLogs) → Match s held → taken_pages held.pages (plots_of held.logs) ≡ pages_of_logs s
unfolding taken_pages pages_of_logs
taken_live s held match =
    let live : ℕ → Bool = λ page. list_any (λ log. holds log page) s.streams.sources in
    same_tests (is_taken (plots_of held.logs)) live (range_with_len 0 held.pages) (λ page. taken_held s held page match)
    ∙ ap (λ n. map live (range_with_len 0 n)) match.pages
