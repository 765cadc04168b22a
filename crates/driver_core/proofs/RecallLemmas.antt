-- Destinations go with the logs that close, one log at a time.
use Rattle.std.proofs.Common.{◌≡◌, ℕ, Bool, true, false, cond, not, ◌==◌, List, [], ◌∷◌, filter, refl, sym, ap, ◌∙◌}
use Rattle.std.specs.Prelude.{◌||◌}
use Rattle.std.specs.List.{list_any}
use Rattle.driver_core.specs.Ticking.{numbers_of_closing}
use Rattle.destinations.specs.declared.destination.Destination.{Destination}
use Rattle.destinations.specs.Destinations.{DestinationList, is_of_others, without_sources}
use Rattle.stream_registry.specs.declared.row.LogRow.{LogRow}
use Rattle.stream_registry.specs.Lingering.{is_closing}

-- behind one of the logs
abbrev pub recalled_with : ℕ → List ℕ → LogRow → DestinationList → DestinationList
recalled_with now silent log destinations =
    cond (is_closing now silent log) (without_sources destinations (log.number ∷ [])) destinations

-- behind all of them
abbrev pub recalled_by : ℕ → List ℕ → DestinationList → List LogRow → DestinationList
recalled_by now silent destinations [] = destinations
recalled_by now silent destinations (log ∷ logs) =
    recalled_by now silent (recalled_with now silent log destinations) logs

none_go : (rows : List Destination) → filter (is_of_others []) rows ≡ rows
none_go [] = refl
none_go (row ∷ rows) = ap (λ (others : List Destination). row ∷ others) (none_go rows)

row_goes : (first rest : Bool) (number : ℕ) (numbers : List ℕ) (row : Destination) (kept others : List Destination) →
    (number == row.source) ≡ first → list_any (λ source. source == row.source) numbers ≡ rest →
    filter (is_of_others numbers) kept ≡ others →
    filter (is_of_others numbers) (cond (not (first || false)) (row ∷ kept) kept)
    ≡ cond (not (first || rest)) (row ∷ others) others
row_goes true rest number numbers row kept others is more same = same
row_goes false true number numbers row kept others is more same = rw more same
row_goes false false number numbers row kept others is more same =
    rw more (ap (λ (behind : List Destination). row ∷ behind) same)

rows_go : (number : ℕ) (numbers : List ℕ) (rows : List Destination) →
    filter (is_of_others numbers) (filter (is_of_others (number ∷ [])) rows) ≡ filter (is_of_others (number ∷ numbers)) rows
rows_go number numbers [] = refl
rows_go number numbers (row ∷ rows) =
    row_goes (number == row.source) (list_any (λ source. source == row.source) numbers) number numbers row
    (filter (is_of_others (number ∷ [])) rows) (filter (is_of_others (number ∷ numbers)) rows) refl refl
    (rows_go number numbers rows)

without_none : (destinations : DestinationList) → without_sources destinations [] ≡ destinations
unfolding without_sources
without_none destinations =
    ap (λ (rows : List Destination). record destinations { rows = rows }) (none_go destinations.rows)

without_more : (destinations : DestinationList) (number : ℕ) (numbers : List ℕ) →
    without_sources (without_sources destinations (number ∷ [])) numbers ≡ without_sources destinations (number ∷ numbers)
unfolding without_sources
without_more destinations number numbers =
    ap (λ (rows : List Destination). record destinations { rows = rows }) (rows_go number numbers destinations.rows)

one_recalled : (b : Bool) (now : ℕ) (silent : List ℕ) (destinations : DestinationList) (log : LogRow) (logs : List LogRow) →
    is_closing now silent log ≡ b →
    without_sources (cond b (without_sources destinations (log.number ∷ [])) destinations) (numbers_of_closing now silent logs)
    ≡ without_sources destinations (numbers_of_closing now silent (log ∷ logs))
one_recalled true now silent destinations log logs is =
    rw is (without_more destinations log.number (numbers_of_closing now silent logs))
one_recalled false now silent destinations log logs is = rw is refl

pub all_recalled : (now : ℕ) (silent : List ℕ) (destinations : DestinationList) (logs : List LogRow) →
    recalled_by now silent destinations logs ≡ without_sources destinations (numbers_of_closing now silent logs)
all_recalled now silent destinations [] = sym (without_none destinations)
all_recalled now silent destinations (log ∷ logs) =
    all_recalled now silent (recalled_with now silent log destinations) logs
    ∙ one_recalled (is_closing now silent log) now silent destinations log logs refl
