-- The pages that the registry takes for free are those that no open log has.
use Rattle.std.proofs.Common.{◌≡◌, ℕ, ◌+◌, ◌*◌, ◌<◌, ◌≤◌, Bool, true, false, ◌&&◌, ◌||◌, List, [], ◌∷◌, get_or, map, refl, sym, ap, ap₂, ◌∙◌, arith, true≢false}
use Rattle.std.specs.Prelude.{nat_le, nat_lt}
use Rattle.std.specs.List.{list_any}
use Rattle.std.proofs.lemmas.Bool.{and_from, and_parts, false_from_ne_true, leb-true, ltb-true, le-leb, lt-ltb}
use Rattle.std.proofs.lemmas.List.Folds.{list_any_at, list_any_none}
use Rattle.driver_core.specs.declared.state.settings.Settings.{Settings}
use Rattle.driver_core.specs.State.{State}
use Rattle.driver_steps.specs.OpenLogs.{HeldLogs, plots_of}
use Rattle.log_steps.specs.Held.{plot_of}
use Rattle.log_steps.specs.Plots.{has_page, is_taken, IsVacant as IsVacantAmong, IsLeastVacant}
use Rattle.driver_steps.specs.Standing.{LogPlot, row_held, row_for, Match}
use Rattle.stream_registry.specs.declared.row.LogRow.{LogRow}
use Rattle.stream_registry.specs.LogPages.{holds, log_pages, pages_of}
use Rattle.stream_registry.specs.PageLaws.{HasPage, IsVacant}

-- ---- one page

-- the page is one of the row's
abbrev has_row : ℕ → LogPlot → Bool
has_row page row = nat_le row.place (4096 * page) && nat_lt (4096 * page) (row.place + 4096 * pages_of row.term_length)

row_has : (settings : Settings) (log : LogRow) (page : ℕ) → HasPage log page → has_row page (row_for settings log) ≡ true
row_has settings log page has =
    let low : 4096 * log.place ≤ 4096 * page = omega (arith, has.0) in
    let high : 4096 * page < 4096 * log.place + 4096 * log_pages log = omega (arith, has.1) in
    and_from (nat_le (4096 * log.place) (4096 * page)) (nat_lt (4096 * page) (4096 * log.place + 4096 * log_pages log))
    (le-leb (4096 * log.place) (4096 * page) low) (lt-ltb (4096 * page) (4096 * log.place + 4096 * log_pages log) high)

row_had : (settings : Settings) (log : LogRow) (page : ℕ) → has_row page (row_for settings log) ≡ true → HasPage log page
row_had settings log page is =
    let both = and_parts (nat_le (4096 * log.place) (4096 * page)) (nat_lt (4096 * page) (4096 * log.place + 4096 * log_pages log)) is in
    let low = leb-true (4096 * log.place) (4096 * page) both.0 in
    let high = ltb-true (4096 * page) (4096 * log.place + 4096 * log_pages log) both.1 in
    (omega (arith, low), omega (arith, high))

any_mapped : {X Y : Type 0} (test : Y → Bool) (f : X → Y) (xs : List X) → list_any (λ x. test (f x)) xs ≡ list_any test (map f xs)
any_mapped test f [] = refl
any_mapped test f (x ∷ xs) = ap (λ b. test (f x) || b) (any_mapped test f xs)

taken_is : (s : State) (held : HeldLogs) (page : ℕ) → Match s held
    → is_taken (plots_of held.logs) page ≡ list_any (λ log. has_row page (row_for s.settings log)) s.streams.sources
taken_is s held page match =
    sym (any_mapped (has_page page) plot_of held.logs)
    ∙ any_mapped (has_row page) row_held held.logs
    ∙ ap (list_any (has_row page)) match.rows
    ∙ sym (any_mapped (has_row page) (row_for s.settings) s.streams.sources)

-- ---- one page of a live log

has_held : (log : LogRow) (page : ℕ) → HasPage log page → holds log page ≡ true
has_held log page has =
    and_from (nat_le log.place page) (nat_lt page (log.place + log_pages log))
    (le-leb log.place page has.0) (lt-ltb page (log.place + log_pages log) has.1)

had_held : (log : LogRow) (page : ℕ) → holds log page ≡ true → HasPage log page
had_held log page is =
    let both = and_parts (nat_le log.place page) (nat_lt page (log.place + log_pages log)) is in
    (leb-true log.place page both.0, ltb-true page (log.place + log_pages log) both.1)

both_ways : (b c : Bool) → (b ≡ true → c ≡ true) → (c ≡ true → b ≡ true) → b ≡ c
both_ways true c to from = sym (to refl)
both_ways false true to from = from refl
both_ways false false to from = refl

row_holds : (settings : Settings) (log : LogRow) (page : ℕ) → has_row page (row_for settings log) ≡ holds log page
row_holds settings log page =
    both_ways (has_row page (row_for settings log)) (holds log page)
    (λ is. has_held log page (row_had settings log page is))
    (λ is. row_has settings log page (had_held log page is))

rows_hold : (settings : Settings) (logs : List LogRow) (page : ℕ)
    → list_any (λ log. has_row page (row_for settings log)) logs ≡ list_any (λ log. holds log page) logs
rows_hold settings [] page = refl
rows_hold settings (log ∷ logs) page = ap₂ (λ a b. a || b) (row_holds settings log page) (rows_hold settings logs page)

-- an open log has the page exactly where a live log of the registry does
pub taken_held : (s : State) (held : HeldLogs) (page : ℕ) → Match s held
    → is_taken (plots_of held.logs) page ≡ list_any (λ log. holds log page) s.streams.sources
taken_held s held page match = taken_is s held page match ∙ rows_hold s.settings s.streams.sources page

-- ---- so many pages

pub vacant_held : (s : State) (held : HeldLogs) (pages place : ℕ) → Match s held
    → IsVacant s.streams s.settings.arena_pages pages place → IsVacantAmong held.pages (plots_of held.logs) pages place
vacant_held s held pages place match vacant =
    let all = match.pages in
    let within = vacant.within in
    record {
      within = omega (arith, all, within);
      free = λ page low high.
          taken_is s held page match
          ∙ list_any_none (λ log. has_row page (row_for s.settings log)) s.streams.sources
          (λ k d inside.
          false_from_ne_true (has_row page (row_for s.settings (get_or s.streams.sources k d)))
          (λ is. vacant.free k d inside page (low, high) (row_had s.settings (get_or s.streams.sources k d) page is)));
    }

pub held_vacant : (s : State) (held : HeldLogs) (pages place : ℕ) → Match s held
    → IsVacantAmong held.pages (plots_of held.logs) pages place → IsVacant s.streams s.settings.arena_pages pages place
held_vacant s held pages place match vacant =
    let all = match.pages in
    let within = vacant.within in
    record {
      within = omega (arith, all, within);
      free = λ k d inside page among has.
          true≢false
          (sym (list_any_at (λ log. has_row page (row_for s.settings log)) s.streams.sources k d inside
          (row_has s.settings (get_or s.streams.sources k d) page has))
          ∙ (sym (taken_is s held page match) ∙ vacant.free page among.0 among.1));
    }

-- the least place of the registry is the least one among the logs
pub least_held : (s : State) (held : HeldLogs) (pages place : ℕ) → Match s held
    → IsVacant s.streams s.settings.arena_pages pages place
    → ((lower : ℕ) → lower < place → ¬ IsVacant s.streams s.settings.arena_pages pages lower)
    → IsLeastVacant held.pages (plots_of held.logs) pages place
least_held s held pages place match vacant least = record {
  vacant = vacant_held s held pages place match vacant;
  least = λ lower below lower_vacant. least lower below (held_vacant s held pages lower match lower_vacant);
}
