-- Where open logs lie in one region of memory, whatever logs they are. Own rules.
use Rattle.std.specs.Prelude.{◌≡◌, ℕ, ◌+◌, ◌*◌, ◌%◌, ◌<◌, ◌≤◌, Bool, true, false, ◌&&◌, nat_le, nat_lt, List, length, map, All, AllPairs}
use Rattle.std.specs.List.{list_any, range_with_len}
use Rattle.log_arena.specs.Homes.{Home}
use Rattle.log_arena.specs.Pages.{Region, has_lease}
use Rattle.stream_registry.specs.LogPages.{pages_of}

-- the log's number, its lease by the region and the first byte there, and how many bytes one of its three terms has
pub record Plot : Type 0 where
  pub source : ℕ
  pub home : Home
  pub place : ℕ
  pub term_length : ℕ

-- the page is one of the plot's: from its place on, as many as three terms take
abbrev pub has_page : ℕ → Plot → Bool
has_page page plot =
    nat_le plot.place (4096 * page) && nat_lt (4096 * page) (plot.place + 4096 * pages_of plot.term_length)

-- some plot has the page
abbrev pub is_taken : List Plot → ℕ → Bool
is_taken plots page = list_any (has_page page) plots

-- of each of so many pages, from the first on, whether some plot has it
unfoldable pub taken_pages : ℕ → List Plot → List Bool
taken_pages all plots = map (is_taken plots) (range_with_len 0 all)

-- so many pages from that one on are there, of all, and no plot has one of them
pub record IsVacant (all : ℕ) (plots : List Plot) (pages place : ℕ) : Type 0 where
  pub within : place + pages ≤ all
  pub free : (page : ℕ) → place ≤ page → page < place + pages → is_taken plots page ≡ false

-- there, and at no lower page
pub record IsLeastVacant (all : ℕ) (plots : List Plot) (pages place : ℕ) : Type 0 where
  pub vacant : IsVacant all plots pages place
  pub least : (lower : ℕ) → lower < place → ¬ IsVacant all plots pages lower

-- the plot is whole pages of that region
pub record LiesIn (home : Home) (plot : Plot) : Type 0 where
  pub home_is : plot.home ≡ home
  pub whole : plot.place % 4096 ≡ 0
  pub sizes : plot.term_length % 4096 ≡ 0

-- no page is of both
abbrev pub ShareNoPage : Plot → Plot → Type 0
ShareNoPage plot other = (page : ℕ) → has_page page plot ≡ true → has_page page other ≡ false

-- All plots are of the region, no two share a page, and the pages with a lease are those of plots: so its holes are what no
-- plot has.
pub record AreHoused (region : Region) (plots : List Plot) : Type 0 where
  pub lie : All (LiesIn region.home) plots
  pub apart : AllPairs ShareNoPage plots
  pub sized : length region.leased ≡ region.home.pages
  pub leased : (page : ℕ) → page < region.home.pages → has_lease region.leased page ≡ is_taken plots page
