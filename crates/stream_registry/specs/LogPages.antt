-- Which pages of the arena live logs hold, and where a new log goes. A page has 4,096 bytes. Own rules.
use Rattle.std.specs.Prelude.{ℕ, ◌+◌, ◌*◌, ◌/◌, Bool, true, not, ◌&&◌, nat_le, nat_lt, List, Option, Some, None, find}
use Rattle.std.specs.List.{list_any, range_with_len}
use Rattle.stream_registry.specs.declared.row.LogRow.{LogRow}
use Rattle.stream_registry.specs.declared.wanted.Wanted.{Wanted}
use Rattle.stream_registry.specs.Measures.{measures_of}
use Rattle.stream_registry.specs.Streams.{Streams}

-- a log has three terms, of so many bytes each
abbrev pub pages_of : ℕ → ℕ
pages_of term_length = 3 * term_length / 4096

-- how many pages this log has
abbrev pub log_pages : LogRow → ℕ
log_pages log = pages_of log.measures.term_length

-- the page is one of those from the log's place on
abbrev pub holds : LogRow → ℕ → Bool
holds log page = nat_le log.place page && nat_lt page (log.place + log_pages log)

-- the log holds one of so many pages from `place` on
unfoldable pub holds_some : ℕ → ℕ → LogRow → Bool
holds_some pages place log = list_any (holds log) (range_with_len place pages)

-- they are pages of the arena, and none of these logs holds one of them
abbrev pub fits : List LogRow → ℕ → ℕ → ℕ → Bool
fits logs arena_pages pages place =
    nat_le (place + pages) arena_pages && not (list_any (holds_some pages place) logs)

-- the first place of the arena, in ascending order, from which on so many pages are free of all live logs, those that
-- linger too
unfoldable pub free_place : Streams → ℕ → ℕ → Option ℕ
free_place s arena_pages pages = find (fits s.sources arena_pages pages) (range_with_len 0 (arena_pages + 1))

-- how many pages a log has that is wanted
abbrev pub wanted_pages : Streams → Wanted → ℕ
wanted_pages s wanted = pages_of (measures_of s.defaults wanted.channel).term_length

-- where it goes
abbrev pub place_for : Streams → ℕ → Wanted → Option ℕ
place_for s arena_pages wanted = free_place s arena_pages (wanted_pages s wanted)

-- the place is below the least one so far, if there is one
abbrev pub is_below : ℕ → Option ℕ → Bool
is_below place None = true
is_below place (Some least) = nat_lt place least
