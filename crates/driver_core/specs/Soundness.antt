-- What holds of the logs of every registry that was opened with sound settings: their sizes are sound, they are numbered in
-- the order in which they came, and no two share a page. Each event opens and closes exactly the logs by which the lists
-- change. Own rules.
use Rattle.std.specs.Prelude.{◌≡◌, ℕ, ◌*◌, ◌%◌, ◌^◌, ◌<◌, ◌≤◌, List, [], ◌∷◌, ◌++◌, length, map, filter, All, Option, Some, None}
use Rattle.driver_core.specs.Change.{Change}
use Rattle.driver_core.specs.declared.state.settings.Settings.{Settings}
use Rattle.driver_core.specs.State.{State}
use Rattle.log_readers.specs.Unread.{is_left}
use Rattle.stream_registry.specs.declared.lingering.LogPlace.{LogPlace}
use Rattle.stream_registry.specs.declared.measures.Measures.{Measures}
use Rattle.stream_registry.specs.declared.row.Origin.{Origin}
use Rattle.stream_registry.specs.declared.row.Origin.TheVariants.{Published, Remote}
use Rattle.stream_registry.specs.declared.row.LogRow.{LogRow}
use Rattle.stream_registry.specs.Lingering.{place_of}
use Rattle.stream_registry.specs.LogPages.{log_pages}
use Rattle.stream_registry.specs.Origins.{lingering_since, unlingering}
use Rattle.stream_registry.specs.PageLaws.{IsVacant, IsLaidOut}

-- sizes that a log may have: terms of whole pages, and datagrams of whole words of 32 bytes
pub record AreSizes (measures : Measures) : Type 0 where
  pub term_low : 65536 ≤ measures.term_length
  pub term_high : measures.term_length ≤ 16777216
  pub term_whole : measures.term_length % 4096 ≡ 0
  pub mtu_low : 64 ≤ measures.mtu
  pub mtu_high : measures.mtu ≤ 65504
  pub mtu_aligned : measures.mtu % 32 ≡ 0

-- settings that a driver may be opened with
pub record AreSettings (settings : Settings) : Type 0 where
  pub sizes : AreSizes (record { mtu = settings.mtu; term_length = settings.term_length; linger = settings.linger })
  pub some_pages : 0 < settings.arena_pages
  pub few_pages : settings.arena_pages ≤ 65536
  pub some_images : 0 < settings.images_per_source
  pub few_images : settings.images_per_source ≤ 512

-- the source numbers ascend, above that number and up to the last one that was drawn
abbrev pub Ascend : ℕ → ℕ → List LogRow → Type 0
Ascend before last [] = before ≤ last
Ascend before last (log ∷ logs) =
    (before < log.number) × Ascend log.number last logs

-- an image begins at the start of a frame, below the greatest position
abbrev pub BeginsBy : ℕ → Origin → Type 0
BeginsBy term_length (Published exclusive since) = Unit {0}
BeginsBy term_length (Remote address initial_term join) = (join % 32 ≡ 0) × (join < term_length * 2 ^ 31)

abbrev pub BeginsSoundly : LogRow → Type 0
BeginsSoundly log = BeginsBy log.measures.term_length log.origin

pub record IsSound (s : State) : Type 0 where
  pub defaults : AreSizes s.streams.defaults
  pub sizes : All (λ log. AreSizes log.measures) s.streams.sources
  pub numbered : Ascend 0 s.last_number s.streams.sources
  pub begins : All BeginsSoundly s.streams.sources
  pub laid_out : IsLaidOut s.settings.arena_pages s.streams
  pub subscriptions : length s.streams.subscriptions ≤ 512

-- ---- what an event does to the logs

-- a log, whether it lingers or not
abbrev pub log_of : LogRow → LogRow
log_of log = record log { origin = unlingering log.origin }

-- the log that opens, if one does, at the least place where it shares no page with those that are there
abbrev pub Opens : State → Option LogPlace → List LogRow → Type 0
Opens s None logs = logs ≡ []
Opens s (Some place) logs =
    (log : LogRow)
    × (logs ≡ log ∷ [])
    × (place_of log ≡ place)
    × (lingering_since log ≡ None)
    × IsVacant s.streams s.settings.arena_pages (log_pages log) log.place
    × ((lower : ℕ) → lower < log.place → ¬ IsVacant s.streams s.settings.arena_pages (log_pages log) lower)

-- the logs after an event are those before it but for the ones that close, and then the one that opens
pub record MovesLogs (s : State) (change : Change) : Type 0 where
  pub sound : IsSound change.after
  pub settings : change.after.settings ≡ s.settings
  pub opened : List LogRow
  pub opens : Opens s change.outcome.opens opened
  pub stays : filter (is_left change.outcome.closes) opened ≡ opened
  pub logs :
      map log_of change.after.streams.sources
      ≡ filter (is_left change.outcome.closes) (map log_of s.streams.sources) ++ opened
