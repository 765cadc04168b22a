-- A driver holds the registry and what is left of the logs. Each run ends where a driver may stand; each call of a driver
-- goes on from each such end.
use Rattle.std.specs.Prelude.{◌≡◌, ℕ, ◌*◌, Bool, List, [], ◌∷◌, map}
use Rattle.std.specs.List.{list_any, range_with_len}
use Rattle.driver_core.specs.declared.state.event.Event.{Event}
use Rattle.driver_core.specs.declared.state.outcome.Outcome.{Outcome}
use Rattle.driver_core.specs.declared.state.settings.Settings.{Settings}
use Rattle.driver_core.specs.Conduct.{conduct}
use Rattle.driver_core.specs.Soundness.{IsSound}
use Rattle.driver_core.specs.State.{State}
use Rattle.log_steps.specs.declared.answer.Answer.{Answer}
use Rattle.driver_steps.specs.declared.step.Step.{Step}
use Rattle.driver_steps.specs.Ends.{RunEnd, Moved, conducted, inputs_of, moved_by, IsAnswerOf, after_by}
use Rattle.log_steps.specs.Held.{HeldLog, plot_of}
use Rattle.driver_steps.specs.OpenLogs.{HeldLogs}
use Rattle.log_steps.specs.Idents.{made_of}
use Rattle.driver_steps.specs.StepMemory.{HasMemory, HasMemoryBy}
use Rattle.log_steps.specs.Memory.{is_listed}
use Rattle.log_steps.specs.Moves.{WholeLog, StandsForLog}
use Rattle.log_steps.specs.Plots.{Plot}
use Rattle.log_traffic.specs.Held.{Made, made_held}
use Rattle.stream_registry.specs.declared.row.LogRow.{LogRow}
use Rattle.stream_registry.specs.LogPages.{holds}

-- the registry, and the open logs
pub record Held : Type 0 where
  pub registry : State
  pub logs : List HeldLog

-- ---- what is held together: the open logs are the live ones

-- a log by its number, its first byte in the memory of all logs, how many bytes one of its terms has, and what it is made for
pub record LogPlot : Type 0 where
  pub source : ℕ
  pub place : ℕ
  pub term_length : ℕ
  pub made : Made

abbrev pub row_on : Plot → Made → LogPlot
row_on plot made =
    record { source = plot.source; place = plot.place; term_length = plot.term_length; made = made }

abbrev pub row_held : HeldLog → LogPlot
row_held held = row_on (plot_of held) (made_held held.log)

abbrev pub row_for : Settings → LogRow → LogPlot
row_for settings log = record {
  source = log.number;
  place = 4096 * log.place;
  term_length = log.measures.term_length;
  made = made_of settings log;
}

-- Each live source has its log, at the place that the registry gave it, and there is no other: so the pages that the
-- registry takes for free are those that are.
pub record Match (s : State) (held : HeldLogs) : Type 0 where
  pub sound : IsSound s
  pub pages : held.pages ≡ s.settings.arena_pages
  pub rows : map row_held held.logs ≡ map (row_for s.settings) s.streams.sources

-- of each page of the arena, from the first on, whether a live log of the registry has it
unfoldable pub pages_of_logs : State → List Bool
pages_of_logs s =
    map (λ page. list_any (λ log. holds log page) s.streams.sources)
    (range_with_len 0 s.settings.arena_pages)

-- ---- which end a driver stands for

abbrev pub StandAll : List HeldLog → List WholeLog → Type 0
StandAll [] [] = Unit {0}
StandAll [] (log ∷ logs) = ⊥
StandAll (held ∷ others) [] = ⊥
StandAll (held ∷ others) (log ∷ logs) = StandsForLog held log × StandAll others logs

-- the registry is the end's, and each open log stands for the end's
pub record StandsForEnd (held : Held) (e : RunEnd) : Type 0 where
  pub registry : held.registry ≡ e.registry
  pub logs : StandAll held.logs e.logs

-- one event that was taken, for each end that the driver stands for
pub record Takes (old new : Held) (event : Event) (outcome : Outcome) : Type 0 where
  pub on :
      (e : RunEnd) → StandsForEnd old e →
      (outcome ≡ (conduct e.registry event (inputs_of e.registry event e.logs)).outcome) × StandsForEnd new (conducted e event).after

-- What comes of a step, for each end that the driver stands for. Out of memory is an answer only where a list is given.
pub record ServesAs (old new : Held) (what : RunEnd → Moved) (answer : Answer) : Type 0 where
  pub on :
      (e : RunEnd) → StandsForEnd old e →
      IsAnswerOf (what e) answer × StandsForEnd new (after_by e (what e) answer)
  pub without_memory : (e : RunEnd) → StandsForEnd old e → HasMemoryBy (is_listed (what e).answer) answer

-- One step by that registry, for each end that the driver stands for. Out of memory is an answer only to a step that may take
-- some.
pub record Serves (s : State) (old new : Held) (step : Step) (answer : Answer) : Type 0 where
  pub on :
      (e : RunEnd) → StandsForEnd old e →
      IsAnswerOf (moved_by s e step) answer × StandsForEnd new (after_by e (moved_by s e step) answer)
  pub without_memory : (e : RunEnd) → StandsForEnd old e → HasMemory s e step answer

-- ---- on the open logs, whichever registry is the newest

pub record LogsServe (old new : HeldLogs) (what : RunEnd → Moved) (answer : Answer) : Type 0 where
  pub on : (s : State) →
      ServesAs (record { registry = s; logs = old.logs }) (record { registry = s; logs = new.logs }) what answer

-- they lie where the registry says, as before
pub record KeepMatch (old new : HeldLogs) : Type 0 where
  pub on : (s : State) → Match s old → Match s new
