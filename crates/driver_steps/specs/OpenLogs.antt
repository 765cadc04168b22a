-- The logs that a driver holds open, and where each lies; a step on the first of a source. Own rules.
use Rattle.std.specs.Prelude.{◌≡◌, ℕ, Option, Some, None, zero, suc, ◌+◌, ◌*◌, Bool, not, ◌==◌, List, [], ◌∷◌, ◌++◌, filter, map, find, max, position, take, drop, IfSome, if◌then◌else◌}
use Rattle.std.specs.List.{list_any}
use Rattle.log_steps.specs.Held.{HeldLog, LiesAsBefore, plot_of}
use Rattle.log_steps.specs.Moves.{WholeLog, Move, Does}
use Rattle.policy_core.specs.declared.decision.Decision.{Decision}
use Rattle.driver_core.specs.declared.state.event.End.{End}
use Rattle.driver_core.specs.declared.state.event.Event.{Event}
use Rattle.driver_core.specs.declared.state.event.Event.TheVariants.{Tick}
use Rattle.driver_core.specs.declared.state.event.Inputs.{Inputs}
use Rattle.driver_core.specs.Readers.{readers_of}
use Rattle.driver_core.specs.Soundness.{AreSizes, BeginsSoundly}
use Rattle.driver_core.specs.State.{State}
use Rattle.log_steps.specs.Idents.{begins_of}
use Rattle.log_steps.specs.Plots.{Plot, IsLeastVacant}
use Rattle.log_steps.specs.Recovery.{Recovering, recovering}
use Rattle.frame_codec.specs.Frame.{Sent}
use Rattle.log_traffic.specs.declared.any_log.AnyLog.{AnyLog}
use Rattle.log_traffic.specs.Held.{AreFor, is_silent_held, made_held, place_held, reach_held, rejoined_held as rejoined_any, terms_of}
use Rattle.log_traffic.specs.Whole.{AnyWhole, StandsFor, made_for, whole}
use Rattle.stream_registry.specs.declared.lingering.LogPlace.{LogPlace}
use Rattle.stream_registry.specs.declared.pairs.Pair.{Pair}
use Rattle.stream_registry.specs.declared.row.LogRow.{LogRow}
use Rattle.stream_registry.specs.LogPages.{log_pages}
use Rattle.log_steps.specs.declared.answer.Answer.{Answer}
use Rattle.frame_codec.specs.Datagram.{Content}
use Rattle.log_steps.specs.Decided.{Decides}
use Rattle.log_steps.specs.Memory.{Gives}
use Rattle.log_steps.specs.Packets.{IsFor}

-- how many pages there are for logs, the logs that are open, in the order in which they were opened, and for how many of
-- them there is room in memory
pub record HeldLogs : Type 0 where
  pub pages : ℕ
  pub logs : List HeldLog
  pub room : ℕ

-- ---- the memory

abbrev pub plots_of : List HeldLog → List Plot
plots_of logs = map plot_of logs

-- ---- what becomes of the logs

-- a log that begins as that one was opened after the others, with that beside it
pub record IsOpened (old new : HeldLogs) (source place : ℕ) (begins : AnyWhole) (recovery : Recovering) : Type 0 where
  pub log : AnyLog
  pub stands : StandsFor log begins
  pub place_is : (place_held log).place ≡ 4096 * place
  pub terms_are : (place_held log).term_length ≡ terms_of (made_for begins)
  pub new_is : new ≡ record old { logs = old.logs ++ record { source = source; log = log; recovery = recovery } ∷ [] }

-- the source is one of those that close
abbrev pub is_closed : List LogPlace → ℕ → Bool
is_closed closes source = list_any (λ closed. closed.source == source) closes

abbrev pub is_kept : List LogPlace → HeldLog → Bool
is_kept closes held = not (is_closed closes held.source)

-- without the one at that place
abbrev pub without : ℕ → List HeldLog → List HeldLog
without at logs = take at logs ++ drop (at + 1) logs

-- exactly the subscriptions of these pairs read the log
abbrev pub rejoined_held : List Pair → HeldLog → HeldLog
rejoined_held pairs held = record held { log = rejoined_any (readers_of pairs held.source) held.log }

abbrev pub with_readers : ℕ → List ℕ → List HeldLog → List HeldLog
with_readers at subscriptions [] = []
with_readers zero subscriptions (held ∷ others) =
    record held { log = rejoined_any subscriptions held.log } ∷ others
with_readers (suc at) subscriptions (held ∷ others) = held ∷ with_readers at subscriptions others

-- ---- what is reported to the conductor, and what it opens

-- how far each log reaches
abbrev pub end_held : HeldLog → End
end_held held = record { source = held.source; position = reach_held held.log }

-- at a tick, the images of which nothing was heard for longer than the liveness by the moment that it sets
abbrev pub is_silent_at : State → ℕ → HeldLog → Bool
is_silent_at s now held = is_silent_held held.log (max s.moment now) s.settings.image_liveness

abbrev pub silent_held : State → Event → List HeldLog → List ℕ
silent_held s (Tick now) logs = map (λ held. held.source) (filter (is_silent_at s now) logs)
silent_held s event logs = []

abbrev pub inputs_held : State → Event → List HeldLog → Inputs
inputs_held s event logs = record { silent = silent_held s event logs; ends = map end_held logs }

-- the log can be opened: its sizes are sound, so is the position at which an image begins, and that place is the least vacant
-- one
abbrev pub IsOpening : HeldLogs → ℕ → Option LogRow → Type 0
IsOpening logs place None = Unit {0}
IsOpening logs place (Some log) =
    AreSizes log.measures × BeginsSoundly log × IsLeastVacant logs.pages (plots_of logs.logs) (log_pages log) place

-- the log, if there is one, is open after the others
abbrev pub OpensFor : HeldLogs → HeldLogs → State → ℕ → Option LogRow → Type 0
OpensFor old new after place None = new ≡ old
OpensFor old new after place (Some log) =
    IsOpened old new log.number place (begins_of after.settings after.moment log) (recovering after.settings)

-- the first log of that source
abbrev pub held_at : List HeldLog → ℕ → Option HeldLog
held_at logs source = find (λ held. held.source == source) logs

-- the first log of that source is another now
abbrev pub with_held : List HeldLog → ℕ → HeldLog → List HeldLog
with_held [] source log = []
with_held (first ∷ logs) source log =
    if first.source == source then log ∷ logs else first ∷ with_held logs source log

-- where the first log of that source is in the list
abbrev pub place_at : List HeldLog → ℕ → Option ℕ
place_at logs source = position (λ held. held.source == source) logs

-- the frames of a datagram may be handed to the first log of that source, if there is one
abbrev pub AreForFirst : List HeldLog → ℕ → List Sent → Type 0
AreForFirst logs source frames = IfSome (held_at logs source) (λ held. AreFor (made_held held.log) frames)

-- ---- on one log

-- for the first log of that source; nothing, where there is none
abbrev pub DecidesHeld : (WholeLog → Option Decision) → Option Decision → Option HeldLog → Type 0
DecidesHeld decide decision None = decision ≡ None
DecidesHeld decide decision (Some held) = Decides decide held decision

abbrev pub DecidesFirst : ℕ → (WholeLog → Option Decision) → Option Decision → HeldLogs → Type 0
DecidesFirst source decide decision held = DecidesHeld decide decision (held_at held.logs source)

-- ---- a poll of the log that is held, or a datagram that comes to it

-- the first log of that source gives some
abbrev pub GivesHeld : (WholeLog → Move) → Option HeldLog → Type 0
GivesHeld move None = ⊥
GivesHeld move (Some held) = Gives move held

abbrev pub GivesFirst : ℕ → (WholeLog → Move) → HeldLogs → Type 0
GivesFirst source move held = GivesHeld move (held_at held.logs source)

-- ---- a step on the log that is held, whichever whole log it stands for

-- The first log of that source moves, and no other; where there is none, all is as it was, and that is the answer.
abbrev pub MovesHeld : ℕ → (WholeLog → Move) → Answer → HeldLogs → HeldLogs → Answer → Option HeldLog → Type 0
MovesHeld source move absent old new answer None = (new ≡ old) × (answer ≡ absent)
MovesHeld source move absent old new answer (Some held) =
    (log : HeldLog)
    × Does move held log answer
    × LiesAsBefore held log
    × (new ≡ record old { logs = with_held old.logs source log })

abbrev pub MovesFirst : ℕ → (WholeLog → Move) → Answer → HeldLogs → HeldLogs → Answer → Type 0
MovesFirst source move absent old new answer = MovesHeld source move absent old new answer (held_at old.logs source)

-- ---- on the open logs

-- the first log of that source, if there is one
abbrev pub IsForFirst : List HeldLog → ℕ → Content → Type 0
IsForFirst logs source content = IfSome (held_at logs source) (λ held. IsFor (made_held held.log) content)
