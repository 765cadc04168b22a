-- An event that was taken goes on from each end that the world stands for.
use Rattle.std.proofs.Common.{◌≡◌, ℕ, Bool, true, false, not, cond, List, [], ◌∷◌, ◌++◌, map, max, filter, Option, Some, None, refl, sym, ap, ap₂, subst, ◌∙◌, append-nil}
use Rattle.log_traffic.specs.Held.{rejoined_held as rejoined_any}
use Rattle.log_traffic.specs.Whole.{StandsFor, rejoined}
use Rattle.log_traffic.proofs.AnyLemmas.{reach_stands, rejoined_stands as any_rejoined, silent_stands as any_silent}
use Rattle.driver_core.specs.Change.{Change}
use Rattle.driver_core.specs.declared.state.entry.Entry.{Entry}
use Rattle.driver_core.specs.declared.state.event.End.{End}
use Rattle.driver_core.specs.declared.state.event.Event.{Event}
use Rattle.driver_core.specs.declared.state.event.Event.TheVariants.{Attach, Command, Reload, Tick, Setup as SetUp}
use Rattle.driver_core.specs.declared.state.event.Inputs.{Inputs}
use Rattle.driver_core.specs.declared.state.outcome.Outcome.{Outcome}
use Rattle.driver_core.specs.Conduct.{conduct, outcome_of, state_after}
use Rattle.driver_core.specs.Pairs.{pairs_of}
use Rattle.driver_core.specs.Renewal.{source_at}
use Rattle.driver_core.specs.State.{State}
use Rattle.log_steps.specs.Recovery.{recovering}
use Rattle.driver_steps.specs.Ends.{RunEnd, begun, conducted, end_of_log, inputs_of, is_silent_at, silent_of, logs_after, opened_for, rejoined_log, stays_open}
use Rattle.driver_core.specs.Readers.{readers_of}
use Rattle.log_steps.specs.Held.{HeldLog}
use Rattle.driver_steps.specs.OpenLogs.{HeldLogs, OpensFor, end_held, inputs_held, is_closed, is_kept, is_silent_at as is_silent_held_at, rejoined_held, silent_held}
use Rattle.log_steps.specs.Moves.{StandsForLog, WholeLog}
use Rattle.driver_steps.specs.Opening.{Follows, OpensNext}
use Rattle.driver_steps.specs.Standing.{StandAll, StandsForEnd, Takes}
use Rattle.driver_steps.proofs.MatchLemmas.{left_held}
use Rattle.stream_registry.specs.declared.lingering.LogPlace.{LogPlace}
use Rattle.stream_registry.specs.declared.pairs.Pair.{Pair}
use Rattle.stream_registry.specs.declared.row.LogRow.{LogRow}

-- ---- what the conductor is told

abbrev end_at : ℕ → ℕ → End
end_at source position = record { source = source; position = position }

end_stands : (held : HeldLog) (log : WholeLog) → StandsForLog held log → end_held held ≡ end_of_log log
end_stands held log stands =
    ap₂ end_at stands.source_is
    (reach_stands held.log log.whole stands.whole)

ends_stand : (held : List HeldLog) (logs : List WholeLog) → StandAll held logs → map end_held held ≡ map end_of_log logs
ends_stand [] [] stand = refl
ends_stand [] (log ∷ logs) stand = absurd stand
ends_stand (held ∷ others) [] stand = absurd stand
ends_stand (held ∷ others) (log ∷ logs) stand =
    ap₂ (λ (end : End) (ends : List End). end ∷ ends) (end_stands held log stand.0) (ends_stand others logs stand.1)

-- a log of both lists is of that number, and silent in both or in none
silent_step : (b c : Bool) (first : HeldLog) (log : WholeLog) (held : List HeldLog) (logs : List WholeLog) → b ≡ c
    → first.source ≡ log.source
    → map (λ (h : HeldLog). h.source) held ≡ map (λ (l : WholeLog). l.source) logs
    → map (λ (h : HeldLog). h.source) (cond b (first ∷ held) held) ≡ map (λ (l : WholeLog). l.source) (cond c (log ∷ logs) logs)
silent_step true c first log held logs same source rest =
    rw (← same) (ap₂ (λ (number : ℕ) (numbers : List ℕ). number ∷ numbers) source rest)
silent_step false c first log held logs same source rest = rw (← same) rest

silent_at_stand : (s : State) (now : ℕ) (held : List HeldLog) (logs : List WholeLog) → StandAll held logs
    → map (λ (h : HeldLog). h.source) (filter (is_silent_held_at s now) held)
    ≡ map (λ (l : WholeLog). l.source) (filter (is_silent_at s now) logs)
silent_at_stand s now [] [] stand = refl
silent_at_stand s now [] (log ∷ logs) stand = absurd stand
silent_at_stand s now (first ∷ held) [] stand = absurd stand
silent_at_stand s now (first ∷ held) (log ∷ logs) stand =
    silent_step (is_silent_held_at s now first) (is_silent_at s now log) first log
    (filter (is_silent_held_at s now) held) (filter (is_silent_at s now) logs)
    (any_silent first.log log.whole (max s.moment now) s.settings.image_liveness stand.0.whole) stand.0.source_is
    (silent_at_stand s now held logs stand.1)

abbrev told_by : List ℕ → List End → Inputs
told_by silent ends = record { silent = silent; ends = ends }

silent_stand : (s : State) (event : Event) (held : List HeldLog) (logs : List WholeLog) → StandAll held logs
    → silent_held s event held ≡ silent_of s event logs
silent_stand s (Attach now principal) held logs stand = refl
silent_stand s (Command now client bytes) held logs stand = refl
silent_stand s (Reload now policy) held logs stand = refl
silent_stand s (Tick now) held logs stand = silent_at_stand s now held logs stand
silent_stand s (SetUp now local from setup) held logs stand = refl

pub inputs_stand : (s : State) (event : Event) (held : List HeldLog) (logs : List WholeLog) → StandAll held logs
    → inputs_held s event held ≡ inputs_of s event logs
inputs_stand s event held logs stand = ap₂ told_by (silent_stand s event held logs stand) (ends_stand held logs stand)

-- ---- what becomes of the logs

pub stand_append : (held more : List HeldLog) (logs others : List WholeLog) → StandAll held logs → StandAll more others
    → StandAll (held ++ more) (logs ++ others)
stand_append [] more [] others stand also = also
stand_append [] more (log ∷ logs) others stand also = absurd stand
stand_append (first ∷ held) more [] others stand also = absurd stand
stand_append (first ∷ held) more (log ∷ logs) others stand also = (stand.0, stand_append held more logs others stand.1 also)

stand_kept : (b : Bool) (first : HeldLog) (held : List HeldLog) (log : WholeLog) (logs : List WholeLog) → StandsForLog first log
    → StandAll held logs → StandAll (cond b (first ∷ held) held) (cond b (log ∷ logs) logs)
stand_kept true first held log logs stands all = (stands, all)
stand_kept false first held log logs stands all = all

pub stand_filter : (closes : List LogPlace) (held : List HeldLog) (logs : List WholeLog) → StandAll held logs
    → StandAll (filter (is_kept closes) held) (filter (stays_open closes) logs)
stand_filter closes [] [] stand = tt
stand_filter closes [] (log ∷ logs) stand = absurd stand
stand_filter closes (first ∷ held) [] stand = absurd stand
stand_filter closes (first ∷ held) (log ∷ logs) stand =
    let rest : List WholeLog = filter (stays_open closes) logs in
    let kept : List HeldLog = filter (is_kept closes) held in
    subst (λ (source : ℕ). StandAll (filter (is_kept closes) (first ∷ held)) (cond (not (is_closed closes source)) (log ∷ rest) rest))
    stand.0.source_is
    (stand_kept (is_kept closes first) first kept log rest stand.0 (stand_filter closes held logs stand.1))

rejoined_stands : (pairs : List Pair) (held : HeldLog) (log : WholeLog) → StandsForLog held log
    → StandsForLog (rejoined_held pairs held) (rejoined_log pairs log)
rejoined_stands pairs held log stands = record {
  source_is = stands.source_is;
  whole = subst (λ (source : ℕ). StandsFor (rejoined_any (readers_of pairs held.source) held.log) (rejoined (readers_of pairs source) log.whole))
      stands.source_is (any_rejoined (readers_of pairs held.source) held.log log.whole stands.whole);
  recovery_is = stands.recovery_is;
}

pub stand_rejoin : (pairs : List Pair) (held : List HeldLog) (logs : List WholeLog) → StandAll held logs
    → StandAll (map (rejoined_held pairs) held) (map (rejoined_log pairs) logs)
stand_rejoin pairs [] [] stand = tt
stand_rejoin pairs [] (log ∷ logs) stand = absurd stand
stand_rejoin pairs (first ∷ held) [] stand = absurd stand
stand_rejoin pairs (first ∷ held) (log ∷ logs) stand = (rejoined_stands pairs first log stand.0, stand_rejoin pairs held logs stand.1)

-- ---- the log that opens

stand_same : (old new : HeldLogs) (logs : List WholeLog) → new ≡ old → StandAll old.logs logs → StandAll new.logs (logs ++ [])
stand_same old new logs same stand =
    let here : StandAll new.logs logs = subst (λ (h : HeldLogs). StandAll h.logs logs) (sym same) stand in
    subst (λ (whole : List WholeLog). StandAll new.logs whole) (sym (append-nil logs)) here

begun_stands : (after : State) (old new : HeldLogs) (place : ℕ) (found : Option LogRow) (logs : List WholeLog)
    → OpensFor old new after place found → StandAll old.logs logs → StandAll new.logs (logs ++ begun after found)
begun_stands after old new place None logs is stand = stand_same old new logs is stand
begun_stands after old new place (Some log) logs is stand =
    subst (λ (h : HeldLogs). StandAll h.logs (logs ++ begun after (Some log))) (sym is.new_is)
    (stand_append old.logs (record { source = log.number; log = is.log; recovery = recovering after.settings } ∷ []) logs (begun after (Some log)) stand
    (record { source_is = refl; whole = is.stands; recovery_is = refl }, tt))

opened_stand : (after : State) (old new : HeldLogs) (opens : Option LogPlace) (logs : List WholeLog) → OpensNext old new after opens
    → StandAll old.logs logs → StandAll new.logs (logs ++ opened_for after opens)
opened_stand after old new None logs is stand = stand_same old new logs is stand
opened_stand after old new (Some place) logs is stand =
    begun_stands after old new place.place (source_at after.streams.sources place.source) logs is stand

-- ---- one event

left_stands : (old new : HeldLogs) (change : Change) (logs : List WholeLog) → OpensNext old new change.after change.outcome.opens
    → StandAll old.logs logs → StandAll (left_held change (pairs_of change.after) new.logs) (logs_after change logs)
unfolding logs_after
left_stands old new change logs is stand =
    stand_rejoin (pairs_of change.after) (filter (is_kept change.outcome.closes) new.logs)
    (filter (stays_open change.outcome.closes) (logs ++ opened_for change.after change.outcome.opens))
    (stand_filter change.outcome.closes new.logs (logs ++ opened_for change.after change.outcome.opens)
    (opened_stand change.after old new change.outcome.opens logs is stand))

-- what the event leaves, where it makes this of the registry
abbrev left_by : Change → List WholeLog → RunEnd
left_by change logs = record { registry = change.after; logs = logs_after change logs }

conducted_is : (e : RunEnd) (event : Event) (change : Change) → change ≡ conduct e.registry event (inputs_of e.registry event e.logs)
    → (conducted e event).after ≡ left_by change e.logs
unfolding conducted
conducted_is e event change is = ap (λ (c : Change). left_by c e.logs) (sym is)

pub takes : (s : State) (old new : HeldLogs) (event : Event) (change : Change) → change ≡ conduct s event (inputs_held s event old.logs)
    → OpensNext old new change.after change.outcome.opens
    → Takes (record { registry = s; logs = old.logs })
    (record { registry = change.after; logs = left_held change (pairs_of change.after) new.logs }) event change.outcome
takes s old new event change is opens = record {
  on = λ e stands.
      let same : change ≡ conduct e.registry event (inputs_of e.registry event e.logs) =
      is ∙ ap (conduct s event) (inputs_stand s event old.logs e.logs stands.logs)
      ∙ ap (λ (r : State). conduct r event (inputs_of r event e.logs)) stands.registry in
      let end : StandsForEnd (record { registry = change.after; logs = left_held change (pairs_of change.after) new.logs }) (left_by change e.logs)
      = record { registry = refl; logs = left_stands old new change e.logs opens stands.logs } in (
        ap (λ (c : Change). c.outcome) same,
        subst (λ (x : RunEnd). StandsForEnd (record { registry = change.after; logs = left_held change (pairs_of change.after) new.logs }) x)
            (sym (conducted_is e event change same)) end,
      );
}

-- ---- by steps

pub taken : (s : State) (old opened new : HeldLogs) (event : Event) (change : Change) (inputs : Inputs)
    → change ≡ conduct s event inputs → inputs ≡ inputs_held s event old.logs → OpensNext old opened change.after change.outcome.opens
    → new ≡ record opened { logs = left_held change (pairs_of change.after) opened.logs }
    → Takes (record { registry = s; logs = old.logs }) (record { registry = change.after; logs = new.logs }) event change.outcome
taken s old opened new event change inputs is inputs_is opens new_is =
    subst (λ (h : HeldLogs). Takes (record { registry = s; logs = old.logs }) (record { registry = change.after; logs = h.logs }) event change.outcome)
    (sym new_is)
    (takes s old opened event change (is ∙ ap (conduct s event) inputs_is) opens)

-- ---- what was planned is done

abbrev pub done_by : State → Outcome → Change
done_by after outcome = record { after = after; outcome = outcome }

-- what a plan comes to, where it is done on the registry that it was made for
pub planned_is : (s after : State) (entry : Entry) (event : Event) (inputs : Inputs)
    → entry ≡ record { event = event; inputs = inputs; outcome = outcome_of s event inputs }
    → after ≡ state_after s entry.event entry.inputs → done_by after entry.outcome ≡ conduct s event inputs
planned_is s after entry event inputs planned done =
    ap₂ done_by
    (done ∙ ap (λ (e : Entry). state_after s e.event e.inputs) planned)
    (ap (λ (e : Entry). e.outcome) planned)

-- the logs followed what the event opens and closes
pub followed : (old new : HeldLogs) (after : State) (outcome : Outcome) (opens : Option LogPlace) (closes : List LogPlace)
    → opens ≡ outcome.opens → closes ≡ outcome.closes → Follows old new after opens closes
    → Follows old new after outcome.opens outcome.closes
followed old new after outcome opens closes opens_is closes_is follows =
    subst (λ (places : List LogPlace). Follows old new after outcome.opens places) closes_is
    (subst (λ (place : Option LogPlace). Follows old new after place closes) opens_is follows)

-- the same logs, however much room there was for them
pub logs_as_before : (old new : HeldLogs) → (let roomy : HeldLogs = record old { room = new.room } in new ≡ roomy) → new.logs ≡ old.logs
logs_as_before old new roomy = ap (λ (h : HeldLogs). h.logs) roomy
