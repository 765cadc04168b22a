-- Runs are put together of steps, and each run is one of its driver.
use Rattle.std.proofs.Common.{◌≡◌, ℕ, Bool, true, false, if◌then◌else◌, List, [], ◌∷◌, ◌++◌, Option, Some, None, Result, Ok, Err, ◌⊎◌, inl, inr, ⊎_elim, refl, ap, subst, sym, ◌∙◌}
use Rattle.channel_uri.specs.declared.address.Address.{Address}
use Rattle.driver_core.specs.declared.state.peer.Peer.{Peer}
use Rattle.driver_core.specs.declared.state.settings.Settings.{Settings}
use Rattle.driver_core.specs.Conduct.{state_of}
use Rattle.driver_core.specs.State.{State}
use Rattle.log_steps.specs.declared.answer.Answer.{Answer}
use Rattle.driver_steps.specs.declared.step.Step.{Step}
use Rattle.driver_steps.specs.declared.step.Step.TheVariants as steps
use Rattle.driver_steps.specs.Ends as driver
use Rattle.driver_steps.specs.Laws.{event_in, event_of}
use Rattle.driver_steps.specs.Runs as runs
use Rattle.driver_steps.proofs.EndLemmas.{moved_takes, opening_is, state_of_both}
use Rattle.driver_world.specs.declared.actor.Actor.{Actor}
use Rattle.driver_world.specs.declared.actor.Actor.TheVariants.{Client, Conductor, Receiver, Sender}
use Rattle.driver_world.specs.declared.reading.Reading.{Reading}
use Rattle.driver_world.specs.Ends.{RunEnd, Moved, opening_end, moved, moved_as, after, after_by, bad, conducted, looked, looked_at, IsAnswerOf, AreAnswers, end_of}
use Rattle.driver_world.specs.Laws.{IsDriversRun}
use Rattle.driver_world.specs.Memory.{HaveMemory}
use Rattle.driver_world.specs.Standing.{Held, Serves, Runs, Continues}
use Rattle.driver_world.specs.Views.{Looks, actor_of, at_moment, is_out, newest_of, older_at, reader_of, seat_of, view_or}
use Rattle.driver_world.proofs.AnswerLemmas.{by_answer}
use Rattle.frame_codec.specs.declared.fault.BadPacket.{BadPacket}
use Rattle.frame_codec.specs.Datagram.{Content, frames, beat, nak, status, setup, packet_of}
use Rattle.policy_core.specs.RuleList.{Rules}

-- one list of answers behind another
pub answers_append : (e : RunEnd) (readings more : List Reading) (answers given : List Answer) →
    AreAnswers e readings answers → AreAnswers (end_of e readings answers) more given →
    AreAnswers e (readings ++ more) (answers ++ given)
answers_append e [] more [] given are next = next
answers_append e [] more (answer ∷ answers) given are next = absurd are
answers_append e (reading ∷ readings) more [] given are next = absurd are
answers_append e (reading ∷ readings) more (answer ∷ answers) given are next =
    (are.0, answers_append (after e reading answer) readings more answers given are.1 next)

pub end_append : (e : RunEnd) (readings more : List Reading) (answers given : List Answer) →
    AreAnswers e readings answers →
    end_of e (readings ++ more) (answers ++ given) ≡ end_of (end_of e readings answers) more given
end_append e [] more [] given are = refl
end_append e [] more (answer ∷ answers) given are = absurd are
end_append e (reading ∷ readings) more [] given are = absurd are
end_append e (reading ∷ readings) more (answer ∷ answers) given are =
    end_append (after e reading answer) readings more answers given are.1

-- and what each of both answers says of memory
memory_append : (e : RunEnd) (readings more : List Reading) (answers given : List Answer) →
    AreAnswers e readings answers → HaveMemory e readings answers → HaveMemory (end_of e readings answers) more given →
    HaveMemory e (readings ++ more) (answers ++ given)
memory_append e [] more [] given are have next = next
memory_append e [] more (answer ∷ answers) given are have next = absurd are
memory_append e (reading ∷ readings) more [] given are have next = absurd are
memory_append e (reading ∷ readings) more (answer ∷ answers) given are have next =
    (have.0, memory_append (after e reading answer) readings more answers given are.1 have.1 next)

-- no step
pub runs_none : (held : Held) → Runs held held [] []
runs_none held = record { on = λ e stands. (tt, stands); without_memory = λ e stands. tt }

-- one more step
pub runs_more : (old middle new : Held) (readings : List Reading) (reading : Reading) (answers : List Answer) (answer : Answer) →
    Runs old middle readings answers → Serves middle new reading answer →
    Runs old new (readings ++ reading ∷ []) (answers ++ answer ∷ [])
runs_more old middle new readings reading answers answer ran served =
    record {
      on = λ e stands.
          let so_far = ran.on e stands in
          let last = served.on (end_of e readings answers) so_far.1 in (
            answers_append e readings (reading ∷ []) answers (answer ∷ []) so_far.0 (last.0, tt),
            rw (end_append e readings (reading ∷ []) answers (answer ∷ []) so_far.0) last.1,
          );
      without_memory = λ e stands.
          let so_far = ran.on e stands in
          memory_append e readings (reading ∷ []) answers (answer ∷ []) so_far.0 (ran.without_memory e stands)
          (served.without_memory (end_of e readings answers) so_far.1, tt);
    }

-- steps that run from each end continue each run
pub runs_continue : (old new : Held) (readings : List Reading) (answers : List Answer) →
    Runs old new readings answers → Continues old new readings answers
runs_continue old new readings answers ran =
    record {
      on = λ settings policy peers before earlier are stands.
          let next = ran.on _ stands in (
            answers_append _ before readings earlier answers are next.0,
            rw (end_append _ before readings earlier answers are) next.1,
          );
      without_memory = λ settings policy peers before earlier are have stands.
          memory_append _ before readings earlier answers are have (ran.without_memory _ stands);
    }

-- ---- a run of the driver

-- the newest registry is what the events left
abbrev pub IsNewest : RunEnd → Type 0
IsNewest e = e.driver.registry ≡ state_of e.past.opened e.past.taken

-- what comes of a step, where it comes of one of the driver
pub record OfDriver (e : RunEnd) (what : Moved) : Type 0 where
  older : Option State
  step : Step
  answer : what.answer ≡ (driver.moved_by (runs.read_by e.driver older) e.driver step).answer
  after : what.after.driver ≡ (driver.moved_by (runs.read_by e.driver older) e.driver step).after

-- nothing is changed, or it is one of the driver; and the newest registry is still what the events left
pub record Goes (e : RunEnd) (what : Moved) : Type 0 where
  pub kind : (what ≡ bad e) ⊎ OfDriver e what
  pub newest : IsNewest e → IsNewest what.after

goes_nowhere : (e : RunEnd) → Goes e (bad e)
goes_nowhere e = record { kind = inl refl; newest = λ is. is }

goes_on : (e : RunEnd) (step : Step) → Goes e (conducted e step)
goes_on e step = record {
  kind = inr (record { older = None; step = step; answer = refl; after = refl });
  newest = λ is.
      moved_takes e.driver.registry e.driver step
      ∙ ap (λ (s : State). state_of s (event_of e.driver step)) is
      ∙ sym (state_of_both e.past.opened e.past.taken (event_of e.driver step));
}

-- who looks takes no event
nothing_in : (e : driver.RunEnd) (now : ℕ) (local from : Address) (read : Result Content BadPacket) → Looks (reader_of read) →
    event_in e now local from read ≡ []
nothing_in e now local from (Err fault) looks = refl
nothing_in e now local from (Ok (frames sent)) looks = refl
nothing_in e now local from (Ok (beat header)) looks = refl
nothing_in e now local from (Ok (nak given)) looks = refl
nothing_in e now local from (Ok (status given)) looks = refl
nothing_in e now local from (Ok (setup given)) looks = absurd looks

no_event : (e : driver.RunEnd) (moment : ℕ) (step : Step) → Looks (actor_of step) → event_of e (at_moment moment step) ≡ []
no_event e moment (steps.Conductor event) looks = absurd looks
no_event e moment (steps.Packet now local from bytes) looks = nothing_in e _ local from (packet_of bytes) looks
no_event e moment (steps.Offer now client registration message) looks = refl
no_event e moment (steps.Poll now client subscription source limit) looks = refl
no_event e moment (steps.Send now source) looks = refl
no_event e moment (steps.Image now source) looks = refl
no_event e moment (steps.List now client) looks = refl
no_event e moment (steps.Value now client number) looks = refl

goes_by : (e : RunEnd) (actor : Actor) (k moment : ℕ) (step : Step) → Looks (actor_of step) →
    Goes e (looked e actor k (at_moment moment step))
goes_by e actor k moment step looks = record {
  kind = inr (record { older = older_at e.past k; step = at_moment moment step; answer = refl; after = refl });
  newest = λ is.
      moved_takes (runs.read_by e.driver (older_at e.past k)) e.driver (at_moment moment step)
      ∙ ap (state_of e.driver.registry) (no_event e.driver moment step looks)
      ∙ is;
}

goes_cond : (e : RunEnd) (b : Bool) (what : Moved) → Goes e what → Goes e (if b then bad e else what)
goes_cond e true what goes = goes_nowhere e
goes_cond e false what goes = goes

goes_at : (e : RunEnd) (actor : Actor) (k : ℕ) (step : Step) → Looks (actor_of step) → Goes e (looked_at e actor k step)
goes_at e actor k step looks =
    goes_cond e (is_out (newest_of e.past) (seat_of actor e.seats) k) (looked e actor k (at_moment (seat_of actor e.seats).moment step))
    (goes_by e actor k (seat_of actor e.seats).moment step looks)

pub goes_as : (e : RunEnd) (actor : Actor) (view : Option ℕ) (step : Step) → actor_of step ≡ actor → Goes e (moved_as e actor view step)
goes_as e Conductor None step is = goes_on e step
goes_as e Conductor (Some k) step is = goes_nowhere e
goes_as e Sender view step is = goes_at e Sender (view_or (newest_of e.past) view) step (rw is tt)
goes_as e Receiver view step is = goes_at e Receiver (view_or (newest_of e.past) view) step (rw is tt)
goes_as e (Client id) view step is = goes_at e (Client id) (view_or (newest_of e.past) view) step (rw is tt)

-- what is left by an answer is what the driver leaves
Leaves : (e : RunEnd) (what : Moved) → OfDriver e what → Answer → Type 0
Leaves e what of answer =
    IsAnswerOf what answer →
    driver.IsAnswerOf (driver.moved_by (runs.read_by e.driver of.older) e.driver of.step) answer
    × ((after_by e what answer).driver ≡ driver.after_by e.driver (driver.moved_by (runs.read_by e.driver of.older) e.driver of.step) answer)

leaves : (e : RunEnd) (what : Moved) (of : OfDriver e what) (answer : Answer) → Leaves e what of answer
unfolding Leaves
leaves e what of answer =
    by_answer (Leaves e what of) (λ is. (tt, refl))
    (λ one other is. (
      other.for_driver (driver.moved_by (runs.read_by e.driver of.older) e.driver of.step) (other.worlds what is ∙ of.answer),
      ap (λ (end : RunEnd). end.driver) (other.left e what) ∙ of.after
          ∙ sym (other.driver_left e.driver (driver.moved_by (runs.read_by e.driver of.older) e.driver of.step)),
    ))
    answer

left_nowhere : (e : RunEnd) (answer : Answer) → after_by e (bad e) answer ≡ e
left_nowhere e answer = by_answer (λ a. after_by e (bad e) a ≡ e) refl (λ one other. other.left e (bad e)) answer

pub left_newest : (e : RunEnd) (what : Moved) (answer : Answer) → IsNewest e → IsNewest what.after → IsNewest (after_by e what answer)
left_newest e what answer is next =
    by_answer (λ a. IsNewest (after_by e what a)) is
    (λ one other. subst (λ (end : RunEnd). IsNewest end) (sym (other.left e what)) next) answer

record Follows (d : driver.RunEnd) (end : RunEnd) : Type 0 where
  readings : List runs.Reading
  given : List Answer
  are : runs.AreAnswers d readings given
  ends : end.driver ≡ runs.end_of d readings given
  newest : IsNewest end

follows : (e : RunEnd) (d : driver.RunEnd) (readings : List Reading) (answers : List Answer) → e.driver ≡ d → IsNewest e →
    AreAnswers e readings answers → Follows d (end_of e readings answers)
unfolding Leaves
follows e d [] [] same newest are = record { readings = []; given = []; are = tt; ends = same; newest = newest }
follows e d [] (answer ∷ answers) same newest are = absurd are
follows e d (reading ∷ readings) [] same newest are = absurd are
follows e d (reading ∷ readings) (answer ∷ answers) same newest are =
    let goes : Goes e (moved e reading) = goes_as e (actor_of reading.step) reading.view reading.step refl in
    let next : IsNewest (after e reading answer) = left_newest e (moved e reading) answer newest (goes.newest newest) in
    ⊎_elim
    (λ nowhere.
    let stays : after e reading answer ≡ e = rw nowhere (left_nowhere e answer) in
    follows (after e reading answer) d readings answers (ap (λ (end : RunEnd). end.driver) stays ∙ same) next are.1)
    (λ of.
    let r : runs.Reading = record { older = of.older; step = of.step } in
    let first = leaves e (moved e reading) of answer are.0 in
    let there : (after e reading answer).driver ≡ runs.left_by d r answer =
    first.1 ∙ ap (λ (end : driver.RunEnd). runs.left_by end r answer) same in
    let rest = follows (after e reading answer) (runs.left_by d r answer) readings answers there next are.1 in
    record {
      readings = r ∷ rest.readings;
      given = answer ∷ rest.given;
      are = (subst (λ (end : driver.RunEnd). runs.IsAnswerTo end r answer) same first.0, rest.are);
      ends = rest.ends;
      newest = rest.newest;
    })
    goes.kind

pub is_drivers_run : (settings : Settings) (policy : Rules) (peers : List Peer) (readings : List Reading) (answers : List Answer) →
    AreAnswers (opening_end settings policy peers) readings answers →
    IsDriversRun settings policy peers (end_of (opening_end settings policy peers) readings answers)
unfolding opening_end Leaves
is_drivers_run settings policy peers readings answers are =
    let run = follows (opening_end settings policy peers) (driver.opening_end settings policy peers) readings answers refl
    (opening_is settings policy peers) are in
    record { readings = run.readings; given = run.given; are = run.are; ends = run.ends; newest = run.newest }
