-- Each registry that a run went through was the newest once.
use Rattle.std.proofs.Common.{◌≡◌, ℕ, suc, ◌+◌, ◌<◌, ◌≤◌, Bool, true, false, if◌then◌else◌, List, [], ◌∷◌, ◌++◌, length, length-append, take, take_at, Option, Some, None, Result, Ok, Err, ◌⊎◌, inl, inr, ⊎_elim, refl, sym, ap, subst, ◌∙◌, append-nil, append_assoc, arith}
use Rattle.std.specs.Prelude.{nat_lt}
use Rattle.std.proofs.lemmas.Bool.{ltb-true, ltb-false}
use Rattle.channel_uri.specs.declared.address.Address.{Address}
use Rattle.driver_core.specs.Conduct.{state_of}
use Rattle.driver_core.specs.State.{State}
use Rattle.log_steps.specs.declared.answer.Answer.{Answer}
use Rattle.driver_steps.specs.declared.step.Step.{Step}
use Rattle.driver_steps.specs.declared.step.Step.TheVariants as steps
use Rattle.driver_steps.specs.Ends as driver
use Rattle.driver_steps.specs.Laws.{event_in, event_of}
use Rattle.driver_steps.proofs.EndLemmas.{opening_is}
use Rattle.driver_world.specs.declared.actor.Actor.{Actor}
use Rattle.driver_world.specs.declared.actor.Actor.TheVariants.{Client, Conductor, Receiver, Sender}
use Rattle.driver_world.specs.declared.reading.Reading.{Reading}
use Rattle.driver_world.specs.Ends.{RunEnd, opening_end, moved, moved_as, after, after_by, bad, conducted, looked, looked_at, AreAnswers, end_of}
use Rattle.driver_world.specs.ViewLaws.{RegistriesWereNewest, WasNewest}
use Rattle.driver_world.specs.Views.{Past, actor_of, at_moment, is_out, newest_of, registry_at, seat_of, view_or}
use Rattle.driver_world.proofs.AnswerLemmas.{by_answer}
use Rattle.driver_world.proofs.RunLemmas.{Goes, IsNewest, goes_as, left_newest}
use Rattle.driver_world.proofs.ViewLemmas.{Event_taken}
use Rattle.frame_codec.specs.declared.fault.BadPacket.{BadPacket}
use Rattle.frame_codec.specs.Datagram.{Content, frames, beat, nak, status, setup, packet_of}

-- so many events more were taken
record Grows (most : ℕ) (old new : Past) : Type 0 where
  more : List Event_taken
  opened : new.opened ≡ old.opened
  taken : new.taken ≡ old.taken ++ more
  few : length more ≤ most

same_past : (most : ℕ) (past : Past) → Grows most past past
same_past most past = record { more = []; opened = refl; taken = sym (append-nil past.taken); few = omega arith }

one_in : (e : driver.RunEnd) (now : ℕ) (local from : Address) (read : Result Content BadPacket) → length (event_in e now local from read) ≤ 1
one_in e now local from (Err fault) = omega arith
one_in e now local from (Ok (frames sent)) = omega arith
one_in e now local from (Ok (beat header)) = omega arith
one_in e now local from (Ok (nak given)) = omega arith
one_in e now local from (Ok (status given)) = omega arith
one_in e now local from (Ok (setup given)) = omega arith

one_event : (e : driver.RunEnd) (step : Step) → length (event_of e step) ≤ 1
one_event e (steps.Conductor event) = omega arith
one_event e (steps.Packet now local from bytes) = one_in e now local from (packet_of bytes)
one_event e (steps.Offer now client registration message) = omega arith
one_event e (steps.Poll now client subscription source limit) = omega arith
one_event e (steps.Send now source) = omega arith
one_event e (steps.Image now source) = omega arith
one_event e (steps.List now client) = omega arith
one_event e (steps.Value now client number) = omega arith

conducted_grows : (e : RunEnd) (step : Step) → Grows 1 e.past (conducted e step).after.past
conducted_grows e step = record { more = event_of e.driver step; opened = refl; taken = refl; few = one_event e.driver step }

cond_grows : (out : Bool) (e : RunEnd) (actor : Actor) (k : ℕ) (step : Step) →
    Grows 1 e.past (if out then bad e else looked e actor k step).after.past
cond_grows true e actor k step = same_past 1 e.past
cond_grows false e actor k step = same_past 1 e.past

looked_grows : (e : RunEnd) (actor : Actor) (k : ℕ) (step : Step) → Grows 1 e.past (looked_at e actor k step).after.past
looked_grows e actor k step =
    cond_grows (is_out (newest_of e.past) (seat_of actor e.seats) k) e actor k (at_moment (seat_of actor e.seats).moment step)

moved_grows : (e : RunEnd) (actor : Actor) (view : Option ℕ) (step : Step) → Grows 1 e.past (moved_as e actor view step).after.past
moved_grows e Conductor None step = conducted_grows e step
moved_grows e Conductor (Some k) step = same_past 1 e.past
moved_grows e Sender view step = looked_grows e Sender (view_or (newest_of e.past) view) step
moved_grows e Receiver view step = looked_grows e Receiver (view_or (newest_of e.past) view) step
moved_grows e (Client id) view step = looked_grows e (Client id) (view_or (newest_of e.past) view) step

after_grows : (e : RunEnd) (reading : Reading) (answer : Answer) → Grows 1 e.past (after e reading answer).past
after_grows e reading answer =
    by_answer (λ a. Grows 1 e.past (after_by e (moved e reading) a).past) (same_past 1 e.past)
    (λ one other.
    subst (λ (end : RunEnd). Grows 1 e.past end.past) (sym (other.left e (moved e reading)))
    (moved_grows e (actor_of reading.step) reading.view reading.step))
    answer

-- what was taken stays at the front
record Front (old new : Past) : Type 0 where
  rest : List Event_taken
  opened : new.opened ≡ old.opened
  taken : new.taken ≡ old.taken ++ rest

run_front : (e : RunEnd) (readings : List Reading) (answers : List Answer) → Front e.past (end_of e readings answers).past
run_front e [] answers = record { rest = []; opened = refl; taken = sym (append-nil e.past.taken) }
run_front e (reading ∷ readings) [] = record { rest = []; opened = refl; taken = sym (append-nil e.past.taken) }
run_front e (reading ∷ readings) (answer ∷ answers) =
    let first = after_grows e reading answer in
    let later = run_front (after e reading answer) readings answers in
    record {
      rest = first.more ++ later.rest;
      opened = later.opened ∙ first.opened;
      taken =
          later.taken ∙ ap (λ (all : List Event_taken). all ++ later.rest) first.taken
          ∙ append_assoc e.past.taken first.more later.rest;
    }

-- the newest of an end is the registry of its number, also by what was taken later
front_registry : (old new : Past) → Front old new → registry_at new (newest_of old) ≡ state_of old.opened old.taken
front_registry old new front =
    ap (λ (s : State). state_of s (take (newest_of old) new.taken)) front.opened
    ∙ ap (λ (all : List Event_taken). state_of old.opened (take (newest_of old) all)) front.taken
    ∙ ap (state_of old.opened) (take_at old.taken front.rest (newest_of old) refl)

by_bool : (n k : ℕ) (b : Bool) → nat_lt n k ≡ b → n ≤ k → (n ≡ k) ⊎ (n < k)
by_bool n k true is less = inr (ltb-true n k is)
by_bool n k false is less = let more : k ≤ n = ltb-false n k is in let same : n ≡ k = omega (arith, less, more) in inl same

here_or_behind : (n k : ℕ) → n ≤ k → (n ≡ k) ⊎ (n < k)
here_or_behind n k less = by_bool n k (nat_lt n k) refl less

was_newest : (e : RunEnd) (readings : List Reading) (answers : List Answer) (k : ℕ) → IsNewest e → AreAnswers e readings answers →
    newest_of e.past ≤ k → k ≤ newest_of (end_of e readings answers).past → WasNewest e readings answers k
was_newest e [] [] k newest are from to =
    let same : newest_of e.past ≡ k = omega (arith, from, to) in
    record { steps = 0; left = newest ∙ sym (front_registry e.past e.past (run_front e [] [])) ∙ ap (registry_at e.past) same }
was_newest e [] (answer ∷ answers) k newest are from to = absurd are
was_newest e (reading ∷ readings) [] k newest are from to = absurd are
was_newest e (reading ∷ readings) (answer ∷ answers) k newest are from to =
    ⊎_elim
    (λ here. record {
      steps = 0;
      left =
          newest ∙ sym (front_registry e.past (end_of e (reading ∷ readings) (answer ∷ answers)).past (run_front e (reading ∷ readings) (answer ∷ answers)))
          ∙ ap (registry_at (end_of e (reading ∷ readings) (answer ∷ answers)).past) here;
    })
    (λ behind.
    let grows = after_grows e reading answer in
    let count : newest_of (after e reading answer).past ≡ newest_of e.past + length grows.more =
    ap (λ (all : List Event_taken). length all) grows.taken ∙ length-append e.past.taken grows.more in
    let goes : Goes e (moved e reading) = goes_as e (actor_of reading.step) reading.view reading.step refl in
    let next : IsNewest (after e reading answer) = left_newest e (moved e reading) answer newest (goes.newest newest) in
    let later = was_newest (after e reading answer) readings answers k next are.1 (omega (arith, count, grows.few, behind)) to in
    record { steps = suc later.steps; left = later.left })
    (here_or_behind (newest_of e.past) k from)

pub registries_were : RegistriesWereNewest
unfolding opening_end
registries_were settings policy peers readings answers k are within =
    was_newest (opening_end settings policy peers) readings answers k (opening_is settings policy peers) are (omega arith) within
