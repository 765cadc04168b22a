-- A step that serves the driver serves the world, where its actor looks at a registry that it may look at, and the actors are
-- told what was decided.
use Rattle.std.proofs.Common.{◌≡◌, ℕ, ◌+◌, ◌==◌, false, true, List, [], ◌∷◌, ◌++◌, length-append, Option, Some, None, Result, Ok, Err, ⊎_elim, refl, sym, ap, subst, ◌∙◌}
use Rattle.channel_uri.specs.declared.address.Address.{Address}
use Rattle.driver_core.specs.declared.state.event.Event.{Event}
use Rattle.driver_core.specs.declared.state.event.Event.TheVariants.{Setup as SetUp}
use Rattle.driver_core.specs.declared.state.event.Inputs.{Inputs}
use Rattle.driver_core.specs.declared.state.outcome.Outcome.{Outcome}
use Rattle.driver_core.specs.declared.state.outcome.Response.{Response}
use Rattle.driver_core.specs.declared.state.outcome.Response.TheVariants as response
use Rattle.driver_core.specs.declared.state.replies.Message.{Message}
use Rattle.driver_core.specs.Conduct.{outcome_of}
use Rattle.driver_core.specs.LeftOut.{left_out}
use Rattle.driver_core.specs.State.{State}
use Rattle.log_steps.specs.declared.answer.Answer.{Answer}
use Rattle.log_steps.specs.declared.answer.Answer.TheVariants.{BadStep, NoMemory}
use Rattle.driver_steps.specs.declared.step.Step.{Step}
use Rattle.driver_steps.specs.declared.step.Step.TheVariants.{Conductor as Conducts, Packet, Send, Image, List as Lists}
use Rattle.log_steps.specs.declared.answered.Came.TheVariants as came
use Rattle.log_steps.specs.declared.answered.Answered.{Answered}
use Rattle.log_steps.specs.Answers.{answer_of, answered_by}
use Rattle.driver_steps.specs.Coming.{Comes, ComesAs, content_decided}
use Rattle.driver_steps.specs.EndDecisions.{DecidesAs, DecidesUnless, LeavesOut, decided_unless, denials_unless, under}
use Rattle.driver_steps.specs.Ends.{after_by as driver_after, conducted as driver_conducted, inputs_of, IsAnswerOf as DriverAnswers, log_at, looks_at, moved as driver_moved, moved_by, moved_on, on_log, on_packet, Moved as DriverMoved, RunEnd as DriverEnd}
use Rattle.driver_steps.specs.OpenLogs.{inputs_held}
use Rattle.driver_steps.specs.Laws.{event_in}
use Rattle.driver_steps.specs.StepMemory.{HasMemory, HasMemoryBy, takes_memory as takes}
use Rattle.log_steps.specs.Moves.{Move, WholeLog}
use Rattle.driver_steps.specs.Runs.{read_by}
use Rattle.log_steps.specs.Sending.{send_move}
use Rattle.driver_steps.specs.Standing.{Held as HeldDriver, StandsForEnd as DriverStands, Serves as DriverServes, Takes}
use Rattle.driver_steps.proofs.TakeLemmas.{inputs_stand}
use Rattle.driver_world.specs.declared.actor.Actor.{Actor}
use Rattle.driver_world.specs.declared.actor.Actor.TheVariants.{Client, Conductor, Receiver, Sender}
use Rattle.driver_world.specs.declared.world.Look.{Look}
use Rattle.driver_world.specs.Audits.{Audits, Decided, Tells, decided_by, decided_by_content, decided_by_outcome, kept_all, told, told_one, told_sent}
use Rattle.driver_world.specs.Ends.{RunEnd, Moved, IsAnswerOf, after_by, bad, conducted, looked, looked_at, moved, moved_as, seats_by, seen_by}
use Rattle.driver_world.specs.Memory.{has_as, looked_has}
use Rattle.driver_world.specs.Past.{shown_state}
use Rattle.driver_world.specs.Standing.{Acts, Held, IsLook, IsNoLook, Serves, Sits, StandsForEnd, decided_left, seats_left}
use Rattle.driver_world.specs.Views.{Looks, Past, Seats, actor_of, at_moment, attached_at, is_out, moment_of, newest_of, older_at, reader_of, seat_of, seated, view_or}
use Rattle.driver_world.proofs.AnswerLemmas.{by_answer}
use Rattle.driver_world.proofs.AuditLemmas.{untold}
use Rattle.frame_codec.specs.declared.fault.BadPacket.{BadPacket}
use Rattle.frame_codec.specs.declared.setup.Setup.{Setup}
use Rattle.frame_codec.specs.Datagram.{Content, frames, beat, nak, status, setup, packet_of}
use Rattle.policy_core.specs.declared.decision.Decision.{Decision}

-- ---- who looks at a registry

moved_looked : (e : RunEnd) (actor : Actor) (view : Option ℕ) (step : Step) → Looks actor →
    moved_as e actor view step ≡ looked_at e actor (view_or (newest_of e.past) view) step
moved_looked e Conductor view step looks = absurd looks
moved_looked e Sender view step looks = refl
moved_looked e Receiver view step looks = refl
moved_looked e (Client id) view step looks = refl

has_looked : (e : RunEnd) (actor : Actor) (view : Option ℕ) (step : Step) (answer : Answer) → Looks actor →
    looked_has e (at_moment (seat_of actor e.seats).moment step) answer (older_at e.past (view_or (newest_of e.past) view)) →
    has_as e actor view step answer
has_looked e Conductor view step answer looks has = absurd looks
has_looked e Sender view step answer looks has = has
has_looked e Receiver view step answer looks has = has
has_looked e (Client id) view step answer looks has = has

-- what such a step comes to
looked_there : (e : RunEnd) (actor : Actor) (view : Option ℕ) (step : Step) (look : Look) → Looks actor →
    IsLook e.past (seat_of actor e.seats) view look →
    moved_as e actor view step ≡ looked e actor look.view (at_moment look.moment step)
looked_there e actor view step look looks is =
    moved_looked e actor view step looks
    ∙ ap (λ k. looked_at e actor k step) (sym is.view_is)
    ∙ rw is.within (ap (λ m. looked e actor look.view (at_moment m step)) (sym is.moment_is))

has_there : (e : RunEnd) (actor : Actor) (view : Option ℕ) (step : Step) (look : Look) (answer : Answer) → Looks actor →
    IsLook e.past (seat_of actor e.seats) view look → looked_has e (at_moment look.moment step) answer (shown_state look.older) →
    has_as e actor view step answer
has_there e actor view step look answer looks is has =
    has_looked e actor view step answer looks
    (rw (← is.moment_is, ← is.view_is, ← is.older_is) has)

-- the same of a world that is that one
pub look_in : (held now : Held) (actor : Actor) (view : Option ℕ) (look : Look) → held ≡ now →
    IsLook now.past (seat_of actor now.seats) view look → IsLook held.past (seat_of actor held.seats) view look
look_in held now actor view look same is =
    subst (λ (h : Held). IsLook h.past (seat_of actor h.seats) view look) (sym same) is

-- ---- one who may not look there

bad_looked : (e : RunEnd) (actor : Actor) (view : Option ℕ) (step : Step) → Looks actor →
    is_out (newest_of e.past) (seat_of actor e.seats) (view_or (newest_of e.past) view) ≡ true →
    moved_as e actor view step ≡ bad e
bad_looked e actor view step looks out = moved_looked e actor view step looks ∙ rw out refl

-- want of memory is no answer
bad_has : (e : RunEnd) (step : Step) (older : Option State) → looked_has e step BadStep older
bad_has e step None = tt
bad_has e step (Some older) = tt

pub not_looked : (held : Held) (view : Option ℕ) (step : Step) (answer : Answer) → Looks (actor_of step) →
    IsNoLook held.past (seat_of (actor_of step) held.seats) view answer →
    Serves held held (record { view = view; step = step }) answer
not_looked held view step answer looks none =
    ⊎_elim (λ out. record {
      on = λ e stands.
          let at : is_out (newest_of e.past) (seat_of (actor_of step) e.seats) (view_or (newest_of e.past) view) ≡ true =
          rw (← stands.past, ← stands.seats) out.1 in
          rw (out.0, bad_looked e (actor_of step) view step looks at) (refl, stands);
      without_memory = λ e stands.
          rw (out.0) (has_looked e (actor_of step) view step BadStep looks (bad_has e (at_moment (seat_of (actor_of step) e.seats).moment step) (older_at e.past (view_or (newest_of e.past) view))));
    })
    (λ refused. record {
      on = λ e stands. rw (refused.0) (tt, stands);
      without_memory = λ e stands.
          let older : (view_or (newest_of e.past) view == newest_of e.past) ≡ false = rw (← stands.past) refused.2 in
          has_looked e (actor_of step) view step answer looks (rw older tt);
    })
    none

-- ---- a step by that registry

-- so the world serves
Serving : (old : Held) (driver : HeldDriver) (left : Audits) (actor : Actor) (k : ℕ) (step : Step) (e : RunEnd) → Answer → Type 0
Serving old driver left actor k step e answer =
    DriverAnswers (moved_by (read_by e.driver (older_at e.past k)) e.driver step) answer →
    DriverStands driver (driver_after e.driver (moved_by (read_by e.driver (older_at e.past k)) e.driver step) answer) →
    left ≡ kept_all (decided_left answer e.decided (decided_by (seen_by e.driver (older_at e.past k)) step e.decided)) →
    IsAnswerOf (looked e actor k step) answer
    × StandsForEnd (record {
      driver = driver;
      audits = left;
      past = old.past;
      seats = seats_left actor (record { view = k; moment = moment_of step }) answer old.seats;
    }) (after_by e (looked e actor k step) answer)

serving : (old : Held) (driver : HeldDriver) (left : Audits) (actor : Actor) (k : ℕ) (step : Step) (e : RunEnd) → StandsForEnd old e →
    (answer : Answer) → Serving old driver left actor k step e answer
unfolding Serving
serving old driver left actor k step e stands answer =
    by_answer (Serving old driver left actor k step e)
    (λ is there kept. (tt, record { driver = there; audits = kept; past = stands.past; seats = stands.seats }))
    (λ one other is there kept.
    let same : one ≡ (moved_by (read_by e.driver (older_at e.past k)) e.driver step).answer = other.drivers (moved_by (read_by e.driver (older_at e.past k)) e.driver step) is in
    let stays : DriverStands driver (moved_by (read_by e.driver (older_at e.past k)) e.driver step).after =
    subst (λ (d : DriverEnd). DriverStands driver d) (other.driver_left e.driver (moved_by (read_by e.driver (older_at e.past k)) e.driver step)) there in (
      other.for_world (looked e actor k step) same,
      subst (λ (next : RunEnd). StandsForEnd (record {
        driver = driver;
        audits = left;
        past = old.past;
        seats = seats_left actor (record { view = k; moment = moment_of step }) one old.seats;
      }) next) (sym (other.left e (looked e actor k step)))
          (record {
            driver = stays;
            audits = kept ∙ ap (λ (d : Decided). kept_all d) (other.decided e.decided (decided_by (seen_by e.driver (older_at e.past k)) step e.decided));
            past = stands.past;
            seats =
                other.seats actor (record { view = k; moment = moment_of step }) old.seats
                ∙ ap (λ (s : Seats). seated actor (record { view = k; moment = moment_of step }) s) stands.seats;
          }),
    ))
    answer

-- the driver's memory
takes_memory : (e : RunEnd) (step : Step) (answer : Answer) (older : Option State) →
    HasMemory (read_by e.driver older) e.driver step answer → looked_has e step answer older
takes_memory e step answer None has = has
takes_memory e step answer (Some older) has = tt

-- by the registry that is looked at, as the end has it
served_by : (old new : HeldDriver) (older : Option State) (step : Step) (answer : Answer) (e : DriverEnd) → DriverStands old e →
    DriverServes (looks_at old.registry older) old new step answer → DriverServes (read_by e older) old new step answer
served_by old new older step answer e stands serves =
    subst (λ (s : State). DriverServes (looks_at s older) old new step answer) stands.registry serves

pub looked_served : (old middle new : Held) (view : Option ℕ) (step : Step) (look : Look) (answer : Answer) → Looks (actor_of step) →
    IsLook old.past (seat_of (actor_of step) old.seats) view look →
    Acts (shown_state look.older) old middle (at_moment look.moment step) answer →
    Sits middle new (actor_of step) look.view (moment_of (at_moment look.moment step)) answer →
    Serves old new (record { view = view; step = step }) answer
unfolding Serving
looked_served old middle new view step look answer looks is acts sits = record {
  on = λ e stands.
      let here : IsLook e.past (seat_of (actor_of step) e.seats) view look = rw (← stands.past, ← stands.seats) is in
      let there = served_by old.driver middle.driver (shown_state look.older) (at_moment look.moment step) answer e.driver stands.driver acts.serves in
      let done = there.on e.driver stands.driver in
      let served = serving old middle.driver middle.audits (actor_of step) look.view (at_moment look.moment step) e stands answer
      (rw (← here.older_is) done.0) (rw (← here.older_is) done.1) (rw (← here.older_is) (acts.reports e stands)) in
      let left = sits ∙ ap (λ (h : Held). let after : Held = record h { seats = seats_left (actor_of step) (record { view = look.view; moment = moment_of (at_moment look.moment step) }) answer h.seats } in after) acts.stays in
      rw (looked_there e (actor_of step) view step look looks here, left) served;
  without_memory = λ e stands.
      let here : IsLook e.past (seat_of (actor_of step) e.seats) view look = rw (← stands.past, ← stands.seats) is in
      let there = served_by old.driver middle.driver (shown_state look.older) (at_moment look.moment step) answer e.driver stands.driver acts.serves in
      has_there e (actor_of step) view step look answer looks here
      (takes_memory e (at_moment look.moment step) answer (shown_state look.older)
      (there.without_memory e.driver stands.driver));
}

-- ---- what is reported of it

-- the world of which that is left
abbrev pub left_of : Held → HeldDriver → Audits → Held
left_of old driver left = record old { driver = driver; audits = left }

tells_acts : (old : Held) (driver : HeldDriver) (left : Audits) (older : Option State) (step : Step) (answer : Answer)
    (more : Decided → Decided) → DriverServes (looks_at old.driver.registry older) old.driver driver step answer → Tells old.audits left more →
    ((e : RunEnd) → StandsForEnd old e →
    more e.decided ≡ decided_left answer e.decided (decided_by (seen_by e.driver older) step e.decided)) →
    Acts older old (left_of old driver left) step answer
tells_acts old driver left older step answer more serves tells is = record {
  serves = serves;
  reports = λ e stands. tells.on e.decided stands.audits ∙ ap (λ (d : Decided). kept_all d) (is e stands);
  stays = refl;
}

-- the driver under the registry that is looked at
abbrev seen_held : HeldDriver → Option State → HeldDriver
seen_held held older = under held (looks_at held.registry older)

seen_stands : (held : HeldDriver) (older : Option State) (e : DriverEnd) → DriverStands held e →
    DriverStands (seen_held held older) (seen_by e older)
seen_stands held older e stands =
    record { registry = ap (λ (s : State). looks_at s older) stands.registry; logs = stands.logs }

-- ---- one decision

told_unless : (answer : Answer) (actor : Actor) (what : Option Decision) (all : Decided) →
    told_one actor (decided_unless answer what) all ≡ decided_left answer all (told_one actor what all)
told_unless answer actor what all =
    by_answer (λ a. told_one actor (decided_unless a what) all ≡ decided_left a all (told_one actor what all)) refl
    (λ one other. ap (λ d. told_one actor d all) (other.unless what) ∙ sym (other.decided all (told_one actor what all)))
    answer

pub one_acts : (old : Held) (driver : HeldDriver) (left : Audits) (older : Option State) (step : Step) (told : Answered) (actor : Actor)
    (what : DriverEnd → Option Decision) → DriverServes (looks_at old.driver.registry older) old.driver driver step told.answer →
    DecidesUnless (seen_held old.driver older) what told.answer told.decision → Tells old.audits left (told_one actor told.decision) →
    ((e : DriverEnd) (all : Decided) → decided_by e step all ≡ told_one actor (what e) all) →
    Acts older old (left_of old driver left) step told.answer
one_acts old driver left older step told actor what serves decides tells by =
    tells_acts old driver left older step told.answer (told_one actor told.decision) serves tells
    (λ e stands.
    let seen : DriverEnd = seen_by e.driver older in
    ap (λ d. told_one actor d e.decided) (decides.on seen (seen_stands old.driver older e.driver stands.driver))
    ∙ told_unless told.answer actor (what seen) e.decided
    ∙ ap (λ (d : Decided). decided_left told.answer e.decided d) (sym (by seen e.decided)))

-- that is never refused memory
spared : (answer : Answer) (what : Option Decision) → HasMemoryBy false answer → what ≡ decided_unless answer what
spared answer what =
    by_answer (λ a. HasMemoryBy false a → what ≡ decided_unless a what) (λ has. absurd (cc))
    (λ one other has. sym (other.unless what))
    answer

pub decides_unless : (s : State) (old new : HeldDriver) (step : Step) (what : DriverEnd → Option Decision) (told : Answered) →
    DriverServes s old new step told.answer → ((e : DriverEnd) → takes s e step ≡ false) → DecidesAs (under old s) what told.decision →
    DecidesUnless (under old s) what told.answer told.decision
decides_unless s old new step what told serves none decides = record {
  on = λ e stands.
      let before : DriverEnd = record e { registry = old.registry } in
      decides.on e stands
      ∙ spared told.answer (what e)
      (subst (λ takes. HasMemoryBy takes told.answer) (none before)
      (serves.without_memory before (record { registry = refl; logs = stands.logs })));
}

-- ---- a look at counters

told_none : (client : ℕ) (all : Decided) → told (Client client) [] all ≡ all
told_none client all = ap (λ clients. record all { clients = clients }) (untold client all.clients)

denied_unless : (answer : Answer) (client : ℕ) (what : List Decision) (all : Decided) →
    told (Client client) (denials_unless answer what) all ≡ decided_left answer all (told (Client client) what all)
denied_unless answer client what all =
    by_answer (λ a. told (Client client) (denials_unless a what) all ≡ decided_left a all (told (Client client) what all)) (told_none client all)
    (λ one other. ap (λ d. told (Client client) d all) (other.denials what) ∙ sym (other.decided all (told (Client client) what all)))
    answer

pub list_acts : (old : Held) (left : Audits) (older : Option State) (now client : ℕ) (answer : Answer) (denials : List Decision) →
    DriverServes (looks_at old.driver.registry older) old.driver old.driver (Lists now client) answer →
    LeavesOut (looks_at old.driver.registry older) client answer denials → Tells old.audits left (told (Client client) denials) →
    Acts older old (left_of old old.driver left) (Lists now client) answer
unfolding decided_by
list_acts old left older now client answer denials serves leaves tells =
    tells_acts old old.driver left older (Lists now client) answer (told (Client client) denials) serves tells
    (λ e stands.
    ap (λ d. told (Client client) d e.decided)
    (leaves ∙ ap (λ (r : State). denials_unless answer (left_out (looks_at r older) client)) stands.driver.registry)
    ∙ denied_unless answer client (left_out (read_by e.driver older) client) e.decided)

-- ---- a turn of the sender

-- the logs are those that stand now, whichever registry is looked at
turn_answered : (older : State) (e : DriverEnd) (source : ℕ) (move : WholeLog → Move) (absent : Answer) (log : Option WholeLog) →
    (moved_on (record e { registry = older }) source move absent log).answer ≡ (moved_on e source move absent log).answer
turn_answered older e source move absent None = refl
turn_answered older e source move absent (Some log) = refl

sent_seen : (older : Option State) (e : DriverEnd) (now source : ℕ) →
    (driver_moved (seen_by e older) (Send now source)).answer ≡ (moved_by (read_by e older) e (Send now source)).answer
unfolding on_log
sent_seen older e now source =
    turn_answered (read_by e older) e source (send_move (read_by e older) now) _ (log_at e.logs source)

sent_left : (answer : Answer) (what : DriverMoved) (all : Decided) → DriverAnswers what answer →
    told_sent answer all ≡ decided_left answer all (told_sent what.answer all)
sent_left answer what all =
    by_answer (λ a. DriverAnswers what a → told_sent a all ≡ decided_left a all (told_sent what.answer all)) (λ is. refl)
    (λ one other is. ap (λ a. told_sent a all) (other.drivers what is) ∙ sym (other.decided all (told_sent what.answer all)))
    answer

pub send_acts : (old : Held) (driver : HeldDriver) (left : Audits) (older : Option State) (now source : ℕ) (answer : Answer) →
    DriverServes (looks_at old.driver.registry older) old.driver driver (Send now source) answer → Tells old.audits left (told_sent answer) →
    Acts older old (left_of old driver left) (Send now source) answer
unfolding decided_by
send_acts old driver left older now source answer serves tells =
    tells_acts old driver left older (Send now source) answer (told_sent answer) serves tells
    (λ e stands.
    let there = served_by old.driver driver older (Send now source) answer e.driver stands.driver serves in
    sent_left answer (moved_by (read_by e.driver older) e.driver (Send now source)) e.decided (there.on e.driver stands.driver).0
    ∙ ap (λ a. decided_left answer e.decided (told_sent a e.decided)) (sym (sent_seen older e.driver now source)))

-- ---- a turn of the receiver

pub report_acts : (old : Held) (driver : HeldDriver) (older : Option State) (now source : ℕ) (answer : Answer) →
    DriverServes (looks_at old.driver.registry older) old.driver driver (Image now source) answer →
    Acts older old (left_of old driver old.audits) (Image now source) answer
unfolding decided_by
report_acts old driver older now source answer serves =
    tells_acts old driver old.audits older (Image now source) answer (λ all. all) serves (record { on = λ all is. is })
    (λ e stands. by_answer (λ a. e.decided ≡ decided_left a e.decided e.decided) refl (λ one other. sym (other.decided e.decided e.decided)) answer)

-- ---- an event

answers_some : (r : Response) (replies : List Message) → answered_by r replies ≡ NoMemory → ⊥
answers_some response.Nothing replies is = cc
answers_some (response.Attached number) replies is = cc
answers_some response.Full replies is = cc
answers_some response.Stopped replies is = cc
answers_some (response.PolicyInForce epoch) replies is = cc
answers_some response.PolicyFull replies is = cc
answers_some (response.Imaged number) replies is = cc
answers_some (response.Dropped fault) replies is = cc

-- what is left of an event that was taken
pub record Left (old : Held) (event : Event) (inputs : Inputs) (outcome : Outcome) (new : Held) : Type 0 where
  pub audits : Tells old.audits new.audits (decided_by_outcome outcome)
  pub past : new.past ≡ record old.past { taken = old.past.taken ++ (event, inputs) ∷ [] }
  pub seats : new.seats ≡ attached_at (newest_of new.past) outcome.response old.seats

Conducting : (new : Held) (event : Event) (e : RunEnd) → Answer → Type 0
Conducting new event e answer =
    (answer ≡ NoMemory → ⊥) → answer ≡ (conducted e (Conducts event)).answer → StandsForEnd new (conducted e (Conducts event)).after →
    IsAnswerOf (conducted e (Conducts event)) answer × StandsForEnd new (after_by e (conducted e (Conducts event)) answer)

conducting : (new : Held) (event : Event) (e : RunEnd) (answer : Answer) → Conducting new event e answer
unfolding Conducting
conducting new event e answer =
    by_answer (Conducting new event e) (λ some same stands. absurd (some refl))
    (λ one other some same stands. (
      other.for_world (conducted e (Conducts event)) same,
      subst (λ (next : RunEnd). StandsForEnd new next) (sym (other.left e (conducted e (Conducts event)))) stands,
    ))
    answer

pub event_told : (old new : Held) (event : Event) (inputs : Inputs) (outcome : Outcome) → Takes old.driver new.driver event outcome →
    inputs ≡ inputs_held old.driver.registry event old.driver.logs → Left old event inputs outcome new →
    Serves old new (record { view = None; step = Conducts event }) (answer_of outcome)
unfolding Conducting decided_by answer_of driver_conducted
event_told old new event inputs outcome takes inputs_are left = record {
  on = λ e stands.
      let taken = takes.on e.driver stands.driver in
      let same_inputs : inputs ≡ inputs_of e.driver.registry event e.driver.logs =
      inputs_are
      ∙ ap (λ (s : State). inputs_held s event old.driver.logs) stands.driver.registry
      ∙ inputs_stand e.driver.registry event old.driver.logs e.driver.logs stands.driver.logs in
      let past_is : new.past ≡ (conducted e (Conducts event)).after.past =
      left.past
      ∙ ap (λ (p : Past). let q : Past = record p { taken = p.taken ++ (event, inputs) ∷ [] } in q) stands.past
      ∙ ap (λ (i : Inputs). let q : Past = record e.past { taken = e.past.taken ++ (event, i) ∷ [] } in q) same_inputs in
      let count : newest_of new.past ≡ newest_of e.past + 1 =
      ap newest_of past_is ∙ length-append e.past.taken _ in
      conducting new event e (answer_of outcome) (answers_some outcome.response outcome.replies) (ap answer_of taken.0) (record {
        driver = taken.1;
        audits =
            left.audits.on e.decided stands.audits
            ∙ ap (λ (o : Outcome). kept_all (decided_by_outcome o e.decided)) taken.0;
        past = past_is;
        seats =
            left.seats
            ∙ ap (λ n. attached_at n outcome.response old.seats) count
            ∙ ap (λ (o : Outcome). attached_at (newest_of e.past + 1) o.response old.seats) taken.0
            ∙ ap (λ (s : Seats). attached_at (newest_of e.past + 1) (outcome_of e.driver.registry event (inputs_of e.driver.registry event e.driver.logs)).response s) stands.seats;
      });
  without_memory = λ e stands. tt;
}

-- an event that is refused memory
pub event_refused : (old new : Held) (event : Event) → new ≡ old → Serves old new (record { view = None; step = Conducts event }) NoMemory
event_refused old new event same = record { on = λ e stands. (tt, rw same stands); without_memory = λ e stands. tt }

-- the conductor names no registry
pub event_bad : (held : Held) (k : ℕ) (event : Event) → Serves held held (record { view = Some k; step = Conducts event }) BadStep
event_bad held k event = record { on = λ e stands. (refl, stands); without_memory = λ e stands. tt }

-- ---- a datagram

-- by what its bytes hold
packet_conducted : RunEnd → ℕ → Address → Address → Result Content BadPacket → Moved
packet_conducted e now local from read = record {
  after = record {
    driver = (on_packet e.driver.registry e.driver now local from read).after;
    decided = decided_by_content e.driver now local from read e.decided;
    past = record e.past { taken = e.past.taken ++ event_in e.driver now local from read };
    seats = seats_by e (event_in e.driver now local from read);
  };
  answer = (on_packet e.driver.registry e.driver now local from read).answer;
}

setup_conducted : (e : RunEnd) (now : ℕ) (local from : Address) (bytes : List ℕ) (fields : Setup) → packet_of bytes ≡ Ok (setup fields) →
    conducted e (Packet now local from bytes) ≡ conducted e (Conducts (SetUp now local from fields))
unfolding packet_conducted decided_by
setup_conducted e now local from bytes fields is = ap (packet_conducted e now local from) is

setup_moved : (e : RunEnd) (view : Option ℕ) (now : ℕ) (local from : Address) (bytes : List ℕ) (fields : Setup) →
    packet_of bytes ≡ Ok (setup fields) →
    moved e (record { view = view; step = Packet now local from bytes })
    ≡ moved e (record { view = view; step = Conducts (SetUp now local from fields) })
setup_moved e None now local from bytes fields is =
    ap (λ read. moved_as e (reader_of read) None (Packet now local from bytes)) is ∙ setup_conducted e now local from bytes fields is
setup_moved e (Some k) now local from bytes fields is = ap (λ read. moved_as e (reader_of read) (Some k) (Packet now local from bytes)) is

-- a SETUP serves as its event does
pub setup_told : (old new : Held) (view : Option ℕ) (now : ℕ) (local from : Address) (bytes : List ℕ) (fields : Setup) (answer : Answer) →
    packet_of bytes ≡ Ok (setup fields) → Serves old new (record { view = view; step = Conducts (SetUp now local from fields) }) answer →
    Serves old new (record { view = view; step = Packet now local from bytes }) answer
setup_told old new view now local from bytes fields answer is serves = record {
  on = λ e stands.
      subst (λ (m : Moved). IsAnswerOf m answer × StandsForEnd new (after_by e m answer)) (sym (setup_moved e view now local from bytes fields is))
      (serves.on e stands);
  without_memory = λ e stands.
      subst (λ read. has_as e (reader_of read) view (Packet now local from bytes) answer) (sym is) tt;
}

-- no other comes to an event
never_as : (shown : State) (old new : HeldDriver) (now : ℕ) (local from : Address) (bytes : List ℕ) (read : Result Content BadPacket)
    (fields : Setup) → ComesAs shown old new now local from bytes read (came.SetUp fields) → Looks (reader_of read) → ⊥
never_as shown old new now local from bytes (Err fault) fields comes looks = comes
never_as shown old new now local from bytes (Ok (frames sent)) fields comes looks = comes
never_as shown old new now local from bytes (Ok (beat header)) fields comes looks = comes
never_as shown old new now local from bytes (Ok (nak given)) fields comes looks = comes
never_as shown old new now local from bytes (Ok (status given)) fields comes looks = comes
never_as shown old new now local from bytes (Ok (setup given)) fields comes looks = looks

pub never_set_up : (shown : State) (old new : HeldDriver) (now : ℕ) (local from : Address) (bytes : List ℕ) (fields : Setup) →
    Comes shown old new now local from bytes (came.SetUp fields) → Looks (reader_of (packet_of bytes)) → ⊥
never_set_up shown old new now local from bytes fields comes looks =
    never_as shown old new now local from bytes (packet_of bytes) fields comes looks

-- what is told of any other
record CameAs (shown : State) (old new : HeldDriver) (now : ℕ) (local from : Address) (bytes : List ℕ) (told : Answered)
    (read : Result Content BadPacket) : Type 0 where
  serves : DriverServes shown old new (Packet now local from bytes) told.answer
  decides : DecidesUnless (under old shown) (λ e. content_decided e from read) told.answer told.decision
  by :
      (e : DriverEnd) (all : Decided) →
      decided_by_content e now local from read all ≡ told_one Sender (content_decided e from read) all

came_as : (shown : State) (old new : HeldDriver) (now : ℕ) (local from : Address) (bytes : List ℕ) (read : Result Content BadPacket) (told : Answered) →
    ComesAs shown old new now local from bytes read (came.Answered told) → CameAs shown old new now local from bytes told read
came_as shown old new now local from bytes (Err fault) told comes = record { serves = comes.0; decides = comes.1; by = λ e all. refl }
came_as shown old new now local from bytes (Ok (frames sent)) told comes = record { serves = comes.0; decides = comes.1; by = λ e all. refl }
came_as shown old new now local from bytes (Ok (beat header)) told comes = record { serves = comes.0; decides = comes.1; by = λ e all. refl }
came_as shown old new now local from bytes (Ok (nak given)) told comes = record { serves = comes.0; decides = comes.1; by = λ e all. refl }
came_as shown old new now local from bytes (Ok (status given)) told comes = record { serves = comes.0; decides = comes.1; by = λ e all. refl }
came_as shown old new now local from bytes (Ok (setup given)) told comes = absurd (cc comes.0)

pub packet_acts : (old : Held) (driver : HeldDriver) (left : Audits) (older : Option State) (now : ℕ) (local from : Address) (bytes : List ℕ)
    (told : Answered) → Comes (looks_at old.driver.registry older) old.driver driver now local from bytes (came.Answered told) →
    Tells old.audits left (told_one Sender told.decision) →
    Acts older old (left_of old driver left) (Packet now local from bytes) told.answer
unfolding decided_by
packet_acts old driver left older now local from bytes told comes tells =
    let came' = came_as (looks_at old.driver.registry older) old.driver driver now local from bytes (packet_of bytes) told comes in
    one_acts old driver left older (Packet now local from bytes) told Sender (λ e. content_decided e from (packet_of bytes)) came'.serves came'.decides tells came'.by
