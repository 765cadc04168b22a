-- A step of a world is the driver's by the registry that it names, and a run of a world is the driver's own.
use Rattle.std.proofs.Common.{◌≡◌, ℕ, ◌<◌, ◌≤◌, ◌==◌, ◌||◌, Bool, true, false, cond, List, [], ◌∷◌, ◌++◌, length, max, take, take_at, Option, Some, None, Result, Ok, Err, ◌⊎◌, inl, inr, ⊎_elim, refl, sym, ap, subst, ◌∙◌, append-nil, append_assoc, arith}
use Rattle.std.specs.Prelude.{nat_lt}
use Rattle.std.proofs.lemmas.Bool.{eqb-true, le-ltb}
use Rattle.std.proofs.lemmas.Bool.Decides.{nat_tests}
use Rattle.channel_uri.specs.declared.address.Address.{Address}
use Rattle.driver_core.specs.declared.state.event.Event.{Event}
use Rattle.driver_core.specs.declared.state.event.Inputs.{Inputs}
use Rattle.driver_core.specs.Conduct.{state_of}
use Rattle.driver_core.specs.State.{State, opened}
use Rattle.driver_laws.specs.LearningLaws.{AddressesComeAndGoBy}
use Rattle.driver_laws.specs.OlderLaws.{AtEachRegistry, JoinsAreDecidedBy, LooksAreDecidedBy, NaksAreDecidedBy, OffersAreDecidedBy, PollsAreDecidedBy, SendsAreDecidedBy}
use Rattle.driver_laws.specs.WorldLaws.{AtEachRegistryOfAWorld, Conducts, GoesBy, IsBad, IsTheDrivers, RunsAreTheDriversOwn, StepsGoBy, StepsGoByTheirRegistry, WorldsAreGrantedExactly, WorldsAreServedFromTheLiveLog, answers_of, given_for, looks_by, named_in, newest_in, read_as, read_of, readings_of, registry_after, step_meant}
use Rattle.driver_laws.proofs.LearningLemmas.{addresses_come_and_go}
use Rattle.driver_laws.proofs.OlderJoinLemmas.{joins_by_any}
use Rattle.driver_laws.proofs.OlderLookLemmas.{looks_by_any}
use Rattle.driver_laws.proofs.OlderLemmas.{offers_by_any, polls_by_any}
use Rattle.driver_laws.proofs.OlderNakLemmas.{naks_by_any}
use Rattle.driver_laws.proofs.OlderSendLemmas.{sends_by_any}
use Rattle.log_steps.specs.declared.answer.Answer.{Answer}
use Rattle.log_steps.specs.declared.answer.Answer.TheVariants.{NoMemory, Polled}
use Rattle.driver_steps.specs.declared.step.Step.{Step}
use Rattle.driver_steps.specs.declared.step.Step.TheVariants as steps
use Rattle.driver_steps.specs.Ends as driver
use Rattle.driver_steps.specs.Laws.{ComeFromLog, event_in, event_of, granted_in, taken_by, taken_from}
use Rattle.driver_steps.specs.Runs as runs
use Rattle.driver_steps.proofs.EndLemmas.{opening_is}
use Rattle.driver_steps.proofs.LiveLemmas.{bytes_come}
use Rattle.driver_world.specs.declared.actor.Actor.{Actor}
use Rattle.driver_world.specs.declared.actor.Actor.TheVariants.{Client, Conductor, Receiver, Sender}
use Rattle.driver_world.specs.declared.reading.Reading.{Reading}
use Rattle.driver_world.specs.declared.seats.Seat.{Seat}
use Rattle.driver_world.specs.Audits.{decided_by}
use Rattle.driver_world.specs.Ends.{RunEnd, Moved, opening_end, moved, moved_as, after, after_by, bad, conducted, looked, looked_at, AreAnswers, IsAnswerOf, end_of}
use Rattle.driver_world.specs.Views.{Past, Looks, actor_of, at_moment, is_out, newest_of, older_at, reader_of, registry_at, seat_of, view_or}
use Rattle.driver_world.proofs.RunLemmas.{Goes, IsNewest, goes_as, is_drivers_run, left_newest}
use Rattle.frame_codec.specs.declared.fault.BadPacket.{BadPacket}
use Rattle.frame_codec.specs.Datagram.{Content, frames, beat, nak, status, setup, packet_of}
use Rattle.log_pairs.specs.Polling.{Fetched}
use Rattle.driver_steps.specs.Ends.{moved_by}

-- ---- the registry that is named

all_taken : {X : Type 0} (xs : List X) → take (length xs) xs ≡ xs
all_taken xs = ap (take (length xs)) (sym (append-nil xs)) ∙ take_at xs [] (length xs) refl

newest_is : (e : RunEnd) → IsNewest e → registry_after e.past (newest_in e.past) ≡ e.driver.registry
newest_is e is = ap (state_of e.past.opened) (all_taken e.past.taken) ∙ sym is

by_number : (e : RunEnd) (k : ℕ) → IsNewest e → (k == newest_of e.past) ≡ true → e.driver.registry ≡ registry_after e.past k
by_number e k is same =
    sym (newest_is e is) ∙ ap (registry_after e.past) (sym (eqb-true k (newest_of e.past) same))

-- whether it is the newest or not
read_is : (e : RunEnd) (k : ℕ) → IsNewest e → (at : Bool) → (k == newest_of e.past) ≡ at →
    runs.read_by e.driver (cond at None (Some (registry_at e.past k))) ≡ registry_after e.past k
read_is e k is true same = by_number e k is same
read_is e k is false same = refl

looked_seen : (e : RunEnd) (k : ℕ) (step : Step) → IsNewest e →
    moved_by (runs.read_by e.driver (older_at e.past k)) e.driver step ≡ moved_by (registry_after e.past k) e.driver step
looked_seen e k step is = ap (λ (s : State). moved_by s e.driver step) (read_is e k is (k == newest_of e.past) refl)

looked_goes : (e : RunEnd) (actor : Actor) (k : ℕ) (step : Step) → IsNewest e → GoesBy e actor k step (looked e actor k step)
looked_goes e actor k step is = record {
  answer = ap (λ (m : driver.Moved). m.answer) (looked_seen e k step is);
  driver = ap (λ (m : driver.Moved). m.after) (looked_seen e k step is);
  decided =
      ap (λ (s : State). decided_by (record e.driver { registry = s }) step e.decided)
      (read_is e k is (k == newest_of e.past) refl);
  past = refl;
  seats = refl;
}

-- ---- one step

named_is : (past : Past) (view : Option ℕ) → view_or (newest_of past) view ≡ named_in past view
named_is past None = refl
named_is past (Some k) = refl

looks_as : (e : RunEnd) (actor : Actor) (view : Option ℕ) (step : Step) → Looks actor →
    moved_as e actor view step ≡ looked_at e actor (view_or (newest_of e.past) view) step
looks_as e Conductor view step looks = absurd looks
looks_as e Sender view step looks = refl
looks_as e Receiver view step looks = refl
looks_as e (Client id) view step looks = refl

looks_at : (e : RunEnd) (view : Option ℕ) (step : Step) → Looks (actor_of step) →
    moved e (record { view = view; step = step }) ≡ looked_at e (actor_of step) (named_in e.past view) step
looks_at e view step looks =
    looks_as e (actor_of step) view step looks
    ∙ ap (λ k. looked_at e (actor_of step) k step) (named_is e.past view)

is_within : (newest k : ℕ) (seat : Seat) → seat.view ≤ k → k ≤ newest → is_out newest seat k ≡ false
is_within newest k seat low high =
    let one : nat_lt k seat.view ≡ false = le-ltb k seat.view low in
    let other : nat_lt newest k ≡ false = le-ltb newest k high in
    rw (one, other) refl

is_behind : (newest k : ℕ) (seat : Seat) → k < seat.view → is_out newest seat k ≡ true
is_behind newest k seat low = let one : nat_lt k seat.view ≡ true = grind (arith, nat_tests) in rw one refl

or_true : (b : Bool) → (b || true) ≡ true
or_true true = refl
or_true false = refl

is_past : (newest k : ℕ) (seat : Seat) → newest < k → is_out newest seat k ≡ true
is_past newest k seat high =
    let one : nat_lt newest k ≡ true = grind (arith, nat_tests) in rw one (or_true (nat_lt k seat.view))

out_is_bad : (e : RunEnd) (view : Option ℕ) (step : Step) → Looks (actor_of step) →
    is_out (newest_in e.past) (seat_of (actor_of step) e.seats) (named_in e.past view) ≡ true →
    IsBad e (moved e (record { view = view; step = step }))
out_is_bad e view step looks out =
    let is : moved e (record { view = view; step = step }) ≡ bad e = looks_at e view step looks ∙ rw out refl in
    record { answer = ap (λ (m : Moved). m.answer) is; after = ap (λ (m : Moved). m.after) is }

conducts_newest : (e : RunEnd) (step : Step) (what : Moved) → what ≡ conducted e step → Conducts e step what
conducts_newest e step what is = record {
  answer = ap (λ (m : Moved). m.answer) is;
  driver = ap (λ (m : Moved). m.after.driver) is;
  decided = ap (λ (m : Moved). m.after.decided) is;
  opened = ap (λ (m : Moved). m.after.past.opened) is;
  taken = ap (λ (m : Moved). m.after.past.taken) is;
}

steps_go_by : (e : RunEnd) → IsNewest e → StepsGoBy e
steps_go_by e newest = record {
  goes = λ view step looks low high.
      let k : ℕ = named_in e.past view in
      let seat : Seat = seat_of (actor_of step) e.seats in
      let within : is_out (newest_of e.past) seat k ≡ false = is_within (newest_of e.past) k seat low high in
      let is : moved e (record { view = view; step = step }) ≡ looked e (actor_of step) k (step_meant e step) =
      looks_at e view step looks ∙ rw within refl in
      subst (GoesBy e (actor_of step) k (step_meant e step)) (sym is) (looked_goes e (actor_of step) k (step_meant e step) newest);
  behind = λ view step looks low.
      out_is_bad e view step looks (is_behind (newest_in e.past) (named_in e.past view) (seat_of (actor_of step) e.seats) low);
  past = λ view step looks high.
      out_is_bad e view step looks (is_past (newest_in e.past) (named_in e.past view) (seat_of (actor_of step) e.seats) high);
  conducts = λ step is.
      conducts_newest e step (moved e (record { view = None; step = step })) (ap (λ (a : Actor). moved_as e a None step) is);
  names_none = λ k step is.
      let same : moved e (record { view = Some k; step = step }) ≡ bad e = ap (λ (a : Actor). moved_as e a (Some k) step) is in
      record { answer = ap (λ (m : Moved). m.answer) same; after = ap (λ (m : Moved). m.after) same };
}

pub steps_go : StepsGoByTheirRegistry
steps_go settings policy peers readings answers are =
    steps_go_by _ (is_drivers_run settings policy peers readings answers are).newest

-- ---- who looks takes no event

nothing_in : (e : driver.RunEnd) (now : ℕ) (local from : Address) (read : Result Content BadPacket) → Looks (reader_of read) →
    event_in e now local from read ≡ []
nothing_in e now local from (Err fault) looks = refl
nothing_in e now local from (Ok (frames sent)) looks = refl
nothing_in e now local from (Ok (beat header)) looks = refl
nothing_in e now local from (Ok (nak given)) looks = refl
nothing_in e now local from (Ok (status given)) looks = refl
nothing_in e now local from (Ok (setup given)) looks = absurd looks

no_event : (e : driver.RunEnd) (moment : ℕ) (step : Step) → Looks (actor_of step) → event_of e (at_moment moment step) ≡ []
no_event e moment (steps.Conductor event) looks = absurd looks
no_event e moment (steps.Packet now local from bytes) looks = nothing_in e _ local from (packet_of bytes) looks
no_event e moment (steps.Offer now client registration message) looks = refl
no_event e moment (steps.Poll now client subscription source limit) looks = refl
no_event e moment (steps.Send now source) looks = refl
no_event e moment (steps.Image now source) looks = refl
no_event e moment (steps.List now client) looks = refl
no_event e moment (steps.Value now client number) looks = refl

-- ---- a step of a run

-- it is that one of the driver
record IsOne (e : RunEnd) (what : Moved) (r : runs.Reading) : Type 0 where
  answer : what.answer ≡ (runs.moved_to e.driver r).answer
  driver_is : what.after.driver ≡ (runs.moved_to e.driver r).after
  opened_is : what.after.past.opened ≡ e.past.opened
  taken_is : what.after.past.taken ≡ e.past.taken ++ event_of e.driver r.step

-- it is bad, and none of the driver; or it is that one
abbrev Kind : RunEnd → Moved → List runs.Reading → Type 0
Kind e what rs = ((rs ≡ []) × (what ≡ bad e)) ⊎ ((r : runs.Reading) × (rs ≡ r ∷ []) × IsOne e what r)

look_of : RunEnd → Actor → ℕ → Step → runs.Reading
look_of e actor k step =
    record { older = Some (registry_after e.past k); step = at_moment (seat_of actor e.seats).moment step }

looked_one : (e : RunEnd) (actor : Actor) (k : ℕ) (step : Step) → IsNewest e → Looks (actor_of step) →
    IsOne e (looked e actor k (at_moment (seat_of actor e.seats).moment step)) (look_of e actor k step)
unfolding look_of
looked_one e actor k step newest looks =
    let moment : ℕ = (seat_of actor e.seats).moment in
    let goes = looked_goes e actor k (at_moment moment step) newest in
    record {
      answer = goes.answer;
      driver_is = goes.driver;
      opened_is = refl;
      taken_is = rw (no_event e.driver moment step looks) (sym (append-nil e.past.taken));
    }

kind_cond : (e : RunEnd) (out : Bool) (what : Moved) (r : runs.Reading) → IsOne e what r →
    Kind e (cond out (bad e) what) (cond out [] (r ∷ []))
kind_cond e true what r one = inl (refl, refl)
kind_cond e false what r one = inr (r, refl, one)

kind_at : (e : RunEnd) (actor : Actor) (k : ℕ) (step : Step) → IsNewest e → Looks (actor_of step) →
    Kind e (looked_at e actor k step) (looks_by e actor k step)
unfolding look_of
kind_at e actor k step newest looks =
    kind_cond e (is_out (newest_of e.past) (seat_of actor e.seats) k)
    (looked e actor k (at_moment (seat_of actor e.seats).moment step)) (look_of e actor k step)
    (looked_one e actor k step newest looks)

kind_named : (e : RunEnd) (actor : Actor) (view : Option ℕ) (step : Step) → IsNewest e → Looks (actor_of step) →
    Kind e (looked_at e actor (view_or (newest_of e.past) view) step) (looks_by e actor (named_in e.past view) step)
kind_named e actor view step newest looks =
    subst (λ k. Kind e (looked_at e actor k step) (looks_by e actor (named_in e.past view) step)) (sym (named_is e.past view))
    (kind_at e actor (named_in e.past view) step newest looks)

kind_as : (e : RunEnd) (actor : Actor) (view : Option ℕ) (step : Step) → IsNewest e → actor_of step ≡ actor →
    Kind e (moved_as e actor view step) (read_as e actor view step)
kind_as e Conductor None step newest is =
    inr (runs.newest step, refl, record { answer = refl; driver_is = refl; opened_is = refl; taken_is = refl })
kind_as e Conductor (Some k) step newest is = inl (refl, refl)
kind_as e Sender view step newest is = kind_named e Sender view step newest (rw is tt)
kind_as e Receiver view step newest is = kind_named e Receiver view step newest (rw is tt)
kind_as e (Client id) view step newest is = kind_named e (Client id) view step newest (rw is tt)

kind_of : (e : RunEnd) (reading : Reading) → IsNewest e → Kind e (moved e reading) (read_of e reading)
kind_of e reading newest = kind_as e (actor_of reading.step) reading.view reading.step newest refl

-- what is left by an answer is what the driver leaves
record Left (e : RunEnd) (end : RunEnd) (r : runs.Reading) (answer : Answer) : Type 0 where
  is : runs.IsAnswerTo e.driver r answer
  driver_is : end.driver ≡ runs.left_by e.driver r answer
  opened_is : end.past.opened ≡ e.past.opened
  taken_is : end.past.taken ≡ e.past.taken ++ taken_by e.driver r.step answer

leaves : (e : RunEnd) (what : Moved) (r : runs.Reading) (answer : Answer) → IsOne e what r → IsAnswerOf what answer →
    Left e (after_by e what answer) r answer
leaves e what r NoMemory one is =
    record { is = tt; driver_is = refl; opened_is = refl; taken_is = sym (append-nil e.past.taken) }
leaves e what r answer one is =
    record { is = is ∙ one.answer; driver_is = one.driver_is; opened_is = one.opened_is; taken_is = one.taken_is }

left_nowhere : (e : RunEnd) (answer : Answer) → after_by e (bad e) answer ≡ e
left_nowhere e NoMemory = refl
left_nowhere e answer = refl

-- ---- a run

record Follows (d : driver.RunEnd) (end : RunEnd) (past : Past) (rs : List runs.Reading) (given : List Answer) : Type 0 where
  are : runs.AreAnswers d rs given
  ends : end.driver ≡ runs.end_of d rs given
  opens : end.past.opened ≡ past.opened
  takes : end.past.taken ≡ past.taken ++ taken_from d rs given

abbrev FollowsRun : driver.RunEnd → RunEnd → List Reading → List Answer → Type 0
FollowsRun d e readings answers =
    Follows d (end_of e readings answers) e.past (readings_of e readings answers) (answers_of e readings answers)

-- one more before the others
goes_first : (d : driver.RunEnd) (e between end : RunEnd) (r : runs.Reading) (answer : Answer) (rs : List runs.Reading)
    (given : List Answer) → e.driver ≡ d → Left e between r answer →
    Follows (runs.left_by d r answer) end between.past rs given → Follows d end e.past (r ∷ rs) (answer ∷ given)
goes_first d e between end r answer rs given same first rest = record {
  are = (subst (λ (one : driver.RunEnd). runs.IsAnswerTo one r answer) same first.is, rest.are);
  ends = rest.ends;
  opens = rest.opens ∙ first.opened_is;
  takes =
      rest.takes
      ∙ ap (λ (ts : List (Event × Inputs)). ts ++ taken_from (runs.left_by d r answer) rs given) first.taken_is
      ∙ append_assoc e.past.taken (taken_by e.driver r.step answer) (taken_from (runs.left_by d r answer) rs given)
      ∙ ap (λ (one : driver.RunEnd). e.past.taken ++ (taken_by one r.step answer ++ taken_from (runs.left_by d r answer) rs given)) same;
}

abbrev Puts : driver.RunEnd → RunEnd → Past → Answer → List runs.Reading → List Answer → List runs.Reading → Type 0
Puts d end past answer more given rs = Follows d end past (rs ++ more) (given_for rs answer ++ given)

follows : (e : RunEnd) (d : driver.RunEnd) (readings : List Reading) (answers : List Answer) → e.driver ≡ d → IsNewest e →
    AreAnswers e readings answers → FollowsRun d e readings answers
follows e d [] [] same newest are = record { are = tt; ends = same; opens = refl; takes = sym (append-nil e.past.taken) }
follows e d [] (answer ∷ answers) same newest are = absurd are
follows e d (reading ∷ readings) [] same newest are = absurd are
follows e d (reading ∷ readings) (answer ∷ answers) same newest are =
    let goes : Goes e (moved e reading) = goes_as e (actor_of reading.step) reading.view reading.step refl in
    let left : RunEnd = after e reading answer in
    let next : IsNewest left = left_newest e (moved e reading) answer newest (goes.newest newest) in
    let end : RunEnd = end_of left readings answers in
    let more : List runs.Reading = readings_of left readings answers in
    let given : List Answer = answers_of left readings answers in
    ⊎_elim
    (λ nowhere.
    let stays : left ≡ e = rw (nowhere.1) (left_nowhere e answer) in
    let rest : FollowsRun d left readings answers =
    follows left d readings answers (ap (λ (one : RunEnd). one.driver) stays ∙ same) next are.1 in
    subst (Puts d end e.past answer more given) (sym nowhere.0)
    (subst (λ (past : Past). Follows d end past more given) (ap (λ (one : RunEnd). one.past) stays) rest))
    (λ one.
    let first : Left e left one.0 answer = leaves e (moved e reading) one.0 answer one.2 are.0 in
    let there : left.driver ≡ runs.left_by d one.0 answer =
    first.driver_is ∙ ap (λ (at : driver.RunEnd). runs.left_by at one.0 answer) same in
    let rest : FollowsRun (runs.left_by d one.0 answer) left readings answers =
    follows left (runs.left_by d one.0 answer) readings answers there next are.1 in
    subst (Puts d end e.past answer more given) (sym one.1)
    (goes_first d e left end one.0 answer more given same first rest))
    (kind_of e reading newest)

pub runs_own : RunsAreTheDriversOwn
unfolding opening_end
runs_own settings policy peers readings answers are =
    let run : FollowsRun (driver.opening_end settings policy peers) (opening_end settings policy peers) readings answers =
    follows (opening_end settings policy peers) (driver.opening_end settings policy peers) readings answers refl
    (opening_is settings policy peers) are in
    record { are = run.are; ends = run.ends; opens = run.opens; takes = run.takes }

-- ---- what is said of drivers

pub of_worlds : (P : State → driver.RunEnd → Type 0) → AtEachRegistry P → AtEachRegistryOfAWorld P
of_worlds P holds settings policy peers readings answers k sound are =
    let run : IsTheDrivers settings policy peers (opening_end settings policy peers) readings answers =
    runs_own settings policy peers readings answers are in
    let rs : List runs.Reading = readings_of (opening_end settings policy peers) readings answers in
    let given : List Answer = answers_of (opening_end settings policy peers) readings answers in
    let past : Past = (end_of (opening_end settings policy peers) readings answers).past in
    let there = holds settings policy peers rs given k sound run.are in
    let same : state_of (opened settings policy peers) (take k (taken_from (driver.opening_end settings policy peers) rs given))
    ≡ registry_after past k =
    ap (λ (ts : List (Event × Inputs)). state_of (opened settings policy peers) (take k ts)) (sym run.takes)
    ∙ ap (λ (s : State). state_of s (take k past.taken)) (sym run.opens) in
    subst (λ (s : State). P s (end_of (opening_end settings policy peers) readings answers).driver) same
    (subst (P _) (sym run.ends) there)

pub worlds_granted : WorldsAreGrantedExactly
worlds_granted = record {
  offers = of_worlds OffersAreDecidedBy offers_by_any;
  polls = of_worlds PollsAreDecidedBy polls_by_any;
  sends = of_worlds SendsAreDecidedBy sends_by_any;
  joins = of_worlds JoinsAreDecidedBy joins_by_any;
  joins_only = of_worlds AddressesComeAndGoBy addresses_come_and_go;
  naks = of_worlds NaksAreDecidedBy naks_by_any;
  looks = of_worlds LooksAreDecidedBy looks_by_any;
}

-- ---- bytes of worlds

not_bad : (e : RunEnd) (out : Bool) (what : Moved) (fragments : List Fetched) → Polled fragments ≡ (cond out (bad e) what).answer →
    Polled fragments ≡ what.answer
not_bad e true what fragments is = absurd (cc is)
not_bad e false what fragments is = is

poll_looked : (e : RunEnd) (view : Option ℕ) (now client subscription source limit : ℕ) (fragments : List Fetched) →
    Polled fragments ≡ (moved e (record { view = view; step = steps.Poll now client subscription source limit })).answer →
    Polled fragments
    ≡ (looked e (Client client) (named_in e.past view)
    (at_moment (seat_of (Client client) e.seats).moment (steps.Poll now client subscription source limit))).answer
poll_looked e view now client subscription source limit fragments is =
    let step : Step = steps.Poll now client subscription source limit in
    not_bad e (is_out (newest_of e.past) (seat_of (Client client) e.seats) (named_in e.past view))
    (looked e (Client client) (named_in e.past view) (at_moment (seat_of (Client client) e.seats).moment step)) fragments
    (is ∙ ap (λ (m : Moved). m.answer) (looks_at e view step tt))

pub worlds_served : WorldsAreServedFromTheLiveLog
worlds_served settings policy peers readings answers view now client subscription source limit fragments are is =
    let begin : RunEnd = opening_end settings policy peers in
    let e : RunEnd = end_of begin readings answers in
    let run : IsTheDrivers settings policy peers begin readings answers = runs_own settings policy peers readings answers are in
    let rs : List runs.Reading = readings_of begin readings answers in
    let given : List Answer = answers_of begin readings answers in
    let at : ℕ = max now (seat_of (Client client) e.seats).moment in
    let asked : runs.Reading = record {
      older = older_at e.past (named_in e.past view);
      step = steps.Poll at client subscription source limit;
    } in
    let polled' : runs.IsAnswerTo e.driver asked (Polled fragments) =
    poll_looked e view now client subscription source limit fragments is in
    subst
    (λ (one : driver.RunEnd).
    ComeFromLog one source subscription limit (granted_in (driver.opening_end settings policy peers) source rs given) fragments)
    (sym run.ends)
    (bytes_come settings policy peers rs given asked.older at client subscription source limit fragments run.are
    (subst (λ (one : driver.RunEnd). runs.IsAnswerTo one asked (Polled fragments)) run.ends polled'))
