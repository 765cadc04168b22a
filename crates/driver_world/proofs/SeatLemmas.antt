-- Where an actor stands behind a step is not behind where it stood.
use Rattle.std.proofs.Common.{◌≡◌, ℕ, ◌+◌, ◌≤◌, ◌==◌, Bool, true, false, cond, if◌then◌else◌, List, [], ◌∷◌, ◌++◌, Option, Some, None, refl, sym, subst, arith}
use Rattle.std.proofs.lemmas.Bool.Decides.{nat_tests}
use Rattle.driver_core.specs.declared.state.event.Event.{Event}
use Rattle.driver_core.specs.declared.state.event.Inputs.{Inputs}
use Rattle.driver_core.specs.declared.state.outcome.Response.{Response}
use Rattle.driver_core.specs.declared.state.outcome.Response.TheVariants as response
use Rattle.driver_steps.specs.declared.step.Step.{Step}
use Rattle.driver_steps.specs.declared.step.Step.TheVariants as steps
use Rattle.driver_steps.specs.Laws.{event_of}
use Rattle.driver_world.specs.declared.actor.Actor.{Actor}
use Rattle.driver_world.specs.declared.actor.Actor.TheVariants.{Client, Conductor, Receiver, Sender}
use Rattle.driver_world.specs.declared.seats.Seat.{Seat}
use Rattle.driver_world.specs.Ends.{RunEnd, Moved, moved, moved_as, after_by, bad, looked, seats_by}
use Rattle.driver_world.specs.ViewLaws.{Rises, ViewsOnlyRise}
use Rattle.driver_world.specs.Views.{Looks, Seats, actor_of, at_moment, attached_at, client_seated, first_seat, is_out, moment_of, newest_of, seat_of, seat_or_first, seated, view_or}
use Rattle.driver_world.proofs.AnswerLemmas.{by_answer}
use Rattle.driver_world.proofs.PlaceLemmas.{client_at}

stays : (seat : Seat) → Rises seat seat
stays seat = record { view = omega arith; moment = omega arith }

-- ---- of clients

seated_step : (here wanted : Bool) (client : ℕ × Seat) (seat : Seat) (others told : List (ℕ × Seat)) (found old new : Option (ℕ × Seat)) →
    Rises (seat_or_first (cond here (Some client) found)) seat → (Rises (seat_or_first found) seat → Rises (seat_or_first old) (seat_or_first new)) →
    Rises (seat_or_first (cond wanted (Some client) old)) (seat_or_first (cond here (cond wanted (Some (client.0, seat)) old) (cond wanted (Some client) new)))
seated_step true true client seat others told found old new rises rest = rises
seated_step true false client seat others told found old new rises rest = stays (seat_or_first old)
seated_step false true client seat others told found old new rises rest = stays client.1
seated_step false false client seat others told found old new rises rest = rest rises

found_in : (here : Bool) (id : ℕ) (client : ℕ × Seat) (seat : Seat) (others told : List (ℕ × Seat)) →
    client_at (cond here ((client.0, seat) ∷ others) (client ∷ told)) id
    ≡ cond here (cond (client.0 == id) (Some (client.0, seat)) (client_at others id)) (cond (client.0 == id) (Some client) (client_at told id))
found_in true id client seat others told = refl
found_in false id client seat others told = refl

client_rises : (id other : ℕ) (seat : Seat) (clients : List (ℕ × Seat)) → Rises (seat_or_first (client_at clients other)) seat →
    Rises (seat_or_first (client_at clients id)) (seat_or_first (client_at (client_seated other seat clients) id))
client_rises id other seat [] rises = stays first_seat
client_rises id other seat (client ∷ others) rises =
    let told : List (ℕ × Seat) = client_seated other seat others in
    subst (λ found. Rises (seat_or_first (client_at (client ∷ others) id)) (seat_or_first found))
    (sym (found_in (client.0 == other) id client seat others told))
    (seated_step (client.0 == other) (client.0 == id) client seat others told (client_at others other) (client_at others id) (client_at told id)
    rises (client_rises id other seat others))

came_step : (wanted : Bool) (client : ℕ × Seat) (old new : Option (ℕ × Seat)) → Rises (seat_or_first old) (seat_or_first new) →
    Rises (seat_or_first (cond wanted (Some client) old)) (seat_or_first (cond wanted (Some client) new))
came_step true client old new rises = stays client.1
came_step false client old new rises = rises

from_first : (wanted : Bool) (client : ℕ × Seat) → Rises first_seat (seat_or_first (cond wanted (Some client) None))
from_first true client = record { view = omega arith; moment = omega arith }
from_first false client = stays first_seat

client_came : (id : ℕ) (new : ℕ × Seat) (clients : List (ℕ × Seat)) →
    Rises (seat_or_first (client_at clients id)) (seat_or_first (client_at (clients ++ new ∷ []) id))
client_came id new [] = from_first (new.0 == id) new
client_came id new (client ∷ others) =
    came_step (client.0 == id) client (client_at others id) (client_at (others ++ new ∷ []) id) (client_came id new others)

-- ---- of any actor

seated_rises : (actor other : Actor) (seat : Seat) (seats : Seats) → Rises (seat_of other seats) seat →
    Rises (seat_of actor seats) (seat_of actor (seated other seat seats))
seated_rises Conductor other seat seats rises = stays first_seat
seated_rises Sender Conductor seat seats rises = stays seats.sender
seated_rises Sender Sender seat seats rises = rises
seated_rises Sender Receiver seat seats rises = stays seats.sender
seated_rises Sender (Client id) seat seats rises = stays seats.sender
seated_rises Receiver Conductor seat seats rises = stays seats.receiver
seated_rises Receiver Sender seat seats rises = stays seats.receiver
seated_rises Receiver Receiver seat seats rises = rises
seated_rises Receiver (Client id) seat seats rises = stays seats.receiver
seated_rises (Client id) Conductor seat seats rises = stays (seat_or_first (client_at seats.clients id))
seated_rises (Client id) Sender seat seats rises = stays (seat_or_first (client_at seats.clients id))
seated_rises (Client id) Receiver seat seats rises = stays (seat_or_first (client_at seats.clients id))
seated_rises (Client id) (Client other) seat seats rises = client_rises id other seat seats.clients rises

attached_rises : (actor : Actor) (view : ℕ) (r : Response) (seats : Seats) → Rises (seat_of actor seats) (seat_of actor (attached_at view r seats))
attached_rises Conductor view r seats = stays first_seat
attached_rises Sender view (response.Attached id) seats = stays seats.sender
attached_rises Receiver view (response.Attached id) seats = stays seats.receiver
attached_rises (Client id) view (response.Attached other) seats = client_came id (other, record { view = view; moment = 0 }) seats.clients
attached_rises actor view response.Nothing seats = stays (seat_of actor seats)
attached_rises actor view response.Full seats = stays (seat_of actor seats)
attached_rises actor view response.Stopped seats = stays (seat_of actor seats)
attached_rises actor view (response.PolicyInForce epoch) seats = stays (seat_of actor seats)
attached_rises actor view response.PolicyFull seats = stays (seat_of actor seats)
attached_rises actor view (response.Imaged number) seats = stays (seat_of actor seats)
attached_rises actor view (response.Dropped fault) seats = stays (seat_of actor seats)

-- ---- by any step

moment_rises : (moment : ℕ) (step : Step) → Looks (actor_of step) → moment ≤ moment_of (at_moment moment step)
moment_rises moment (steps.Conductor event) looks = absurd looks
moment_rises moment (steps.Packet now local from bytes) looks = omega arith
moment_rises moment (steps.Offer now client registration message) looks = omega arith
moment_rises moment (steps.Poll now client subscription source limit) looks = omega arith
moment_rises moment (steps.Send now source) looks = omega arith
moment_rises moment (steps.Image now source) looks = omega arith
moment_rises moment (steps.List now client) looks = omega arith
moment_rises moment (steps.Value now client number) looks = omega arith

AllRise : RunEnd → Moved → Type 0
AllRise e what = (actor : Actor) → Rises (seat_of actor e.seats) (seat_of actor what.after.seats)

event_rises : (e : RunEnd) (events : List (Event × Inputs)) (actor : Actor) → Rises (seat_of actor e.seats) (seat_of actor (seats_by e events))
event_rises e [] actor = stays (seat_of actor e.seats)
event_rises e (one ∷ more) actor = attached_rises actor (newest_of e.past + 1) _ e.seats

not_behind : (newest : ℕ) (seat : Seat) (k : ℕ) → is_out newest seat k ≡ false → seat.view ≤ k
not_behind newest seat k within = grind (arith, nat_tests, within)

look_rises : (out : Bool) (e : RunEnd) (other : Actor) (k : ℕ) (step : Step) → is_out (newest_of e.past) (seat_of other e.seats) k ≡ out →
    Looks (actor_of step) →
    AllRise e (if out then bad e else looked e other k (at_moment (seat_of other e.seats).moment step))
unfolding AllRise
look_rises true e other k step is looks actor = stays (seat_of actor e.seats)
look_rises false e other k step is looks actor =
    seated_rises actor other (record { view = k; moment = moment_of (at_moment (seat_of other e.seats).moment step) }) e.seats (record {
      view = not_behind (newest_of e.past) (seat_of other e.seats) k is;
      moment = moment_rises (seat_of other e.seats).moment step looks;
    })

all_rise : (e : RunEnd) (other : Actor) (view : Option ℕ) (step : Step) → actor_of step ≡ other → AllRise e (moved_as e other view step)
unfolding AllRise
all_rise e Conductor None step is actor = event_rises e (event_of e.driver step) actor
all_rise e Conductor (Some k) step is actor = stays (seat_of actor e.seats)
all_rise e Sender view step is actor =
    look_rises (is_out (newest_of e.past) (seat_of Sender e.seats) (view_or (newest_of e.past) view)) e Sender (view_or (newest_of e.past) view) step
    refl (rw is tt) actor
all_rise e Receiver view step is actor =
    look_rises (is_out (newest_of e.past) (seat_of Receiver e.seats) (view_or (newest_of e.past) view)) e Receiver (view_or (newest_of e.past) view) step
    refl (rw is tt) actor
all_rise e (Client id) view step is actor =
    look_rises (is_out (newest_of e.past) (seat_of (Client id) e.seats) (view_or (newest_of e.past) view)) e (Client id) (view_or (newest_of e.past) view)
    step refl (rw is tt) actor

pub views_rise : ViewsOnlyRise
unfolding AllRise
views_rise actor e reading answer =
    by_answer (λ a. Rises (seat_of actor e.seats) (seat_of actor (after_by e (moved e reading) a).seats)) (stays (seat_of actor e.seats))
    (λ one other.
    subst (λ (end : RunEnd). Rises (seat_of actor e.seats) (seat_of actor end.seats)) (sym (other.left e (moved e reading)))
    (all_rise e (actor_of reading.step) reading.view reading.step refl actor))
    answer
