-- Which registry an actor looks at, and at which moment. The registries of a run are counted by the events that it took: the
-- opened one is 0. Own rules.
use Rattle.std.specs.Prelude.{ℕ, ◌==◌, nat_lt, ◌||◌, Bool, List, [], ◌∷◌, ◌++◌, length, max, take, find, position, Option, Some, None, Result, Ok, if◌then◌else◌}
use Rattle.driver_core.specs.declared.state.event.Event.{Event}
use Rattle.driver_core.specs.declared.state.event.Inputs.{Inputs}
use Rattle.driver_core.specs.declared.state.outcome.Response.{Response}
use Rattle.driver_core.specs.declared.state.outcome.Response.TheVariants.{Attached}
use Rattle.driver_core.specs.Conduct.{state_of}
use Rattle.driver_core.specs.State.{State}
use Rattle.driver_steps.specs.declared.step.Step.{Step}
use Rattle.driver_steps.specs.declared.step.Step.TheVariants as steps
use Rattle.driver_world.specs.declared.actor.Actor.{Actor}
use Rattle.driver_world.specs.declared.seats.Seat.{Seat}
use Rattle.driver_world.specs.declared.actor.Actor.TheVariants.{Conductor, Sender, Receiver, Client}
use Rattle.frame_codec.specs.declared.fault.BadPacket.{BadPacket}
use Rattle.frame_codec.specs.Datagram.{Content, nak, setup, status, packet_of}

-- ---- the registries of a run

-- the opened one, and the events that were taken, each with what the logs said at it
pub record Past : Type 0 where
  pub opened : State
  pub taken : List (Event × Inputs)

-- the number of the newest
abbrev pub newest_of : Past → ℕ
newest_of past = length past.taken

-- the registry of that number, which is at most the newest's
abbrev pub registry_at : Past → ℕ → State
registry_at past k = state_of past.opened (take k past.taken)

-- ---- whose step it is

-- of a datagram: a SETUP is the conductor's; NAKs and status messages are the sender's; the receiver's are data, and what can't
-- be read
abbrev pub reader_of : Result Content BadPacket → Actor
reader_of (Ok (setup fields)) = Conductor
reader_of (Ok (nak fields)) = Sender
reader_of (Ok (status fields)) = Sender
reader_of read = Receiver

abbrev pub actor_of : Step → Actor
actor_of (steps.Conductor event) = Conductor
actor_of (steps.Packet now local from bytes) = reader_of (packet_of bytes)
actor_of (steps.Offer now client registration message) = Client client
actor_of (steps.Poll now client subscription source limit) = Client client
actor_of (steps.Send now source) = Sender
actor_of (steps.Image now source) = Receiver
actor_of (steps.List now client) = Client client
actor_of (steps.Value now client number) = Client client

-- an act: neither an event nor a datagram
abbrev pub IsAct : Step → Type 0
IsAct (steps.Conductor event) = ⊥
IsAct (steps.Packet now local from bytes) = ⊥
IsAct step = Unit {0}

-- one who looks at registries: the conductor makes them, and goes by the newest
abbrev pub Looks : Actor → Type 0
Looks Conductor = ⊥
Looks actor = Unit {0}

-- ---- where an actor stands

-- of the sender, the receiver, and of each client that ever attached, by its id
pub record Seats : Type 0 where
  pub sender : Seat
  pub receiver : Seat
  pub clients : List (ℕ × Seat)

abbrev pub first_seat : Seat
first_seat = record { view = 0; moment = 0 }

abbrev pub no_seats : Seats
no_seats = record { sender = first_seat; receiver = first_seat; clients = [] }

abbrev pub seat_or_first : Option (ℕ × Seat) → Seat
seat_or_first None = first_seat
seat_or_first (Some client) = client.1

-- a client that no attach named stands at the opening; the conductor has no seat, and goes by the newest registry
abbrev pub seat_of : Actor → Seats → Seat
seat_of Conductor seats = first_seat
seat_of Sender seats = seats.sender
seat_of Receiver seats = seats.receiver
seat_of (Client id) seats = seat_or_first (find (λ client. client.0 == id) seats.clients)

abbrev pub client_seated : ℕ → Seat → List (ℕ × Seat) → List (ℕ × Seat)
client_seated id seat [] = []
client_seated id seat (client ∷ others) =
    if client.0 == id then (client.0, seat) ∷ others else client ∷ client_seated id seat others

-- it stands there now; a client that no attach named stands where it stood
abbrev pub seated : Actor → Seat → Seats → Seats
seated Conductor seat seats = seats
seated Sender seat seats = record seats { sender = seat }
seated Receiver seat seats = record seats { receiver = seat }
seated (Client id) seat seats = record seats { clients = client_seated id seat seats.clients }

-- a client looks first at the registry that attached it
abbrev pub attached_at : ℕ → Response → Seats → Seats
attached_at view (Attached id) seats =
    record seats { clients = seats.clients ++ (id, record { view = view; moment = 0 }) ∷ [] }
attached_at view response seats = seats

-- ---- the moment of a step

-- none is earlier for its actor than one before
abbrev pub at_moment : ℕ → Step → Step
at_moment moment (steps.Conductor event) = steps.Conductor event
at_moment moment (steps.Packet now local from bytes) = steps.Packet (max now moment) local from bytes
at_moment moment (steps.Offer now client registration message) = steps.Offer (max now moment) client registration message
at_moment moment (steps.Poll now client subscription source limit) = steps.Poll (max now moment) client subscription source limit
at_moment moment (steps.Send now source) = steps.Send (max now moment) source
at_moment moment (steps.Image now source) = steps.Image (max now moment) source
at_moment moment (steps.List now client) = steps.List (max now moment) client
at_moment moment (steps.Value now client number) = steps.Value (max now moment) client number

abbrev pub moment_of : Step → ℕ
moment_of (steps.Conductor event) = 0
moment_of (steps.Packet now local from bytes) = now
moment_of (steps.Offer now client registration message) = now
moment_of (steps.Poll now client subscription source limit) = now
moment_of (steps.Send now source) = now
moment_of (steps.Image now source) = now
moment_of (steps.List now client) = now
moment_of (steps.Value now client number) = now

-- ---- the registry that a step names

-- that number, or the newest
abbrev pub view_or : ℕ → Option ℕ → ℕ
view_or newest None = newest
view_or newest (Some k) = k

-- none is before the one that its actor looked at last, or past the newest
abbrev pub is_out : ℕ → Seat → ℕ → Bool
is_out newest seat k = nat_lt k seat.view || nat_lt newest k

-- what it is to the driver: none is named, where it is the newest
abbrev pub older_at : Past → ℕ → Option State
older_at past k = if k == newest_of past then None else Some (registry_at past k)

-- ---- what is held

pub record HeldSeats : Type 0 where
  pub seats : Seats
  pub room : ℕ

pub record HeldPast : Type 0 where
  pub past : Past
  pub room : ℕ

-- where the first client of that id is in the list
abbrev pub seat_place : List (ℕ × Seat) → ℕ → Option ℕ
seat_place clients id = position (λ client. client.0 == id) clients
