-- Which entry a reply is of, and what a ring takes. Own rules.
use Rattle.std.specs.Prelude.{◌≡◌, ◌≢◌, ◌≤◌, ℕ, ◌+◌, ◌-◌, ◌^◌, ◌⊎◌, List, [], ◌∷◌, ◌++◌, All, Contains, Option, Some, None, min, slice_get, slice_set}
use Rattle.driver_core.specs.declared.state.entry.Entry.{Entry}
use Rattle.driver_core.specs.declared.state.event.Event.{Event}
use Rattle.driver_core.specs.declared.state.event.Event.TheVariants.{Attach, Command, Reload, Setup, Tick}
use Rattle.driver_core.specs.declared.state.replies.Message.{Message}
use Rattle.media_agents.specs.declared.mail.ClientReply.{ClientReply}
use Rattle.media_agents.specs.declared.mail.ClientReply.TheVariants.{Of, NoMemory}
use Rattle.media_agents.specs.Sharing.{Acknowledges, Acknowledging}
use Rattle.published_registry.specs.Histories.{Known}

-- the last of these entries holds the message
pub record Tells (entries : List Entry) (message : Message) : Type 0 where
  pub before : List Entry
  pub entry : Entry
  pub last : entries ≡ before ++ entry ∷ []
  pub told : Contains entry.outcome.replies message

-- the last of these entries holds just these messages
pub record TellsAll (entries : List Entry) (messages : List Message) : Type 0 where
  pub before : List Entry
  pub entry : Entry
  pub last : entries ≡ before ++ entry ∷ []
  pub told : entry.outcome.replies ≡ messages

-- the receipt's entry holds the reply to that client; nothing is held of a command that found no memory
abbrev pub IsReplyOf : Known → ℕ → ClientReply → Type 0
IsReplyOf receipt client (Of reply) = Tells receipt.entries (record { client = client; reply = reply })
IsReplyOf receipt client (NoMemory correlation) = Unit {0}

-- a reply to a client, how many were dropped before it, and the receipt of the entry that holds it
pub record Posted : Type 0 where
  pub client : ℕ
  pub lost : ℕ
  pub receipt : Known
  pub reply : ClientReply

-- the client of a ring, how many of its replies were dropped, what was put into the ring, how many of its places are known to be
-- free, and by what its commands are acknowledged
pub record RingState : Type 0 where
  pub client : ℕ
  pub lost : ℕ
  pub sent : List Posted
  pub free : ℕ
  pub share : Acknowledging

-- The reply goes into the ring, with how many were dropped before it: it takes one place, and others may be found free. Only where
-- none was known to be free the ring may be full, and one more is dropped.
abbrev pub Posts : Known → ClientReply → RingState → RingState → Type 0
Posts receipt reply old new =
    ((new ≡ record old { sent = old.sent ++ record { client = old.client; lost = old.lost; receipt = receipt; reply = reply } ∷ []; free = new.free })
    × (old.free ≤ new.free + 1))
    ⊎ ((old.free ≡ 0) × (new ≡ record old { lost = min (old.lost + 1) (2 ^ 64 - 1) }))

-- one command of the ring's client is acknowledged
pub record AcknowledgesOne (old new : RingState) : Type 0 where
  pub acknowledges : Acknowledges old.share new.share
  pub new_is : new ≡ record old { share = new.share }

-- ---- the rings of all clients, by their numbers

abbrev pub assigned_in : Option RingState → ℕ → ℕ → List RingState → List RingState
assigned_in None place client rings = rings
assigned_in (Some ring) place client rings = slice_set rings place (record ring { client = client; lost = 0 })

-- the ring of that number, if there is one, is that client's, of whose replies none was dropped
abbrev pub assigned : ℕ → ℕ → List RingState → List RingState
assigned place client rings = assigned_in (slice_get rings place) place client rings

-- one ring of that client goes on so, and no other does
pub record GoesAt (client : ℕ) (Goes : RingState → RingState → Type 0) (old new : List RingState) : Type 0 where
  pub place : ℕ
  pub ring : RingState
  pub left : RingState
  pub found : slice_get old place ≡ Some ring
  pub own : ring.client ≡ client
  pub goes : Goes ring left
  pub new_is : new ≡ slice_set old place left

-- so it does, unless no ring is that client's
abbrev pub RingGoes : ℕ → (RingState → RingState → Type 0) → List RingState → List RingState → Type 0
RingGoes client Goes old new =
    GoesAt client Goes old new ⊎ (All (λ (ring : RingState). ring.client ≢ client) old × (new ≡ old))

-- the reply goes into the ring of that client
abbrev pub PostsTo : Known → ℕ → ClientReply → List RingState → List RingState → Type 0
PostsTo receipt client reply old new = RingGoes client (Posts receipt reply) old new

-- a command was taken out of the queue, and it is acknowledged by the ring of its client; other events are not
abbrev pub AcknowledgesEvent : Event → List RingState → List RingState → Type 0
AcknowledgesEvent (Attach now principal) old new = new ≡ old
AcknowledgesEvent (Command now client bytes) old new = RingGoes client AcknowledgesOne old new
AcknowledgesEvent (Reload now policy) old new = new ≡ old
AcknowledgesEvent (Tick now) old new = new ≡ old
AcknowledgesEvent (Setup now local from setup) old new = new ≡ old

-- so do all these replies of an entry, each once and in their order
abbrev pub PostsEach : Known → List Message → List RingState → List RingState → Type 0
PostsEach receipt [] old new = new ≡ old
PostsEach receipt (message ∷ messages) old new =
    (next : List RingState) × PostsTo receipt message.client (Of message.reply) old next × PostsEach receipt messages next new
