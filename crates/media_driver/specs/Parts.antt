-- What a driver is made of, and whether a name is that of these parts. Own rules.
use Rattle.std.specs.Prelude.{◌≡◌, ◌++◌, ◌∷◌, ℕ, List, [], All}
use Rattle.command_queue.specs.Sent.{Sent}
use Rattle.driver_core.specs.declared.state.event.Event.{Event}
use Rattle.driver_core.specs.State.{State}
use Rattle.log_arena.specs.Homes.{Home}
use Rattle.logbook.specs.Pages.{Book}
use Rattle.media_agents.specs.declared.eliciting.Elicitation.{Elicitation}
use Rattle.published_registry.specs.Histories.{History}

-- the region of its logs, its ledgers and into how many parts they are cut, its history, and the registry that was opened
pub record PartsState : Type 0 where
  pub home : Home
  pub ledger : ℕ
  pub parts : ℕ
  pub client_ledger : ℕ
  pub client_parts : ℕ
  pub book : Book
  pub opening : State

-- the type names these parts
pub record AreNamed (home : Home) (ledger count client_ledger client_parts : ℕ) (book : Book) (parts : PartsState) : Type 0 where
  pub home_is : parts.home ≡ home
  pub ledger_is : parts.ledger ≡ ledger
  pub parts_are : parts.parts ≡ count
  pub client_ledger_is : parts.client_ledger ≡ client_ledger
  pub client_parts_are : parts.client_parts ≡ client_parts
  pub book_is : parts.book ≡ book

-- the passes are of that history, and nothing was sent by the senders
pub record AreFresh (book : Book) (passes : List History) (senders : List (Sent Event)) : Type 0 where
  pub ours : All (λ pass. pass.book ≡ book) passes
  pub unsent : All (λ sender. sender.sent ≡ []) senders

-- what a driver's owner sees of it: how many clients are out, how many messages those counted that came back, what the driver
-- asked of its conductor, and whom its receiver was handed to elicit
pub record DriverState : Type 0 where
  pub out : ℕ
  pub counted : ℕ
  pub queue : Sent Event
  pub elicited : List Elicitation

-- it asks the conductor this, once
abbrev pub Asks : Event → DriverState → DriverState → Type 0
Asks event old new = new ≡ record old { queue = record old.queue { sent = old.queue.sent ++ event ∷ [] } }
