-- What contracts see of the agents of the wire, and what their turns do. Own rules.
use Rattle.std.specs.Prelude.{◌≡◌, ◌++◌, ◌∷◌, ◌⊎◌, ℕ, List, [], map}
use Rattle.channel_uri.specs.declared.address.Address.{Address}
use Rattle.command_queue.specs.Sent.{Sent}
use Rattle.driver_core.specs.declared.state.event.Event.{Event}
use Rattle.driver_core.specs.State.{State}
use Rattle.media_agents.specs.Acts.{Access, Act, Chain, GoesOn, lacked, looked, shared}
use Rattle.media_agents.specs.declared.gate.Turn.{Turn}
use Rattle.media_agents.specs.declared.listing.ImageAt.{ImageAt}
use Rattle.media_agents.specs.declared.slots.LogAt.{LogAt}
use Rattle.media_agents.specs.Eliciting.{Eliciting, Elicits}
use Rattle.media_agents.specs.Finding.{AreControls, AreEndpoints, images_of, publications_of}
use Rattle.media_agents.specs.SetUps.{SettingUp}
use Rattle.media_agents.specs.Traffic.{HearsOut, ReceiverTakes, ReportsOne, SenderTakes, SendsRun}
use Rattle.published_registry.specs.Histories.{History, IsContinuedBy, registry_of}

-- the sender: its steps on the logs and the journal, from where it sends, the registries up to the last that it looked at or learned of, the greatest
-- moment of its turns, and its next turn
pub record Sending (S : Type 0) : Type 0 where
  pub steps : S
  pub local : Address
  pub known : History
  pub moment : ℕ
  pub turn : Turn

-- the receiver: its steps on the logs and the journal, the registries that it knows of, its moment, its next turn, what it pushed into the queue of
-- events, and whom it is to elicit
pub record Receiving (S : Type 0) : Type 0 where
  pub steps : S
  pub known : History
  pub moment : ℕ
  pub turn : Turn
  pub queue : Sent Event
  pub eliciting : Eliciting

-- what it may push in a turn, before the first
abbrev pub fresh_set_ups : Sent Event → SettingUp
fresh_set_ups queue = record { queue = queue; left = 64 }

module _ {X : Type 0} where
  -- those are that by the registry of a look; there are none where there was no look
  abbrev pub Lists : (State → List X → Type 0) → History → History → List X → List Access → Type 0
  Lists Are before after listed accesses =
      IsContinuedBy before after
      × ((Are (registry_of after) listed × (accesses ≡ looked after ∷ [])) ⊎ ((listed ≡ []) × (accesses ≡ lacked ∷ [])))

-- All that came to the address from which the sender sends is taken; then, by a look, what came to each address where publications
-- take datagrams; then, by another, each publication over datagrams has its turns. No look is before an earlier one.
pub record Sends (now : ℕ) (local : Address) (before after : History) (acts : List Act) : Type 0 where
  pub own : History
  pub own_acts : List Act
  pub hears : HearsOut (SenderTakes now local) local before own own_acts
  pub look : History
  pub looks : List Access
  pub controls : List Address
  pub named : Lists AreControls own look controls looks
  pub others : History
  pub other_acts : List Act
  pub hears_each : Chain (HearsOut (SenderTakes now local)) controls look others other_acts
  pub second : History
  pub looks_again : List Access
  pub logs : List LogAt
  pub listed : Lists (λ s logs. logs ≡ publications_of s) others second logs looks_again
  pub sent_acts : List Act
  pub sends : Chain (SendsRun now local) logs second after sent_acts
  pub order : acts ≡ own_acts ++ (map shared looks ++ (other_acts ++ (map shared looks_again ++ sent_acts)))

-- By a look, all that came to each address where subscriptions take datagrams is taken; then, by another, each image has a turn;
-- and then datagrams go out for those that are due to be elicited by a third.
pub record Receives (now : ℕ) (before after : History) (queue set_ups : SettingUp) (old new : Eliciting) (acts : List Act) : Type 0 where
  pub look : History
  pub looks : List Access
  pub endpoints : List Address
  pub named : Lists AreEndpoints before look endpoints looks
  pub heard : History
  pub heard_acts : List Act
  pub hears_each : Chain (HearsOut (ReceiverTakes now)) endpoints (look, queue) (heard, set_ups) heard_acts
  pub second : History
  pub looks_again : List Access
  pub images : List ImageAt
  pub listed : Lists (λ s images. images ≡ images_of s) heard second images looks_again
  pub reported : History
  pub report_acts : List Act
  pub reports : Chain (ReportsOne now) images second reported report_acts
  pub elicit_acts : List Act
  pub elicits : Elicits now reported after old new elicit_acts
  pub order : acts ≡ map shared looks ++ (heard_acts ++ (map shared looks_again ++ (report_acts ++ elicit_acts)))

-- a turn of the receiver at its moment: at first it may push 64 SETUPs
pub record ReceivesBy {S : Type 0} (before after : Receiving S) (old new : List Act → Type 0) : Type 0 where
  pub left : ℕ
  pub receives : GoesOn (Receives after.moment before.known after.known (fresh_set_ups before.queue) (record { queue = after.queue; left = left }) before.eliciting after.eliciting) old new
