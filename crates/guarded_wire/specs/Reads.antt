-- What is left of the calls of a wire once a guard dropped some of what it read. Own rules.
use Rattle.std.specs.Prelude.{◌≡◌, ◌≤◌, ℕ, ◌+◌, ◌==◌, true, if◌then◌else◌, List, [], ◌∷◌, ◌++◌, Option, Some, None}
use Rattle.channel_uri.specs.declared.address.Address.{Address}
use Rattle.media_wire.specs.Events.{Event, sent, read, nothing, failed, failures}
use Rattle.media_wire.specs.declared.letter.Letter.{Letter}
use Rattle.guarded_wire.specs.Guards.{Rules, Watch, spent_of}
use Rattle.guarded_wire.specs.Kinds.{asks_too_much, is_ask, kind_of}
use Rattle.guarded_wire.specs.Origins.{place_of}
use Rattle.guarded_wire.specs.declared.origin.Origin.{Origin}

abbrev pub once_at : ℕ → Option ℕ → ℕ
once_at place None = 0
once_at place (Some other) = if other == place then 1 else 0

-- how many NAKs and status messages were given of those who are bound at a place
abbrev pub asked : List Origin → ℕ → List Event → ℕ
asked origins place [] = 0
asked origins place (sent it ∷ events) = asked origins place events
asked origins place (read it ∷ events) =
    (if is_ask (kind_of it.bytes) then once_at place (place_of it.from origins) else 0) + asked origins place events
asked origins place (nothing address ∷ events) = asked origins place events
asked origins place (failed ∷ events) = asked origins place events

-- a datagram may be dropped, after these events: nobody bound its address; or it is a NAK for too much; or it is a NAK or a status
-- message, and as many as may be in a time were given of its address
pub data MayDrop (rules : Rules) (events : List Event) (it : Letter) : Type 0 where
  stranger : rules.drops ≡ true → place_of it.from rules.origins ≡ None → MayDrop rules events it
  too_much : rules.drops ≡ true → asks_too_much rules.window (kind_of it.bytes) it.bytes ≡ true → MayDrop rules events it
  too_often : rules.drops ≡ true → (place : ℕ) → place_of it.from rules.origins ≡ Some place → is_ask (kind_of it.bytes) ≡ true →
      rules.budget ≤ asked rules.origins place events → MayDrop rules events it

-- the calls of a wire, what is left of them, and how many reads were dropped since the last one that was not. After 1024 of these
-- it is as if nothing was there
pub data LeavesOut (rules : Rules) : ℕ → List Event → List Event → Type 0 where
  all : (events : List Event) → LeavesOut rules 0 events events
  gives : (lost : ℕ) → (own events : List Event) → (event : Event) → LeavesOut rules lost own events →
      LeavesOut rules 0 (own ++ event ∷ []) (events ++ event ∷ [])
  drops : (lost : ℕ) → (own events : List Event) → (it : Letter) → LeavesOut rules lost own events → MayDrop rules events it →
      LeavesOut rules (lost + 1) (own ++ read it ∷ []) events
  tires : (own events : List Event) → (local : Address) → LeavesOut rules 1024 own events →
      LeavesOut rules 0 own (events ++ nothing local ∷ [])

-- these are the calls: those of the wire within, without what was dropped, of which none failed. No place spent more than was given
pub record IsGuarded {W : Type 0} (went : W → List Event → Type 0) (wire : W) (watch : Watch) (lost : ℕ) (events : List Event) : Type 0 where
  pub own : List Event
  pub wires : went wire own
  pub left : LeavesOut watch.rules lost own events
  pub same : failures own ≡ failures events
  pub spent : (place : ℕ) → (spent_of watch place).asked ≤ asked watch.rules.origins place events
