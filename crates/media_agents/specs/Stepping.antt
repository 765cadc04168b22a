-- Steps that agents take on logs, each in one hold of the lock of its log, by the registry of one look. Own rules.
use Rattle.std.specs.Prelude.{◌≡◌, ◌⊎◌, ℕ, List, [], ◌∷◌, Option, Some, None, Result, Ok, Err}
use Rattle.channel_uri.specs.declared.address.Address.{Address}
use Rattle.driver_core.specs.declared.asked.image_request.Astray.{Astray}
use Rattle.driver_core.specs.declared.asked.image_request.Astray.TheVariants.{NoStream}
use Rattle.driver_core.specs.Renewal.{source_at}
use Rattle.driver_core.specs.State.{State}
use Rattle.log_steps.specs.declared.answer.Answer.TheVariants.{Dropped, Gone, NoMemory}
use Rattle.log_steps.specs.declared.cause.Cause.TheVariants.{Astray as IsAstray}
use Rattle.log_steps.specs.declared.packets.PacketRequest.{PacketRequest}
use Rattle.log_steps.specs.Held.{HeldLog}
use Rattle.log_steps.specs.Moves.{Move, WholeLog, for_source}
use Rattle.log_steps.specs.Packets.{packet_move, packet_request}
use Rattle.log_steps.specs.Reporting.{image_move}
use Rattle.log_steps.specs.Sending.{send_move}
use Rattle.frame_codec.specs.Datagram.{Content}
use Rattle.log_arena.specs.Homes.{Home}
use Rattle.log_slots.specs.Slots.{DecidesHeard, GivesHeard, Hears, Moves, SlotLog, packet_decision}
use Rattle.media_agents.specs.declared.journal.Stamp.{Stamp}
use Rattle.media_agents.specs.declared.slots.LogAt.{LogAt}
use Rattle.media_agents.specs.declared.stepping.Stepped.{Stepped}
use Rattle.media_agents.specs.Acts.{Access, held, lacked, looked}
use Rattle.media_agents.specs.Asking.{IsHold}
use Rattle.media_agents.specs.Finding.{log_at}
use Rattle.media_agents.specs.Journals.{stamp_of}
use Rattle.published_registry.specs.Histories.{History, IsContinuedBy, registry_of}
use Rattle.stream_registry.specs.declared.row.LogRow.{LogRow}

-- ---- a look

-- that showed, or there was none
abbrev pub look_of : Result History History → Access
look_of (Ok look) = looked look
look_of (Err pass) = lacked

-- ---- turns with a log

-- a hold found this log in the slot, which moved so, and that is the answer; nothing is decided of it
pub record Turns (Held : SlotLog → SlotLog → Type 0) (move : WholeLog → Move) (it : Stepped) : Type 0 where
  pub found : SlotLog
  pub new : Option HeldLog
  pub held : Held found (record found { log = new })
  pub moves : Moves move Gone found.log new it.answer
  pub undecided : it.decision ≡ None

-- the sender's turn, by that registry
abbrev pub Sends : (SlotLog → SlotLog → Type 0) → State → ℕ → ℕ → Stepped → Type 0
Sends Held s now source it = Turns Held (for_source source (send_move s now) Gone) it

-- the receiver's
abbrev pub Reports : (SlotLog → SlotLog → Type 0) → State → ℕ → ℕ → Stepped → Type 0
Reports Held s now source it = Turns Held (for_source source (image_move s now) Gone) it

-- the accesses of such a turn: a look, within the hold
abbrev pub IsTurn : History → LogAt → List Access → SlotLog → SlotLog → Type 0
IsTurn look at accesses found left = accesses ≡ looked look ∷ held at found left ∷ []

-- the sender has a turn with that log by a look; or something lacks
abbrev pub SendsBy : ℕ → LogAt → Option Stepped → History → History → List Access → Type 0
SendsBy now at None before after accesses = IsContinuedBy before after × (accesses ≡ lacked ∷ [])
SendsBy now at (Some it) before after accesses =
    IsContinuedBy before after × Sends (IsTurn after at accesses) (registry_of after) now at.source it × (it.stamp ≡ stamp_of after)

-- so has the receiver
abbrev pub ReportsBy : ℕ → LogAt → Option Stepped → History → History → List Access → Type 0
ReportsBy now at None before after accesses = IsContinuedBy before after × (accesses ≡ lacked ∷ [])
ReportsBy now at (Some it) before after accesses =
    IsContinuedBy before after × Reports (IsTurn after at accesses) (registry_of after) now at.source it × (it.stamp ≡ stamp_of after)

-- ---- a datagram

-- one that is for no log, or from a stranger
abbrev pub stray : Astray → Stamp → Stepped
stray why stamp = record { answer = Dropped (IsAstray why); decision = None; stamp = stamp }

-- it came to the log that a hold found in the slot, as a registry asked of it
pub record Comes (Held : SlotLog → SlotLog → Type 0) (now : ℕ) (from : Address) (content : Content) (request : PacketRequest) (it : Stepped) : Type 0 where
  pub found : SlotLog
  pub new : Option HeldLog
  pub held : Held found (record found { log = new })
  pub hears : Hears content (packet_move now from request content) found new it.answer
  pub decides : DecidesHeard content (packet_decision request) found it.decision

-- there was no memory for what the log gives, and nothing was changed
pub record Lacks (Held : SlotLog → SlotLog → Type 0) (now : ℕ) (from : Address) (content : Content) (request : PacketRequest) (it : Stepped) : Type 0 where
  pub found : SlotLog
  pub held : Held found found
  pub gives : GivesHeard content (packet_move now from request content) found
  pub answer_is : it.answer ≡ NoMemory
  pub undecided : it.decision ≡ None

abbrev pub TakesBy : (SlotLog → SlotLog → Type 0) → ℕ → Address → Content → PacketRequest → Stamp → Stepped → Type 0
TakesBy Held now from content request stamp it =
    (it.stamp ≡ stamp) × (Comes Held now from content request it ⊎ Lacks Held now from content request it)

abbrev pub HearsBy : (SlotLog → SlotLog → Type 0) → Type 0 → ℕ → Address → Content → Result PacketRequest Astray → Stamp → Stepped → Type 0
HearsBy Held Strays now from content (Err why) stamp it = (it ≡ stray why stamp) × Strays
HearsBy Held Strays now from content (Ok request) stamp it = TakesBy Held now from content request stamp it

-- where the log is that a registry asks for
abbrev pub place_in : Option LogRow → Result LogAt Astray
place_in None = Err NoStream
place_in (Some row) = Ok (log_at row)

abbrev pub place_of : State → Result PacketRequest Astray → Result LogAt Astray
place_of s (Err why) = Err why
place_of s (Ok request) = place_in (source_at s.streams.sources request.source)

abbrev pub place_for : State → Address → Address → Content → Result LogAt Astray
place_for s local from content = place_of s (packet_request s local from content)

-- it is there; or it is nowhere, and that is what comes of it
abbrev pub Finds : Result LogAt Astray → Stamp → Result LogAt Stepped → Type 0
Finds place stamp (Ok at) = place ≡ Ok at
Finds place stamp (Err it) = (why : Astray) × (place ≡ Err why) × (it ≡ stray why stamp)

-- the accesses of a datagram that comes to a log: a look, and a second one within the hold
abbrev pub IsComing : History → History → LogAt → List Access → SlotLog → SlotLog → Type 0
IsComing look later at accesses found left = accesses ≡ looked look ∷ looked later ∷ held at found left ∷ []

-- it came to the slot there, as the registry of a later look asked of it
abbrev pub HearsAt : Result LogAt Astray → History → History → ℕ → Address → Address → Content → Stepped → List Access → Type 0
HearsAt (Err why) look after now local from content it accesses = (it ≡ stray why (stamp_of look)) × (accesses ≡ looked look ∷ [])
HearsAt (Ok at) look after now local from content it accesses =
    HearsBy (IsComing look after at accesses) (accesses ≡ looked look ∷ looked after ∷ []) now from content
    (packet_request (registry_of after) local from content) (stamp_of after) it

-- where the log is says a first look; and by a second one, which is none before it, the datagram came to it
pub record Hearing (before after : History) (now : ℕ) (local from : Address) (content : Content) (it : Stepped) (accesses : List Access) : Type 0 where
  pub look : History
  pub later : IsContinuedBy before look
  pub earlier : IsContinuedBy look after
  pub hears : HearsAt (place_for (registry_of look) local from content) look after now local from content it accesses

-- no look was to be had, or no second one, or there is no such slot
pub data Misses (before after : History) (accesses : List Access) : Type 0 where
  unseen : accesses ≡ lacked ∷ [] → Misses before after accesses
  seen : (look : History) → IsContinuedBy before look → IsContinuedBy look after → accesses ≡ looked look ∷ lacked ∷ [] → Misses before after accesses

-- the datagram came to its log, or something lacked
abbrev pub HearsIf : ℕ → Address → Address → Content → Option Stepped → History → History → List Access → Type 0
HearsIf now local from content None before after accesses = IsContinuedBy before after × Misses before after accesses
HearsIf now local from content (Some it) before after accesses = IsContinuedBy before after × Hearing before after now local from content it accesses

-- ---- in a driver

-- what a hold found and left is what a slot's lock guards
abbrev pub IsOf : Home → Access → Type 0
IsOf home (held at found left) = IsHold home found left
IsOf home access = Unit {0}
