-- What the conductor works on, and what it makes of an event. Own rules.
use Rattle.std.specs.Prelude.{◌≡◌, ℕ, Bool, List, [], ◌∷◌, ◌++◌, Some, None}
use Rattle.command_codec.specs.Command.{correlation_of}
use Rattle.command_queue.specs.declared.known.Facts.{Facts}
use Rattle.command_queue.specs.Taken.{Taken}
use Rattle.driver_core.specs.declared.state.entry.Entry.{Entry}
use Rattle.driver_core.specs.declared.state.event.Event.{Event}
use Rattle.driver_core.specs.declared.state.event.Event.TheVariants.{Attach, Command, Reload, Setup, Tick}
use Rattle.driver_core.specs.declared.state.outcome.Response.{Response}
use Rattle.log_arena.specs.Homes.{Home}
use Rattle.media_agents.specs.Acts.{Access, GoesOn, Writes}
use Rattle.media_agents.specs.Answering.{question_in}
use Rattle.media_agents.specs.declared.mail.ClientReply.TheVariants.{NoMemory}
use Rattle.media_agents.specs.Desks.{DeskState, Reports}
use Rattle.media_agents.specs.Asking.{AreSilent}
use Rattle.media_agents.specs.Following.{Follows, IsJoined, Undoes}
use Rattle.media_agents.specs.Journals.{after_entry, stamp_of}
use Rattle.media_agents.specs.Mails.{AcknowledgesEvent, PostsEach, PostsTo, RingState}
use Rattle.media_agents.specs.Turns.{events_in}
use Rattle.policy_core.specs.declared.decision.Decision.{Decision}
use Rattle.published_registry.specs.Histories.{History, IsPlannedOn, Known, registry_of}

-- the history of its registry, the logs, the desk where its owner asks, where it notes what it decides, the pages of the region
-- that have a lease, and the rings of the clients
pub record WorksState (Logs Desk Notes : Type 0) : Type 0 where
  pub history : History
  pub logs : Logs
  pub desk : Desk
  pub notes : Notes
  pub region : List Bool
  pub rings : List RingState

-- what a conductor took out of the queue, what is known of that, and what it works on
pub record Conducting (Logs Desk Notes : Type 0) : Type 0 where
  pub taker : Taken Event
  pub known : Facts Event
  pub works : WorksState Logs Desk Notes

-- what a receipt of the newest entry names
abbrev pub known_of : History → Known
known_of history = record { book = history.book; entries = history.entries }

-- the history with an entry more
abbrev pub with_entry : Entry → History → History
with_entry entry history = record history { entries = history.entries ++ entry ∷ [] }

-- What is answered to an event of which no entry was made, with the receipt of the newest one: to a command that there was no
-- memory for it, with its correlation id; to a question nothing.
abbrev pub Declines : {Desk : Type 0} → (Desk → List (DeskState × DeskState) → Type 0) → Event → Known → Desk × List RingState → Desk × List RingState → Type 0
Declines Told (Attach now principal) receipt old new = Reports Told (question_in (Attach now principal)) None receipt old new
Declines Told (Command now client bytes) receipt old new = (new.0 ≡ old.0) × PostsTo receipt client (NoMemory (correlation_of bytes)) old.1 new.1
Declines Told (Reload now policy) receipt old new = Reports Told (question_in (Reload now policy)) None receipt old new
Declines Told (Tick now) receipt old new = Reports Told (question_in (Tick now)) None receipt old new
Declines Told (Setup now local from setup) receipt old new = Reports Told (question_in (Setup now local from setup)) None receipt old new

module _ {Logs Desk Notes : Type 0} where
  -- the events of the entries, in order
  abbrev pub events_made : WorksState Logs Desk Notes → List Event
  events_made works = events_in works.history.entries

  -- the event was taken out of the queue, and if it is a command it was acknowledged; then it goes on so
  pub record Taking (Goes : WorksState Logs Desk Notes → Event → WorksState Logs Desk Notes → Type 0) (old : WorksState Logs Desk Notes) (event : Event) (new : WorksState Logs Desk Notes) : Type 0 where
    pub rings : List RingState
    pub acknowledges : AcknowledgesEvent event old.rings rings
    pub goes : Goes (record old { rings = rings }) event new

module _ {Logs Desk Notes : Type 0} (LogsDid : Logs → List Access → Type 0) (home : Home) where
  -- An entry was committed, with that response and these decisions, which the receipt names: each pair that comes with it had been
  -- joined, the logs follow it, and its replies went to the rings of their clients, in their order and with that receipt.
  pub record Commits (entry : Entry) (old new : WorksState Logs Desk Notes) (response : Response) (decisions : List Decision) (receipt : Known) : Type 0 where
    pub planned : IsPlannedOn (registry_of old.history) entry
    pub response_is : entry.outcome.response ≡ response
    pub decisions_are : entry.outcome.decisions ≡ decisions
    pub receipt_is : receipt ≡ known_of new.history
    pub new_is : new ≡ record old { history = with_entry entry old.history; logs = new.logs; region = new.region; rings = new.rings }
    pub joined : Logs
    pub joins : GoesOn (IsJoined (registry_of old.history) entry) (LogsDid old.logs) (LogsDid joined)
    pub follows : GoesOn (Follows home (registry_of old.history) (registry_of new.history) entry old.region new.region) (LogsDid joined) (LogsDid new.logs)
    pub mails : PostsEach receipt entry.outcome.replies old.rings new.rings

  -- an entry was made of the event, with those images as silent
  pub record MakesWith (silent : List ℕ) (event : Event) (old new : WorksState Logs Desk Notes) (response : Response) (decisions : List Decision) (receipt : Known) : Type 0 where
    pub entry : Entry
    pub event_is : entry.event ≡ event
    pub silent_is : entry.inputs.silent ≡ silent
    pub commits : Commits entry old new response decisions receipt

  -- Logs were asked which images are silent, and with that an entry was made of the event.
  pub record Makes (event : Event) (old new : WorksState Logs Desk Notes) (response : Response) (decisions : List Decision) (receipt : Known) : Type 0 where
    pub entry : Entry
    pub event_is : entry.event ≡ event
    pub asked : Logs
    pub silent : GoesOn (AreSilent (registry_of old.history) event entry.inputs.silent) (LogsDid old.logs) (LogsDid asked)
    pub commits : Commits entry (record old { logs = asked }) new response decisions receipt

module _ {Logs Desk Notes : Type 0} (LogsDid : Logs → List Access → Type 0) (DeskTold : Desk → List (DeskState × DeskState) → Type 0) (home : Home) where
  -- An entry was made. Once, and after all that was noted before, it was noted what came of it, with the registry of the entry; and
  -- where the event is a question the desk was told its response once, with its receipt.
  pub record Does (Wrote : Notes → List Access → Type 0) (old : WorksState Logs Desk Notes) (event : Event) (new : WorksState Logs Desk Notes) : Type 0 where
    pub made : WorksState Logs Desk Notes
    pub response : Response
    pub decisions : List Decision
    pub receipt : Known
    pub makes : Makes LogsDid home event old made response decisions receipt
    pub notes : GoesOn (Writes (after_entry event response decisions (stamp_of made.history))) (Wrote old.notes) (Wrote new.notes)
    pub reports : Reports DeskTold (question_in event) (Some response) receipt (old.desk, made.rings) (new.desk, new.rings)
    pub new_is : new ≡ record made { desk = new.desk; notes = new.notes; rings = new.rings }

  -- no entry was made of the event, and nothing was noted: the logs are read as before, and that is answered
  pub record Misses (old : WorksState Logs Desk Notes) (event : Event) (new : WorksState Logs Desk Notes) : Type 0 where
    pub undone : GoesOn (Undoes (registry_of old.history) event) (LogsDid old.logs) (LogsDid new.logs)
    pub declines : Declines DeskTold event (known_of old.history) (old.desk, old.rings) (new.desk, new.rings)
    pub new_is : new ≡ record old { logs = new.logs; desk = new.desk; rings = new.rings }
