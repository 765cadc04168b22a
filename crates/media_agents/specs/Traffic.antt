-- What an agent's turn does, act by act, and what comes of each. Own rules.
use Rattle.std.specs.Prelude.{◌≡◌, ℕ, ◌<◌, ◌⊎◌, Bool, true, false, List, [], ◌∷◌, ◌++◌, Option, Some, None, Result, Ok, Err, All, filter, length, map, take}
use Rattle.channel_uri.specs.declared.address.Address.{Address}
use Rattle.driver_core.specs.declared.state.event.Event.TheVariants.{Setup as SetUp}
use Rattle.driver_core.specs.declared.asked.send_request.Outlet.{Outlet}
use Rattle.log_steps.specs.declared.answer.Answer.{Answer}
use Rattle.log_steps.specs.declared.answer.Answer.TheVariants.{Reported, Resent, Sent as Cut}
use Rattle.drop_tallies.specs.declared.miss.Miss.{Miss}
use Rattle.drop_tallies.specs.declared.miss.Miss.TheVariants.{QueueFull, Unheard, Unread, Unsent}
use Rattle.frame_codec.specs.declared.fault.BadPacket.{BadPacket}
use Rattle.frame_codec.specs.Datagram.{Content, beat, frames, nak, packet_of, setup, status}
use Rattle.media_agents.specs.Acts.{Access, Act, Alone, Chain, Then, Writes, called, kept, shared}
use Rattle.media_agents.specs.declared.journal.Journal.{Journal}
use Rattle.media_agents.specs.declared.listing.ImageAt.{ImageAt}
use Rattle.media_agents.specs.declared.slots.LogAt.{LogAt}
use Rattle.media_agents.specs.declared.stepping.Stepped.{Stepped}
use Rattle.media_agents.specs.Journals.{after_miss, after_nak, after_packet, after_sending, after_turn}
use Rattle.media_agents.specs.SetUps.{Goes, IsLost, SettingUp}
use Rattle.media_agents.specs.Stepping.{HearsIf, ReportsBy, SendsBy}
use Rattle.media_wire.specs.Events.{failed, nothing, read, sent}
use Rattle.media_wire.specs.Letters.{letter}
use Rattle.media_wire.specs.declared.letter.Letter.{Letter}
use Rattle.published_registry.specs.Histories.{History}

-- a call of the wire failed, and it was counted so
abbrev pub Fails : Miss → Address → List Act → Type 0
Fails miss address acts =
    (journal : Journal) × (acts ≡ called failed ∷ shared (kept journal (after_miss miss address journal)) ∷ [])

-- ---- what is sent

-- the policy lets the datagram go there
abbrev pub is_allowed : Outlet → Bool
is_allowed outlet = outlet.decision.verdict.allow

-- a datagram goes to each destination that it may go to, in their order
abbrev pub letters_out : Address → List ℕ → List Outlet → List Letter
letters_out local bytes outlets = map (λ outlet. letter local outlet.to bytes) (filter is_allowed outlets)

-- datagrams go to one address, in their order
abbrev pub letters_to : Address → Address → List (List ℕ) → List Letter
letters_to local to datagrams = map (letter local to) datagrams

-- the datagrams of a step's answer, in their order: one that the sender cut, to each destination that it may
-- go to; what is sent again, to who asks; and what the receiver reports, to the publisher
abbrev pub letters_of : Address → Answer → List Letter
letters_of local (Cut bytes outlets) = letters_out local bytes outlets
letters_of local (Resent to datagrams) = letters_to local to datagrams
letters_of local (Reported to datagrams) = letters_to local to datagrams
letters_of local answer = []

-- that datagram was sent, or the call failed, and that was counted
abbrev pub IsTried : Letter → List Act → Type 0
IsTried it acts = (acts ≡ called (sent it) ∷ []) ⊎ Fails Unsent it.to acts

-- so were these, each once and in their order
abbrev pub AreTried : List Letter → List Act → Type 0
AreTried [] acts = acts ≡ []
AreTried (it ∷ letters) acts = Then (IsTried it) (AreTried letters) acts

-- ---- what is read

-- one read at that address, with those bytes in the buffer then: a datagram came, so long and from there; or none was there, or
-- the read failed, and that was counted
abbrev pub IsReading : Address → Option (ℕ × Address) → List ℕ → List Act → Type 0
IsReading at None bytes acts = (acts ≡ called (nothing at) ∷ []) ⊎ Fails Unheard at acts
IsReading at (Some datagram) bytes acts = acts ≡ called (read (letter datagram.1 at (take datagram.0 bytes))) ∷ []

-- reading ended after so many datagrams: 1,024 are as many as a turn reads there; else none was there any more, or a read failed
abbrev pub Ends : Address → ℕ → List Act → Type 0
Ends at count acts = ((count ≡ 1024) × (acts ≡ [])) ⊎ ((count < 1024) × IsReading at None [] acts)

module _ {S : Type 0} where
  -- all datagrams that came there were read, as far as a turn reads, and of each came that
  pub record HearsOut (Takes : Letter → S → S → List Act → Type 0) (at : Address) (before after : S) (acts : List Act) : Type 0 where
    pub letters : List Letter
    pub heard : List Act
    pub last : List Act
    pub order : acts ≡ heard ++ last
    pub came : All (λ (it : Letter). it.to ≡ at) letters
    pub takes : Chain Takes letters before after heard
    pub ends : Ends at (length letters) last

-- a datagram was cut
abbrev pub is_cut : Answer → Bool
is_cut (Cut bytes outlets) = true
is_cut answer = false

abbrev pub was_due : Option Stepped → Bool
was_due None = false
was_due (Some it) = is_cut it.answer

-- ---- what comes of a datagram

-- what came of it is noted, and then it is sent from that address
abbrev pub Answered : Address → Address → Option Stepped → List Act → Type 0
Answered local from None acts = acts ≡ []
Answered local from (Some it) acts = Then (Alone (Writes (after_packet from it))) (AreTried (letters_of local it.answer)) acts

-- it comes to its log, unless something lacks
abbrev pub Answers : ℕ → Address → Address → Address → Content → Option Stepped → History → History → List Act → Type 0
Answers now local at from content it before after acts =
    Then (Alone (HearsIf now at from content it before after)) (Answered local from it) acts

-- a NAK or a status message comes to its publication; any other datagram is lost, and counts where its bytes are none
abbrev pub SenderHears : ℕ → Address → Address → Address → Result Content BadPacket → History → History → List Act → Type 0
SenderHears now local at from (Ok (nak fields)) before after acts =
    (it : Option Stepped) × Then (Alone (Writes after_nak)) (Answers now local at from (nak fields) it before after) acts
SenderHears now local at from (Ok (status fields)) before after acts =
    (it : Option Stepped) × Answers now local at from (status fields) it before after acts
SenderHears now local at from (Ok content) before after acts = (after ≡ before) × (acts ≡ [])
SenderHears now local at from (Err fault) before after acts = (after ≡ before) × Alone (Writes (after_miss Unread from)) acts

abbrev pub SenderTakes : ℕ → Address → Letter → History → History → List Act → Type 0
SenderTakes now local it before after acts =
    Then (λ acts. acts ≡ called (read it) ∷ []) (SenderHears now local it.to it.from (packet_of it.bytes) before after) acts

-- what came of it is noted
abbrev pub Noted : Address → Option Stepped → List Access → Type 0
Noted from None accesses = accesses ≡ []
Noted from (Some it) accesses = Writes (after_packet from it) accesses

-- data or a heartbeat comes to its image, and nothing is sent
abbrev pub Takes : ℕ → Address → Address → Content → History → History → List Access → Type 0
Takes now at from content before after accesses =
    (it : Option Stepped) × Then (HearsIf now at from content it before after) (Noted from it) accesses

-- a SETUP goes to the conductor, or is lost, and then it counts
abbrev pub SetsUpOrCounts : ℕ → Address → Address → Content → SettingUp → SettingUp → List Access → Type 0
SetsUpOrCounts now at from (setup fields) old new accesses =
    (Goes (SetUp now at from fields) old new × (accesses ≡ [])) ⊎ (IsLost old new × Writes (after_miss QueueFull from) accesses)
SetsUpOrCounts now at from content old new accesses = (new ≡ old) × (accesses ≡ [])

-- any other datagram is lost, and counts where its bytes are none
abbrev pub ReceiverHears : ℕ → Address → Address → Result Content BadPacket → History × SettingUp → History × SettingUp → List Access → Type 0
ReceiverHears now at from (Ok (frames all)) before after accesses =
    Takes now at from (frames all) before.0 after.0 accesses × (after.1 ≡ before.1)
ReceiverHears now at from (Ok (beat header)) before after accesses =
    Takes now at from (beat header) before.0 after.0 accesses × (after.1 ≡ before.1)
ReceiverHears now at from (Ok content) before after accesses = (after.0 ≡ before.0) × SetsUpOrCounts now at from content before.1 after.1 accesses
ReceiverHears now at from (Err fault) before after accesses =
    Writes (after_miss Unread from) accesses × (after.0 ≡ before.0) × (after.1 ≡ before.1)

abbrev pub ReceiverTakes : ℕ → Letter → History × SettingUp → History × SettingUp → List Act → Type 0
ReceiverTakes now it before after acts =
    Then (λ acts. acts ≡ called (read it) ∷ []) (Alone (ReceiverHears now it.to it.from (packet_of it.bytes) before after)) acts

-- ---- turns with logs

-- what was due is noted, and then it went from there
abbrev pub Sent : Address → Option Stepped → List Act → Type 0
Sent local None acts = acts ≡ []
Sent local (Some it) acts = Then (Alone (Writes (after_sending it))) (AreTried (letters_of local it.answer)) acts

-- the sender had a turn with that log by a look, unless something lacks
abbrev pub SendsOne : ℕ → Address → LogAt → Option Stepped → History → History → List Act → Type 0
SendsOne now local at it before after acts = Then (Alone (SendsBy now at it before after)) (Sent local it) acts

-- Turns one after another, of which each but the last had something due. Nothing was due in the last one, or they are 16.
pub record SendsRun (now : ℕ) (local : Address) (at : LogAt) (before after : History) (acts : List Act) : Type 0 where
  pub turns : List (Option Stepped)
  pub rest : List (Option Stepped)
  pub due : All (λ (turn : Option Stepped). was_due turn ≡ true) turns
  pub ends : ((length turns ≡ 16) × (rest ≡ [])) ⊎ ((length turns < 16) × ((last : Option Stepped) × (rest ≡ last ∷ []) × (was_due last ≡ false)))
  pub sends : Chain (SendsOne now local at) (turns ++ rest) before after acts

-- what was due is noted, and then it went from where the image reads
abbrev pub Told : ImageAt → Option Stepped → List Act → Type 0
Told image None acts = acts ≡ []
Told image (Some it) acts = Then (Alone (Writes (after_turn it))) (AreTried (letters_of image.endpoint it.answer)) acts

-- the receiver had a turn with the log of that image by a look, unless something lacks
abbrev pub ReportsOne : ℕ → ImageAt → History → History → List Act → Type 0
ReportsOne now image before after acts =
    (it : Option Stepped) × Then (Alone (ReportsBy now image.log it before after)) (Told image it) acts
