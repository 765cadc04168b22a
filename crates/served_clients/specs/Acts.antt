-- What each call of a connection is as a call of its client. Own rules.
use Rattle.std.specs.Prelude.{◌≡◌, ◌≤◌, ◌⊎◌, ◌++◌, ℕ, ℤ, Bool, List, [], ◌∷◌, Option, Some, None, Result, Ok, Err, IfErr, IfOk, option_to_list}
use Rattle.command_codec.specs.declared.command.Body.TheVariants.{ClientKeepalive}
use Rattle.driver_core.specs.Listing.{list, value}
use Rattle.driver_core.specs.declared.asked.listing.Listed.{Listed}
use Rattle.driver_core.specs.declared.asked.listing.Shown.{Shown}
use Rattle.driver_service.specs.declared.positions.ImagePositions.{ImagePositions}
use Rattle.driver_service.specs.declared.positions.PublicationPositions.{PublicationPositions}
use Rattle.driver_service.specs.declared.reason.Reason.{Reason}
use Rattle.driver_service.specs.declared.reason.Reason.TheVariants.{NoMemory}
use Rattle.driver_service.specs.declared.reason.Refusal.{Refusal}
use Rattle.driver_service.specs.declared.reason.Refusal.TheVariants.{Because}
use Rattle.driver_service.specs.Calls.{Call, Stay, Command, Offer, Poll, Mail, Look, Value, Publication, Image}
use Rattle.log_arena.specs.Homes.{Home}
use Rattle.log_pairs.specs.Polling.{Fetched}
use Rattle.log_slots.specs.declared.positions.PublicationPositions.{PublicationPositions as LogPositions}
use Rattle.media_agents.specs.Mails.{Posted}
use Rattle.media_driver.specs.Audits.{ReportsList, ReportsOffer, ReportsPoll, ReportsValue}
use Rattle.media_driver.specs.Clients.{Attached, Commands, Consults, Hands, IsUnseen, Looks, MayRefuse, PushesNone, TakesMail}
use Rattle.media_driver.specs.Positions.{IsPublicationShown, IsReadingShown, publication_of, reading_of}
use Rattle.media_driver.specs.Steps.{Counts, IsOffer, IsPoll}
use Rattle.media_driver.specs.declared.faults.LookFault.{LookFault}
use Rattle.media_driver.specs.declared.faults.OfferFault.{OfferFault}
use Rattle.media_driver.specs.declared.faults.PollFault.{PollFault}
use Rattle.media_driver.specs.declared.faults.PositionFault.{PositionFault}
use Rattle.media_driver.specs.declared.faults.PushFault.{PushFault}
use Rattle.media_driver.specs.declared.positions.ImagePositions.{ImagePositions as ReadPositions}
use Rattle.published_registry.specs.Histories.{IsContinuedBy, registry_of}
use Rattle.served_clients.specs.Denying.{Heard, Hears, denied_look, denied_offer, denied_poll}
use Rattle.served_clients.specs.Given.{given_of}
use Rattle.served_clients.specs.Positions.{TellsImage, TellsPublication}
use Rattle.reading_progress.specs.Pairs.{pair_at}
use Rattle.reading_progress.specs.Watches.{Watching}
use Rattle.reading_progress.specs.declared.pairs.Pair.{Pair}
use Rattle.served_clients.specs.Telling.{TellsList, TellsMail, TellsOffer, TellsPoll, TellsValue, push_reason}
use Rattle.served_clients.specs.Watching.{after_looking}
use Rattle.served_clients.specs.declared.given.Given.{Given}

-- a client that serves a connection, and its replies that were taken out of the ring and not told yet, in their order
pub record Sitting : Type 0 where
  pub client : Attached
  pub kept : List Posted

abbrev pub sitting : Attached → List Posted → Sitting
sitting client kept = record { client = client; kept = kept }

-- nothing is done, or the client says that it is still there
abbrev pub Says : Attached → Attached → Type 0
Says old new = (new ≡ old) ⊎ ((gave : Result ℕ PushFault) × Commands old new ClientKeepalive gave)

-- the next reply is taken and kept behind the others; or there was none
abbrev pub KeepsReply : Sitting → Sitting → Option Posted → Type 0
KeepsReply old new mail = TakesMail old.client new.client mail × (new.kept ≡ old.kept ++ option_to_list mail)

-- it is looked at the registry, as by whoever is shown how far a subscription has come
abbrev pub Watches : Sitting → Sitting → Type 0
Watches old new = Looks old.client new.client × (new.kept ≡ old.kept)

abbrev pub IsTended : Sitting → Sitting → Type 0
IsTended old new = ((mail : Option Posted) × KeepsReply old new mail) ⊎ Watches old new

-- one step after another
abbrev pub Follows : Sitting → List Sitting → Sitting → Type 0
Follows old [] new = new ≡ old
Follows old (next ∷ others) new = IsTended old next × Follows next others new

-- its replies are kept, and it is looked how far it has come, any number of times
abbrev pub Tends : Sitting → Sitting → Type 0
Tends old new = (steps : List Sitting) × Follows old steps new

-- that is so, and then it may say that it is still there; no reply is told by it, and none is lost
pub record Stays (old new : Sitting) : Type 0 where
  pub tended : Sitting
  pub tends : Tends old tended
  pub says : Says tended.client new.client
  pub kept : new.kept ≡ tended.kept

-- At that moment it is looked how far the client has come with the pair in that place, and that is what is remembered of it.
pub record LooksAt (home : Home) (old new : Attached) (was is : Watching) (place : ℕ) : Type 0 where
  pub now : ℕ
  pub pair : Pair
  pub gave : Result ReadPositions PositionFault
  pub there : pair_at place was.pairs ≡ Some pair
  pub looks : Looks old new
  pub shown : IsReadingShown home pair.subscription (reading_of (registry_of new.known) old.number pair.subscription pair.source) gave
  pub watch : is ≡ after_looking now pair gave was

-- what those who share something with others say of a command of a client
abbrev pub Admits : Type 0 → Type 1
Admits K = K → ℕ → Given → Result Unit Reason → K → Type 0

-- a client, and what it shares with others
abbrev pub Sharing : Type 0 → Type 0
Sharing K = Attached × K

-- the bytes were admitted as a command of this client, and are pushed over its handle, whatever they are
abbrev pub Goes : {K : Type 0} → Admits K → Sharing K → Sharing K → List ℕ → Type 0
Goes admits old new bytes = admits old.1 old.0.number (given_of bytes) (Ok tt) new.1 × Hands old.0 new.0 bytes

-- they were not admitted, for that reason
abbrev pub IsHeldBack : {K : Type 0} → Admits K → Sharing K → List ℕ → Refusal → Type 0
IsHeldBack {K} admits old bytes refusal = (reason : Reason) × (kept : K) × admits old.1 old.0.number (given_of bytes) (Err reason) kept × (refusal ≡ Because reason)

-- they were, and their push was refused
abbrev pub IsPushedBack : {K : Type 0} → Admits K → Sharing K → Sharing K → List ℕ → Refusal → Type 0
IsPushedBack {K} admits old new bytes refusal =
    (fault : PushFault) × (kept : K) × admits old.1 old.0.number (given_of bytes) (Ok tt) kept × MayRefuse new.0.commands fault × (refusal ≡ Because (push_reason fault))

-- the bytes go; or they are refused, and nothing is pushed: there was no memory to read them, they were held back, or pushed back
abbrev pub HandsBytes : {K : Type 0} → Admits K → Sharing K → Sharing K → List ℕ → Option Refusal → Type 0
HandsBytes admits old new bytes None = Goes admits old new bytes
HandsBytes admits old new bytes (Some refusal) =
    PushesNone old.0 new.0 × ((refusal ≡ Because NoMemory) ⊎ (IsHeldBack admits old bytes refusal ⊎ IsPushedBack admits old new bytes refusal))

-- the client offers a message, by its own registration, under the registry that it sees; of a denial those hear who share something
-- with others
pub record OffersBy {K : Type 0} (home : Home) (hears : Hears K) (old new : Attached) (keeper : K) (registration : ℕ) (message : List ℕ) (told : Result ℕ Refusal) : Type 0 where
  pub gave : Result ℕ OfferFault
  pub known : IsContinuedBy old.known new.known
  pub moment : old.moment ≤ new.moment
  pub same : new ≡ record old { known = new.known; moment = new.moment; counted = new.counted; ended = new.ended; audited = new.audited }
  pub counted : Counts gave old new
  pub step : IsOffer home (registry_of new.known) new.moment old.number registration message gave
  pub audit : ReportsOffer home new.known new.moment old.number registration message gave old.audited new.audited
  pub heard : Heard hears (denied_offer gave new.audited.items) keeper
  pub told_is : TellsOffer gave told

-- it polls a log, by its own subscription; what is written are the fragments that it was given; of a denial they hear, too
pub record PollsBy {K : Type 0} (home : Home) (hears : Hears K) (old new : Attached) (keeper : K) (subscription source limit : ℕ) (written : List ℕ) (told : Result ℕ Refusal) : Type 0 where
  pub gave : Result (List Fetched) PollFault
  pub looks : Consults old new
  pub step : IsPoll home (registry_of new.known) old.number subscription source limit gave
  pub audit : ReportsPoll home new.known old.number subscription source limit gave old.audited new.audited
  pub heard : Heard hears (denied_poll gave new.audited.items) keeper
  pub told_is : TellsPoll gave written told

-- the next reply is the first of those that are kept; where none is, it is taken out of the ring
abbrev pub NextReply : Sitting → Sitting → Option Posted → Type 0
NextReply old new mail =
    ((first : Posted) × (mail ≡ Some first) × (old.kept ≡ first ∷ new.kept) × (new.client ≡ old.client))
    ⊎ ((old.kept ≡ []) × (new.kept ≡ []) × TakesMail old.client new.client mail)

-- it is told its next reply, and it may be looked whether the driver was ended
pub record TakesReply (old new : Sitting) (written : List ℕ) (told : Result Bool Refusal) : Type 0 where
  pub mail : Option Posted
  pub between : Sitting
  pub taken : NextReply old between mail
  pub looks : Looks between.client new.client
  pub kept : new.kept ≡ between.kept
  pub told_is : TellsMail mail written told

-- it looks at the counters that it may see
pub record ListsBy (old new : Attached) (written : List ℕ) (told : Result ℕ Refusal) : Type 0 where
  pub gave : Result Listed LookFault
  pub looks : Consults old new
  pub listed : IfOk gave (λ rows. rows ≡ list (registry_of new.known) old.number)
  pub fault : IfErr gave (λ fault. IsUnseen old new fault)
  pub audit : ReportsList new.known old.number gave old.audited new.audited
  pub told_is : TellsList gave written told

-- it looks at the value of a counter; of a denial they hear, too
pub record ValuesBy {K : Type 0} (hears : Hears K) (old new : Attached) (keeper : K) (number : ℕ) (told : Result ℤ Refusal) : Type 0 where
  pub gave : Result Shown LookFault
  pub looks : Consults old new
  pub shown : IfOk gave (λ shown. shown ≡ value (registry_of new.known) old.number number)
  pub audit : ReportsValue new.known gave old.audited new.audited
  pub heard : Heard hears (denied_look gave) keeper
  pub told_is : TellsValue gave told

-- it is shown how far its own publication has come
pub record PublicationBy (home : Home) (old new : Attached) (registration : ℕ) (told : Result PublicationPositions Refusal) : Type 0 where
  pub gave : Result LogPositions PositionFault
  pub looks : Looks old new
  pub shown : IsPublicationShown home old.moment (publication_of (registry_of new.known) old.number registration) gave
  pub told_is : TellsPublication gave told

-- it is shown how far its own subscription has come with a log
pub record ImageBy (home : Home) (old new : Attached) (subscription source : ℕ) (told : Result ImagePositions Refusal) : Type 0 where
  pub gave : Result ReadPositions PositionFault
  pub looks : Looks old new
  pub shown : IsReadingShown home subscription (reading_of (registry_of new.known) old.number subscription source) gave
  pub told_is : TellsImage gave told

-- a client that serves a connection, and what it shares with others
abbrev pub Serving : Type 0 → Type 0
Serving K = Sitting × K

abbrev pub sharing : {K : Type 0} → Serving K → Sharing K
sharing s = (s.0.client, s.1)

-- the other calls leave the replies that are kept
abbrev pub Keeps : {K : Type 0} → Serving K → Serving K → Type 0 → Type 0
Keeps old new act = act × (new.0.kept ≡ old.0.kept)

-- A client, with what it shares with others, before and after a call of its connection.
abbrev pub IsAct : {K : Type 0} → Home → Admits K → Hears K → Serving K → Call → Serving K → Type 0
IsAct home admits hears old Stay new = Stays old.0 new.0
IsAct home admits hears old (Command bytes refusal) new = Keeps old new (HandsBytes admits (sharing old) (sharing new) bytes refusal)
IsAct home admits hears old (Offer registration message told) new = Keeps old new (OffersBy home hears old.0.client new.0.client new.1 registration message told)
IsAct home admits hears old (Poll subscription source limit written told) new =
    Keeps old new (PollsBy home hears old.0.client new.0.client new.1 subscription source limit written told)
IsAct home admits hears old (Mail written told) new = TakesReply old.0 new.0 written told
IsAct home admits hears old (Look written told) new = Keeps old new (ListsBy old.0.client new.0.client written told)
IsAct home admits hears old (Value number told) new = Keeps old new (ValuesBy hears old.0.client new.0.client new.1 number told)
IsAct home admits hears old (Publication registration told) new = Keeps old new (PublicationBy home old.0.client new.0.client registration told)
IsAct home admits hears old (Image subscription source told) new = Keeps old new (ImageBy home old.0.client new.0.client subscription source told)
