-- What any step does to the addresses that a log has learnt, by whichever registry of a run it goes: they come by status messages that
-- are allowed, and go by denied ones, by the timeout, and with their log. Own rules.
use Rattle.std.specs.Prelude.{◌≡◌, ℕ, Bool, true, false, List, Contains, Option, Some, None, Ok, ◌⊎◌}
use Rattle.channel_uri.specs.declared.address.Address.{Address}
use Rattle.driver_core.specs.PublicationRequests.{publication_at}
use Rattle.driver_core.specs.State.{State}
use Rattle.driver_laws.specs.OlderLaws.{AtEachRegistry}
use Rattle.driver_laws.specs.StepActs.{join_verdict}
use Rattle.driver_steps.specs.declared.step.Step.{Step}
use Rattle.driver_steps.specs.declared.step.Step.TheVariants.{Packet, Send}
use Rattle.driver_steps.specs.Ends.{log_at, moved_by, RunEnd}
use Rattle.log_steps.specs.Moves.{WholeLog}
use Rattle.frame_codec.specs.declared.status_message.StatusMessage.{StatusMessage}
use Rattle.frame_codec.specs.Datagram.{status, packet_of}
use Rattle.learnt_addresses.specs.declared.learnt_address.LearntAddress.{LearntAddress}
use Rattle.learnt_addresses.specs.LearntAddresses.{has, stands}
use Rattle.stream_registry.specs.declared.row.LogRow.{LogRow}
use Rattle.stream_registry.specs.Places.{is_dynamic}

-- the step is a status message from that address for the publication with that log, which learns its destinations
pub record IsStatusFrom (s : State) (step : Step) (source now : ℕ) (from : Address) (publication : LogRow) : Type 0 where
  pub local : Address
  pub bytes : List ℕ
  pub fields : StatusMessage
  pub step_is : step ≡ Packet now local from bytes
  pub read : packet_of bytes ≡ Ok (status fields)
  pub publication_is : publication_at s fields.session_id fields.stream_id ≡ Some publication
  pub log_is : publication.number ≡ source
  pub learns : is_dynamic publication.channel ≡ true

-- a status message came from that address, at the moment that is kept with it, and that registry's policy allows it to join
pub record IsLetIn (s : State) (step : Step) (source : ℕ) (row : LearntAddress) : Type 0 where
  pub publication : LogRow
  pub message : IsStatusFrom s step source row.heard row.address publication
  pub allowed : (join_verdict s row.address publication).allow ≡ true

-- one came from there that it denies
pub record IsTurnedAway (s : State) (step : Step) (source : ℕ) (address : Address) : Type 0 where
  pub now : ℕ
  pub publication : LogRow
  pub message : IsStatusFrom s step source now address publication
  pub denied : (join_verdict s address publication).allow ≡ false

-- nothing was heard of it for longer than that registry's timeout, at a turn of the sender with that log
pub record IsPast (s : State) (step : Step) (source : ℕ) (row : LearntAddress) : Type 0 where
  pub now : ℕ
  pub step_is : step ≡ Send now source
  pub past : stands now s.settings.destination_timeout row ≡ false

-- ---- the law

-- whether the log of a source, where it is open, has learnt the address
abbrev pub has_learnt : Option WholeLog → Address → Bool
has_learnt None address = false
has_learnt (Some log) address = has log.recovery.learnt address

-- By whose leave each address came that a log has learnt by the step, and why each went that it has learnt no more: the log itself
-- may have gone.
pub record AddressesComeAndGoBy (s : State) (e : RunEnd) : Type 0 where
  pub comes :
      (step : Step) (source : ℕ) (new : WholeLog) (row : LearntAddress) →
      log_at (moved_by s e step).after.logs source ≡ Some new → Contains new.recovery.learnt row →
      has_learnt (log_at e.logs source) row.address ≡ false → IsLetIn s step source row
  pub goes :
      (step : Step) (source : ℕ) (log : WholeLog) (row : LearntAddress) → log_at e.logs source ≡ Some log →
      Contains log.recovery.learnt row →
      has_learnt (log_at (moved_by s e step).after.logs source) row.address ≡ false →
      IsTurnedAway s step source row.address
      ⊎ (IsPast s step source row ⊎ (log_at (moved_by s e step).after.logs source ≡ None))

abbrev pub AddressesComeAndGoOnlySo : Type 0
AddressesComeAndGoOnlySo = AtEachRegistry AddressesComeAndGoBy
