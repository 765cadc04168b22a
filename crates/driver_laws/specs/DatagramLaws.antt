-- What a turn of the sender cuts, and what a NAK is answered by, are frames of the log that is open. Own rules.
use Rattle.std.specs.Prelude.{◌≡◌, ℕ, Bool, List, Some, Ok}
use Rattle.channel_uri.specs.declared.address.Address.{Address}
use Rattle.driver_core.specs.declared.asked.send_request.Outlet.{Outlet}
use Rattle.driver_core.specs.PublicationRequests.{publication_at}
use Rattle.driver_core.specs.SendRequests.{sending_of}
use Rattle.driver_core.specs.State.{State}
use Rattle.driver_laws.specs.OlderLaws.{AtEachRegistry}
use Rattle.driver_laws.specs.Wire.{CarryExactly, IsDatagramTo, frames_named}
use Rattle.driver_laws.specs.WorldLaws.{AtEachRegistryOfAWorld}
use Rattle.log_steps.specs.declared.answer.Answer.TheVariants.{Resent, Sent}
use Rattle.driver_steps.specs.declared.step.Step.TheVariants.{Packet, Send}
use Rattle.driver_steps.specs.Ends.{log_at, moved_by, RunEnd}
use Rattle.log_steps.specs.Moves.{WholeLog}
use Rattle.frame_codec.specs.declared.nak.Nak.{Nak}
use Rattle.frame_codec.specs.Datagram.{nak, packet_of}
use Rattle.log_traffic.specs.Whole.{whole}
use Rattle.stream_registry.specs.declared.row.LogRow.{LogRow}
use Rattle.term_log.specs.Whole.{Whole}

-- ---- a turn of the sender

-- the log of that source has the frames that it had, and its sender stands there
pub record StandsAt (e : RunEnd) (source : ℕ) (w : Whole) (at : ℕ) : Type 0 where
  pub log : WholeLog
  pub live : log_at e.logs source ≡ Some log
  pub now : Whole
  pub now_is : log.whole ≡ whole now
  pub ident : now.ident ≡ w.ident
  pub frames : now.frames ≡ w.frames
  pub position : now.sender.position ≡ at

-- The datagram is of the log of that source, which is open; whether its publication lingers is said by that registry. The next one
-- goes on from where this leaves the sender.
pub record IsCutOf (s : State) (e after : RunEnd) (source : ℕ) (bytes : List ℕ) : Type 0 where
  pub log : WholeLog
  pub live : log_at e.logs source ≡ Some log
  pub frames : Whole
  pub frames_are : log.whole ≡ whole frames
  pub lingers : Bool
  pub lingers_is : sending_of s source ≡ Some lingers
  pub to : ℕ
  pub holds : IsDatagramTo frames lingers bytes to
  pub leaves : StandsAt after source frames to

-- ---- a NAK

-- The datagrams are of the log of the publication that has the NAK's session and stream by that registry, which is open.
pub record IsResentOf (s : State) (e : RunEnd) (bytes : List ℕ) (datagrams : List (List ℕ)) : Type 0 where
  pub fields : Nak
  pub read : packet_of bytes ≡ Ok (nak fields)
  pub publication : LogRow
  pub publication_is : publication_at s fields.session_id fields.stream_id ≡ Some publication
  pub log : WholeLog
  pub live : log_at e.logs publication.number ≡ Some log
  pub frames : Whole
  pub frames_are : log.whole ≡ whole frames
  pub carry : CarryExactly frames.ident (frames_named frames fields) datagrams

-- ---- the law

pub record CarryFramesOfTheLog (s : State) (e : RunEnd) : Type 0 where
  pub cut :
      (now source : ℕ) (bytes : List ℕ) (outlets : List Outlet) →
      Sent bytes outlets ≡ (moved_by s e (Send now source)).answer →
      IsCutOf s e (moved_by s e (Send now source)).after source bytes
  pub resent :
      (now : ℕ) (local from to : Address) (bytes : List ℕ) (datagrams : List (List ℕ)) →
      Resent to datagrams ≡ (moved_by s e (Packet now local from bytes)).answer → IsResentOf s e bytes datagrams

-- at the end of every run, whichever registry of it the step goes by, of a driver and of a world
pub record DatagramsCarryTheLogsFrames : Type 0 where
  pub of_drivers : AtEachRegistry CarryFramesOfTheLog
  pub of_worlds : AtEachRegistryOfAWorld CarryFramesOfTheLog
