-- Which log a datagram is for, and what it does with that log. Own rules.
use Rattle.std.specs.Prelude.{ℕ, [], ◌∷◌, Option, Some, None, Result, Ok, Err}
use Rattle.channel_uri.specs.declared.address.Address.{Address}
use Rattle.driver_core.specs.declared.asked.image_request.Astray.{Astray}
use Rattle.driver_core.specs.declared.asked.image_request.Astray.TheVariants.{NoStream}
use Rattle.driver_core.specs.declared.asked.log_request.LogRequest.{LogRequest}
use Rattle.driver_core.specs.declared.asked.publication_request.JoinRequest.{JoinRequest}
use Rattle.driver_core.specs.ImageRequests.{image_for}
use Rattle.driver_core.specs.PublicationRequests.{joining_of, resending_of}
use Rattle.driver_core.specs.State.{State}
use Rattle.log_steps.specs.declared.packets.PacketRequest.{PacketRequest}
use Rattle.log_steps.specs.Hearing.{nak_move, status_move}
use Rattle.log_steps.specs.Moves.{Move, WholeLog, answered, for_source}
use Rattle.log_steps.specs.Receiving.{beat_move, receive_move, unheard}
use Rattle.frame_codec.specs.declared.header.TermPlace.{TermPlace}
use Rattle.frame_codec.specs.Datagram.{Content, frames, beat, nak, status, setup}
use Rattle.frame_codec.specs.Sound.{AreOfOneTerm, AreTold}
use Rattle.log_traffic.specs.Held.{AreFor, Made}
use Rattle.policy_core.specs.declared.decision.Decision.{Decision}

-- ---- which log it is for, by a registry, and what the policy decides of it

abbrev pub of_image : Result ℕ Astray → Result PacketRequest Astray
of_image (Ok source) = Ok (record { source = source; decision = None })
of_image (Err why) = Err why

abbrev pub of_asked : Option LogRequest → Result PacketRequest Astray
of_asked None = Err NoStream
of_asked (Some request) = Ok (record { source = request.source; decision = Some request.decision })

abbrev pub of_told : Option JoinRequest → Result PacketRequest Astray
of_told None = Err NoStream
of_told (Some request) = Ok (record { source = request.source; decision = request.decision })

-- data and heartbeats are for the image of their address, session and stream
abbrev pub of_stream : State → Address → Address → TermPlace → Result PacketRequest Astray
of_stream s local from place = of_image (image_for s local from place.session_id place.stream_id)

-- a NAK and a status message are for the publication of their session and stream; a SETUP is for no open log
abbrev pub packet_request : State → Address → Address → Content → Result PacketRequest Astray
packet_request s local from (frames []) = Err NoStream
packet_request s local from (frames (frame ∷ later)) = of_stream s local from frame.header.place
packet_request s local from (beat header) = of_stream s local from header.place
packet_request s local from (setup fields) = Err NoStream
packet_request s local from (nak fields) = of_asked (resending_of s from fields.session_id fields.stream_id)
packet_request s local from (status fields) = of_told (joining_of s from fields.session_id fields.stream_id)

-- ---- what it does with the log

-- the frames may be handed to the log
abbrev pub IsFor : Made → Content → Type 0
IsFor made (frames sent) = AreFor made sent
IsFor made content = Unit {0}

-- the log that it is for
abbrev pub content_move : ℕ → Address → Option Decision → Content → WholeLog → Move
content_move now from decision (frames sent) log = receive_move now sent log
content_move now from decision (beat header) log = beat_move now header.place log
content_move now from decision (setup fields) log = answered log unheard
content_move now from None (nak fields) log = answered log unheard
content_move now from (Some decision) (nak fields) log = nak_move now from decision fields log
content_move now from decision (status fields) log = status_move now from decision fields log

-- the log of another source does not hear it
abbrev pub packet_move : ℕ → Address → PacketRequest → Content → WholeLog → Move
packet_move now from request content = for_source request.source (content_move now from request.decision content) unheard

-- ---- on the open logs

-- as every datagram that was read has it: the frames of one are of one term and known by their headers
abbrev pub IsSoundContent : Content → Type 0
IsSoundContent (frames sent) = AreTold sent × AreOfOneTerm sent
IsSoundContent content = Unit {0}
