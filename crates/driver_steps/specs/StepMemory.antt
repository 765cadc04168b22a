-- Which steps by a registry may take memory: only those may be answered that there was none. Own rules.
use Rattle.std.specs.Prelude.{◌≡◌, Bool, true, false, Result, Ok}
use Rattle.log_steps.specs.declared.answer.Answer.{Answer}
use Rattle.log_steps.specs.declared.answer.Answer.TheVariants.{NoMemory}
use Rattle.driver_steps.specs.declared.step.Step.{Step}
use Rattle.driver_steps.specs.declared.step.Step.TheVariants.{Conductor, Packet, Offer, Poll, Send, Image, List as Lists, Value}
use Rattle.driver_core.specs.State.{State}
use Rattle.driver_steps.specs.Ends.{RunEnd, moved_by, on_packet}
use Rattle.frame_codec.specs.declared.fault.BadPacket.{BadPacket}
use Rattle.frame_codec.specs.Datagram.{Content, setup, packet_of}
use Rattle.log_steps.specs.Memory.{is_listed}

-- a SETUP, data that comes to its image, and a NAK by which frames are sent again
abbrev pub packet_takes : Answer → Result Content BadPacket → Bool
packet_takes answer (Ok (setup fields)) = true
packet_takes answer read = is_listed answer

-- an event, a look at all counters, a poll that is neither gone nor denied, data that comes to its image, a NAK by which
-- frames are sent again, and a turn of the sender or the receiver in which something is due; an offer and a look at one
-- counter take none
abbrev pub takes_memory : State → RunEnd → Step → Bool
takes_memory s e (Conductor event) = true
takes_memory s e (Packet now local from bytes) =
    packet_takes (on_packet s e now local from (packet_of bytes)).answer (packet_of bytes)
takes_memory s e (Offer now client registration message) = false
takes_memory s e (Poll now client subscription source limit) =
    is_listed (moved_by s e (Poll now client subscription source limit)).answer
takes_memory s e (Send now source) = is_listed (moved_by s e (Send now source)).answer
takes_memory s e (Image now source) = is_listed (moved_by s e (Image now source)).answer
takes_memory s e (Lists now client) = true
takes_memory s e (Value now client number) = false

-- a step is answered that there is no memory only where it may take some
abbrev pub HasMemoryBy : Bool → Answer → Type 0
HasMemoryBy takes NoMemory = takes ≡ true
HasMemoryBy takes answer = Unit {0}

abbrev pub HasMemory : State → RunEnd → Step → Answer → Type 0
HasMemory s e step answer = HasMemoryBy (takes_memory s e step) answer
