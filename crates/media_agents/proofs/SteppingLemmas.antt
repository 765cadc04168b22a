-- What a hold of a slot's lock found, and what it left. That something lacked is said by slots alone.
use Rattle.std.proofs.Common.{◌≡◌, ℕ, Option, None, Some, subst}
use Rattle.std.specs.Prelude.{⊤, IfNone, IfSome}
use Rattle.channel_uri.specs.declared.address.Address.{Address}
use Rattle.log_steps.specs.declared.answer.Answer.TheVariants.{Gone, NoMemory}
use Rattle.log_steps.specs.declared.packets.PacketRequest.{PacketRequest}
use Rattle.log_steps.specs.Moves.{Move, WholeLog}
use Rattle.log_steps.specs.Packets.{packet_move}
use Rattle.frame_codec.specs.Datagram.{Content}
use Rattle.log_arena.specs.Homes.{Home}
use Rattle.log_slots.specs.Slots.{DecidesHeard, GivesHeard, Hears, IsLocked, Moves, SlotLog, packet_decision}
use Rattle.media_agents.specs.Asking.{IsHold}
use Rattle.media_agents.specs.declared.stepping.Stepped.{Stepped}
use Rattle.media_agents.specs.Stepping.{Comes, Lacks, Turns}

pub lacks_any : {X : Type 0} (it : Option X) → IfNone it ⊤
lacks_any None = tt
lacks_any (Some x) = tt

-- what holds of whichever is there holds of that one
pub some_holds : {X : Type 0} (P : X → Type 0) (it : Option X) (x : X) → IfSome it P → it ≡ Some x → P x
some_holds P it x holds is = subst (λ (it : Option _). IfSome it P) is holds

pub none_holds : {X : Type 0} (P : Type 0) (it : Option X) → IfNone it P → it ≡ None → P
none_holds P it holds is = subst (λ (it : Option _). IfNone it P) is holds

abbrev Own : Home → SlotLog → Type 0
Own home slot = IsLocked home slot

module _ (home : Home) (old new : SlotLog) where
  pub is_hold : new ≡ record old { log = new.log } → Own home old → Own home new → IsHold home old (record old { log = new.log })
  is_hold same found left = record { found_is = found; left_is = subst (Own home) same left }

  pub turns_by : (move : WholeLog → Move) (it : Stepped) → new ≡ record old { log = new.log } → Own home old → Own home new
      → Moves move Gone old.log new.log it.answer → it.decision ≡ None → Turns (IsHold home) move it
  turns_by move it same found left moves undecided = record {
    found = old;
    new = new.log;
    held = is_hold same found left;
    moves = moves;
    undecided = undecided;
  }

  pub comes_by : (now : ℕ) (from : Address) (content : Content) (request : PacketRequest) (it : Stepped)
      → new ≡ record old { log = new.log } → Own home old → Own home new
      → Hears content (packet_move now from request content) old new.log it.answer
      → DecidesHeard content (packet_decision request) old it.decision
      → Comes (IsHold home) now from content request it
  comes_by now from content request it same found left hears decides = record {
    found = old;
    new = new.log;
    held = is_hold same found left;
    hears = hears;
    decides = decides;
  }

pub lacks_by : (home : Home) (old : SlotLog) (now : ℕ) (from : Address) (content : Content) (request : PacketRequest) (it : Stepped)
    → Own home old → GivesHeard content (packet_move now from request content) old → it.answer ≡ NoMemory → it.decision ≡ None
    → Lacks (IsHold home) now from content request it
lacks_by home old now from content request it found gives is undecided = record {
  found = old;
  held = record { found_is = found; left_is = found };
  gives = gives;
  answer_is = is;
  undecided = undecided;
}
