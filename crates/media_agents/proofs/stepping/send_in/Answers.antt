use Rattle.std.proofs.Common.{ap, refl}
use Rattle.log_slots.specs.Counting.{SlotCount}
use Rattle.media_agents.proofs.SteppingLemmas.{turns_by}
use Rattle.media_agents.proofs.stepping.send_in.Goals as goal

pub returns-in-Ok : goal.returns-in-Ok
returns-in-Ok g c = (
  turns_by g.N.Naming.home c.args.slot.now.kept c.send-answer.new.self.kept _ _
      (ap (λ (slot : SlotCount). slot.kept) c.in-Ok.ensures.same) (record { own = c.holds.ensures.own; whole = c.holds.ensures.whole }) (record { own = c.holds-2.ensures.own; whole = c.holds-2.ensures.whole }) c.in-Ok.ensures.moved refl,
  c.of-stamp.ensures,
)
