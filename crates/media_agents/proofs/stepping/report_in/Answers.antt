use Rattle.std.proofs.Common.{refl}
use Rattle.media_agents.proofs.SteppingLemmas.{turns_by}
use Rattle.media_agents.proofs.stepping.report_in.Goals as goal

pub returns-in-Ok : goal.returns-in-Ok
returns-in-Ok g c = (
  turns_by g.N.Naming.home c.args.slot.now c.image-answer.new.self _ _
      c.in-Ok.ensures.same (record { own = c.holds.ensures.own; whole = c.holds.ensures.whole }) (record { own = c.holds-2.ensures.own; whole = c.holds-2.ensures.whole }) c.in-Ok.ensures.moved refl,
  c.of-stamp.ensures,
)
