use Rattle.std.proofs.Common.{ap, inl, inr, refl}
use Rattle.frame_codec.specs.Datagram.{content}
use Rattle.media_agents.specs.declared.stepping.Stepped.{Stepped}
use Rattle.media_agents.proofs.SteppingLemmas.{comes_by, lacks_by}
use Rattle.media_agents.proofs.stepping.take_in.Goals as goal

pub returns-in-Ok : goal.returns-in-Ok
returns-in-Ok g c =
    let kept = g.H.Held.kept in (
      refl,
      inl (comes_by g.N.Naming.home (kept c.args.slot.now) (kept c.packet-told.new.self) c.args.now c.args.from.now (content c.args.packet) c.args.request.now _
          c.in-Ok.ensures.same (record { own = c.holds.ensures.own; whole = c.holds.ensures.whole }) (record { own = c.holds-2.ensures.own; whole = c.holds-2.ensures.whole }) c.in-Ok.ensures.moved c.in-Ok.ensures.decides),
    )

pub returns-in-Err : goal.returns-in-Err
returns-in-Err g c = (
  ap (λ (it : Stepped). it.stamp) c.lacking.ensures,
  inr (lacks_by g.N.Naming.home (g.H.Held.kept c.args.slot.now) c.args.now c.args.from.now (content c.args.packet) c.args.request.now c.lacking.result
      (record { own = c.holds.ensures.own; whole = c.holds.ensures.whole }) c.in-Err.ensures.without_memory
      (ap (λ (it : Stepped). it.answer) c.lacking.ensures) (ap (λ (it : Stepped). it.decision) c.lacking.ensures)),
)
