use Rattle.std.proofs.Common.{◌∙◌, ap, sym}
use Rattle.media_agents.proofs.RowLemmas.{ok_holds, works_go_on}
use Rattle.media_agents.specs.Works.{WorksState}
use Rattle.media_agents.proofs.works.Works.enter.Goals as goal

pub invariant_of-self-2 : goal.invariant_of-self-2
invariant_of-self-2 g c =
    works_go_on g.N.DriverNaming.book c.args.self.now.history c.self.inside.publisher c.replace.new.self c.in-Some.publisher c.publish-publisher.result.0 c.args.entry
    (ap (λ (w : WorksState g.row.L.Denot g.row.D.Denot g.row.T.Denot). w.history) c.self.view_is) (sym c.take.ensures.value ∙ c.in-Some.is) c.replace.ensures.after
    (ok_holds _ c.publish-publisher.result.1 c.in_ok-receipt.receipt c.publish-publisher.ensures.published c.in_ok-receipt.was)
    c.self.invariant.1 c.requires.sound
