use Rattle.std.proofs.Common.{◌≡◌, List, Some, ap₂, subst}
use Rattle.media_agents.specs.declared.eliciting.Elicitation.{Elicitation}
use Rattle.media_agents.specs.declared.eliciting.Wanted.{Wanted}
use Rattle.media_agents.specs.Eliciting.{Eliciting, with_handed}
use Rattle.media_agents.proofs.eliciting.Elicited.take.Goals as goal
use Rattle.rtrb.specs.Ring.{received}

pub returns-in-Ok : goal.returns-in-Ok
returns-in-Ok c =
    let made : List Elicitation → List Wanted → Eliciting = λ handed wanted. record { handed = handed; wanted = wanted } in
    let handed = Some c.in-Ok.elicitation in
    (handed, subst (λ (old : Eliciting). made (received c.pop.new.self) c.add.new.rows ≡ with_handed handed old) c.self.view_is (ap₂ made c.in-Ok.ensures.ok.0 c.add.ensures))
