use Rattle.std.proofs.Common.{ℤ, Err, subst}
use Rattle.std.proofs.lemmas.Int.{to_z-of_z}
use mir.Syntax.{w32}
use mir.Val.{of_z, to_z}
use Rattle.media_agents.proofs.AskingLemmas.{nowhere_refuses}
use Rattle.media_agents.proofs.StepsLemmas.{opens_known}
use Rattle.media_agents.specs.Asking.{IsHold, Opens}
use Rattle.media_agents.proofs.steps.StepsLogs.open.Goals as goal

pub returns-in-Some-clause-opened : goal.returns-in-Some-clause-opened
returns-in-Some-clause-opened g c =
    let home = g.N.Naming.home in
    opens_known home c.args.at c.args.session c.args.stream c.args.log c.open_in.result
    (subst (λ (number : ℤ). Opens (IsHold home) number c.args.stream c.args.log c.open_in.result) (to_z-of_z w32 c.args.session c.ranges.session)
    (subst (λ (number : ℤ). Opens (IsHold home) (to_z w32 (of_z w32 c.args.session)) number c.args.log c.open_in.result) (to_z-of_z w32 c.args.stream c.ranges.stream) c.open_in.ensures))

pub returns-in-None-clause-opened : goal.returns-in-None-clause-opened
returns-in-None-clause-opened g c =
    let home = g.N.Naming.home in
    opens_known home c.args.at c.args.session c.args.stream c.args.log (Err c.no_publication.result)
    (nowhere_refuses home c.args.log c.no_publication.result c.no_publication.ensures)

pub returns-in-Some-get-clause-opened : goal.returns-in-Some-get-clause-opened
returns-in-Some-get-clause-opened g c =
    let home = g.N.Naming.home in
    opens_known home c.args.at c.args.session c.args.stream c.args.log c.open_in-in-Some-get.result
    (subst (λ (number : ℤ). Opens (IsHold home) number c.args.stream c.args.log c.open_in-in-Some-get.result) (to_z-of_z w32 c.args.session c.ranges.session)
    (subst (λ (number : ℤ). Opens (IsHold home) (to_z w32 (of_z w32 c.args.session)) number c.args.log c.open_in-in-Some-get.result) (to_z-of_z w32 c.args.stream c.ranges.stream) c.open_in-in-Some-get.ensures))

pub returns-in-None-get-clause-opened : goal.returns-in-None-get-clause-opened
returns-in-None-get-clause-opened g c =
    let home = g.N.Naming.home in
    opens_known home c.args.at c.args.session c.args.stream c.args.log (Err c.no_image.result)
    (nowhere_refuses home c.args.log c.no_image.result c.no_image.ensures)
