use Rattle.std.proofs.Common.{◌<◌, ◌∙◌, length, ap, arith, slice_set}
use Rattle.std.proofs.Math.Seq.{take-set-lt}
use Rattle.std.proofs.lemmas.List.{length-take-le}
use Rattle.rows.proofs.rows.Rows.set.Goals as goal

pub returns : goal.returns
returns g c =
    let used = c.self.inside.used in
    let slots = c.self.inside.slots.items in
    let among : c.args.at < used = omega (arith, c.requires, ap length c.self.view_is, length-take-le used slots c.self.invariant.0) in
    take-set-lt used slots c.args.at c.args.row among ∙ ap (λ l. slice_set l c.args.at c.args.row) c.self.view_is
