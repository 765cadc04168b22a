use Rattle.std.proofs.Common.{arith}
use Rattle.std.proofs.lemmas.Grind.{common_steps}
use Rattle.door_budgets.proofs.RestLemmas.{rests_for_less}
use Rattle.door_budgets.proofs.budget.Budget.take.Goals as goal

pub returns-clause-most : goal.returns-clause-most
returns-clause-most c =
    let short = rests_for_less c.args.principal c.args.now c.args.spent c.others_at_work-others.result c.args.carries c.self.inside.processors c.self.inside.doors.items in
    grind (arith, common_steps, short)
