use Rattle.std.proofs.Common.{arith}
use Rattle.std.proofs.lemmas.Grind.{common_steps}
use Rattle.std.proofs.lemmas.List.Edits.{map_over_more}
use Rattle.door_budgets.specs.Taking.{after_taking_by}
use Rattle.door_budgets.proofs.budget.take_each.Goals as goal

pub loop-door-preserved : goal.loop-door-preserved
loop-door-preserved c = grind (arith, common_steps, map_over_more (after_taking_by c.args.principal c.args.now c.args.spent c.args.others c.args.carries c.args.processors))
