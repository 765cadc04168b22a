use Rattle.std.proofs.Common.{arith}
use Rattle.std.proofs.lemmas.Grind.{common_steps}
use Rattle.std.proofs.lemmas.List.Edits.{map_over_more}
use Rattle.service_bounds.specs.Changes.{removed}
use Rattle.service_bounds.proofs.changes.remove_each.Goals as goal

pub loop-row-preserved : goal.loop-row-preserved
loop-row-preserved c = grind (arith, common_steps, map_over_more (removed c.args.now c.args.client c.args.removal))
