use Rattle.std.proofs.Common.{arith}
use Rattle.std.proofs.lemmas.Grind.{common_steps}
use Rattle.std.proofs.lemmas.List.Edits.{map_over_more}
use Rattle.log_pairs.specs.Pairs.{moved_one}
use Rattle.log_pairs.proofs.pairs.move_one.Goals as goal

pub loop-pair-preserved : goal.loop-pair-preserved
loop-pair-preserved c = grind (arith, common_steps, map_over_more (moved_one c.args.subscription c.args.position))
