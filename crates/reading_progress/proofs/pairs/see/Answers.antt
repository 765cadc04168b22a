use Rattle.std.proofs.Common.{arith}
use Rattle.std.proofs.lemmas.Grind.{common_steps}
use Rattle.std.proofs.lemmas.List.Edits.{map_over_more}
use Rattle.reading_progress.specs.Pairs.{seen_at}
use Rattle.reading_progress.proofs.pairs.see.Goals as goal

pub loop-pair-preserved : goal.loop-pair-preserved
loop-pair-preserved c = grind (arith, common_steps, map_over_more (seen_at c.args.subscription c.args.source c.args.now c.args.position c.args.received))
