use Rattle.std.proofs.Common.{arith}
use Rattle.compiled_policy.proofs.SearchLemmas.{apart_more}
use Rattle.compiled_policy.proofs.candidates.next_block.Goals as goal

pub loop-block-preserved : goal.loop-block-preserved
loop-block-preserved c =
    let apart = c.loop-block.invariant.0 in
    let low = c.loop-block.invariant.1 in (
      apart_more c.args.sets.now c.args.from c.loop-block.block apart (c.meet.ensures c.if-not-meet.true),
      omega (arith, low),
      omega (arith, c.loop-block-test.true),
    )
