use Rattle.std.proofs.Common.{◌∙◌}
use Rattle.term_log.proofs.Passing.{pass_same}
use Rattle.term_log.proofs.ranges.from_behind.Goals as goal

pub loop-size-preserved : goal.loop-size-preserved
loop-size-preserved c =
    pass_same c.loop-size.left c.pass-left.result c.args.position c.args._size c.in-Some.size c.in-Some.ensures
    c.pass-left.ensures.rest c.pass-left.ensures.end c.pass-left.ensures.budget
    ∙ c.loop-size.invariant
