use Rattle.std.proofs.Common.{arith}
use Rattle.term_log.specs.Ranges.{over_left}
use Rattle.term_log.proofs.Polls.{gives_fragments, passes_to}
use Rattle.term_log.proofs.polling.copies_from.Goals as goal

pub returns-clause-gives : goal.returns-clause-gives
returns-clause-gives c =
    gives_fragments c.args.log.now c.args.position c.args.limit (over_left c.frames_behind.result) c.in_ok-copies.copies
    c.frames_behind.ensures.fits c.frames_behind.ensures.all c.in_ok-copies.ensures.copies

pub returns-clause-exact : goal.returns-clause-exact
returns-clause-exact c =
    let tail = c.tail-tail.ensures.value in
    let high = c.max.ensures in
    passes_to c.args.log.now c.args.position c.args.limit c.min.result (over_left c.frames_behind.result)
    c.frames_behind.ensures.fits c.frames_behind.ensures.all (omega (arith, c.min.ensures, high, tail, c.in_ok-copies.ensures.behind))
