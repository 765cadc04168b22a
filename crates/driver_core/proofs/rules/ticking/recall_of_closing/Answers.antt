use Rattle.std.proofs.Common.{◌≡◌, ◌≤◌, ◌∙◌, [], length, drop, sym, ap, arith}
use Rattle.std.proofs.Math.ListN.{drop_of_length-le}
use Rattle.driver_core.proofs.RecallLemmas.{all_recalled, recalled_by}
use Rattle.driver_core.proofs.rules.ticking.recall_of_closing.Goals as goal

-- none is left
pub returns : goal.returns
returns c =
    let behind : length c.args.logs.now ≤ c.loop-log.log-index = omega (arith, c.loop-log-test.false) in
    let none : drop c.loop-log.log-index c.args.logs.now ≡ [] = drop_of_length-le c.args.logs.now behind in
    sym (ap (recalled_by c.args.now c.args.silent.now c.loop-log.destinations) none)
    ∙ c.loop-log.invariant
    ∙ all_recalled c.args.now c.args.silent.now c.args.destinations.now c.args.logs.now
