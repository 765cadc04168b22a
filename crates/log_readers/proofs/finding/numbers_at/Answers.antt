use Rattle.std.proofs.Common.{rules, ◌≡◌, add-one, sym, ◌∙◌}
use Rattle.std.proofs.lemmas.Bool.{ne_eqb}
use Rattle.log_readers.proofs.FindLemmas.{numbers_passed}
use Rattle.log_readers.proofs.finding.numbers_at.Goals as goal

pub loop-at-preserved : goal.loop-at-preserved
loop-at-preserved c =
    let other : ¬ (c.index-logs-at.result.number ≡ c.args.source) = search rules in
    rw add-one
    (sym (numbers_passed c.args.source c.args.logs.now c.args.slots.now c.loop-at.at c.index-logs-at.result
    c.requires c.loop-at-test.true c.index-logs-at.is
    (ne_eqb c.index-logs-at.result.number c.args.source other))
    ∙ c.loop-at.invariant)
