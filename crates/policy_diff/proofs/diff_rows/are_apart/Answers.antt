use Rattle.std.proofs.Common.{arith}
use Rattle.policy_diff.proofs.AddingLemmas.{apart_at}
use Rattle.policy_diff.proofs.diff_rows.are_apart.Goals as goal

pub returns-then-is_shown : goal.returns-then-is_shown
returns-then-is_shown c = λ _ old new all.
    apart_at old new c.args.rows.now c.loop-at.at c.index-rows-at.result (omega (arith, c.loop-at-test.true)) c.index-rows-at.is all (c.is_shown.ensures c.if-is_shown.true old new)
