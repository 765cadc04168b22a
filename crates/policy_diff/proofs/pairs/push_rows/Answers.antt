use Rattle.std.proofs.Common.{◌≡◌, ◌∙◌, ap, length, arith}
use Rattle.std.proofs.lemmas.List.{length-map}
use Rattle.policy_diff.specs.Reach.{reach_of}
use Rattle.policy_diff.proofs.DiffLemmas.{ok_then, rows_more, rows_whole}
use Rattle.policy_diff.proofs.pairs.push_rows.Goals as goal

pub loop-at-preserved : goal.loop-at-preserved
loop-at-preserved c =
    rows_more c.args.old.now.policy c.args.new.now.policy c.args.decider c.loop-at.at c.args.rows.now.items c.loop-at.rows.items c.push_row.new.rows.items
    c.loop-at.invariant c.in_ok-push_row.ensures

pub returns : goal.returns
returns c =
    let same : length c.args.reaches.now ≡ length c.args.new.now.policy.rules = ap length c.requires.new_reaches ∙ length-map c.args.new.now.policy.rules (reach_of c.args.old.now.policy c.args.new.now.policy) in
    let all : c.loop-at.at ≡ length c.args.new.now.policy.rules = omega (arith, c.loop-at.auto.at-end, c.loop-at-test.false) in
    ok_then c.push_row-2.result _ _
    (λ more. rows_whole c.args.old.now.policy c.args.new.now.policy c.args.decider c.loop-at.at c.args.rows.now.items c.loop-at.rows.items c.push_row-2.new.rows.items
    c.loop-at.invariant all more)
    c.push_row-2.ensures
