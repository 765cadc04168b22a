use Rattle.std.proofs.Common.{◌≡◌, ◌∙◌, ap, length, arith}
use Rattle.std.proofs.lemmas.List.{length-map}
use Rattle.policy_diff.specs.Reach.{reach_of}
use Rattle.policy_diff.proofs.DiffLemmas.{all_more, all_whole, ok_then}
use Rattle.policy_diff.proofs.pairs.push_all.Goals as goal

pub loop-at-preserved : goal.loop-at-preserved
loop-at-preserved c =
    all_more c.args.old.now.policy c.args.new.now.policy c.loop-at.at c.args.rows.now.items c.loop-at.rows.items c.push_rows.new.rows.items
    c.loop-at.invariant c.in_ok-push_rows.ensures

pub returns : goal.returns
returns c =
    let same : length c.args.old_reaches.now ≡ length c.args.old.now.policy.rules = ap length c.requires.of_old ∙ length-map c.args.old.now.policy.rules (reach_of c.args.old.now.policy c.args.new.now.policy) in
    let all : c.loop-at.at ≡ length c.args.old.now.policy.rules = omega (arith, c.loop-at.auto.at-end, c.loop-at-test.false) in
    ok_then c.push_rows-2.result _ _
    (λ more. all_whole c.args.old.now.policy c.args.new.now.policy c.loop-at.at c.args.rows.now.items c.loop-at.rows.items c.push_rows-2.new.rows.items
    c.loop-at.invariant all more)
    c.push_rows-2.ensures
