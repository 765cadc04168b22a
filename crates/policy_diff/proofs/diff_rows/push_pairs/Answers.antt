use Rattle.std.proofs.Common.{◌<◌, length, arith}
use Rattle.std.proofs.lemmas.Option.{slice_get-get_or}
use Rattle.policy_diff.proofs.AddingLemmas.{pairs_end, pairs_go_on, pairs_start}
use Rattle.policy_diff.proofs.diff_rows.push_pairs.Goals as goal

pub loop-at-init : goal.loop-at-init
loop-at-init c = pairs_start c.args.old.now.policy c.args.new.now.policy c.args.pairs.now c.args.rows.now.items

pub loop-at-preserved : goal.loop-at-preserved
loop-at-preserved c =
    let pairs = c.args.pairs.now in
    let within : c.loop-at.at < length pairs = omega (arith, c.loop-at-test.true) in
    pairs_go_on c.args.old.now.policy c.args.new.now.policy pairs c.loop-at.at _ c.args.rows.now.items c.loop-at.rows.items c.push_pair.new.rows.items
    c.loop-at.invariant c.in_ok-push_pair.ensures (slice_get-get_or pairs c.loop-at.at _ within)

pub returns : goal.returns
returns c =
    pairs_end c.args.old.now.policy c.args.new.now.policy c.args.pairs.now c.loop-at.at c.args.rows.now.items c.loop-at.rows.items
    (omega (arith, c.loop-at-test.false)) c.loop-at.invariant
