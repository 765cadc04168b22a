use Rattle.std.proofs.Common.{arith}
use Rattle.policy_diff.proofs.AddingLemmas.{acts_end, acts_go_on, acts_start, none_more}
use Rattle.policy_diff.proofs.diff_rows.Pair.push_acts.Goals as goal

pub loop-number-init : goal.loop-number-init
loop-number-init c = record {
  none = λ act small. absurd (omega (arith, small));
  adds = acts_start c.args.self.now.before.now.policy c.args.self.now.after.now.policy c.args.self.now.deciders c.args.scope c.args.rows.now.items;
}

pub loop-number-preserved : goal.loop-number-preserved
loop-number-preserved c = record {
  none = none_more c.loop-number.left _ c.loop-number.number c.act_at-act.result c.act_at-act.ensures c.in_ok-left.ensures.done c.in_ok-left.ensures.fewer c.loop-number.invariant.none;
  adds =
      acts_go_on c.args.self.now.before.now.policy c.args.self.now.after.now.policy c.args.self.now.deciders c.args.scope c.loop-number.left _ c.args.rows.now.items c.loop-number.rows.items c.push_like.new.rows.items
      c.loop-number.invariant.adds c.in_ok-left.ensures.adds;
}

pub returns : goal.returns
returns c =
    acts_end c.args.self.now.before.now.policy c.args.self.now.after.now.policy c.args.self.now.deciders c.args.scope c.loop-number.left
    c.args.rows.now.items c.loop-number.rows.items
    (λ act small. c.loop-number.invariant.none act (omega (arith, small, c.loop-number-test.false))) c.loop-number.invariant.adds
