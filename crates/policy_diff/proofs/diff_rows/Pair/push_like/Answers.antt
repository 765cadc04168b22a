use Rattle.std.proofs.Common.{SFits, w32, refl, rules}
use Rattle.std.proofs.lemmas.Int.{to_z-of_z}
use Rattle.policy_diff.proofs.AddingLemmas.{act_off, none_taken_off, still_off, taken_off}
use Rattle.policy_diff.proofs.diff_rows.Pair.push_like.Goals as goal

pub returns-then-not-hold-clause-adds : goal.returns-then-not-hold-clause-adds
returns-then-not-hold-clause-adds c = none_taken_off c.args.self.now.before.now.policy c.args.self.now.after.now.policy c.args.self.now.deciders c.args.scope c.args.left c.args.rows.now.items

pub returns-clause-done : goal.returns-clause-done
returns-clause-done c = act_off c.acts_like.result c.with-acts.result c.args.left c.acts_of_both.result c.args.act c.with-acts.ensures.all c.acts_of_both.ensures

pub returns-clause-fewer : goal.returns-clause-fewer
returns-clause-fewer c = λ other was. still_off c.with-acts.result c.args.left c.acts_of_both.result other c.acts_of_both.ensures was

pub returns-clause-adds : goal.returns-clause-adds
returns-clause-adds c =
    let low_fits : SFits w32 c.args.scope.low = search rules in
    let high_fits : SFits w32 c.args.scope.high = search rules in
    taken_off c.args.self.now.before.now.policy c.args.self.now.after.now.policy c.args.self.now.deciders c.args.scope _ c.args.left c.with-acts.result c.acts_of_both.result
    c.args.rows.now.items c.push_part.new.rows.items c.in_ok-push_part.ensures refl refl (to_z-of_z w32 c.args.scope.low low_fits) (to_z-of_z w32 c.args.scope.high high_fits) c.acts_of_both.ensures
