use Rattle.std.proofs.Common.{SFits, w32, get_or, refl, rules, arith}
use Rattle.std.proofs.lemmas.Int.{to_z-of_z}
use Rattle.policy_diff.proofs.AddingLemmas.{each_ends, each_goes_on, each_starts}
use Rattle.policy_diff.proofs.DiffLemmas.{ok_then}
use Rattle.policy_diff.proofs.diff_rows.Pair.push_each.Goals as goal

pub loop-at-init : goal.loop-at-init
loop-at-init c =
    each_starts c.args.self.now.before.now.policy c.args.self.now.after.now.policy c.args.self.now.deciders c.args.scope c.args.rows.now.items

pub loop-at-preserved : goal.loop-at-preserved
loop-at-preserved c =
    let low_fits : SFits w32 c.args.scope.low = search rules in
    let high_fits : SFits w32 c.args.scope.high = search rules in
    each_goes_on c.args.self.now.before.now.policy c.args.self.now.after.now.policy c.args.self.now.deciders c.args.scope _ c.args.named.now c.loop-at.at
    (get_or c.args.named.now c.loop-at.at 0) 0 c.args.rows.now.items c.loop-at.rows.items c.push_row.new.rows.items
    (omega (arith, c.loop-at-test.true)) refl refl refl (to_z-of_z w32 c.args.scope.low low_fits) (to_z-of_z w32 c.args.scope.high high_fits) c.loop-at.invariant c.in_ok-push_row.ensures

pub returns : goal.returns
returns c =
    let low_fits : SFits w32 c.args.scope.low = search rules in
    let high_fits : SFits w32 c.args.scope.high = search rules in
    ok_then c.push_row-2.result _ _
    (λ more.
    each_ends c.args.self.now.before.now.policy c.args.self.now.after.now.policy c.args.self.now.deciders c.args.scope _ c.args.named.now c.loop-at.at
    c.args.rows.now.items c.loop-at.rows.items c.push_row-2.new.rows.items
    (omega (arith, c.loop-at-test.false)) refl refl (to_z-of_z w32 c.args.scope.low low_fits) (to_z-of_z w32 c.args.scope.high high_fits) c.requires.named c.loop-at.invariant more)
    c.push_row-2.ensures
