use Rattle.std.proofs.Common.{SFits, w32, refl, rules}
use Rattle.std.proofs.lemmas.Int.{to_z-of_z}
use Rattle.policy_diff.proofs.AddingLemmas.{two_added}
use Rattle.policy_diff.proofs.DiffLemmas.{ok_then}
use Rattle.policy_diff.proofs.diff_rows.Pair.push_two.Goals as goal

pub returns : goal.returns
returns c =
    let low_fits : SFits w32 c.args.scope.low = search rules in
    let high_fits : SFits w32 c.args.scope.high = search rules in
    let low = to_z-of_z w32 c.args.scope.low low_fits in
    let high = to_z-of_z w32 c.args.scope.high high_fits in
    ok_then c.push_row-2.result _ _
    (λ more.
    two_added c.args.self.now.before.now.policy c.args.self.now.after.now.policy c.args.self.now.deciders c.args.scope _ _ c.args.number
    c.args.rows.now.items c.push_row.new.rows.items c.push_row-2.new.rows.items refl refl low high refl refl low high c.in_ok-push_row.ensures more)
    c.push_row-2.ensures
