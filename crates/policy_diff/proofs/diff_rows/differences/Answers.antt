use Rattle.std.proofs.Common.{◌∙◌, List, subst}
use Rattle.policy_diff.specs.Adding.{Adds, IsOfOne}
use Rattle.policy_diff.specs.declared.diff_rows.Row.{Row}
use Rattle.policy_diff.proofs.AddingLemmas.{is_diff}
use Rattle.policy_diff.proofs.diff_rows.differences.Goals as goal

pub returns : goal.returns
returns c =
    let old = c.args.old.now.policy in
    let new = c.args.new.now.policy in
    is_diff old new c.deref.result.now c.push_pairs.new.rows.items (c.deref.ensures.value ∙ c.in_ok-pairs.ensures)
    (subst (λ (l : List Row). Adds old new (IsOfOne old new c.deref.result.now) l c.push_pairs.new.rows.items) c.new-rows.ensures.items c.in_ok-push_pairs.ensures)
