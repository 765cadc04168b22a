use Rattle.std.proofs.Common.{List, refl, subst, sym}
use Rattle.policy_diff.specs.Adding.{AddsScope}
use Rattle.policy_diff.specs.declared.diff_rows.Row.{Row}
use Rattle.policy_diff.proofs.AddingLemmas.{none_added, row_added, sound_row}
use Rattle.policy_diff.proofs.diff_rows.Pair.push_row.Goals as goal

pub returns-then-is_taken : goal.returns-then-is_taken
returns-then-is_taken c =
    none_added c.args.self.now.before.now.policy c.args.self.now.after.now.policy c.args.self.now.deciders c.args.scope c.args.rows.now.items
    (c.is_taken.ensures c.if-is_taken.true)

pub returns : goal.returns
returns c =
    let old = c.args.self.now.before.now.policy in
    let new = c.args.self.now.after.now.policy in
    let deciders = c.args.self.now.deciders in
    let row : Row = record { deciders = deciders; scope = c.args.scope; example = c.example-example.result } in
    subst (λ (l : List Row). AddsScope old new deciders c.args.scope c.args.rows.now.items l) (sym c.in_ok-push.ensures.items)
    (row_added old new deciders c.args.scope c.args.rows.now.items row (sound_row old new deciders c.args.scope c.example-example.result c.requires c.example-example.ensures) refl refl)
