use Rattle.std.proofs.Common.{◌∙◌, List, [], ap, subst}
use Rattle.policy_core.specs.declared.rule.Rule.{Rule}
use Rattle.policy_table.specs.Printed.{IsCounted}
use Rattle.policy_table.specs.Rows.{all_groups}
use Rattle.policy_table.specs.Scope.{AddsNamed, is_named}
use Rattle.policy_table.specs.Table.{askers_of}
use Rattle.policy_table.specs.declared.groups.Group.{Group}
use Rattle.policy_table.proofs.TableLemmas.{whole_is}
use Rattle.policy_table.proofs.table.Table.of_all.Goals as goal

pub returns : goal.returns
returns c =
    let found = c.in_ok-groups.ensures in
    let same = c.rules.ensures.value in
    let policy = c.args.source.policy in
    let adds : AddsNamed [] found.0 (is_named policy.rules) = subst (λ (r : List Rule). AddsNamed [] found.0 (is_named r)) same found.1 in
    record {
      named = found.0;
      is_named = adds;
      parts = whole_is policy found.0 adds;
      counted = subst (λ (g : List Group). IsCounted c.args.source g c.in_ok-table.table)
          (found.2 ∙ ap (λ (r : List Rule). all_groups r (askers_of found.0)) same) c.in_ok-table.ensures;
    }
