use Rattle.std.proofs.Common.{◌∙◌, ◌++◌, List, ap, sym, subst}
use Rattle.std.proofs.lemmas.List.{append-nil}
use Rattle.policy_core.specs.declared.rule.Rule.{Rule}
use Rattle.policy_table.specs.Printed.{IsCounted}
use Rattle.policy_table.specs.Rows.{groups_of}
use Rattle.policy_table.specs.declared.groups.Group.{Group}
use Rattle.policy_table.specs.declared.scope.Asker.TheVariants.{One}
use Rattle.policy_table.proofs.TableLemmas.{one_is}
use Rattle.policy_table.proofs.table.Table.of_one.Goals as goal

pub returns : goal.returns
returns c =
    let policy = c.args.source.policy in
    record {
      parts = one_is policy c.args.principal;
      counted = subst (λ (g : List Group). IsCounted c.args.source g c.in_ok-table.table)
          (c.in_ok-push_groups.ensures
          ∙ ap (λ (l : List Group). l ++ groups_of c.rules.result.now (One c.args.principal)) c.new-groups.ensures.items
          ∙ ap (λ (r : List Rule). groups_of r (One c.args.principal)) c.rules.ensures.value
          ∙ sym (append-nil (groups_of policy.rules (One c.args.principal))))
          c.in_ok-table.ensures;
    }
