use Rattle.std.proofs.Common.{◌∙◌, ◌++◌, List, ap, sym}
use Rattle.std.proofs.lemmas.List.{append-nil}
use Rattle.policy_table.specs.declared.groups.Group.{Group}
use Rattle.policy_table.proofs.GroupLemmas.{group_none, group_one}
use Rattle.policy_table.proofs.groups.push_group.Goals as goal

pub returns-then-branch : goal.returns-then-branch
returns-then-branch c =
    let old = c.args.groups.now.items in
    sym (ap (λ (l : List Group). old ++ l) (group_none c.args.rules.now c.args.asker c.args.act _ c.in_ok-is_repeated.ensures c.if-branch.true) ∙ append-nil old)

pub returns : goal.returns
returns c =
    let old = c.args.groups.now.items in
    c.in_ok-push.ensures.items
    ∙ ap (λ (l : List Group). old ++ l)
    (group_one c.args.rules.now c.args.asker c.args.act _ _ c.in_ok-is_repeated.ensures c.if-branch.false c.in_ok-acts.ensures)
