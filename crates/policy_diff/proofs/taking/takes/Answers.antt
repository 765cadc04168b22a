use Rattle.std.proofs.Common.{◌∙◌, sym}
use Rattle.policy_diff.proofs.PlaceLemmas.{takes_by_new, takes_by_old}
use Rattle.policy_diff.proofs.taking.takes.Goals as goal

pub returns-then-covers_all_of : goal.returns-then-covers_all_of
returns-then-covers_all_of c = λ h.
    takes_by_old c.args.old.now.policy c.args.new.now.policy c.args.deciders c.args.scope.now c.args.rule.now (sym c.reaches_each.ensures ∙ c.if-reaches_each.true) (c.covers_all_of.ensures h)

pub returns-else-covers_all_of : goal.returns-else-covers_all_of
returns-else-covers_all_of c = λ h.
    takes_by_new c.args.old.now.policy c.args.new.now.policy c.args.deciders c.args.scope.now c.args.rule.now (sym c.reaches_each.ensures ∙ c.if-reaches_each.true) (c.covers_all_of-else-covers_all_of.ensures h)
