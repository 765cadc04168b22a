use Rattle.policy_diff.proofs.PlaceLemmas.{not_left}
use Rattle.policy_diff.proofs.diff_rows.Pair.is_taken.Goals as goal

pub returns-then-is_taken : goal.returns-then-is_taken
returns-then-is_taken c = λ h question is by.
    not_left c.args.self.now.before.now.policy c.args.self.now.after.now.policy c.args.self.now.deciders c.args.scope.now c.args.self.now.before.now.policy.rules c.args.self.now.deciders.old question (c.is_taken.ensures h) is by by.by_old

pub returns-else-is_taken : goal.returns-else-is_taken
returns-else-is_taken c = λ h question is by.
    not_left c.args.self.now.before.now.policy c.args.self.now.after.now.policy c.args.self.now.deciders c.args.scope.now c.args.self.now.after.now.policy.rules c.args.self.now.deciders.new question (c.is_taken-else-is_taken.ensures h) is by by.by_new
