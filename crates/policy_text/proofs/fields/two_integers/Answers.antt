use Rattle.std.proofs.Common.{◌<◌, ◌≤◌, rules, length}
use Rattle.policy_text.proofs.ItemsLemmas.{two_integers_of_few, two_integers_of_many}
use Rattle.policy_text.proofs.fields.two_integers.Goals as goal

pub returns-in_default : goal.returns-in_default
returns-in_default c =
    let few : length c.args.items.now.items < 2 = search rules in
    two_integers_of_few c.args.items.now.items few

pub returns-in_default-2 : goal.returns-in_default-2
returns-in_default-2 c =
    let many : 3 ≤ length c.args.items.now.items = search rules in
    two_integers_of_many c.args.items.now.items many
