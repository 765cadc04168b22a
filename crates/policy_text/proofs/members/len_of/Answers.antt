use Rattle.std.proofs.Common.{◌≡◌, rules, sym, ◌∙◌, length}
use Rattle.policy_text.proofs.ItemsLemmas.{items_len-view}
use Rattle.policy_text.proofs.members.len_of.Goals as goal

pub returns-clause-items : goal.returns-clause-items
returns-clause-items c =
    let len : c.len.result ≡ length c.args.items.now.items = search rules in
    len ∙ sym (items_len-view c.args.items.now.items)
