use Rattle.std.proofs.Common.{ap, map, rules, sym, subst, ◌∙◌}
use Rattle.learnt_addresses.specs.Laws.{AreOnce}
use Rattle.learnt_addresses.specs.LearntAddresses.{heard_again}
use Rattle.learnt_addresses.proofs.OrderLemmas.{once_more, once_renewed}
use Rattle.learnt_addresses.proofs.learnt_addresses.LearntAddresses.learn_destination.Goals as goal

pub invariant_of-self : goal.invariant_of-self
invariant_of-self c =
    subst AreOnce (sym (c.renewed-self-inside.ensures ∙ ap (map (heard_again c.args.now c.args.address.now)) c.as_slice-then-has.ensures.value)) (once_renewed c.args.now c.args.address.now c.self.inside.rows.items c.self.invariant)

pub invariant_of-self-2 : goal.invariant_of-self-2
invariant_of-self-2 c =
    subst AreOnce (sym c.push.ensures.items) (once_more c.self.inside.rows.items _ c.self.invariant (search rules))
