use Rattle.std.proofs.Common.{ap, filter, sym, subst, ◌∙◌}
use Rattle.learnt_addresses.specs.Laws.{AreOnce}
use Rattle.learnt_addresses.specs.LearntAddresses.{is_other}
use Rattle.learnt_addresses.proofs.OrderLemmas.{once_kept}
use Rattle.learnt_addresses.proofs.learnt_addresses.LearntAddresses.forget_destination.Goals as goal

pub invariant_of-self : goal.invariant_of-self
invariant_of-self c =
    subst AreOnce (sym (c.without-self-inside.ensures ∙ ap (filter (is_other c.args.address.now)) c.as_slice.ensures.value)) (once_kept (is_other c.args.address.now) c.self.inside.rows.items c.self.invariant)
