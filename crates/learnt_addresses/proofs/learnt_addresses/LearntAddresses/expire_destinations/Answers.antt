use Rattle.std.proofs.Common.{ap, filter, sym, subst, ◌∙◌}
use Rattle.learnt_addresses.specs.Laws.{AreOnce}
use Rattle.learnt_addresses.specs.LearntAddresses.{stands}
use Rattle.learnt_addresses.proofs.OrderLemmas.{once_kept}
use Rattle.learnt_addresses.proofs.learnt_addresses.LearntAddresses.expire_destinations.Goals as goal

pub invariant_of-self : goal.invariant_of-self
invariant_of-self c =
    subst AreOnce (sym (c.standing-self-inside.ensures ∙ ap (filter (stands c.args.now c.args.timeout)) c.as_slice.ensures.value)) (once_kept (stands c.args.now c.args.timeout) c.self.inside.rows.items c.self.invariant)
