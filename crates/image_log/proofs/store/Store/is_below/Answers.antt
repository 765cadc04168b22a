use Rattle.std.proofs.Common.{ℕ, ◌+◌, ltb, ap, ◌∙◌, subst}
use Rattle.image_log.specs.Order.{Ordered}
use Rattle.image_log.specs.Stored.{Stored}
use Rattle.image_log.proofs.Orders.{below_rank}
use Rattle.image_log.proofs.store.Store.is_below.Goals as goal

pub returns : goal.returns
returns c =
    let order = subst (λ (s : Stored). Ordered s.low (s.low + s.held.len) s.frames) c.self.view_is c.self.invariant.0.order in
    ap (λ (p : ℕ). ltb p c.args.position) c.start_of.ensures ∙ below_rank _ _ _ _ _ order c.requires
