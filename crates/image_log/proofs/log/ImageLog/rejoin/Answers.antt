use Rattle.std.proofs.Common.{ℕ, List, inl, refl, arith}
use Rattle.image_log.specs.Order.{Begins}
use Rattle.image_log.specs.Pairs.{IsWithin}
use Rattle.log_pairs.specs.Pairs.{rejoined_pairs}
use Rattle.image_log.proofs.Settled.{log_paired}
use Rattle.log_pairs.proofs.Pairing.{at_rejoined}
use Rattle.image_log.proofs.log.ImageLog.rejoin.Goals as goal

pub invariant_of-self : goal.invariant_of-self
invariant_of-self c =
    let s = c.self.inside in
    let subscriptions : List ℕ = c.args.subscriptions.now in
    log_paired s.ident s.join s.base s.contiguous s.pairs c.rejoin.new.self (rejoined_pairs s.contiguous s.pairs subscriptions) s.store c.self.invariant c.rejoin.ensures
    (at_rejoined (IsWithin s.base s.contiguous) s.contiguous s.pairs subscriptions c.self.invariant.paired (c.self.invariant.based, omega arith))
    (at_rejoined (Begins s.contiguous s.store.frames) s.contiguous s.pairs subscriptions c.self.invariant.starts (inl refl))
