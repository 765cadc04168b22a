use Rattle.std.proofs.Common.{inl, refl, arith}
use Rattle.image_log.specs.Order.{Begins}
use Rattle.image_log.specs.Pairs.{IsWithin}
use Rattle.image_log.proofs.Settled.{log_paired}
use Rattle.log_pairs.proofs.Pairing.{at_push}
use Rattle.image_log.proofs.log.ImageLog.join_pair.Goals as goal

pub invariant_of-self : goal.invariant_of-self
invariant_of-self c =
    let s = c.self.inside in
    log_paired s.ident s.join s.base s.contiguous s.pairs c.join.new.self _ s.store c.self.invariant c.join.ensures
    (at_push (IsWithin s.base s.contiguous) s.pairs (record { subscription = c.args.subscription; position = s.contiguous }) c.self.invariant.paired (c.self.invariant.based, omega arith))
    (at_push (Begins s.contiguous s.store.frames) s.pairs (record { subscription = c.args.subscription; position = s.contiguous }) c.self.invariant.starts (inl refl))
