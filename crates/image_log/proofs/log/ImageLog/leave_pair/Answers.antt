use Rattle.image_log.specs.Order.{Begins}
use Rattle.image_log.specs.Pairs.{IsWithin}
use Rattle.image_log.proofs.Settled.{log_paired}
use Rattle.log_pairs.proofs.Pairing.{at_filter}
use Rattle.image_log.proofs.log.ImageLog.leave_pair.Goals as goal

pub invariant_of-self : goal.invariant_of-self
invariant_of-self c =
    let s = c.self.inside in
    log_paired s.ident s.join s.base s.contiguous s.pairs c.leave.new.self _ s.store c.self.invariant c.leave.ensures
    (at_filter (IsWithin s.base s.contiguous) c.args.subscription s.pairs c.self.invariant.paired)
    (at_filter (Begins s.contiguous s.store.frames) c.args.subscription s.pairs c.self.invariant.starts)
