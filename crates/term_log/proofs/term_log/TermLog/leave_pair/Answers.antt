use Rattle.std.proofs.Common.{List, sym, subst}
use Rattle.log_pairs.specs.declared.pair.Pair.{Pair}
use Rattle.term_log.specs.Pairs.{AreNear, IsNear}
use Rattle.log_pairs.proofs.Pairing.{at_filter}
use Rattle.term_log.proofs.term_log.TermLog.leave_pair.Goals as goal

pub invariant_of-self : goal.invariant_of-self
invariant_of-self c =
    let s = c.self.inside in
    let i = s.appender.ident in
    record {
      high = c.self.invariant.high;
      near = subst (λ (pairs : List Pair). AreNear i.start s.appender.tail i.term_length pairs) (sym c.leave.ensures)
          (at_filter (IsNear i.start s.appender.tail i.term_length) c.args.subscription s.pairs c.self.invariant.near);
      sender_near = c.self.invariant.sender_near;
    }
