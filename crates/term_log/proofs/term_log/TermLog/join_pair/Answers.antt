use Rattle.std.proofs.Common.{List, sym, subst, arith}
use Rattle.log_pairs.specs.declared.pair.Pair.{Pair}
use Rattle.term_log.specs.Pairs.{AreNear, IsNear}
use Rattle.log_pairs.proofs.Pairing.{at_push}
use Rattle.term_log.proofs.term_log.TermLog.join_pair.Goals as goal

pub invariant_of-self : goal.invariant_of-self
invariant_of-self c =
    let s = c.self.inside in
    let i = s.appender.ident in
    let tail = c.tail-position.ensures.value in
    let low = c.tail-position.ensures.low in
    record {
      high = c.self.invariant.high;
      near = subst (λ (pairs : List Pair). AreNear i.start s.appender.tail i.term_length pairs) (sym c.join.ensures)
          (at_push (IsNear i.start s.appender.tail i.term_length) s.pairs (record { subscription = c.args.subscription; position = c.tail-position.result }) c.self.invariant.near (omega arith, omega arith, omega arith));
      sender_near = c.self.invariant.sender_near;
    }
