use Rattle.std.proofs.Common.{List, sym, subst}
use Rattle.log_pairs.specs.declared.pair.Pair.{Pair}
use Rattle.term_log.specs.Pairs.{AreNear, IsNear}
use Rattle.log_pairs.proofs.Pairing.{at_map}
use Rattle.term_log.proofs.Nears.{near_ahead}
use Rattle.term_log.proofs.term_log.TermLog.advance.Goals as goal

pub invariant_of-self : goal.invariant_of-self
invariant_of-self c =
    let s = c.self.inside in
    let i = s.appender.ident in
    let near = c.self.invariant.near in
    let from = rw (← c.self.view_is) at c.requires.from in
    let to = rw (← c.self.view_is) at c.requires.to in
    record {
      high = c.self.invariant.high;
      near = subst (λ (pairs : List Pair). AreNear i.start s.appender.tail i.term_length pairs) (sym c.advance.ensures)
          (at_map (IsNear i.start s.appender.tail i.term_length) c.args.subscription c.args.position s.pairs near
          (near_ahead i.start s.appender.tail i.term_length c.args.subscription c.args.position s.pairs near from to));
      sender_near = c.self.invariant.sender_near;
    }
