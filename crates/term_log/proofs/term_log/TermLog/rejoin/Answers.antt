use Rattle.std.proofs.Common.{◌≡◌, List, sym, subst, rules, arith}
use Rattle.log_pairs.specs.declared.pair.Pair.{Pair}
use Rattle.term_log.specs.Log.{Log}
use Rattle.term_log.specs.Pairs.{AreNear, IsNear}
use Rattle.term_log.specs.Whole.{Carries, rejoined, rejoined_kept}
use Rattle.log_pairs.proofs.Pairing.{at_rejoined}
use Rattle.term_log.proofs.Standing.{rejoin_stands}
use Rattle.term_log.proofs.term_log.TermLog.rejoin.Goals as goal

pub invariant_of-self : goal.invariant_of-self
invariant_of-self c =
    let s = c.self.inside in
    let i = s.appender.ident in
    let tail = c.tail-tail.ensures.value in
    let low = c.tail-tail.ensures.low in
    record {
      high = c.self.invariant.high;
      near = subst (λ (pairs : List Pair). AreNear i.start s.appender.tail i.term_length pairs) (sym c.rejoin.ensures)
          (at_rejoined (IsNear i.start s.appender.tail i.term_length) c.tail-tail.result s.pairs c.args.subscriptions.now c.self.invariant.near (omega arith, omega arith, omega arith));
      sender_near = c.self.invariant.sender_near;
    }

pub returns-clause-whole : goal.returns-clause-whole
unfolding rejoined_kept
returns-clause-whole c =
    let s = c.self.inside in
    let old : Log = record { kept = s.appender; pairs = s.pairs; sender = s.sender } in
    let new : Log = record { kept = s.appender; pairs = c.rejoin.new.self; sender = s.sender } in
    let exact : new ≡ rejoined_kept c.args.subscriptions.now old = search rules in
    rw (← c.self.view_is) (subst (λ (l : Log). Carries old l (rejoined c.args.subscriptions.now)) (sym exact) (rejoin_stands old c.args.subscriptions.now))
