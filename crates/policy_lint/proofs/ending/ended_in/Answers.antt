use Rattle.std.proofs.Common.{arith, length, refl, rules}
use Rattle.std.proofs.lemmas.Option.{slice_get_read}
use Rattle.policy_lint.specs.Ending.{is_among}
use Rattle.policy_lint.proofs.EndingLemmas.{ended_more}
use Rattle.policy_lint.proofs.ending.ended_in.Goals as goal

pub loop-at-preserved : goal.loop-at-preserved
loop-at-preserved c = record {
  exact =
      ended_more (is_among c.args.ends) c.args.rules.now c.loop-at.at c.index-rules-at.result _ _ (omega arith) c.index-rules-at.is
      c.in_ok-put_ended.ensures.exact c.loop-at.invariant.exact;
  ends =
      c.in_ok-put_ended.ensures.ends c.args.rules.now
      (slice_get_read c.args.rules.now (length c.args.rules.now) c.loop-at.at c.index-rules-at.result refl (omega arith) c.index-rules-at.is)
      c.loop-at.invariant.ends;
}
