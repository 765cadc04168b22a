use Rattle.std.proofs.Common.{rules}
use Rattle.policy_lint.proofs.ReportLemmas.{never_each}
use Rattle.policy_lint.proofs.report.warned.Goals as goal

pub returns : goal.returns
returns c = record {
  sound = search rules;
  hidden = c.in_ok-hidden.ensures.sound;
  found = c.in_ok-hidden.ensures.found;
  unmet = c.in_ok-unmet.ensures;
  never = never_each _ _ c.in_ok-hidden.ensures.sound;
  over = c.in_ok-over_in.ensures.exact;
  gone = c.in_ok-over_in.ensures.gone;
  ending = c.in_ok-ending_in.ensures.exact;
  ends = c.in_ok-ending_in.ensures.ends;
}
