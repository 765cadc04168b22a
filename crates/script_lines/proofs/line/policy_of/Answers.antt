use Rattle.std.proofs.Common.{sym}
use Rattle.script_lines.proofs.LineLemmas.{policy_of-more}
use Rattle.script_lines.proofs.line.policy_of.Goals as goal

pub returns-in-Some : goal.returns-in-Some
returns-in-Some c = rw c.in-Some.is (sym (policy_of-more c.in-Some.field-0.now))
