use Rattle.std.proofs.Common.{◌≡◌, take}
use Rattle.media_agents.specs.Journals.{audited_all}
use Rattle.media_driver.proofs.auditing.tell_all.Given as goal

abbrev pub invariant-loop-decision : goal.invariant-loop-decision
invariant-loop-decision l = l.audit ≡ audited_all l.stamp (take l.decision-index l.decisions) l.fn.audit
