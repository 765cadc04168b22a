use Rattle.std.proofs.Common.{◌≡◌, fold, take}
use Rattle.media_agents.specs.Journals.{audited_outlet}
use Rattle.media_agents.proofs.noting.audit_outlets.Given as goal

abbrev pub invariant-loop-outlet : goal.invariant-loop-outlet
invariant-loop-outlet l = l.audit ≡ fold (audited_outlet l.stamp) l.fn.audit (take l.outlet-index l.outlets)
