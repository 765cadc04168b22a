use Rattle.std.proofs.Common.{Option, subst}
use Rattle.std.specs.Option.{IfSome}
use Rattle.policy_lint.specs.declared.unmet.Unmet.{Unmet}
use Rattle.policy_lint.specs.Nobody.{IsUnmet}
use Rattle.policy_lint.proofs.PushLemmas.{unmet_pushed}
use Rattle.policy_lint.proofs.unmet.put_unmet.Goals as goal

pub returns : goal.returns
returns c = λ known.
    unmet_pushed c.args.source.now.policy _ _ _ c.in_ok-push.ensures.items known
    (subst (λ (found : Option Unmet). IfSome found (IsUnmet c.args.source.now.policy)) c.in-Some.is c.in_ok-unmet.ensures)
