use Rattle.std.proofs.Common.{◌≡◌, Option, subst}
use Rattle.std.proofs.lemmas.Bool.{false≢true}
use Rattle.std.specs.Option.{IfSome}
use Rattle.std.specs.Prelude.{IsSome}
use Rattle.policy_lint.specs.declared.hiding.Hidden.{Hidden}
use Rattle.policy_lint.specs.Hiding.{IsHiddenBy}
use Rattle.policy_lint.proofs.HiderLemmas.{found_more, found_skip}
use Rattle.policy_lint.proofs.PushLemmas.{all_pushed}
use Rattle.policy_lint.proofs.hiding.put_hidden.Goals as goal

pub returns-in_default-clause-found : goal.returns-in_default-clause-found
returns-in_default-clause-found c = λ known.
    found_skip c.args.source.now.policy.rules _ c.args.at
    (λ place hider. false≢true (subst (λ (found : Option Hidden). IsSome found) c.in_default.is (c.in_ok-hidden.ensures.found place hider))) known

pub returns-clause-sound : goal.returns-clause-sound
returns-clause-sound c = λ known.
    all_pushed c.args.source.now.policy.rules _ _ _ c.in_ok-push.ensures.items known
    (subst (λ (found : Option Hidden). IfSome found (λ hidden. IsHiddenBy c.args.source.now.policy.rules hidden.at hidden.by.items)) c.in-Some.is c.in_ok-hidden.ensures.sound)

pub returns-clause-found : goal.returns-clause-found
returns-clause-found c = λ known.
    found_more c.args.source.now.policy.rules _ _ _ c.args.at c.in_ok-push.ensures.items
    (subst (λ (found : Option Hidden). IfSome found (λ hidden. hidden.at ≡ c.args.at)) c.in-Some.is c.in_ok-hidden.ensures.here) known
