use Rattle.policy_lint.proofs.hiding.hidden_at.Goals as goal

pub returns-in-None-clause-found : goal.returns-in-None-clause-found
returns-in-None-clause-found c = λ place hider. absurd (c.in-None.ensures.none place hider)

pub returns-in_ok-hidden-in-Some-clause-sound : goal.returns-in_ok-hidden-in-Some-clause-sound
returns-in_ok-hidden-in-Some-clause-sound c = c.in_ok-hidden-in-Some.ensures.sound c.args.source.now.policy.rules c.in-Some.ensures.some
