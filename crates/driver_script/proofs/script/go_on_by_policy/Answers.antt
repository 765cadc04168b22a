use Rattle.driver_script.proofs.TurnLemmas.{policy_goes, policy_gives_up, refusal_goes, refusal_gives_up}
use Rattle.driver_script.proofs.script.go_on_by_policy.Goals as goal

pub returns-in-Ok-clause-ok : goal.returns-in-Ok-clause-ok
returns-in-Ok-clause-ok g c =
    policy_goes c.go_on_by_step-result.result _ _ _ _ _ c.in-Ok.policy _ _ c.in-Ok.ensures.exact (rw (← c.newest-reading.ensures) c.go_on_by_step-result.ensures.ok)

pub returns-in-Ok-clause-err : goal.returns-in-Ok-clause-err
returns-in-Ok-clause-err g c =
    policy_gives_up c.go_on_by_step-result.result _ _ _ _ c.in-Ok.policy _ _ c.in-Ok.ensures.exact (rw (← c.newest-reading.ensures) c.go_on_by_step-result.ensures.err)

pub returns-in-Err-clause-ok : goal.returns-in-Err-clause-ok
returns-in-Err-clause-ok g c =
    refusal_goes c.go_on_by_refusal.result _ _ _ _ c.in-Err.fault _ _ c.in-Err.ensures.exact c.go_on_by_refusal.ensures.ok

pub returns-in-Err-clause-err : goal.returns-in-Err-clause-err
returns-in-Err-clause-err g c =
    refusal_gives_up c.go_on_by_refusal.result _ _ _ _ c.in-Err.fault _ _ c.in-Err.ensures.exact c.go_on_by_refusal.ensures.err
