use Rattle.driver_script.proofs.TurnLemmas.{step_taken, step_given_up, audit_taken, audit_given_up, policy_taken, policy_given_up, bad_taken, bad_given_up}
use Rattle.driver_script.proofs.script.take_step.Goals as goal

pub returns-in-Does-clause-ok : goal.returns-in-Does-clause-ok
returns-in-Does-clause-ok g c =
    step_taken c.go_on_by_step-result.result _ _ _ c.args.statement c.in-Does.reading _ _ c.in-Does.is c.go_on_by_step-result.ensures.ok

pub returns-in-Does-clause-err : goal.returns-in-Does-clause-err
returns-in-Does-clause-err g c =
    step_given_up c.go_on_by_step-result.result _ _ c.args.statement c.in-Does.reading _ _ c.in-Does.is c.go_on_by_step-result.ensures.err

pub returns-in-Audit-clause-ok : goal.returns-in-Audit-clause-ok
returns-in-Audit-clause-ok g c =
    audit_taken c.go_on_by_audit.result _ _ c.args.statement c.in-Audit.actor _ _ c.in-Audit.is c.go_on_by_audit.ensures.ok

pub returns-in-Audit-clause-err : goal.returns-in-Audit-clause-err
returns-in-Audit-clause-err g c =
    audit_given_up c.go_on_by_audit.result _ _ c.args.statement c.in-Audit.actor _ _ c.in-Audit.is c.go_on_by_audit.ensures.err

pub returns-in-Policy-clause-ok : goal.returns-in-Policy-clause-ok
returns-in-Policy-clause-ok g c =
    policy_taken c.go_on_by_policy.result _ _ _ c.args.statement c.in-Policy.text c.as_str.result.now _ _ c.as_str.ensures c.in-Policy.is c.go_on_by_policy.ensures.ok

pub returns-in-Policy-clause-err : goal.returns-in-Policy-clause-err
returns-in-Policy-clause-err g c =
    policy_given_up c.go_on_by_policy.result _ _ c.args.statement c.in-Policy.text c.as_str.result.now _ _ c.as_str.ensures c.in-Policy.is c.go_on_by_policy.ensures.err

pub returns-in-Principal-clause-ok : goal.returns-in-Principal-clause-ok
returns-in-Principal-clause-ok g c =
    bad_taken _ _ _ c.args.statement _ _ _ c.in-Principal.is tt c.stop_at.ensures.ok

pub returns-in-Principal-clause-err : goal.returns-in-Principal-clause-err
returns-in-Principal-clause-err g c =
    bad_given_up _ _ _ c.args.statement _ _ _ c.in-Principal.is tt c.stop_at.ensures.err

pub returns-in-Peer-clause-ok : goal.returns-in-Peer-clause-ok
returns-in-Peer-clause-ok g c =
    bad_taken _ _ _ c.args.statement _ _ _ c.in-Peer.is tt c.stop_at-in-Peer.ensures.ok

pub returns-in-Peer-clause-err : goal.returns-in-Peer-clause-err
returns-in-Peer-clause-err g c =
    bad_given_up _ _ _ c.args.statement _ _ _ c.in-Peer.is tt c.stop_at-in-Peer.ensures.err

pub returns-in-Set-clause-ok : goal.returns-in-Set-clause-ok
returns-in-Set-clause-ok g c =
    bad_taken _ _ _ c.args.statement _ _ _ c.in-Set.is tt c.stop_at-in-Set.ensures.ok

pub returns-in-Set-clause-err : goal.returns-in-Set-clause-err
returns-in-Set-clause-err g c =
    bad_given_up _ _ _ c.args.statement _ _ _ c.in-Set.is tt c.stop_at-in-Set.ensures.err

pub returns-clause-ok : goal.returns-clause-ok
returns-clause-ok g c =
    bad_taken _ _ _ c.args.statement _ _ _ c.in-Bad.is tt c.stop_at-in-Bad.ensures.ok

pub returns-clause-err : goal.returns-clause-err
returns-clause-err g c =
    bad_given_up _ _ _ c.args.statement _ _ _ c.in-Bad.is tt c.stop_at-in-Bad.ensures.err
