use Rattle.std.proofs.Common.{◌≡◌}
use Rattle.media_agents.proofs.FindingActs.{lists, lists_none}
use Rattle.media_agents.proofs.LookLemmas.{kept, left}
use Rattle.media_agents.specs.Finding.{publications_of}
use Rattle.media_agents.proofs.finding.find_publications.Goals as goal

pub returns-in-Ok-clause-known : goal.returns-in-Ok-clause-known
returns-in-Ok-clause-known g c = left c.in-Ok.ensures.looks c.leave.ensures

pub returns-in-Ok-clause-listed : goal.returns-in-Ok-clause-listed
returns-in-Ok-clause-listed g c =
    lists (λ s logs. logs ≡ publications_of s) c.args.pass c.leave.result c.list_publications.new.logs c.look.result (g.S.Stepping.did c.args.steps.now) (g.S.Stepping.did c.look.new.self)
    c.in-Ok.look c.registry.result.now c.in-Ok.is (left c.in-Ok.ensures.looks c.leave.ensures) c.leave.ensures c.registry.ensures c.list_publications.ensures
    c.look.ensures.did

pub returns-in-Err-clause-known : goal.returns-in-Err-clause-known
returns-in-Err-clause-known g c = kept c.in-Err.ensures.same

pub returns-in-Err-clause-listed : goal.returns-in-Err-clause-listed
returns-in-Err-clause-listed g c =
    lists_none (λ s logs. logs ≡ publications_of s) c.args.pass c.in-Err.pass c.clear.new.self c.look.result (g.S.Stepping.did c.args.steps.now) (g.S.Stepping.did c.look.new.self)
    c.in-Err.pass c.in-Err.is (kept c.in-Err.ensures.same) c.clear.ensures c.look.ensures.did
