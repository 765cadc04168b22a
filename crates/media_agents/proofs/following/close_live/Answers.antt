use Rattle.std.proofs.Common.{List, subst, ◌∙◌}
use Rattle.std.proofs.lemmas.List.{take_all}
use Rattle.media_agents.specs.Acts.{Each, GoesOn}
use Rattle.media_agents.specs.Asking.{IsRowClosed}
use Rattle.media_agents.proofs.ChainLemmas.{each_next, each_none}
use Rattle.media_agents.proofs.FollowingLemmas.{row_closed}
use Rattle.media_agents.proofs.following.close_live.Goals as goal
use Rattle.stream_registry.specs.declared.row.LogRow.{LogRow}

pub loop-row-init : goal.loop-row-init
loop-row-init g c = each_none IsRowClosed (g.L.Logs.did c.args.logs.now)

pub loop-row-preserved : goal.loop-row-preserved
loop-row-preserved g c =
    let did = g.L.Logs.did in
    each_next IsRowClosed c.sources-row-items.result.now c.loop-row.row-index c.row-item.result (did c.args.logs.now) (did c.loop-row.logs) (did c.close.new.self)
    c.loop-row-test.true c.loop-row.invariant
    (subst (λ (row : LogRow). GoesOn (IsRowClosed row) (did c.loop-row.logs) (did c.close.new.self)) c.row-item.is
    (row_closed c.row-item.result c.of.result c.close.result (did c.loop-row.logs) (did c.close.new.self) c.of.ensures c.close.ensures.closed))

pub returns : goal.returns
returns g c =
    subst (λ (rows : List LogRow). GoesOn (Each IsRowClosed rows) (g.L.Logs.did c.args.logs.now) (g.L.Logs.did c.loop-row.logs))
    (take_all c.loop-row.row-index c.sources-row-items.result.now c.loop-row-test.false ∙ c.sources-row-items.ensures) c.loop-row.invariant
