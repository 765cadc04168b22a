use Rattle.std.proofs.Common.{[], List, ap, filter, map, take, ◌∙◌}
use Rattle.std.proofs.lemmas.List.{take_all}
use Rattle.driver_core.specs.SendRequests.{is_sent}
use Rattle.media_agents.specs.Finding.{log_at}
use Rattle.media_agents.proofs.FindingLemmas.{list_more}
use Rattle.media_agents.proofs.listing.list_publications.Goals as goal
use Rattle.stream_registry.specs.declared.row.LogRow.{LogRow}

pub loop-row-init : goal.loop-row-init
loop-row-init c = c.clear.ensures

pub loop-row-preserved : goal.loop-row-preserved
loop-row-preserved c =
    list_more log_at is_sent 256 [] c.sources-row-items.result.now c.loop-row.row-index c.row-item.result c.loop-row.logs c.add_publication.new.logs
    c.loop-row-test.true c.row-item.is c.loop-row.invariant c.add_publication.ensures

pub returns : goal.returns
returns c =
    c.loop-row.invariant
    ∙ ap (λ (rows : List LogRow). take 256 (map log_at (filter is_sent rows))) (take_all c.loop-row.row-index c.sources-row-items.result.now c.loop-row-test.false ∙ c.sources-row-items.ensures)
