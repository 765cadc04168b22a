use Rattle.std.proofs.Common.{List, [], subst, sym, ◌∙◌}
use Rattle.std.proofs.lemmas.List.{take_all}
use Rattle.std.specs.Prelude.{filter_map}
use Rattle.media_agents.specs.Finding.{AreNamed, control_in}
use Rattle.media_agents.proofs.FindingLemmas.{addresses_more, none_named}
use Rattle.media_agents.proofs.listing.list_controls.Goals as goal
use Rattle.stream_registry.specs.declared.row.LogRow.{LogRow}

pub loop-row-init : goal.loop-row-init
loop-row-init c = subst (AreNamed []) (sym c.clear.ensures) none_named

pub loop-row-preserved : goal.loop-row-preserved
loop-row-preserved c =
    addresses_more control_in c.sources-row-items.result.now c.loop-row.row-index c.row-item.result c.loop-row.controls
    c.add_control_of.new.controls c.loop-row-test.true c.row-item.is c.loop-row.invariant c.add_control_of.ensures

pub returns : goal.returns
returns c =
    subst (λ (all : List LogRow). AreNamed (filter_map control_in all) c.loop-row.controls)
    (take_all c.loop-row.row-index c.sources-row-items.result.now c.loop-row-test.false ∙ c.sources-row-items.ensures)
    c.loop-row.invariant
