use Rattle.std.proofs.Common.{List, ap, take, ◌∙◌}
use Rattle.std.proofs.lemmas.List.{take_all}
use Rattle.std.specs.Prelude.{filter_map}
use Rattle.media_agents.specs.Finding.{image_in}
use Rattle.media_agents.proofs.ImageLemmas.{images_more}
use Rattle.media_agents.proofs.listing.list_images.Goals as goal
use Rattle.stream_registry.specs.declared.row.LogRow.{LogRow}

pub loop-row-init : goal.loop-row-init
loop-row-init c = c.clear.ensures

pub loop-row-preserved : goal.loop-row-preserved
loop-row-preserved c =
    images_more c.sources-row-items.result.now c.loop-row.row-index c.row-item.result c.loop-row.images c.add_image.new.images
    c.loop-row-test.true c.row-item.is c.loop-row.invariant c.add_image.ensures

pub returns : goal.returns
returns c =
    c.loop-row.invariant
    ∙ ap (λ (rows : List LogRow). take 512 (filter_map image_in rows)) (take_all c.loop-row.row-index c.sources-row-items.result.now c.loop-row-test.false ∙ c.sources-row-items.ensures)
