use Rattle.std.proofs.Common.{◌≡◌, take}
use Rattle.std.specs.Prelude.{filter_map}
use Rattle.media_agents.specs.Finding.{image_in}
use Rattle.media_agents.proofs.listing.list_images.Given as goal

abbrev pub invariant-loop-row : goal.invariant-loop-row
invariant-loop-row l = l.images ≡ take 512 (filter_map image_in (take l.row-index l.row-items))
