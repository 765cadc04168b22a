use Rattle.std.proofs.Common.{take}
use Rattle.std.specs.Prelude.{filter_map}
use Rattle.media_agents.specs.Finding.{AreNamed, control_in}
use Rattle.media_agents.proofs.listing.list_controls.Given as goal

abbrev pub invariant-loop-row : goal.invariant-loop-row
invariant-loop-row l = AreNamed (filter_map control_in (take l.row-index l.row-items)) l.controls
