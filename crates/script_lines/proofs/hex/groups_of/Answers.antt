use Rattle.std.proofs.Common.{◌∙◌, option_copied}
use Rattle.script_lines.specs.Pieces.{pieces_behind}
use Rattle.script_lines.proofs.HexLemmas.{push_bytes}
use Rattle.script_lines.proofs.hex.groups_of.Goals as goal

pub groups-preserved : goal.groups-preserved
groups-preserved c =
    let group = c.first_of_bytes.result.0.now in
    let groups = pieces_behind 95 (option_copied c.first_of_bytes.result.1) in
    push_bytes c.groups.bytes.items _ group groups c.in_ok-push_group.ensures
    ∙ (rw (c.in-Some.is, c.first_of_bytes.ensures) at c.groups.invariant)
