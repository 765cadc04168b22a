use Rattle.std.proofs.Common.{◌≡◌, length, option_copied}
use Rattle.script_lines.specs.Hex.{behind, groups_of}
use Rattle.script_lines.specs.Pieces.{pieces, pieces_behind}
use Rattle.script_lines.proofs.hex.groups_of.Given as goal

-- with the groups that are left, the bytes so far make all bytes
abbrev pub invariant-groups : goal.invariant-groups
invariant-groups l =
    behind l.bytes.items (groups_of (pieces_behind 95 (option_copied l.left))) ≡ groups_of (pieces 95 l.fn.digits)

abbrev pub decreases-groups : goal.decreases-groups
decreases-groups l = length (pieces_behind 95 (option_copied l.left))
