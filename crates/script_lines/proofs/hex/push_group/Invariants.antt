use Rattle.std.proofs.Common.{◌≡◌, length}
use Rattle.script_lines.specs.Hex.{behind, bytes_of}
use Rattle.script_lines.proofs.hex.push_group.Given as goal

-- with the digits that are left, the bytes so far make all bytes
abbrev pub invariant-bytes : goal.invariant-bytes
invariant-bytes l = behind l.bytes.items (bytes_of l.rest) ≡ behind l.fn.bytes.items (bytes_of l.digits)

abbrev pub decreases-bytes : goal.decreases-bytes
decreases-bytes l = length l.rest
