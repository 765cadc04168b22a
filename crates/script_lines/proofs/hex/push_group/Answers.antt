use Rattle.std.proofs.Common.{◌∙◌, sym}
use Rattle.script_lines.proofs.HexLemmas.{push_byte}
use Rattle.script_lines.proofs.hex.push_group.Goals as goal

pub bytes-preserved : goal.bytes-preserved
bytes-preserved c =
    rw (c.in_ok-push.ensures.items, c.split_at.ensures.back)
    (push_byte _ _ c.in_ok-byte.byte c.bytes-test.true (sym c.byte_of.ensures ∙ c.in_ok-byte.ensures.ok_part))
    ∙ c.bytes.invariant
