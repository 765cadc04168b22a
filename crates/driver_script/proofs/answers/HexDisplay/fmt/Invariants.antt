use Rattle.std.proofs.Common.{take}
use Rattle.std.specs.Fmt.{HasWritten, IsPlainFormatter}
use Rattle.std.specs.List.{flat_map}
use Rattle.driver_script.specs.Answers.{byte_text}
use Rattle.driver_script.proofs.answers.HexDisplay.fmt.Given as goal

-- the digits of the bytes so far are written
abbrev pub invariant-loop-byte : goal.invariant-loop-byte
invariant-loop-byte g l =
    IsPlainFormatter l.initial.f → HasWritten g.W.Write.write_str_gives l.initial.f (flat_map byte_text (take l.byte-index l.bytes)) l.f
