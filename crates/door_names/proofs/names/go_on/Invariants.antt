use Rattle.std.proofs.Common.{◌≡◌, drop}
use Rattle.door_names.specs.Names.{go_on}
use Rattle.door_names.proofs.names.go_on.Given as goal

-- whether all of it goes on is whether what is left does
abbrev pub invariant-loop-byte : goal.invariant-loop-byte
invariant-loop-byte l = go_on l.before l.text ≡ go_on l.last (drop l.byte-index l.text)
