use Rattle.std.proofs.Common.{◌≡◌, drop}
use Rattle.std.specs.List.{list_any}
use Rattle.stream_registry.specs.Lingering.{is_number}
use Rattle.stream_registry.proofs.lingering.is_named.Given as goal

-- the numbers that are left decide
abbrev pub invariant-loop-other : goal.invariant-loop-other
invariant-loop-other l =
    list_any (is_number l.number) (drop l.other-index l.numbers) ≡ list_any (is_number l.number) l.numbers
