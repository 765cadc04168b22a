use Rattle.std.proofs.Common.{◌≡◌, drop}
use Rattle.std.specs.Map.{lookup}
use Rattle.std.specs.Str.{bytes_eq}
use Rattle.policy_text.proofs.names.Names.number_of.Given as goal

-- the names that are left decide
abbrev pub invariant-loop-given : goal.invariant-loop-given
invariant-loop-given l =
    lookup (bytes_eq l.name) (drop l.given-index l.given-items) ≡ lookup (bytes_eq l.name) l.given-items
