-- The requests of an asker and an act in parts: in each of them the same rules decide on every stream.
use Rattle.std.specs.Prelude.{ℕ, zero, suc, ◌+◌, ◌-◌, Bool, ℤ, pos, negsuc, ◌+ℤ◌, List, [], ◌∷◌, if◌then◌else◌, int_le}
use Rattle.policy_core.specs.declared.act.Act.{Act}
use Rattle.policy_core.specs.declared.rule.Rule.{Rule}
use Rattle.policy_table.specs.Stretch.{span_at}
use Rattle.policy_table.specs.declared.scope.Asker.{Asker}
use Rattle.policy_table.specs.declared.scope.Scope.{Scope}

-- requests, and the places of the rules that decide them, in their order
pub record Part : Type 0 where
  pub scope : Scope
  pub places : List ℕ

-- the requests of an asker and an act, from a stream on
abbrev pub from_on : Asker → Act → ℤ → Scope
from_on asker act low = record { asker = asker; act = act; low = low; high = pos 2147483647 }

-- the scope up to this stream
abbrev pub up_to : Scope → ℤ → Scope
up_to scope high = record { asker = scope.asker; act = scope.act; low = scope.low; high = high }

-- the part that begins at the scope's low stream
unfoldable pub part_at : List Rule → Scope → Part
part_at rules scope = record { scope = up_to scope (span_at rules scope).high; places = (span_at rules scope).places }

-- no stream is left after this part
abbrev pub is_last : Part → Bool
is_last part = int_le (pos 2147483647) part.scope.high

-- how many streams come after one
abbrev pub left_of : ℤ → ℕ
left_of (pos n) = 2147483647 - n
left_of (negsuc n) = 2147483648 + n

-- at most so many parts, one after the other, from a stream on
unfoldable pub some_parts : ℕ → List Rule → Asker → Act → ℤ → List Part
some_parts zero rules asker act low = []
some_parts (suc left) rules asker act low =
    part_at rules (from_on asker act low)
    ∷ (if is_last (part_at rules (from_on asker act low)) then []
    else some_parts left rules asker act ((part_at rules (from_on asker act low)).scope.high +ℤ pos 1))

-- all parts from a stream on
unfoldable pub parts_from : List Rule → Asker → Act → ℤ → List Part
parts_from rules asker act low = some_parts (left_of low + 1) rules asker act low

-- all requests of an asker and an act, in parts
abbrev pub lane : List Rule → Asker → Act → List Part
lane rules asker act = parts_from rules asker act (negsuc 2147483647)
