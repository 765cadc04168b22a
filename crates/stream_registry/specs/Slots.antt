-- Each live log has a slot, a number of its own among the logs of its kind. Own rules.
use Rattle.std.specs.Prelude.{ℕ, ◌+◌, Bool, ◌==◌, ◌&&◌, List, [], ◌∷◌, if◌then◌else◌}
use Rattle.std.specs.List.{list_any}
use Rattle.stream_registry.specs.declared.row.LogRow.{LogRow}
use Rattle.stream_registry.specs.Origins.{is_of_kind}

-- it is of that kind, and has the slot
abbrev pub has_slot : Bool → ℕ → LogRow → Bool
has_slot published slot log = is_of_kind published log && log.slot == slot

abbrev pub is_slot_taken : Bool → List LogRow → ℕ → Bool
is_slot_taken published logs slot = list_any (has_slot published slot) logs

-- the first number from this one on that no live log of the kind has; as many tries as there are logs suffice
abbrev pub slot_from : Bool → List LogRow → List LogRow → ℕ → ℕ
slot_from published [] logs slot = slot
slot_from published (other ∷ others) logs slot =
    if is_slot_taken published logs slot then slot_from published others logs (slot + 1) else slot

-- the least one
unfoldable pub free_slot : Bool → List LogRow → ℕ
free_slot published logs = slot_from published logs logs 0
