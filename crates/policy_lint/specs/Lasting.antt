-- When one rule stands at each moment at which another one does.
use Rattle.std.specs.Prelude.{ℕ, Bool, true, false, ◌&&◌, Option, Some, None, nat_le}
use Rattle.policy_core.specs.declared.rule.Rule.{Rule}

-- what begins at the one is there whenever what begins at the other has begun
abbrev pub begins_first : Option ℕ → Option ℕ → Bool
begins_first None narrow = true
begins_first (Some from) None = false
begins_first (Some from) (Some other) = nat_le from other

-- what ends at the one is not over whenever what ends at the other is not
abbrev pub ends_last : Option ℕ → Option ℕ → Bool
ends_last None narrow = true
ends_last (Some until) None = false
ends_last (Some until) (Some other) = nat_le other until

-- the wide rule begins no later and ends no earlier than the narrow one
abbrev pub outlasts : Rule → Rule → Bool
outlasts wide narrow = begins_first wide.from narrow.from && ends_last wide.until narrow.until
