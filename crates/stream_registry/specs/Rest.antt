-- Logs that do not begin to linger where all are settled.
use Rattle.std.specs.Prelude.{◌≡◌, ℕ, Bool, true, false, ◌==◌, ◌||◌, List, Some, None, if◌then◌else◌}
use Rattle.stream_registry.specs.declared.row.Origin.{Origin}
use Rattle.stream_registry.specs.declared.row.Origin.TheVariants.{Published, Remote}
use Rattle.stream_registry.specs.declared.row.LogRow.{LogRow}
use Rattle.stream_registry.specs.declared.row.Registration.{Registration}
use Rattle.stream_registry.specs.Lingering.{is_used, settled_one}

-- it lingers already, or is an image
abbrev pub is_left_by : Origin → Bool
is_left_by (Published exclusive None) = false
is_left_by (Published exclusive (Some since)) = true
is_left_by (Remote address initial_term join) = true

-- somebody is registered with the log, or it lingers already, or is an image
abbrev pub rests : List Registration → LogRow → Bool
rests registrations log = is_used registrations log.number || is_left_by log.origin

abbrev pub Rests : List Registration → LogRow → Type 0
Rests registrations log = rests registrations log ≡ true

-- it rests, or is the log of this number
abbrev pub RestsBeside : ℕ → List Registration → LogRow → Type 0
RestsBeside source registrations log = (log.number == source || rests registrations log) ≡ true

-- the log of this number alone is settled
abbrev pub settled_where : ℕ → List Registration → ℕ → LogRow → LogRow
settled_where source registrations now log =
    if log.number == source then settled_one registrations now log else log
