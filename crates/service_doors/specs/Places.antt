-- Where sockets are, and their modes. Own rules; the bits are those of chmod.
use Rattle.std.specs.Prelude.{◌≡◌, ◌≤◌, ℕ, Option, Some, None, true}
use Rattle.door_names.specs.Names.{is_path}
use Rattle.service_doors.specs.declared.places.Owner.{Owner}
use Rattle.service_doors.specs.declared.places.Place.{Place}
use Rattle.service_doors.specs.declared.places.Place.TheVariants.{Own, At}

-- a place that is named by its path leads out of no folder, and hides nowhere
abbrev pub IsPlain : Place → Type 0
IsPlain (Own owner) = Unit {0}
IsPlain (At path) = is_path path.now ≡ true

-- group of an owner, where there is an owner
abbrev pub group_in : Option Owner → Option ℕ
group_in None = None
group_in (Some owner) = owner.group

-- 0600 where the owner alone may enter, 0660 where a group is named
abbrev pub mode_with : Option ℕ → ℕ
mode_with None = 384
mode_with (Some group) = 432

abbrev pub mode_for : Option Owner → ℕ
mode_for owner = mode_with (group_in owner)

-- who may read, write and search, and nothing else: no program acts as its owner by it
abbrev pub IsMode : ℕ → Type 0
IsMode mode = mode ≤ 511
