-- What is asked of the tables and arrays of a TOML document.
use Rattle.std.specs.Prelude.{ℕ, suc, ℤ, Bool, true, ◌&&◌, List, Option, option_and_then}
use Rattle.toml.specs.Data.{Data, Items, no_items, item, Members, no_members, member, get_member, as_str, as_integer, as_bool}

-- what stands at a key, where it is of this type
abbrev pub text_at : List ℕ → Members → Option (List ℕ)
text_at key table = option_and_then as_str (get_member key table)

abbrev pub integer_at : List ℕ → Members → Option ℤ
integer_at key table = option_and_then as_integer (get_member key table)

abbrev pub bool_at : List ℕ → Members → Option Bool
bool_at key table = option_and_then as_bool (get_member key table)

-- each key of the table passes
abbrev pub all_keys : (List ℕ → Bool) → Members → Bool
all_keys test no_members = true
all_keys test (member key value members) = test key && all_keys test members

-- each item passes
abbrev pub all_items : (Data → Bool) → Items → Bool
all_items test no_items = true
all_items test (item value items) = test value && all_items test items

-- how many items there are
abbrev pub items_len : Items → ℕ
items_len no_items = 0
items_len (item value items) = suc (items_len items)
