-- What two patterns have to do with each other, key by key.
use Rattle.std.specs.Prelude.{◌&&◌, ◌||◌, ◌==◌, ℕ, Bool, true, false, List, Option, Some, None}
use Rattle.std.specs.List.{list_all}
use Rattle.channel_uri.specs.declared.pattern.Pattern.{Pattern}
use Rattle.channel_uri.specs.declared.pattern.Pattern.TheVariants.{Any, Of}
use Rattle.channel_uri.specs.Keys.{Pair, value_at}
use Rattle.channel_uri.specs.Media.{media_number}
use Rattle.policy_tools.specs.Wider.{value_wider}
use Rattle.policy_tools.specs.declared.patterns.Relation.{Relation}
use Rattle.policy_tools.specs.declared.patterns.Relation.TheVariants.{Meets, Covers}

-- some value fits both, where one of them is within the other; or each that fits the second fits the first
abbrev pub value_passes : Relation → List ℕ → List ℕ → Bool
value_passes Meets one other = value_wider one other || value_wider other one
value_passes Covers one other = value_wider one other

-- where the second pattern has no such key, channels with any value may be covered by it, and some without the key are
abbrev pub passes_from : Relation → List ℕ → Option (List ℕ) → Bool
passes_from relation one (Some other) = value_passes relation one other
passes_from Meets one None = true
passes_from Covers one None = false

abbrev pub key_from : Relation → Option (List ℕ) → Option (List ℕ) → Bool
key_from relation None other = true
key_from relation (Some one) other = passes_from relation one other

-- so it is of a key of the first pattern
abbrev pub key_passes : Relation → List Pair → List Pair → List ℕ → Bool
key_passes relation one other key = key_from relation (value_at key one) (value_at key other)

-- so it is of each of them
abbrev pub keys_pass : Relation → List Pair → List Pair → Bool
keys_pass relation one other = list_all (λ pair. passes_from relation pair.1 (value_at pair.0 other)) one

-- `*` meets and covers every pattern, and is covered by no other one
abbrev pub with_any : Relation → Bool
with_any Meets = true
with_any Covers = false

-- the first pattern is `*`; or both are of one medium, and each key of the first passes
abbrev pub patterns_pass : Relation → Pattern → Pattern → Bool
patterns_pass relation Any other = true
patterns_pass relation (Of media keys) Any = with_any relation
patterns_pass relation (Of media keys) (Of medium others) =
    (media_number media == media_number medium) && keys_pass relation keys others
