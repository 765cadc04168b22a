-- Arrays of TOML, as lists of values.
use Rattle.std.proofs.Common.{◌≡◌, suc, ◌<◌, ◌≤◌, arith, None, List, [], ◌∷◌, refl, ap, length}
use Rattle.toml.specs.View.{items_view}
use Rattle.toml.specs.declared.value.Value.{Value}
use Rattle.policy_text.specs.Fields.{two_integers}
use Rattle.policy_text.specs.Members.{items_len}

-- an array has as many items as its list
pub items_len-view : (values : List Value) → items_len (items_view values) ≡ length values
items_len-view [] = refl
items_len-view (value ∷ values) = ap suc (items_len-view values)

-- fewer than two items are no two integers, nor are more
pub two_integers_of_few : (values : List Value) → length values < 2 → None ≡ two_integers (items_view values)
two_integers_of_few [] few = refl
two_integers_of_few (value ∷ []) few = refl
two_integers_of_few (first ∷ second ∷ values) few = absurd (omega arith)

pub two_integers_of_many : (values : List Value) → 3 ≤ length values → None ≡ two_integers (items_view values)
two_integers_of_many [] many = absurd (omega arith)
two_integers_of_many (value ∷ []) many = absurd (omega arith)
two_integers_of_many (first ∷ second ∷ []) many = absurd (omega arith)
two_integers_of_many (first ∷ second ∷ third ∷ values) many = refl
