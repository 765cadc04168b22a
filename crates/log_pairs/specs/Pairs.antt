-- The subscriptions that read a log, and how far each has read. Own rules.
use Rattle.std.specs.Prelude.{ℕ, ◌≤◌, ◌==◌, Bool, not, min, find, map, List, [], ◌∷◌, Option, Some, None, if◌then◌else◌, refl}
use Rattle.std.specs.List.{fold}
use Rattle.std.specs.Option.{option_map}
use Rattle.std.specs.Coded.{Coded, code_by, coded×, coded_ℕ}
use Rattle.log_pairs.specs.declared.pair.Pair.{Pair}

abbrev pub pair_code : Coded Pair
pair_code = code_by (ℕ × ℕ) (coded× coded_ℕ coded_ℕ) (λ p. (p.subscription, p.position)) (λ p. record { subscription = p.0; position = p.1 }) (λ _. refl)

-- how far the subscription has read, if it is there
abbrev pub position_of : List Pair → ℕ → Option ℕ
position_of pairs subscription = option_map (λ pair. pair.position) (find (λ pair. pair.subscription == subscription) pairs)

-- all but the pair of this subscription
abbrev pub is_other : ℕ → Pair → Bool
is_other subscription pair = not (pair.subscription == subscription)

-- the pair of this subscription has read up to there
abbrev pub moved_one : ℕ → ℕ → Pair → Pair
moved_one subscription position pair =
    if pair.subscription == subscription then record pair { position = position } else pair

abbrev pub lesser : ℕ → Pair → ℕ
lesser least pair = min least pair.position

-- the least of a position and those of all pairs
abbrev pub least_of : ℕ → List Pair → ℕ
least_of first pairs = fold lesser first pairs

-- the least position of a pair; without one, `none`
abbrev pub least_or : ℕ → List Pair → ℕ
least_or none [] = none
least_or none (pair ∷ pairs) = least_of pair.position pairs

-- a pair that is there and has not read further than that
abbrev pub ReadsUpTo : Option ℕ → ℕ → Type 0
ReadsUpTo None position = ⊥
ReadsUpTo (Some at) position = at ≤ position

-- each pair stands where that is so
abbrev pub AreAt : (ℕ → Type 0) → List Pair → Type 0
AreAt Is [] = Unit {0}
AreAt Is (pair ∷ pairs) = Is pair.position × AreAt Is pairs

-- where a subscription reads on: one that was there where it is, a new one at the position at which it joins
abbrev pub reads_on : ℕ → Option ℕ → ℕ
reads_on join None = join
reads_on join (Some at) = at

abbrev pub rejoined_one : ℕ → List Pair → ℕ → Pair
rejoined_one join pairs subscription =
    record { subscription = subscription; position = reads_on join (position_of pairs subscription) }

-- exactly these subscriptions read from now on, in this order; all others are gone
abbrev pub rejoined_pairs : ℕ → List Pair → List ℕ → List Pair
rejoined_pairs join pairs subscriptions = map (rejoined_one join pairs) subscriptions
