-- Where pairs stand, once they join, leave and move.
use Rattle.std.proofs.Common.{ℕ, ◌≤◌, true, false, cond, List, [], ◌∷◌, ◌++◌, Option, None, Some, map, min, arith}
use Rattle.std.specs.Prelude.{filter, find, IfSome, ◌==◌}
use Rattle.std.specs.Option.{option_map}
use Rattle.log_pairs.specs.Pairs.{AreAt, ReadsUpTo, is_other, least_of, moved_one, position_of, reads_on, rejoined_pairs}
use Rattle.log_pairs.specs.declared.pair.Pair.{Pair}

module _ (Is : ℕ → Type 0) where
  pub at_push : (pairs : List Pair) (pair : Pair) → AreAt Is pairs → Is pair.position → AreAt Is (pairs ++ pair ∷ [])
  at_push [] pair are is = (is, tt)
  at_push (p ∷ pairs) pair are is = (are.0, at_push pairs pair are.1 is)

  pub at_filter : (subscription : ℕ) (pairs : List Pair) → AreAt Is pairs → AreAt Is (filter (is_other subscription) pairs)
  at_filter subscription [] are = tt
  at_filter subscription (p ∷ pairs) are =
      let rest = at_filter subscription pairs are.1 in
      elim (is_other subscription p) as (λ b. AreAt Is (cond b (p ∷ filter (is_other subscription) pairs) (filter (is_other subscription) pairs))) [
        | true ↦ (are.0, rest)
        | false ↦ rest
      ]

  pub at_map : (subscription position : ℕ) (pairs : List Pair) → AreAt Is pairs → Is position → AreAt Is (map (moved_one subscription position) pairs)
  at_map subscription position [] are is = tt
  at_map subscription position (p ∷ pairs) are is =
      let first : Is (moved_one subscription position p).position =
      elim (p.subscription == subscription) as (λ b. Is (cond b (record p { position = position }) p).position) [
        | true ↦ is
        | false ↦ are.0
      ] in
      (first, at_map subscription position pairs are.1 is)

  pub at_found : (subscription : ℕ) (pairs : List Pair) → AreAt Is pairs → IfSome (position_of pairs subscription) Is
  at_found subscription [] are = tt
  at_found subscription (p ∷ pairs) are =
      let rest = at_found subscription pairs are.1 in
      elim (p.subscription == subscription) as (λ b. IfSome (option_map (λ (pair : Pair). pair.position) (cond b (Some p) (find (λ (pair : Pair). pair.subscription == subscription) pairs))) Is) [
        | true ↦ are.0
        | false ↦ rest
      ]

  reads : (join : ℕ) (o : Option ℕ) → IfSome o Is → Is join → Is (reads_on join o)
  reads join None found is = is
  reads join (Some at) found is = found

  pub at_rejoined : (join : ℕ) (pairs : List Pair) (subscriptions : List ℕ) → AreAt Is pairs → Is join → AreAt Is (rejoined_pairs join pairs subscriptions)
  at_rejoined join pairs [] are is = tt
  at_rejoined join pairs (s ∷ subscriptions) are is =
      (reads join (position_of pairs s) (at_found s pairs are) is, at_rejoined join pairs subscriptions are is)

  -- where a pair stands that has not read further than a position
  pub record StandsBelow (position : ℕ) : Type 0 where
    pub at : ℕ
    pub is : Is at
    pub below : at ≤ position

  below : (position : ℕ) (o : Option ℕ) → IfSome o Is → ReadsUpTo o position → StandsBelow position
  below position None found reads = absurd reads
  below position (Some at) found reads = record { at = at; is = found; below = reads }

  pub at_below : (subscription position : ℕ) (pairs : List Pair) → AreAt Is pairs → ReadsUpTo (position_of pairs subscription) position → StandsBelow position
  at_below subscription position pairs are reads = below position (position_of pairs subscription) (at_found subscription pairs are) reads

-- what follows of each position follows of all pairs
pub at_both : (Is And Are : ℕ → Type 0) → ((q : ℕ) → Is q → And q → Are q) → (pairs : List Pair) → AreAt Is pairs → AreAt And pairs → AreAt Are pairs
at_both Is And Are goes [] is and = tt
at_both Is And Are goes (p ∷ pairs) is and = (goes p.position is.0 and.0, at_both Is And Are goes pairs is.1 and.1)

pub at_weaker : (Is Are : ℕ → Type 0) → ((q : ℕ) → Is q → Are q) → (pairs : List Pair) → AreAt Is pairs → AreAt Are pairs
at_weaker Is Are goes [] is = tt
at_weaker Is Are goes (p ∷ pairs) is = (goes p.position is.0, at_weaker Is Are goes pairs is.1)

-- ---- the least position

pub least_le : (first : ℕ) (pairs : List Pair) → least_of first pairs ≤ first
least_le first [] = omega arith
least_le first (pair ∷ pairs) = omega (arith, least_le (min first pair.position) pairs)

-- all pairs are at the least position or above it
pub above_least : (first : ℕ) (pairs : List Pair) → AreAt (λ q. least_of first pairs ≤ q) pairs
above_least first [] = tt
above_least first (p ∷ pairs) = (omega (arith, least_le (min first p.position) pairs), above_least (min first p.position) pairs)

pub least_above : (from first : ℕ) (pairs : List Pair) → from ≤ first → AreAt (λ q. from ≤ q) pairs → from ≤ least_of first pairs
least_above from first [] h are = h
least_above from first (p ∷ pairs) h are = least_above from (min first p.position) pairs (omega (arith, h, are.0)) are.1
