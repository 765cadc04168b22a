-- Which socket was not used for the longest.
use Rattle.std.proofs.Common.{◌≡◌, ◌<◌, ◌≤◌, ℕ, ◌+◌, List, [], ◌∷◌, length, slice_index_or, ap, sym, ◌∙◌, arith, refl}
use Rattle.std.specs.List.{AllWithin}
use Rattle.std.proofs.lemmas.List.{get_or_default}
use Rattle.std.proofs.lemmas.List.Elements.{AllWithin-more}
use Rattle.std.proofs.lemmas.Option.{slice_get-get_or}
use Rattle.media_wire.specs.Doors.{Bound, IsOldest}

-- of the sockets before a place it was not used for the longest, and is the first of several
pub record IsOldestBefore {S : Type 0} (doors : List (Bound S)) (oldest place : ℕ) : Type 0 where
  pub used : ℕ
  pub within : oldest < length doors
  pub here : (d : Bound S) → (slice_index_or doors oldest d).used ≡ used
  pub least : AllWithin (λ (other : Bound S). used ≤ other.used) doors 0 place
  pub first : AllWithin (λ (other : Bound S). used < other.used) doors 0 oldest

module _ {S : Type 0} where
  used_there : (doors : List (Bound S)) (at : ℕ) (door d : Bound S) → door ≡ slice_index_or doors at door → at < length doors →
      (slice_index_or doors at d).used ≡ door.used
  used_there doors at door d is within = ap (λ (it : Bound S). it.used) (get_or_default doors at d door within ∙ sym is)

  pub starts_oldest : (doors : List (Bound S)) → 0 < length doors → IsOldestBefore doors 0 0
  starts_oldest [] some = absurd (omega (arith, some))
  starts_oldest (door ∷ doors) some = record {
    used = door.used;
    within = some;
    here = λ d. refl;
    least = λ k d low high. absurd (omega (arith, high));
    first = λ k d low high. absurd (omega (arith, high));
  }

  pub keeps_oldest : (doors : List (Bound S)) (oldest place : ℕ) (door best : Bound S) → IsOldestBefore doors oldest place → place < length doors →
      door ≡ slice_index_or doors place door → best ≡ slice_index_or doors oldest best → best.used ≤ door.used → IsOldestBefore doors oldest (place + 1)
  keeps_oldest doors oldest place door best was within door_is best_is later =
      let best_used : best.used ≡ was.used = ap (λ (it : Bound S). it.used) best_is ∙ was.here best in
      record {
        used = was.used;
        within = was.within;
        here = was.here;
        least = AllWithin-more (λ (other : Bound S). was.used ≤ other.used) doors 0 place was.least
            (λ d. omega (arith, used_there doors place door d door_is within, best_used, later));
        first = was.first;
      }

  pub moves_oldest : (doors : List (Bound S)) (oldest place : ℕ) (door best : Bound S) → IsOldestBefore doors oldest place → place < length doors →
      door ≡ slice_index_or doors place door → best ≡ slice_index_or doors oldest best → door.used < best.used → IsOldestBefore doors place (place + 1)
  moves_oldest doors oldest place door best was within door_is best_is earlier =
      let best_used : best.used ≡ was.used = ap (λ (it : Bound S). it.used) best_is ∙ was.here best in
      record {
        used = door.used;
        within = within;
        here = λ d. used_there doors place door d door_is within;
        least = AllWithin-more (λ (other : Bound S). door.used ≤ other.used) doors 0 place
            (λ k d low high. omega (arith, was.least k d low high, best_used, earlier))
            (λ d. omega (arith, used_there doors place door d door_is within));
        first = λ k d low high. omega (arith, was.least k d low high, best_used, earlier);
      }

  pub is_oldest_of_all : (doors : List (Bound S)) (oldest place : ℕ) → IsOldestBefore doors oldest place → length doors ≤ place → IsOldest doors oldest
  is_oldest_of_all [] oldest place was all = absurd (omega (arith, was.within))
  is_oldest_of_all (door ∷ doors) oldest place was all = record {
    oldest = slice_index_or (door ∷ doors) oldest door;
    there = slice_get-get_or (door ∷ doors) oldest door was.within;
    least = λ k d within. omega (arith, was.here door, was.least k d (omega arith) (omega (arith, within, all)));
    first = λ k d low high. omega (arith, was.here door, was.first k d low high);
  }
