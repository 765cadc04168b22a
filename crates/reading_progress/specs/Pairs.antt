-- The pairs of a subscription and a source that a client reads, and what is remembered of each. Own rules.
use Rattle.std.specs.Prelude.{◌≡◌, ◌==◌, ◌&&◌, ◌||◌, not, slice_get, ℕ, Bool, true, false, List, [], ◌∷◌, ◌++◌, Option, Some, None, Result, Ok, Err, if◌then◌else◌}
use Rattle.reading_progress.specs.Marks.{is_stuck, next_mark}
use Rattle.reading_progress.specs.declared.pairs.Pair.{Pair}

abbrev pub is_pair : ℕ → ℕ → Pair → Bool
is_pair subscription source pair = (pair.subscription == subscription) && (pair.source == source)

abbrev pub is_other : ℕ → ℕ → Pair → Bool
is_other subscription source pair = not (is_pair subscription source pair)

abbrev pub has_pair : ℕ → ℕ → List Pair → Bool
has_pair subscription source [] = false
has_pair subscription source (pair ∷ pairs) = is_pair subscription source pair || has_pair subscription source pairs

-- nothing is remembered of it
abbrev pub new_pair : ℕ → ℕ → Pair
new_pair subscription source = record { subscription = subscription; source = source; mark = None }

-- one more stands last, unless it is there
abbrev pub with_pair : ℕ → ℕ → List Pair → List Pair
with_pair subscription source pairs = if has_pair subscription source pairs then pairs else pairs ++ new_pair subscription source ∷ []

-- it was added; or there was no memory, and nothing changed
abbrev pub IsAdded : {E : Type 0} → ℕ → ℕ → List Pair → List Pair → Result Unit E → Type 0
IsAdded subscription source old new (Ok done) = new ≡ with_pair subscription source old
IsAdded subscription source old new (Err fault) = new ≡ old

abbrev pub pair_at : ℕ → List Pair → Option Pair
pair_at place pairs = slice_get pairs place

-- that pair is seen at that position, with the stream there up to the other one; of others nothing changes
abbrev pub seen_at : ℕ → ℕ → ℕ → ℕ → ℕ → Pair → Pair
seen_at subscription source now position received pair =
    if is_pair subscription source pair then record pair { mark = next_mark pair.mark now position received } else pair

abbrev pub is_any_stuck : ℕ → ℕ → List Pair → Bool
is_any_stuck now longest [] = false
is_any_stuck now longest (pair ∷ pairs) = is_stuck pair.mark now longest || is_any_stuck now longest pairs
