-- Who reads the log of a source, from what is kept. Own rules.
use Rattle.std.specs.Prelude.{ℕ, Bool, ◌==◌, List, [], ◌∷◌, if◌then◌else◌}
use Rattle.std.specs.List.{list_any}
use Rattle.stream_registry.specs.declared.row.LogRow.{LogRow}

abbrev pub is_among : List ℕ → ℕ → Bool
is_among numbers number = list_any (λ other. other == number) numbers

-- the numbers of the log of that source, the first where there are several
abbrev pub numbers_at : ℕ → List LogRow → List (List ℕ) → List ℕ
numbers_at source [] readers = []
numbers_at source (log ∷ logs) [] = []
numbers_at source (log ∷ logs) (numbers ∷ readers) =
    if log.number == source then numbers else numbers_at source logs readers
