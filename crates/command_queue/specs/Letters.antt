-- The letters of a queue, and what the senders sent.
use Rattle.std.specs.Prelude.{◌==◌, if◌then◌else◌, ℕ, List, [], ◌∷◌}
use Rattle.command_queue.specs.declared.letter.Letter.{Letter}

-- the events of this sender among these letters, in their order
abbrev pub of : {E : Type 0} → ℕ → List (Letter E) → List E
of number [] = []
of number (letter ∷ letters) = if letter.from == number then letter.event ∷ of number letters else of number letters
