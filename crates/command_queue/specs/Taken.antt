-- What contracts see of a taker.
use Rattle.std.specs.Prelude.{ℕ, List, [], ◌∷◌, ◌++◌}
use Rattle.atomic_table.specs.Seated.{TableId}
use Rattle.command_queue.specs.declared.letter.Letter.{Letter}

-- its queue, and what it took, in order
pub record Taken (E : Type 0) : Type 0 where
  pub queue : TableId
  pub taken : List (Letter E)

-- one that has taken nothing
abbrev pub new_taker : {E : Type 0} → TableId → Taken E
new_taker queue = record { queue = queue; taken = [] }

-- it takes an event of this sender
abbrev pub takes : {E : Type 0} → Taken E → ℕ → E → Taken E
takes taker number event = record taker { taken = taker.taken ++ record { from = number; event = event } ∷ [] }
