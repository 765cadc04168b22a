-- What contracts see of a sender.
use Rattle.std.specs.Prelude.{ℕ, zero, suc, List, [], ◌∷◌, ◌++◌}
use Rattle.atomic_table.specs.Seated.{TableId}

-- its queue, how many senders that has, which of them it is, counted from 0, and what it sent
pub record Sent (E : Type 0) : Type 0 where
  pub queue : TableId
  pub total : ℕ
  pub number : ℕ
  pub sent : List E

-- one that has sent nothing
abbrev pub new_sender : {E : Type 0} → TableId → ℕ → ℕ → Sent E
new_sender queue total number = record { queue = queue; total = total; number = number; sent = [] }

-- the first ones of a new queue, in the order of their numbers
abbrev pub new_senders : {E : Type 0} → TableId → ℕ → ℕ → List (Sent E)
new_senders queue total zero = []
new_senders queue total (suc count) = new_senders queue total count ++ new_sender queue total count ∷ []
