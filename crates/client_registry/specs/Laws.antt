-- What holds of every list of clients that calls make.
use Rattle.std.specs.Prelude.{◌≡◌, ℕ, ◌<◌, ◌≤◌, List, [], ◌∷◌, Some, slice_get}
use Rattle.client_registry.specs.declared.client.Client.{Client}
use Rattle.client_registry.specs.Clients.{ClientList, opened, admitted, client_at, touched, without, cleared}

-- the ids rise, the first is above `low`, and none is above `last`
abbrev pub Rises : ℕ → ℕ → List Client → Type 0
Rises low last [] = low ≤ last
Rises low last (client ∷ rows) = (low < client.number) × Rises client.number last rows

-- no two clients have one id, and the id that is given next is above them all
abbrev pub IsOrderly : ClientList → Type 0
IsOrderly clients = Rises 0 clients.last clients.rows

-- the list is orderly at first, and each call leaves an orderly one
pub record StaysOrderly : Type 0 where
  pub opened : (liveness : ℕ) → IsOrderly (opened liveness)
  pub admitted : (clients : ClientList) (principal now : ℕ) → IsOrderly clients → IsOrderly (admitted clients principal now)
  pub touched : (clients : ClientList) (number now : ℕ) → IsOrderly clients → IsOrderly (touched clients number now)
  pub without : (clients : ClientList) (number : ℕ) → IsOrderly clients → IsOrderly (without clients number)
  pub cleared : (clients : ClientList) → IsOrderly clients → IsOrderly (cleared clients)

-- each client is found by its own id
abbrev pub AllAreFound : Type 0
AllAreFound =
    (clients : ClientList) (index : ℕ) (client : Client) → IsOrderly clients → slice_get clients.rows index ≡ Some client →
    client_at clients.rows client.number ≡ Some client
