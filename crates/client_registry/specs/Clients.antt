-- The clients that are attached, in the order in which they came: a plain list, with the id that was given last. Own rules.
use Rattle.std.specs.Prelude.{ℕ, ◌+◌, ◌-◌, ◌==◌, Bool, not, ◌&&◌, nat_lt, length, max, map, filter, find, List, [], ◌∷◌, ◌++◌, Option, Result, Ok, Err, if◌then◌else◌}
use Rattle.std.specs.Option.{option_map}
use Rattle.client_registry.specs.declared.client.Client.{Client}
use Rattle.client_registry.specs.declared.error.AdmitError.{AdmitError}
use Rattle.client_registry.specs.declared.error.AdmitError.TheVariants.{Full}

-- for how long a client lives of which nothing is heard, the clients that are attached, and the id given last
pub record ClientList : Type 0 where
  pub liveness : ℕ
  pub rows : List Client
  pub last : ℕ

-- nobody came yet
abbrev pub opened : ℕ → ClientList
opened liveness = record { liveness = liveness; rows = []; last = 0 }

-- at most 64 are attached at a time, and no id is used again
abbrev pub has_room : ClientList → Bool
has_room clients = nat_lt (length clients.rows) 64 && nat_lt clients.last 18446744073709551615

-- the answer to a client that comes: its id, which is the next one
unfoldable pub admission : ClientList → Result ℕ AdmitError
admission clients = if has_room clients then Ok (clients.last + 1) else Err Full

-- it is there under that id, and was heard of now
unfoldable pub admitted : ClientList → ℕ → ℕ → ClientList
admitted clients principal now = record clients {
  rows = clients.rows ++ record { number = clients.last + 1; principal = principal; heard = now } ∷ [];
  last = clients.last + 1;
}

-- the client of this id, if it is there
abbrev pub client_at : List Client → ℕ → Option Client
client_at rows number = find (λ client. client.number == number) rows

-- whom the client of this id acts for
abbrev pub principal_at : List Client → ℕ → Option ℕ
principal_at rows number = option_map (λ client. client.principal) (client_at rows number)

-- the client of this id was heard of at this moment; an earlier one counts as the one seen
abbrev pub heard_one : ℕ → ℕ → Client → Client
heard_one number now client =
    if client.number == number then record client { heard = max client.heard now } else client

unfoldable pub touched : ClientList → ℕ → ℕ → ClientList
touched clients number now = record clients { rows = map (heard_one number now) clients.rows }

-- nothing was heard of it for longer than that; a moment before the last one is past no limit
abbrev pub is_expired : ℕ → ℕ → Client → Bool
is_expired liveness now client = nat_lt liveness (now - client.heard)

-- the ids of those, in the order in which they came
unfoldable pub expired_of : ClientList → ℕ → List ℕ
expired_of clients now = map (λ client. client.number) (filter (is_expired clients.liveness now) clients.rows)

-- all but the client of this id
abbrev pub is_other : ℕ → Client → Bool
is_other number client = not (client.number == number)

unfoldable pub without : ClientList → ℕ → ClientList
without clients number = record clients { rows = filter (is_other number) clients.rows }

-- all went; their ids are not used again
abbrev pub cleared : ClientList → ClientList
cleared clients = record clients { rows = [] }
