use Rattle.std.proofs.Common.{◌≡◌, ◌≤◌, ◌++◌, drop, map, filter}
use Rattle.arrayvec.specs.ArrayVec.{array_vec_len}
use Rattle.client_registry.specs.Clients.{is_expired}
use Rattle.client_registry.proofs.clients.Clients.expired.Given as goal

-- the ids so far, and then those of the clients that are left; there are no more of them than clients
abbrev pub invariant-loop-client : goal.invariant-loop-client
invariant-loop-client l =
    (l.numbers.items ++ map (λ client. client.number) (filter (is_expired l.self.liveness l.now) (drop l.client-index l.self.rows))
    ≡ map (λ client. client.number) (filter (is_expired l.self.liveness l.now) l.self.rows))
    × (array_vec_len l.numbers ≤ l.client-index)
