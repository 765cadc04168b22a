use Rattle.std.proofs.Common.{◌≡◌, ◌+◌, ◌≤◌, length, sum_by}
use Rattle.media_driver.proofs.stopping.settle_clients.Given as goal

abbrev pub invariant-loop-client : goal.invariant-loop-client
invariant-loop-client g l = record {
  parts : l.ledger.counted.parts + length l.client-iterator.rest.items ≡ l.fn.ledger.counted.parts + length l.fn.clients.items;
  clients : l.ledger.clients.parts + length l.client-iterator.rest.items ≡ l.fn.ledger.clients.parts + length l.fn.clients.items;
  few : l.ledger.clients.parts ≤ g.N.Naming.client_parts;
  number : l.ledger.counted.number + sum_by (λ client. client.counted) l.client-iterator.rest.items
      ≡ l.fn.ledger.counted.number + sum_by (λ client. client.counted) l.fn.clients.items;
  total : l.ledger.total ≡ l.fn.ledger.total;
}
