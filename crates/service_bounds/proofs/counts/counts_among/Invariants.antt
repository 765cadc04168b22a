use Rattle.std.proofs.Common.{◌≡◌, ◌+◌, ◌≤◌, drop}
use Rattle.service_bounds.specs.Counts.{held, one_counter, one_publication, one_subscription, own_rows}
use Rattle.service_bounds.proofs.counts.counts_among.Given as goal

-- what is counted and what the others count is what all count
abbrev pub invariant-loop-row : goal.invariant-loop-row
invariant-loop-row l = record {
  publications : l.counts.0 + held one_publication (own_rows l.client (drop l.row-index l.rows)) ≡ held one_publication (own_rows l.client l.rows);
  subscriptions : l.counts.1 + held one_subscription (own_rows l.client (drop l.row-index l.rows)) ≡ held one_subscription (own_rows l.client l.rows);
  counters : l.counts.2 + held one_counter (own_rows l.client (drop l.row-index l.rows)) ≡ held one_counter (own_rows l.client l.rows);
  few_publications : l.counts.0 ≤ l.row-index;
  few_subscriptions : l.counts.1 ≤ l.row-index;
  few_counters : l.counts.2 ≤ l.row-index;
}
