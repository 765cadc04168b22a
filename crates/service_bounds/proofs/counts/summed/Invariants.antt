use Rattle.std.proofs.Common.{◌≡◌, ◌+◌, ◌-◌, ◌*◌, ◌^◌, ◌≤◌, drop}
use Rattle.service_bounds.specs.Counts.{held, its_pages, one_counter, one_publication, one_subscription}
use Rattle.service_bounds.proofs.counts.summed.Given as goal

-- what is counted and what the others count is what all count
abbrev pub invariant-loop-row : goal.invariant-loop-row
invariant-loop-row l = record {
  publications : l.sums.publications + held one_publication (drop l.row-index l.rows) ≡ held one_publication l.rows;
  pages : l.sums.pages + held its_pages (drop l.row-index l.rows) ≡ held its_pages l.rows;
  subscriptions : l.sums.subscriptions + held one_subscription (drop l.row-index l.rows) ≡ held one_subscription l.rows;
  counters : l.sums.counters + held one_counter (drop l.row-index l.rows) ≡ held one_counter l.rows;
  few_publications : l.sums.publications ≤ l.row-index;
  few_pages : l.sums.pages ≤ l.row-index * (2 ^ 64 - 1);
  few_subscriptions : l.sums.subscriptions ≤ l.row-index;
  few_counters : l.sums.counters ≤ l.row-index;
}
