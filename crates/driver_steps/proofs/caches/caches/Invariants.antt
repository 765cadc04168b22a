use Rattle.std.proofs.Common.{◌≡◌, [], length}
use Rattle.std.specs.Prelude.{All}
use Rattle.driver_steps.proofs.caches.caches.Given as goal

-- so many are made, and none has a verdict
abbrev pub invariant-loop : goal.invariant-loop
invariant-loop l = record {
  count : length l.caches.items ≡ l.counter;
  empty : All (λ entries. entries ≡ []) l.caches.items;
}
