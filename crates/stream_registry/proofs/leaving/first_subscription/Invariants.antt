use Rattle.std.proofs.Common.{◌≡◌, drop}
use Rattle.std.specs.List.{list_any}
use Rattle.stream_registry.specs.Leaving.{is_own_subscription}
use Rattle.stream_registry.proofs.leaving.first_subscription.Given as goal

-- the rows that are left decide
abbrev pub invariant-loop-at : goal.invariant-loop-at
invariant-loop-at l =
    list_any (is_own_subscription l.client l.number) (drop l.at l.rows) ≡ list_any (is_own_subscription l.client l.number) l.rows
