use Rattle.std.proofs.Common.{◌≡◌, ◌++◌, drop}
use Rattle.std.specs.List.{flat_map}
use Rattle.served_clients.specs.Telling.{row_bytes}
use Rattle.served_clients.proofs.looking.put_rows.Given as goal

-- what is written so far, with the records of the counters that are left, are those of all
abbrev pub invariant-loop-row : goal.invariant-loop-row
invariant-loop-row l =
    l.out.items ++ flat_map row_bytes (drop l.row-index l.rows) ≡ l.fn.out.items ++ flat_map row_bytes l.rows
