use Rattle.std.proofs.Common.{◌≡◌, ◌++◌}
use Rattle.std.specs.List.{flat_map}
use Rattle.served_clients.specs.Telling.{fragment_bytes}
use Rattle.served_clients.proofs.polling.put_fragments.Given as goal

-- what is written so far, with the records of the fragments that are left, are those of all
abbrev pub invariant-loop-fragment : goal.invariant-loop-fragment
invariant-loop-fragment l =
    l.out.items ++ flat_map fragment_bytes l.fragment-iterator ≡ l.fn.out.items ++ flat_map fragment_bytes l.fn.fragments
