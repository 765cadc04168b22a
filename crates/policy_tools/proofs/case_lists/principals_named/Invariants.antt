use Rattle.std.proofs.Common.{◌≡◌, ◌++◌, drop, map}
use Rattle.std.specs.Option.{option_map}
use Rattle.policy_tools.specs.CaseLists.{principals_named}
use Rattle.policy_tools.proofs.case_lists.principals_named.Given as goal

-- the principals so far, with those of the names that are left, are all
abbrev pub invariant-loop-name : goal.invariant-loop-name
invariant-loop-name l =
    option_map (λ rest. l.found.items ++ rest) (principals_named l.directory (map (λ name. name.now) (drop l.name-index l.names)))
    ≡ principals_named l.directory (map (λ name. name.now) l.names)
