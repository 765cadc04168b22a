use Rattle.std.proofs.Common.{◌≡◌, ◌++◌}
use Rattle.std.specs.List.{flat_map}
use Rattle.std.specs.String.{string_bytes}
use Rattle.driver_script.specs.Script.{fragment_text}
use Rattle.driver_script.proofs.script.push_fragments.Given as goal

-- the text so far, with the fragments that are left, is the text of all
abbrev pub invariant-loop-fragment : goal.invariant-loop-fragment
invariant-loop-fragment l =
    string_bytes l.text ++ flat_map fragment_text l.fragment-iterator
    ≡ string_bytes l.fn.text ++ flat_map fragment_text l.fn.fragments
