use Rattle.std.proofs.Common.{◌≡◌, ◌++◌, drop}
use Rattle.std.specs.String.{string_bytes}
use Rattle.driver_script.specs.Script.{outlets_text}
use Rattle.driver_script.proofs.script.push_outlets.Given as goal

-- the text so far, with the destinations that are left, is the text of all
abbrev pub invariant-loop-outlet : goal.invariant-loop-outlet
invariant-loop-outlet l =
    string_bytes l.text ++ outlets_text l.bytes (drop l.outlet-index l.outlets)
    ≡ string_bytes l.fn.text ++ outlets_text l.bytes l.outlets
