use Rattle.std.proofs.Common.{◌≡◌, ◌++◌, drop}
use Rattle.std.specs.List.{flat_map}
use Rattle.std.specs.String.{string_bytes}
use Rattle.driver_script.specs.Script.{counter_text}
use Rattle.driver_script.proofs.script.push_counters.Given as goal

-- the text so far, with the counters that are left, is the text of all
abbrev pub invariant-loop-counter : goal.invariant-loop-counter
invariant-loop-counter l =
    string_bytes l.text ++ flat_map counter_text (drop l.counter-index l.counters)
    ≡ string_bytes l.fn.text ++ flat_map counter_text l.counters
