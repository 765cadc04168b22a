use Rattle.std.proofs.Common.{◌≡◌, ◌++◌}
use Rattle.std.specs.List.{flat_map}
use Rattle.std.specs.String.{string_bytes}
use Rattle.driver_script.specs.Answers.{decision_line}
use Rattle.driver_script.proofs.script.push_decisions.Given as goal

-- the text so far, with the decisions that are left, is the text of all
abbrev pub invariant-loop-decision : goal.invariant-loop-decision
invariant-loop-decision l =
    (goal.iterator-loop-decision).can_next l.decision-iterator × (goal.iterator-loop-decision).is_finite l.decision-iterator
    × (string_bytes l.text ++ flat_map decision_line l.decision-iterator
    ≡ string_bytes l.fn.text ++ flat_map decision_line l.audit.items)
