use Rattle.std.proofs.Common.{◌≡◌, map, take}
use Rattle.denial_notes.specs.RuleNames.{name_in}
use Rattle.denial_notes.proofs.rule_names.names_of.Given as goal

-- the rules so far have their names
abbrev pub invariant-loop-rule : goal.invariant-loop-rule
invariant-loop-rule l = l.names.items ≡ map name_in (take l.rule-index l.rules)
