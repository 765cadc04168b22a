use Rattle.compiled_policy.specs.Class.{is_in}
use Rattle.compiled_policy.proofs.SetLemmas.{AddsBelow}
use Rattle.compiled_policy.proofs.index.insert_into_classes.Given as goal

-- the rule's classes so far have it
abbrev pub invariant-loop-class : goal.invariant-loop-class
invariant-loop-class l = AddsBelow l.initial.classes l.classes (λ class. is_in class l.rule) l.place l.class
