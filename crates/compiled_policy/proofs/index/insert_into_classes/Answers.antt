use Rattle.std.proofs.Common.{◌+◌, ◌<◌, List, length, sym, subst, ◌∙◌, arith}
use Rattle.std.proofs.lemmas.Option.{slice_get-get_or}
use Rattle.compiled_policy.specs.Class.{is_in}
use Rattle.compiled_policy.specs.declared.rule_set.RuleSet.{RuleSet}
use Rattle.compiled_policy.proofs.SetLemmas.{AddsBelow, below_all, below_in, below_out}
use Rattle.compiled_policy.proofs.index.insert_into_classes.Goals as goal
use Rattle.compiled_policy.proofs.index.insert_into_classes.Goals.{then-is_in, else-is_in}

pub loop-class-preserved : goal.loop-class-preserved
loop-class-preserved c =
    let same_length = c.loop-class.auto.classes in
    let within : c.loop-class.class < length c.loop-class.classes = omega (arith, same_length, c.requires.classes, c.loop-class-test.true) in
    elim c.if-is_in.branch [
      | then-is_in w ↦
          subst (λ (new : List RuleSet). AddsBelow c.args.classes.now new (λ class. is_in class c.args.rule.now) c.args.place (c.loop-class.class + 1))
          (sym w.classes-is)
          (below_in c.args.classes.now c.loop-class.classes (λ class. is_in class c.args.rule.now) c.args.place c.loop-class.class _ w.insert.new.self
          c.loop-class.invariant (slice_get-get_or c.loop-class.classes c.loop-class.class _ within) (sym c.is_in.ensures ∙ w.if-is_in.true) w.insert.ensures)
      | else-is_in w ↦
          subst (λ (new : List RuleSet). AddsBelow c.args.classes.now new (λ class. is_in class c.args.rule.now) c.args.place (c.loop-class.class + 1))
          (sym w.classes-is)
          (below_out c.args.classes.now c.loop-class.classes (λ class. is_in class c.args.rule.now) c.args.place c.loop-class.class
          c.loop-class.invariant (sym c.is_in.ensures ∙ w.if-is_in.false))
    ]

pub returns : goal.returns
returns c =
    below_all c.args.classes.now c.loop-class.classes (λ class. is_in class c.args.rule.now) c.args.place c.loop-class.class c.loop-class.invariant
    (λ row behind within. absurd (omega (arith, c.requires.classes, c.loop-class-test.false)))
