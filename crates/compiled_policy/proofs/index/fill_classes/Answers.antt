use Rattle.std.proofs.Common.{length, ◌∙◌, refl, arith}
use Rattle.std.proofs.lemmas.Option.{slice_get_read}
use Rattle.compiled_policy.specs.Class.{is_in}
use Rattle.compiled_policy.proofs.SetLemmas.{sets_more}
use Rattle.compiled_policy.proofs.index.fill_classes.Goals as goal

pub loop-place-preserved : goal.loop-place-preserved
loop-place-preserved c =
    let rules = c.args.rules.now in
    let place = c.loop-place.place in
    let rule = c.index-rules-place.result in
    let stands = slice_get_read rules (length rules) place rule refl (omega (arith, c.loop-place-test.true)) c.index-rules-place.is in (
      c.insert_into_classes.ensures.rows ∙ c.loop-place.invariant.0,
      sets_more rules is_in place rule c.loop-place.classes c.insert_into_classes.new.classes (omega (arith, c.loop-place-test.true, c.requires.few)) stands
          c.loop-place.invariant.1 c.insert_into_classes.ensures,
    )
