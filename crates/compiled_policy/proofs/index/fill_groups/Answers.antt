use Rattle.std.proofs.Common.{length, ◌∙◌, refl, arith}
use Rattle.std.proofs.lemmas.Option.{slice_get_read}
use Rattle.std.specs.Prelude.{◌&&◌, nat_le, nat_lt}
use Rattle.compiled_policy.specs.Group.{is_of}
use Rattle.compiled_policy.proofs.SetLemmas.{adds_where_same, sets_more}
use Rattle.compiled_policy.proofs.index.fill_groups.Goals as goal

pub loop-place-preserved : goal.loop-place-preserved
loop-place-preserved c =
    let rules = c.args.rules.now in
    let place = c.loop-place.place in
    let rule = c.index-rules-place.result in
    let range = c.groups_of-from.result in
    let stands = slice_get_read rules (length rules) place rule refl (omega (arith, c.loop-place-test.true)) c.index-rules-place.is in
    let count = c.loop-place.invariant.0 in
    let adds = adds_where_same c.loop-place.groups c.insert_into.new.sets (λ row. nat_le range.0 row && nat_lt row range.1) (λ row. is_of row rule) place
    (λ row within. c.groups_of-from.ensures.value row (omega (arith, count, within))) c.insert_into.ensures in (
      c.insert_into.ensures.rows ∙ c.loop-place.invariant.0,
      sets_more rules is_of place rule c.loop-place.groups c.insert_into.new.sets (omega (arith, c.loop-place-test.true, c.requires.few)) stands
          c.loop-place.invariant.1 adds,
    )
