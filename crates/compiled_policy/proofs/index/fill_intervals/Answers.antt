use Rattle.std.proofs.Common.{◌≡◌, ℕ, length, subst, ◌∙◌, refl, arith}
use Rattle.std.proofs.lemmas.Option.{slice_get_read}
use Rattle.std.specs.Prelude.{◌&&◌, nat_le, nat_lt}
use Rattle.compiled_policy.specs.Line.{IsPlace, is_on}
use Rattle.compiled_policy.specs.RuleSet.{AreSetsOf}
use Rattle.compiled_policy.proofs.LineLemmas.{is_on_rows}
use Rattle.compiled_policy.proofs.SetLemmas.{adds_where_same, sets_more}
use Rattle.compiled_policy.proofs.index.fill_intervals.Goals as goal

pub loop-place-preserved : goal.loop-place-preserved
loop-place-preserved c =
    let rules = c.args.rules.now in
    let starts = c.args.starts.now in
    let place = c.loop-place.place in
    let rule = c.index-rules-place.result in
    let from = c.place_of-from.result in
    let to = c.place_of-to.result in
    let stands = slice_get_read rules (length rules) place rule refl (omega (arith, c.loop-place-test.true)) c.index-rules-place.is in
    let low = subst (λ (n : ℕ). IsPlace starts n from) c.start_of.ensures c.place_of-from.ensures in
    let high = subst (λ (n : ℕ). IsPlace starts n to) c.end_of.ensures c.place_of-to.ensures in
    let count = c.loop-place.invariant.0 in
    let adds = adds_where_same c.loop-place.intervals c.insert_into.new.sets (λ row. nat_le from row && nat_lt row to) (λ row. is_on starts row rule) place
    (λ row within. is_on_rows starts rule from to row low high (omega (arith, count, within))) c.insert_into.ensures in (
      c.insert_into.ensures.rows ∙ c.loop-place.invariant.0,
      sets_more rules (is_on starts) place rule c.loop-place.intervals c.insert_into.new.sets (omega (arith, c.loop-place-test.true, c.requires.few)) stands
          c.loop-place.invariant.1 adds,
    )

pub returns-clause-sets : goal.returns-clause-sets
returns-clause-sets c =
    let end : c.loop-place.place ≡ length c.args.rules.now = omega (arith, c.loop-place.auto.place-end, c.loop-place-test.false) in
    subst (λ (n : ℕ). AreSetsOf c.args.rules.now (is_on c.args.starts.now) n c.loop-place.intervals) end c.loop-place.invariant.1
