use Rattle.std.proofs.Common.{SFits, w32, to_z, of_z, rules, sym, ◌∙◌, arith}
use Rattle.std.proofs.lemmas.Int.{to_z-of_z}
use Rattle.policy_table.specs.Stretch.{span_of}
use Rattle.policy_table.proofs.StretchLemmas.{stretch_ends, stretch_goes_on, stretch_starts, stretch_whole}
use Rattle.policy_table.proofs.stretch.stretch_of.Goals as goal

pub loop-place-init : goal.loop-place-init
loop-place-init c =
    let high = c.args.scope.now.high in
    let fits : SFits w32 high = search rules in
    stretch_starts c.args.rules.now c.args.scope.now (to_z w32 (of_z w32 high)) c.new.result.items (to_z-of_z w32 high fits) c.new.ensures.items

pub loop-place-preserved : goal.loop-place-preserved
loop-place-preserved c =
    stretch_goes_on c.args.rules.now c.args.scope.now c.loop-place.place c.index-rules-place.result (span_of c.loop-place.stretch)
    (span_of c.look_at.new.self) (omega (arith, c.loop-place-test.true)) (sym c.index-rules-place.is) c.loop-place.invariant
    c.in_ok-look_at.ensures.looks (sym c.in_ok-look_at.ensures.closes ∙ c.if-branch.false)

pub returns-then-branch : goal.returns-then-branch
returns-then-branch c =
    stretch_ends c.args.rules.now c.args.scope.now c.loop-place.place c.index-rules-place.result (span_of c.loop-place.stretch)
    (span_of c.look_at.new.self) (omega (arith, c.loop-place-test.true)) (sym c.index-rules-place.is) c.loop-place.invariant
    c.in_ok-look_at.ensures.looks (sym c.in_ok-look_at.ensures.closes ∙ c.if-branch.true)

pub returns : goal.returns
returns c =
    stretch_whole c.args.rules.now c.args.scope.now c.loop-place.place (span_of c.loop-place.stretch) (omega (arith, c.loop-place-test.false))
    c.loop-place.invariant
