use Rattle.std.proofs.Common.{◌+◌, ◌-◌, ◌/◌, ◌<◌, [], length, sym, arith}
use Rattle.std.proofs.lemmas.List.{length-map}
use Rattle.channel_uri.specs.Table.{pair_in}
use Rattle.channel_uri.proofs.TableLemmas.{lower, higher, here, missing, middle_within, compared}
use Rattle.channel_uri.proofs.table.place.Goals as goal

pub loop-low-preserved-in-Less : goal.loop-low-preserved-in-Less
loop-low-preserved-in-Less c =
    lower _ _ _ _ _ ([], []) c.requires.in_order c.loop-low.invariant (omega arith) (omega (arith, c.loop-low-test.true))
    (compared _ _ _ _ _ _ _ _ _ (middle_within _ _ _ _ _ c.loop-low.invariant c.loop-low-test.true) c.key_in.ensures c.cmp.ensures c.in-Less.is)

pub loop-low-preserved : goal.loop-low-preserved
loop-low-preserved c =
    higher _ _ _ _ _ ([], []) c.requires.in_order c.loop-low.invariant (omega arith) (omega (arith, c.loop-low-test.true))
    (compared _ _ _ _ _ _ _ _ _ (middle_within _ _ _ _ _ c.loop-low.invariant c.loop-low-test.true) c.key_in.ensures c.cmp.ensures c.in-Greater.is)

pub returns-in-Equal-clause-place : goal.returns-in-Equal-clause-place
returns-in-Equal-clause-place c =
    let inside : c.loop-low.low + (c.loop-low.high - c.loop-low.low) / 2 < length c.args.spans.now =
    middle_within _ _ _ _ _ c.loop-low.invariant c.loop-low-test.true in
    sym
    (here _ _ _ c.requires.in_order (omega (arith, inside, length-map c.args.spans.now (pair_in c.args.text.now)))
    (λ d. compared _ _ _ _ _ _ d _ _ inside c.key_in.ensures c.cmp.ensures c.in-Equal.is))

pub returns-clause-place : goal.returns-clause-place
returns-clause-place c = sym (missing _ _ _ _ c.loop-low.invariant c.loop-low-test.false)
