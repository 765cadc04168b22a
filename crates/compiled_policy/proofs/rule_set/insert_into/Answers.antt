use Rattle.std.proofs.Common.{◌<◌, length, arith}
use Rattle.std.specs.Prelude.{◌&&◌, nat_le, nat_lt}
use Rattle.std.proofs.lemmas.Bool.{and_from, le-leb, lt-ltb}
use Rattle.std.proofs.lemmas.Option.{slice_get-get_or}
use Rattle.compiled_policy.proofs.SetLemmas.{above_range, below_all, below_in, below_none, below_range}
use Rattle.compiled_policy.proofs.rule_set.insert_into.Goals as goal

pub loop-row-init : goal.loop-row-init
loop-row-init c = below_none c.args.sets.now (λ row. nat_le c.args.from row && nat_lt row c.args.to) c.args.place c.args.from (below_range c.args.from c.args.to)

pub loop-row-preserved : goal.loop-row-preserved
loop-row-preserved c =
    let same_length = c.loop-row.auto.sets in
    let within : c.loop-row.row < length c.loop-row.sets = omega (arith, same_length, c.requires.rows) in
    below_in c.args.sets.now c.loop-row.sets (λ row. nat_le c.args.from row && nat_lt row c.args.to) c.args.place c.loop-row.row _ c.insert.new.self
    c.loop-row.invariant (slice_get-get_or c.loop-row.sets c.loop-row.row _ within)
    (and_from _ _ (le-leb c.args.from c.loop-row.row c.loop-row.auto.row) (lt-ltb c.loop-row.row c.args.to c.loop-row-test.true)) c.insert.ensures

pub returns : goal.returns
returns c =
    below_all c.args.sets.now c.loop-row.sets (λ row. nat_le c.args.from row && nat_lt row c.args.to) c.args.place c.loop-row.row c.loop-row.invariant
    (above_range c.args.from c.args.to c.loop-row.row c.loop-row-test.false (length c.args.sets.now))
