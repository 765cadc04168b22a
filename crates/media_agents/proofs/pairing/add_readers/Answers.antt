use Rattle.std.proofs.Common.{◌==◌, ◌≤◌, ap, append-nil, arith, length, sym, take, ◌∙◌}
use Rattle.std.proofs.lemmas.List.{get_or_default, take_all}
use Rattle.stream_registry.specs.declared.pairs.Pair.{Pair}
use Rattle.media_agents.proofs.FindingLemmas.{list_more}
use Rattle.media_agents.proofs.pairing.add_readers.Goals as goal

pub loop-pair-init : goal.loop-pair-init
unfolding Rattle.driver_core.specs.Readers.readers_of
loop-pair-init c =
    let few : length c.args.room.now ≤ 512 = omega (arith, c.len-few.ensures.value, c.len-few.ensures.few) in
    sym (ap (take 512) (append-nil c.args.room.now) ∙ take_all 512 c.args.room.now few)

pub loop-pair-preserved : goal.loop-pair-preserved
unfolding Rattle.driver_core.specs.Readers.readers_of
loop-pair-preserved c =
    list_more (λ (pair : Pair). pair.subscription) (λ (pair : Pair). pair.source == c.args.source) 512 c.args.room.now c.args.come.now c.loop-pair.pair-index _
    c.loop-pair.room c.add_reader.new.room c.loop-pair-test.true (get_or_default c.args.come.now c.loop-pair.pair-index _ _ c.loop-pair-test.true)
    c.loop-pair.invariant c.add_reader.ensures
