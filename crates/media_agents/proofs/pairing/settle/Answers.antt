use Rattle.std.proofs.Common.{List, subst}
use Rattle.std.proofs.lemmas.List.{take_all}
use Rattle.log_steps.proofs.ReaderLemmas.{readers_are_few}
use Rattle.media_agents.specs.Acts.{Each, GoesOn}
use Rattle.media_agents.specs.Asking.{Settles}
use Rattle.media_agents.proofs.ChainLemmas.{each_next, each_none}
use Rattle.stream_registry.specs.declared.pairs.Pair.{Pair}
use Rattle.media_agents.proofs.pairing.settle.Goals as goal

pub settle_one-requires : goal.settle_one-requires
settle_one-requires g c = readers_are_few c.args.registry.now c.requires _

pub loop-pair-init : goal.loop-pair-init
loop-pair-init g c = each_none (Settles c.args.registry.now) (g.L.Logs.did c.args.logs.now)

pub loop-pair-preserved : goal.loop-pair-preserved
loop-pair-preserved g c =
    let did = g.L.Logs.did in
    each_next (Settles c.args.registry.now) c.args.pairs.now c.loop-pair.pair-index _ (did c.args.logs.now) (did c.loop-pair.logs) (did c.settle_one.new.logs)
    c.loop-pair-test.true c.loop-pair.invariant c.settle_one.ensures

pub returns : goal.returns
returns g c =
    subst (λ (those : List Pair). GoesOn (Each (Settles c.args.registry.now) those) (g.L.Logs.did c.args.logs.now) (g.L.Logs.did c.loop-pair.logs))
    (take_all c.loop-pair.pair-index c.args.pairs.now c.loop-pair-test.false) c.loop-pair.invariant
