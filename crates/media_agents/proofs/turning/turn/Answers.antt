use Rattle.command_queue.specs.Known.{facts_of}
use Rattle.media_agents.proofs.TurnLemmas.{turned_made, turned_missed}
use Rattle.media_agents.proofs.turning.turn.Goals as goal

pub returns-then-conduct-clause-turned : goal.returns-then-conduct-clause-turned
returns-then-conduct-clause-turned g c =
    turned_made g.C.Conducts.history g.C.Conducts.does g.C.Conducts.misses c.args.taker.now c.take_all-misses.new.taker (facts_of c.args.known.now) c.args.tick
    c.args.conductor.now c.take_all-misses.new.conductor c.conduct.new.self c.take_all-misses.result c.if-is_full.ensures c.take_all-misses.ensures.all c.if-conduct.ensures.history
    c.if-conduct.ensures.did

pub returns-else-conduct-clause-turned : goal.returns-else-conduct-clause-turned
returns-else-conduct-clause-turned g c =
    turned_missed g.C.Conducts.history g.C.Conducts.does g.C.Conducts.misses c.args.taker.now c.take_all-misses.new.taker (facts_of c.args.known.now) c.args.tick
    c.args.conductor.now c.take_all-misses.new.conductor c.conduct.new.self c.take_all-misses.result c.if-is_full.ensures c.take_all-misses.ensures.all c.if-conduct.ensures.history
    c.if-conduct.ensures.did
