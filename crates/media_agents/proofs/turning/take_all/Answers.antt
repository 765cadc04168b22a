use Rattle.std.proofs.Common.{◌≡◌, ◌+◌, [], ◌∷◌, ◌++◌, length, ◌∙◌, arith}
use Rattle.std.proofs.lemmas.List.{length-append}
use Rattle.command_queue.specs.declared.letter.Letter.{Letter}
use Rattle.media_agents.proofs.TurnLemmas.{takes_made, takes_missed, still_there}
use Rattle.media_agents.proofs.turning.take_all.Goals as goal
use Rattle.media_agents.proofs.turning.take_all.Goals.{then-not-conduct, else-not-conduct}

pub loop-taken-preserved : goal.loop-taken-preserved
loop-taken-preserved g c =
    let so = c.loop-taken.invariant.0 in
    let history = g.C.Conducts.history in
    let does = g.C.Conducts.does in
    let misses = g.C.Conducts.misses in
    let same = still_there history does misses c.args.taker.now c.loop-taken.taker c.args.conductor.now c.loop-taken.conductor c.loop-taken.misses c.loop-taken._taken so in
    let letter : Letter g.row.E.Denot = record { from = c.in-Some.ensures.taken.0; event = c.in-Some.event } in
    let more : length (so.letters ++ letter ∷ []) ≡ c.loop-taken._taken + 1 = omega (arith, length-append so.letters (letter ∷ []), so.size) in
    elim c.if-not-conduct.branch [
      | then-not-conduct w ↦ rw w.misses-is (
        record {
          letters = so.letters ++ letter ∷ [];
          takes = takes_missed history does misses c.args.taker.now c.loop-taken.taker c.pop.new.self so.letters letter c.args.conductor.now c.loop-taken.conductor c.conduct.new.self c.loop-taken.misses c.if-is_full.ensures so.takes c.in-Some.ensures.taken.1 w.if-not-conduct.ensures.history w.if-not-conduct.ensures.did;
          size = more;
          few = omega (arith, so.few);
        },
        ((c.pop.ensures.known.0.0 ∙ same, c.pop.ensures.known.0.1), c.pop.ensures.known.1 ∙ c.loop-taken.invariant.1.1),
      )
      | else-not-conduct w ↦ rw w.misses-is (
        record {
          letters = so.letters ++ letter ∷ [];
          takes = takes_made history does misses c.args.taker.now c.loop-taken.taker c.pop.new.self so.letters letter c.args.conductor.now c.loop-taken.conductor c.conduct.new.self c.loop-taken.misses c.if-is_full.ensures so.takes c.in-Some.ensures.taken.1 w.if-not-conduct.ensures.history w.if-not-conduct.ensures.did;
          size = more;
          few = omega (arith, so.few);
        },
        ((c.pop.ensures.known.0.0 ∙ same, c.pop.ensures.known.0.1), c.pop.ensures.known.1 ∙ c.loop-taken.invariant.1.1),
      )
    ]
