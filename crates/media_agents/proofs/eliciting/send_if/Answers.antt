use Rattle.std.proofs.Common.{List, subst, ℕ}
use Rattle.media_agents.proofs.TrafficLemmas.{goes_if, withheld_if}
use Rattle.media_agents.specs.Acts.{GoesOn, Trail}
use Rattle.media_agents.specs.declared.eliciting.Wanted.{Wanted}
use Rattle.media_agents.specs.Eliciting.{eliciting_letter}
use Rattle.media_agents.specs.Traffic.{IsTried}
use Rattle.media_agents.proofs.eliciting.send_if.Goals as goal
use Rattle.media_wire.specs.Letters.{letter}

pub returns-then-not-wanted : goal.returns-then-not-wanted
returns-then-not-wanted g c =
    withheld_if (eliciting_letter c.args.receiver_id) (λ (wanted : Wanted). wanted.due) c.args.wanted.now
    (Trail (g.S.Stepping.did c.args.steps.now) (g.W.Wire.went c.args.wire.now)) c.if-not-wanted.true

pub returns : goal.returns
returns g c =
    let old = Trail (g.S.Stepping.did c.args.steps.now) (g.W.Wire.went c.args.wire.now) in
    let new = Trail (g.S.Stepping.did c.send.new.steps) (g.W.Wire.went c.send.new.wire) in
    let it = c.args.wanted.now.elicitation in
    goes_if (eliciting_letter c.args.receiver_id) (λ (wanted : Wanted). wanted.due) c.args.wanted.now old new c.if-not-wanted.false
    (subst (λ (bytes : List ℕ). GoesOn (IsTried (letter it.endpoint it.control bytes)) old new) c.message_of-bytes.ensures c.send.ensures)
