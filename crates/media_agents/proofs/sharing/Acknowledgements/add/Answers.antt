use Rattle.std.proofs.Common.{length, subst}
use Rattle.media_agents.proofs.sharing.Acknowledgements.add.Goals as goal
use Rattle.media_agents.proofs.SharingLemmas.{taken_out}
use Rattle.media_agents.specs.Sharing.{Acknowledges, Acknowledging}
use Rattle.rtrb.specs.Ring.{known_items, received}

pub returns : goal.returns
returns c =
    let before = c.self.inside.marks in
    let after = c.pop.new.self in
    subst (λ (old : Acknowledging). Acknowledges old (record { acknowledged = length (received after); marks = length (known_items after) })) c.self.view_is
    (taken_out _ (received before) (received after) (known_items before) (known_items after) c.pop.result c.pop.ensures.ok c.pop.ensures.empty c.pop.ensures.succeeds)
