use Rattle.std.proofs.Common.{◌≡◌, ap, subst, sym, ◌∙◌}
use Rattle.channel_uri.specs.declared.address.Address.{Address}
use Rattle.media_agents.proofs.ActLemmas.{turn_ends}
use Rattle.media_agents.proofs.AgentLemmas.{turn_sends}
use Rattle.media_agents.proofs.LookLemmas.{continues}
use Rattle.media_agents.specs.Acts.{GoesOn, Trail}
use Rattle.media_agents.specs.Agents.{Lists, Sending, Sends}
use Rattle.media_agents.specs.declared.slots.LogAt.{LogAt}
use Rattle.media_agents.specs.Finding.{AreControls, publications_of}
use Rattle.media_agents.specs.Passing.{next_turn}
use Rattle.media_agents.proofs.sending.SenderAgent.turn.Goals as goal
use Rattle.published_registry.specs.Histories.{History, IsContinuedBy, history_in}
use Rattle.std.proofs.Common.{List}

pub returns-clause-turn : goal.returns-clause-turn
returns-clause-turn g c =
    (_, _, c.next-self-inside.ensures ∙ ap (next_turn _ _) (ap (λ (agent : Sending g.row.S.Denot). agent.turn) c.self.view_is))

pub returns-clause-known : goal.returns-clause-known
returns-clause-known g c =
    let there = sym c.take.ensures.value ∙ c.in-Some.is in
    let same : c.in-Some.pass ≡ c.args.self.now.known = sym (ap history_in there) ∙ ap (λ (agent : Sending g.row.S.Denot). agent.known) c.self.view_is in
    subst (λ (known : History). IsContinuedBy known c.send_each-pass.result.0) same
    (continues
    (continues (continues (continues c.hear_all-pass.ensures.known c.find_controls-pass.ensures.known) c.hear_each-pass.ensures.known)
    c.find_publications-pass.ensures.known)
    c.send_each-pass.ensures.known)

pub returns-clause-sends : goal.returns-clause-sends
returns-clause-sends g c =
    let did = g.S.Stepping.did in
    let went = g.W.Wire.went in
    let local : Address = c.self.inside.local in
    let now = c.max-moment.result in
    let after : History = c.send_each-pass.result.0 in
    let there = sym c.take.ensures.value ∙ c.in-Some.is in
    let is = ap (λ (agent : Sending g.row.S.Denot). agent.steps) c.self.view_is in
    let is_local = ap (λ (agent : Sending g.row.S.Denot). agent.local) c.self.view_is in
    let is_known : c.in-Some.pass ≡ c.args.self.now.known = sym (ap history_in there) ∙ ap (λ (agent : Sending g.row.S.Denot). agent.known) c.self.view_is in
    let begun = Trail (did c.self.inside.steps) (went c.args.wire.now) in
    let done = Trail (did c.send_each-pass.new.steps) (went c.send_each-pass.new.wire) in
    let by_parts = turn_sends now local c.in-Some.pass c.hear_all-pass.result.0 c.find_controls-pass.result c.hear_each-pass.result.0
    c.find_publications-pass.result after c.as_slice-controls.result.now c.as_slice-all.result.now begun
    (did c.hear_all-pass.new.steps) (did c.find_controls-pass.new.steps) (did c.hear_each-pass.new.steps) (did c.find_publications-pass.new.steps)
    (went c.hear_all-pass.new.wire) (went c.hear_each-pass.new.wire) done
    c.hear_all-pass.ensures.hears
    (subst (λ (listed : List Address). GoesOn (Lists AreControls c.hear_all-pass.result.0 c.find_controls-pass.result listed) (did c.hear_all-pass.new.steps) (did c.find_controls-pass.new.steps))
    (sym c.as_slice-controls.ensures.value) c.find_controls-pass.ensures.listed)
    c.hear_each-pass.ensures.hears
    (subst (λ (listed : List LogAt). GoesOn (Lists (λ s logs. logs ≡ publications_of s) c.hear_each-pass.result.0 c.find_publications-pass.result listed) (did c.hear_each-pass.new.steps) (did c.find_publications-pass.new.steps))
    (sym c.as_slice-all.ensures.value) c.find_publications-pass.ensures.listed)
    c.send_each-pass.ensures.sends in
    let end = Trail (did c.send_each-pass.new.steps) (went c.turn_ended.new.self) in
    let ended = turn_ends (Sends now local c.in-Some.pass after) begun (did c.send_each-pass.new.steps) (went c.send_each-pass.new.wire) (went c.turn_ended.new.self)
    by_parts c.turn_ended.ensures in
    let Goes = λ (steps : g.row.S.Denot) (local : Address) (known : History). GoesOn (Sends now local known after) (Trail (did steps) (went c.args.wire.now)) end in
    subst (λ (steps : g.row.S.Denot). Goes steps c.args.self.now.local c.args.self.now.known) is
    (subst (λ (local : Address). Goes c.self.inside.steps local c.args.self.now.known) is_local
    (subst (λ (known : History). Goes c.self.inside.steps local known) is_known ended))
