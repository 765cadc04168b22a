use Rattle.std.proofs.Common.{◌≡◌, List, ap, subst, sym, ◌∙◌}
use Rattle.channel_uri.specs.declared.address.Address.{Address}
use Rattle.media_agents.proofs.AgentLemmas.{turn_receives}
use Rattle.media_agents.proofs.SetUpLemmas.{few_in_turn}
use Rattle.media_agents.proofs.ActLemmas.{turn_ends}
use Rattle.media_agents.specs.Acts.{GoesOn, Trail}
use Rattle.media_agents.specs.Agents.{Lists, Receives, Receiving, fresh_set_ups}
use Rattle.media_agents.specs.declared.listing.ImageAt.{ImageAt}
use Rattle.media_agents.specs.Eliciting.{Eliciting}
use Rattle.media_agents.specs.Finding.{AreEndpoints, images_of}
use Rattle.media_agents.specs.Passing.{next_turn}
use Rattle.media_agents.specs.SetUps.{SettingUp}
use Rattle.media_agents.proofs.receiving.ReceiverAgent.turn.Goals as goal
use Rattle.published_registry.specs.Histories.{History, history_in}

pub returns-clause-turn : goal.returns-clause-turn
returns-clause-turn g c =
    (_, _, c.next-self-inside.ensures ∙ ap (next_turn _ _) (ap (λ (agent : Receiving g.row.S.Denot). agent.turn) c.self.view_is))

pub returns-clause-queue : goal.returns-clause-queue
returns-clause-queue g c =
    few_in_turn c.max-moment.result c.self.inside.set_ups c.begin.new.self c.hear_each-pass.new.set_ups c.args.self.now.queue c.begin.ensures
    (ap (λ (agent : Receiving g.row.S.Denot). agent.queue) c.self.view_is) c.hear_each-pass.ensures.set_ups

pub returns-clause-receives : goal.returns-clause-receives
returns-clause-receives g c =
    let did = g.S.Stepping.did in
    let went = g.W.Wire.went in
    let now = c.max-moment.result in
    let after : History = c.elicit-pass.result in
    let set_ups : SettingUp = c.hear_each-pass.new.set_ups in
    let there = sym c.take.ensures.value ∙ c.in-Some.is in
    let is = ap (λ (agent : Receiving g.row.S.Denot). agent.steps) c.self.view_is in
    let is_known : c.in-Some.pass ≡ c.args.self.now.known = sym (ap history_in there) ∙ ap (λ (agent : Receiving g.row.S.Denot). agent.known) c.self.view_is in
    let is_queue : c.begin.new.self ≡ fresh_set_ups c.args.self.now.queue =
    c.begin.ensures ∙ ap fresh_set_ups (ap (λ (agent : Receiving g.row.S.Denot). agent.queue) c.self.view_is) in
    let is_eliciting = ap (λ (agent : Receiving g.row.S.Denot). agent.eliciting) c.self.view_is in
    let begun = Trail (did c.self.inside.steps) (went c.args.wire.now) in
    let end = Trail (did c.elicit-pass.new.steps) (went c.turn_ended.new.self) in
    let Goes = λ (steps : g.row.S.Denot) (known : History) (queue : SettingUp) (was : Eliciting).
    GoesOn (Receives now known after queue set_ups was c.elicit-pass.new.elicited) (Trail (did steps) (went c.args.wire.now)) end in
    let by_parts = turn_receives now c.in-Some.pass c.find_endpoints-pass.result c.hear_each-pass.result.0 c.find_images-pass.result
    c.report_each-pass.result.0 after c.begin.new.self set_ups c.self.inside.elicited c.elicit-pass.new.elicited c.as_slice-endpoints.result.now c.as_slice-images.result.now
    (did c.self.inside.steps) (did c.find_endpoints-pass.new.steps) (did c.hear_each-pass.new.steps) (did c.find_images-pass.new.steps)
    (went c.args.wire.now) (went c.hear_each-pass.new.wire) (Trail (did c.report_each-pass.new.steps) (went c.report_each-pass.new.wire))
    (Trail (did c.elicit-pass.new.steps) (went c.elicit-pass.new.wire))
    (subst (λ (listed : List Address). GoesOn (Lists AreEndpoints c.in-Some.pass c.find_endpoints-pass.result listed) (did c.self.inside.steps) (did c.find_endpoints-pass.new.steps))
    (sym c.as_slice-endpoints.ensures.value) c.find_endpoints-pass.ensures.listed)
    c.hear_each-pass.ensures.hears
    (subst (λ (listed : List ImageAt). GoesOn (Lists (λ s images. images ≡ images_of s) c.hear_each-pass.result.0 c.find_images-pass.result listed) (did c.hear_each-pass.new.steps) (did c.find_images-pass.new.steps))
    (sym c.as_slice-images.ensures.value) c.find_images-pass.ensures.listed)
    c.report_each-pass.ensures.reports c.elicit-pass.ensures.wire in
    let ended = turn_ends (Receives now c.in-Some.pass after c.begin.new.self set_ups c.self.inside.elicited c.elicit-pass.new.elicited)
    begun (did c.elicit-pass.new.steps) (went c.elicit-pass.new.wire) (went c.turn_ended.new.self) by_parts c.turn_ended.ensures in
    record {
      left = set_ups.left;
      receives = subst (λ (steps : g.row.S.Denot). Goes steps c.args.self.now.known (fresh_set_ups c.args.self.now.queue) c.args.self.now.eliciting) is
          (subst (λ (known : History). Goes c.self.inside.steps known (fresh_set_ups c.args.self.now.queue) c.args.self.now.eliciting) is_known
          (subst (λ (queue : SettingUp). Goes c.self.inside.steps c.in-Some.pass queue c.args.self.now.eliciting) is_queue
          (subst (λ (was : Eliciting). Goes c.self.inside.steps c.in-Some.pass c.begin.new.self was) is_eliciting ended)));
    }
