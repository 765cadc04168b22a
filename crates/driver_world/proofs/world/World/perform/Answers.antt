use Rattle.std.proofs.Common.{Option, refl, ap, ◌∙◌}
use Rattle.driver_core.specs.Listing.{value}
use Rattle.driver_core.specs.State.{State}
use Rattle.driver_steps.specs.declared.step.Step.{Step}
use Rattle.driver_steps.specs.declared.step.Step.TheVariants.{Offer, Value}
use Rattle.driver_steps.specs.EndDecisions.{offer_decided, poll_decided}
use Rattle.driver_steps.specs.Ends.{RunEnd as DriverEnd}
use Rattle.log_steps.specs.Decided.{shown_decision}
use Rattle.driver_world.specs.declared.actor.Actor.TheVariants.{Client}
use Rattle.driver_world.specs.Audits.{decided_by}
use Rattle.driver_world.specs.Standing.{Held}
use Rattle.driver_world.proofs.ServeLemmas.{decides_unless, list_acts, one_acts, report_acts, send_acts}
use Rattle.driver_world.proofs.world.World.perform.Goals as goal
use Rattle.policy_core.specs.declared.decision.Decision.{Decision}

pub returns-in-Offer : goal.returns-in-Offer
unfolding decided_by
returns-in-Offer c =
    let old : Held = record { driver = c.self.inside.driver; audits = c.self.inside.audits.audits; past = c.self.inside.past.past; seats = c.self.inside.seats.seats } in
    let step : Step = Offer c.at-now.result c.in-Offer.client c.in-Offer.registration c.as_slice-message.result.now in
    let decide : DriverEnd → Option Decision = λ e. offer_decided e c.in-Offer.client c.in-Offer.registration in
    rw (c.in-Offer.is, ← c.self.view_is, ← c.at-now.ensures, ← c.older-older.ensures, ← c.as_slice-message.ensures)
    (one_acts old c.offer-told.new.self c.tell_client.new.self.audits _ step c.offer-told.result (Client c.in-Offer.client) decide c.offer-told.ensures.serves
    (decides_unless _ old.driver c.offer-told.new.self step decide c.offer-told.result c.offer-told.ensures.serves (λ e. refl) c.offer-told.ensures.decides)
    c.tell_client.ensures (λ e all. refl))

pub returns-in-Poll : goal.returns-in-Poll
unfolding decided_by
returns-in-Poll c =
    let old : Held = record { driver = c.self.inside.driver; audits = c.self.inside.audits.audits; past = c.self.inside.past.past; seats = c.self.inside.seats.seats } in
    rw (c.in-Poll.is, ← c.self.view_is, ← c.at-now-in-Poll.ensures, ← c.older-older.ensures)
    (one_acts old c.poll-told.new.self c.tell_client-in-Poll.new.self.audits _ _ c.poll-told.result (Client c.in-Poll.client)
    (λ e. poll_decided e c.in-Poll.client c.in-Poll.subscription c.in-Poll.source) c.poll-told.ensures.serves c.poll-told.ensures.decides
    c.tell_client-in-Poll.ensures (λ e all. refl))

pub returns-in-Send : goal.returns-in-Send
returns-in-Send c =
    let old : Held = record { driver = c.self.inside.driver; audits = c.self.inside.audits.audits; past = c.self.inside.past.past; seats = c.self.inside.seats.seats } in
    rw (c.in-Send.is, ← c.self.view_is, ← c.at.ensures, ← c.older-older.ensures)
    (send_acts old c.send-answer.new.self c.tell_sent.new.self.audits _ c.at.result c.in-Send.source c.send-answer.result c.send-answer.ensures c.tell_sent.ensures)

pub returns-in-Image : goal.returns-in-Image
returns-in-Image c =
    let old : Held = record { driver = c.self.inside.driver; audits = c.self.inside.audits.audits; past = c.self.inside.past.past; seats = c.self.inside.seats.seats } in
    rw (c.in-Image.is, ← c.self.view_is, ← c.at-in-Image.ensures, ← c.older-older.ensures)
    (report_acts old c.report.new.self _ c.at-in-Image.result c.in-Image.source c.report.result c.report.ensures)

pub returns-in-List : goal.returns-in-List
returns-in-List c =
    let old : Held = record { driver = c.self.inside.driver; audits = c.self.inside.audits.audits; past = c.self.inside.past.past; seats = c.self.inside.seats.seats } in
    rw (c.in-List.is, ← c.self.view_is, ← c.at-in-List.ensures, ← c.older-older.ensures)
    (list_acts old c.tell_denials.new.self.audits _ c.at-in-List.result c.in-List.client c.list-looked.result.answer c.list-looked.result.denials
    c.list-looked.ensures.serves c.list-looked.ensures.leaves_out (rw (← c.as_slice.ensures) c.tell_denials.ensures))

pub returns-in-Value : goal.returns-in-Value
unfolding decided_by
returns-in-Value c =
    let old : Held = record { driver = c.self.inside.driver; audits = c.self.inside.audits.audits; past = c.self.inside.past.past; seats = c.self.inside.seats.seats } in
    let step : Step = Value c.at-in-Value.result c.in-Value.client c.in-Value.number in
    let decide : DriverEnd → Option Decision = λ e. shown_decision (value e.registry c.in-Value.client c.in-Value.number) in
    rw (c.in-Value.is, ← c.self.view_is, ← c.at-in-Value.ensures, ← c.older-older.ensures)
    (one_acts old old.driver c.tell_client-in-Value.new.self.audits _ step c.value-told.result (Client c.in-Value.client) decide c.value-told.ensures.serves
    (decides_unless _ old.driver old.driver step decide c.value-told.result c.value-told.ensures.serves (λ e. refl)
    (record { on = λ e stands. c.value-told.ensures.decides ∙ ap (λ (s : State). shown_decision (value s c.in-Value.client c.in-Value.number)) stands.registry }))
    c.tell_client-in-Value.ensures (λ e all. refl))
