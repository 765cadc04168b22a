use Rattle.std.proofs.Common.{rules, ◌≡◌, Some, None, ap, refl, subst, ◌∙◌}
use Rattle.std.specs.Option.{is_some}
use Rattle.driver_core.specs.SendRequests.{outlets_by, sent_at}
use Rattle.log_steps.specs.Held.{HeldLog}
use Rattle.log_steps.specs.Sending.{pace_of}
use Rattle.log_steps.proofs.SendLemmas.{expired_beside, next_due, next_told, send_done, send_gives, send_gone, send_idle, send_unsent}
use Rattle.log_steps.proofs.sending.send_own.Goals as goal
use Rattle.learnt_addresses.specs.LearntAddresses.{standing}
use Rattle.log_traffic.specs.Sending.{IsNextOf, SomeDueOf}
use Rattle.log_traffic.specs.declared.cutting.Pace.{Pace}
use Rattle.stream_registry.specs.declared.row.LogRow.{LogRow}
use Rattle.stream_registry.specs.Origins.{lingering_since}

pub returns-in_default-clause-does : goal.returns-in_default-clause-does
returns-in_default-clause-does g c =
    let s = g.V.View.shows c.args.view.now in
    let held : HeldLog = record { source = c.log.inside.source; log = c.log.inside.log; recovery = c.log.inside.recovery } in
    let none : sent_at s held.source ≡ None = search rules in
    rw (← c.log.view_is) (send_gone s c.args.now held none)

pub returns-in-Ok-None-clause-does : goal.returns-in-Ok-None-clause-does
returns-in-Ok-None-clause-does g c =
    let s = g.V.View.shows c.args.view.now in
    let held : HeldLog = record { source = c.log.inside.source; log = c.log.inside.log; recovery = c.log.inside.recovery } in
    let source : LogRow = c.in-Some.source.now in
    let is : sent_at s held.source ≡ Some source = search rules in
    let settings : c.settings-settings.result ≡ s.settings = search rules in
    let pace : c.pace_of-pace.result ≡ pace_of s.settings = c.pace_of-pace.ensures ∙ ap pace_of settings in
    let lingers : c.is_some-lingers.result ≡ is_some (lingering_since source) = search rules in
    let next : IsNextOf held.log c.pace_of-pace.result c.args.now c.is_some-lingers.result None = search rules in
    let after : HeldLog = record held { recovery = c.expire.new.self } in
    let kept : c.expire.new.self ≡ expired_beside s.settings c.args.now held.recovery = search rules in
    rw (← c.log.view_is)
    (send_unsent s c.args.now held after source is (next_told held.log _ _ c.args.now _ _ _ pace lingers next) refl refl kept)

pub returns-in-Ok-Some-None-clause-does : goal.returns-in-Ok-Some-None-clause-does
returns-in-Ok-Some-None-clause-does g c =
    let s = g.V.View.shows c.args.view.now in
    let held : HeldLog = record { source = c.log.inside.source; log = c.log.inside.log; recovery = c.log.inside.recovery } in
    let source : LogRow = c.in-Some.source.now in
    let is : sent_at s held.source ≡ Some source = search rules in
    let settings : c.settings-settings.result ≡ s.settings = search rules in
    let pace : c.pace_of-pace.result ≡ pace_of s.settings = c.pace_of-pace.ensures ∙ ap pace_of settings in
    let lingers : c.is_some-lingers.result ≡ is_some (lingering_since source) = search rules in
    let next : IsNextOf held.log c.pace_of-pace.result c.args.now c.is_some-lingers.result (Some None) = search rules in
    let after : HeldLog = record held { recovery = c.expire-in-Ok-Some-None.new.self } in
    let kept : c.expire-in-Ok-Some-None.new.self ≡ expired_beside s.settings c.args.now held.recovery = search rules in
    rw (← c.log.view_is)
    (send_idle s c.args.now held after source is (next_told held.log _ _ c.args.now _ _ _ pace lingers next) refl refl kept)

pub returns-in-Ok-clause-does : goal.returns-in-Ok-clause-does
returns-in-Ok-clause-does g c =
    let s = g.V.View.shows c.args.view.now in
    let held : HeldLog = record { source = c.log.inside.source; log = c.log.inside.log; recovery = c.log.inside.recovery } in
    let source : LogRow = c.in-Some.source.now in
    let is : sent_at s held.source ≡ Some source = search rules in
    let settings : c.settings-settings.result ≡ s.settings = search rules in
    let pace : c.pace_of-pace.result ≡ pace_of s.settings = c.pace_of-pace.ensures ∙ ap pace_of settings in
    let lingers : c.is_some-lingers.result ≡ is_some (lingering_since source) = search rules in
    let after : HeldLog = record held { log = c.pass.new.self; recovery = c.expire-in-Ok.new.self } in
    let kept : c.expire-in-Ok.new.self ≡ expired_beside s.settings c.args.now held.recovery = search rules in
    let next : IsNextOf held.log c.pace_of-pace.result c.args.now c.is_some-lingers.result (Some (Some c.in-Ok-Some-Some.next)) = search rules in
    let goes : c.outlets.new.outlets ≡ outlets_by s (standing c.args.now s.settings.destination_timeout held.recovery.learnt) (Some source) =
    search rules in
    rw (← c.log.view_is, c.from.ensures)
    (send_done s c.args.now held after source c.outlets.new.outlets c.in-Ok-Some-Some.next is goes
    (next_told held.log _ _ c.args.now _ _ _ pace lingers next) c.pass.ensures.whole refl kept)

pub returns-in-Err-outlets-clause-without_memory :
    goal.returns-in-Err-outlets-clause-without_memory
returns-in-Err-outlets-clause-without_memory g c =
    let s = g.V.View.shows c.args.view.now in
    let held : HeldLog = record { source = c.log.inside.source; log = c.log.inside.log; recovery = c.log.inside.recovery } in
    let source : LogRow = c.in-Some.source.now in
    let is : sent_at s held.source ≡ Some source = search rules in
    let settings : c.settings-settings.result ≡ s.settings = search rules in
    let pace : c.pace_of-pace.result ≡ pace_of s.settings = c.pace_of-pace.ensures ∙ ap pace_of settings in
    let lingers : c.is_some-lingers.result ≡ is_some (lingering_since source) = search rules in
    let next : IsNextOf held.log c.pace_of-pace.result c.args.now c.is_some-lingers.result (Some (Some c.in-Ok-Some-Some.next)) = search rules in
    rw (← c.log.view_is)
    (send_gives s c.args.now held source is
    (next_due s c.args.now held source c.in-Ok-Some-Some.next (next_told held.log _ _ c.args.now _ _ _ pace lingers next)))

pub returns-in-Err-clause-without_memory : goal.returns-in-Err-clause-without_memory
returns-in-Err-clause-without_memory g c =
    let s = g.V.View.shows c.args.view.now in
    let held : HeldLog = record { source = c.log.inside.source; log = c.log.inside.log; recovery = c.log.inside.recovery } in
    let source : LogRow = c.in-Some.source.now in
    let is : sent_at s held.source ≡ Some source = search rules in
    let settings : c.settings-settings.result ≡ s.settings = search rules in
    let pace : c.pace_of-pace.result ≡ pace_of s.settings = c.pace_of-pace.ensures ∙ ap pace_of settings in
    let some : SomeDueOf held.log c.pace_of-pace.result c.args.now = search rules in
    rw (← c.log.view_is)
    (send_gives s c.args.now held source is (subst (λ (p : Pace). SomeDueOf held.log p c.args.now) pace some))
