use Rattle.std.proofs.Common.{Result, subst}
use Rattle.std.proofs.lemmas.Int.{to_z-of_z}
use mir.Syntax.{w32}
use Rattle.log_steps.specs.Held.{HeldLog}
use Rattle.media_agents.proofs.AskingLemmas.{opens_in}
use Rattle.media_agents.specs.Asking.{IsHold, Opens}
use Rattle.media_agents.proofs.unopened.open_in.Goals as goal

pub returns-in-Ok : goal.returns-in-Ok
returns-in-Ok g c =
    let kept = g.H.Held.kept in
    subst (λ (r : Result Unit HeldLog). Opens (IsHold g.N.Naming.home) c.args.session c.args.stream c.args.log r) c.in-Ok.is
    (opens_in g.N.Naming.home c.args.session c.args.stream _ _ c.args.log c.open-opened.result (kept c.args.slot.now) (kept c.open-opened.new.self)
    (to_z-of_z w32 c.args.session c.ranges.session) (to_z-of_z w32 c.args.stream c.ranges.stream) (record { own = c.holds.ensures.own; whole = c.holds.ensures.whole }) (record { own = c.holds-2.ensures.own; whole = c.holds-2.ensures.whole })
    c.open-opened.ensures.free c.open-opened.ensures.opened c.open-opened.ensures.back)

pub returns-in-Err : goal.returns-in-Err
returns-in-Err g c =
    let kept = g.H.Held.kept in
    subst (λ (r : Result Unit HeldLog). Opens (IsHold g.N.Naming.home) c.args.session c.args.stream c.args.log r) c.in-Err.is
    (opens_in g.N.Naming.home c.args.session c.args.stream _ _ c.args.log c.open-opened.result (kept c.args.slot.now) (kept c.open-opened.new.self)
    (to_z-of_z w32 c.args.session c.ranges.session) (to_z-of_z w32 c.args.stream c.ranges.stream) (record { own = c.holds.ensures.own; whole = c.holds.ensures.whole }) (record { own = c.holds-2.ensures.own; whole = c.holds-2.ensures.whole })
    c.open-opened.ensures.free c.open-opened.ensures.opened c.open-opened.ensures.back)
