use Rattle.std.proofs.Common.{rules, ◌≡◌, List, Option, ap, subst, sym, ◌∙◌}
use Rattle.driver_core.specs.Cached.{AreCached}
use Rattle.driver_core.specs.Change.{Change}
use Rattle.driver_core.specs.declared.state.event.Inputs.{Inputs}
use Rattle.driver_core.specs.Conduct.{conduct}
use Rattle.driver_core.specs.Pairs.{pairs_of}
use Rattle.driver_core.specs.Soundness.{MovesLogs}
use Rattle.driver_core.specs.State.{State}
use Rattle.driver_steps.specs.Bringing.{Brings}
use Rattle.log_steps.specs.Held.{HeldLog}
use Rattle.driver_steps.specs.OpenLogs.{inputs_held}
use Rattle.driver_steps.specs.Opening.{CanOpen, Follows, place_of}
use Rattle.driver_steps.specs.Standing.{Held, Match, Takes}
use Rattle.driver_steps.proofs.BringLemmas.{brings}
use Rattle.driver_steps.proofs.CachingLemmas.{cached_later}
use Rattle.driver_steps.proofs.MatchLemmas.{matches_after, opens_fit}
use Rattle.log_steps.proofs.ReaderLemmas.{readers_are_few}
use Rattle.driver_steps.proofs.StandLemmas.{match_roomy}
use Rattle.driver_steps.proofs.TakeLemmas.{done_by, followed, logs_as_before, planned_is, taken}
use Rattle.stream_registry.specs.declared.lingering.LogPlace.{LogPlace}
use Rattle.driver_steps.proofs.stepped_driver.SteppedDriver.take.Goals as goal

pub invariant_of-self : goal.invariant_of-self
invariant_of-self c =
    (match_roomy c.self.inside.registry c.self.inside.logs c.prepare.new.logs c.prepare.ensures.same c.self.invariant.0, c.self.invariant.1)

pub follow-requires-clause-opens : goal.follow-requires-clause-opens
follow-requires-clause-opens c =
    let s : State = c.self.inside.registry in
    let inputs : Inputs = inputs_held s c.args.event.now c.as_slice.result.now in
    let after : State = c.apply.new.self in
    let change : Change = done_by after c.in_ok-entry.entry.outcome in
    let is : change ≡ conduct s c.args.event.now inputs =
    planned_is s after c.in_ok-entry.entry c.args.event.now inputs c.in_ok-entry.ensures.exact c.apply.ensures in
    let moves : MovesLogs s change =
    subst (λ (x : Change). MovesLogs s x) (sym is) (c.in_ok-entry.ensures.moves c.self.invariant.0.sound) in
    let matches : Match s c.prepare.new.logs = match_roomy s c.self.inside.logs c.prepare.new.logs c.prepare.ensures.same c.self.invariant.0 in
    subst (λ (opens : Option LogPlace). CanOpen c.prepare.new.logs after c.args.event.now opens) (sym c.in-Ok.ensures.place)
    (opens_fit s c.prepare.new.logs c.args.event.now change matches moves
    (subst (λ (x : Change). Brings c.args.event.now x) (sym is) (brings s c.args.event.now inputs c.self.invariant.0.sound)))

pub follow-requires-clause-few : goal.follow-requires-clause-few
follow-requires-clause-few c =
    let s : State = c.self.inside.registry in
    let inputs : Inputs = inputs_held s c.args.event.now c.as_slice.result.now in
    let after : State = c.apply.new.self in
    let change : Change = done_by after c.in_ok-entry.entry.outcome in
    let is : change ≡ conduct s c.args.event.now inputs =
    planned_is s after c.in_ok-entry.entry c.args.event.now inputs c.in_ok-entry.ensures.exact c.apply.ensures in
    let moves : MovesLogs s change =
    subst (λ (x : Change). MovesLogs s x) (sym is) (c.in_ok-entry.ensures.moves c.self.invariant.0.sound) in
    let matches : Match s c.prepare.new.logs = match_roomy s c.self.inside.logs c.prepare.new.logs c.prepare.ensures.same c.self.invariant.0 in
    readers_are_few after moves.sound

pub invariant_of-self-2 : goal.invariant_of-self-2
invariant_of-self-2 c =
    let s : State = c.self.inside.registry in
    let inputs : Inputs = inputs_held s c.args.event.now c.as_slice.result.now in
    let after : State = c.apply.new.self in
    let change : Change = done_by after c.in_ok-entry.entry.outcome in
    let is : change ≡ conduct s c.args.event.now inputs =
    planned_is s after c.in_ok-entry.entry c.args.event.now inputs c.in_ok-entry.ensures.exact c.apply.ensures in
    let moves : MovesLogs s change =
    subst (λ (x : Change). MovesLogs s x) (sym is) (c.in_ok-entry.ensures.moves c.self.invariant.0.sound) in
    let matches : Match s c.prepare.new.logs = match_roomy s c.self.inside.logs c.prepare.new.logs c.prepare.ensures.same c.self.invariant.0 in
    let closes : c.as_slice-2.result.now ≡ change.outcome.closes = search rules in
    let follows : Follows c.prepare.new.logs c.follow.new.logs after change.outcome.opens change.outcome.closes =
    followed c.prepare.new.logs c.follow.new.logs after change.outcome (place_of c.in-Ok.opening) c.as_slice-2.result.now
    c.in-Ok.ensures.place closes c.follow.ensures in (
      rw follows.left
          (matches_after s c.prepare.new.logs follows.opened change (pairs_of after) matches moves follows.opens),
      cached_later s after c.self.inside.caches.items
          (λ entries cached.
          subst (λ (t : State). AreCached t entries) (sym c.apply.ensures)
          (c.cached_verdicts_stay_right.ensures.after s c.in_ok-entry.entry.event c.in_ok-entry.entry.inputs entries cached))
          c.self.invariant.1,
    )

pub returns-clause-taken : goal.returns-clause-taken
returns-clause-taken c =
    let s : State = c.self.inside.registry in
    let inputs : Inputs = inputs_held s c.args.event.now c.as_slice.result.now in
    let after : State = c.apply.new.self in
    let change : Change = done_by after c.in_ok-entry.entry.outcome in
    let is : change ≡ conduct s c.args.event.now inputs =
    planned_is s after c.in_ok-entry.entry c.args.event.now inputs c.in_ok-entry.ensures.exact c.apply.ensures in
    let moves : MovesLogs s change =
    subst (λ (x : Change). MovesLogs s x) (sym is) (c.in_ok-entry.ensures.moves c.self.invariant.0.sound) in
    let matches : Match s c.prepare.new.logs = match_roomy s c.self.inside.logs c.prepare.new.logs c.prepare.ensures.same c.self.invariant.0 in
    let closes : c.as_slice-2.result.now ≡ change.outcome.closes = search rules in
    let follows : Follows c.prepare.new.logs c.follow.new.logs after change.outcome.opens change.outcome.closes =
    followed c.prepare.new.logs c.follow.new.logs after change.outcome (place_of c.in-Ok.opening) c.as_slice-2.result.now
    c.in-Ok.ensures.place closes c.follow.ensures in
    let same : c.prepare.new.logs.logs ≡ c.self.inside.logs.logs =
    logs_as_before c.self.inside.logs c.prepare.new.logs c.prepare.ensures.same in
    let told : inputs ≡ inputs_held s c.args.event.now c.prepare.new.logs.logs =
    ap (inputs_held s c.args.event.now) (c.as_slice.ensures ∙ sym same) in
    subst (λ (held : Held). Takes held (record { registry = after; logs = c.follow.new.logs.logs }) c.args.event.now change.outcome) c.self.view_is
    (subst (λ (logs : List HeldLog). Takes (record { registry = s; logs = logs }) (record { registry = after; logs = c.follow.new.logs.logs }) c.args.event.now change.outcome) same
    (taken s c.prepare.new.logs follows.opened c.follow.new.logs c.args.event.now change inputs is told follows.opens follows.left))
