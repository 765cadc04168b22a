use Rattle.std.proofs.Common.{◌<◌, length, sym, subst}
use Rattle.driver_steps.specs.OpenLogs.{HeldLogs}
use Rattle.driver_steps.proofs.HousedLemmas.{housed_given, lease_is_of}
use Rattle.driver_steps.proofs.open_logs.OpenLogs.close_at.Goals as goal

pub give-requires : goal.give-requires
give-requires c =
    let logs = c.self.inside.logs.items in
    let within : c.args.at < length logs = subst (λ (h : HeldLogs). c.args.at < length h.logs) (sym c.self.view_is) c.requires in
    lease_is_of c.self.inside.arena logs c.args.at c.remove-open.result c.remove-open.result c.close.result within
    (sym c.remove-open.ensures.value)
    (record { home = c.close.ensures.home; place = c.close.ensures.place; len = c.close.ensures.len }) c.self.invariant

pub invariant_of-self : goal.invariant_of-self
invariant_of-self c =
    let logs = c.self.inside.logs.items in
    let within : c.args.at < length logs = subst (λ (h : HeldLogs). c.args.at < length h.logs) (sym c.self.view_is) c.requires in
    housed_given c.self.inside.arena c.give.new.self logs c.remove-open.new.self.items c.args.at c.remove-open.result c.remove-open.result c.close.result within
    (sym c.remove-open.ensures.value)
    (record { home = c.close.ensures.home; place = c.close.ensures.place; len = c.close.ensures.len }) c.give.ensures.given
    c.remove-open.ensures.items c.self.invariant
