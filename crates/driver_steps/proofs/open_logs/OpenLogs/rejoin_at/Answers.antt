use Rattle.std.proofs.Common.{ℕ, ◌<◌, List, length, sym, ap, subst, ◌∙◌}
use Rattle.std.specs.Vec.{vec_capacity}
use Rattle.std.proofs.lemmas.List.{get_or_default}
use Rattle.log_steps.specs.Held.{HeldLog, LiesAsBefore}
use Rattle.driver_steps.specs.OpenLogs.{HeldLogs, with_readers}
use Rattle.driver_steps.proofs.OpenLogLemmas.{readers_set}
use Rattle.driver_steps.proofs.HousedLemmas.{housed_set}
use Rattle.driver_steps.proofs.open_logs.OpenLogs.rejoin_at.Goals as goal
use Rattle.log_traffic.specs.Held.{rejoined_held as rejoined_any}

pub invariant_of-self : goal.invariant_of-self
invariant_of-self c =
    let logs : List HeldLog = c.self.inside.logs.items in
    let within : c.args.at < length logs = subst (λ (h : HeldLogs). c.args.at < length h.logs) (sym c.self.view_is) c.requires.at in
    housed_set c.self.inside.arena logs c.args.at c.rejoin.new.self (λ d.
    let was = get_or_default logs c.args.at d c.index_mut.result.now within ∙ sym c.index_mut.ensures.value in
    subst (λ (h : HeldLog). LiesAsBefore h c.rejoin.new.self) (sym was) c.rejoin.ensures.lies) c.self.invariant

pub returns : goal.returns
returns c =
    let logs : List HeldLog = c.self.inside.logs.items in
    let readers : List ℕ = c.args.subscriptions.now in
    let within : c.args.at < length logs = subst (λ (h : HeldLogs). c.args.at < length h.logs) (sym c.self.view_is) c.requires.at in
    ap (λ l. let h : HeldLogs = record { pages = c.self.inside.arena.home.pages; logs = l; room = vec_capacity c.self.inside.logs } in h)
    (readers_set logs c.args.at readers c.rejoin.new.self within (λ d.
    let was = get_or_default logs c.args.at d c.index_mut.result.now within ∙ sym c.index_mut.ensures.value in
    c.rejoin.ensures.exact ∙ ap (λ (h : HeldLog). let g : HeldLog = record h { log = rejoined_any readers h.log } in g) (sym was)))
    ∙ ap (λ (h : HeldLogs). let g : HeldLogs = record h { logs = with_readers c.args.at readers h.logs } in g) c.self.view_is
