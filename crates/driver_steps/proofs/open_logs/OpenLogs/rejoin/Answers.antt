use Rattle.std.proofs.Common.{rules, ◌≡◌, ℕ, ◌<◌, List, length, get_or, ap, ◌∙◌}
use Rattle.driver_core.specs.Pairs.{pairs_of}
use Rattle.driver_core.specs.Readers.{readers_of}
use Rattle.log_steps.specs.Held.{HeldLog}
use Rattle.driver_steps.specs.OpenLogs.{HeldLogs}
use Rattle.driver_steps.proofs.OpenLogLemmas.{rejoin_more}
use Rattle.driver_steps.proofs.open_logs.OpenLogs.rejoin.Goals as goal

pub loop-at-preserved : goal.loop-at-preserved
loop-at-preserved c =
    let held : HeldLog = c.index.result.now in
    let now : List HeldLog = c.loop-at.self.logs in
    let same : c.self-in-loop-at.inside.logs.items ≡ now = ap (λ (h : HeldLogs). h.logs) c.self-in-loop-at.view_is in
    let found : held ≡ get_or now c.loop-at.at held = c.index.ensures ∙ ap (λ l. get_or l c.loop-at.at held) same in
    let within : c.loop-at.at < length c.args.self.now.logs = search rules in (
      ap (λ (h : HeldLogs). h.pages) c.rejoin_at.ensures ∙ c.loop-at.invariant.0,
      ap (λ (h : HeldLogs). h.room) c.rejoin_at.ensures ∙ c.loop-at.invariant.1,
      rejoin_more (pairs_of c.args.registry.now) c.args.self.now.logs now c.rejoin_at.new.self.logs c.loop-at.at held c.as_slice.result.now within
          c.loop-at.invariant.2 found
          (c.as_slice.ensures.value ∙ c.readers.ensures ∙ ap (λ (n : ℕ). readers_of (pairs_of c.args.registry.now) n) c.source.ensures)
          (ap (λ (h : HeldLogs). h.logs) c.rejoin_at.ensures),
    )
