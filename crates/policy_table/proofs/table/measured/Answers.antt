use Rattle.std.proofs.Common.{◌+◌, ◌∙◌, length, ap, arith}
use Rattle.policy_table.specs.Rows.{capped, entry_of}
use Rattle.policy_table.proofs.PrintLemmas.{capped_then, count_then, entries_less}
use Rattle.policy_table.proofs.table.measured.Goals as goal

pub loop-place-preserved : goal.loop-place-preserved
loop-place-preserved c =
    let before = c.loop-place.invariant in
    let step = c.in_ok-step.step in
    let more = length step.stretch.rules.items in (
      before.0 + more,
      c.capped_sum-rows.ensures ∙ ap (λ n. capped (c.loop-place.rows + n)) c.rows-more.ensures ∙ capped_then before.0 more c.loop-place.rows before.1,
      count_then _ _ (entry_of step) before.0 _ c.in_ok-step.ensures before.2,
    )

pub loop-place-smaller : goal.loop-place-smaller
loop-place-smaller c = omega (arith, entries_less _ _ (entry_of c.in_ok-step.step) c.in_ok-step.ensures)
