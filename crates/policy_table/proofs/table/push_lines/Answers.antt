use Rattle.std.proofs.Common.{List, ℕ, get_or, ap, arith}
use Rattle.policy_table.specs.Rows.{entry_of}
use Rattle.policy_table.proofs.PrintLemmas.{part_lines}
use Rattle.policy_table.proofs.table.push_lines.Goals as goal

pub loop-place-preserved : goal.loop-place-preserved
loop-place-preserved c =
    part_lines (entry_of c.args.step.now) c.loop-place.place-index _ _ _ _ (omega (arith, c.as_slice-place-items.ensures.value))
    (ap (λ (l : List ℕ). get_or l c.loop-place.place-index 0) c.as_slice-place-items.ensures.value) c.loop-place.invariant c.in_ok-push_line.ensures
