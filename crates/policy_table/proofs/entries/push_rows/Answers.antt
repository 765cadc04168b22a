use Rattle.std.proofs.Common.{◌∙◌, ◌++◌, ◌∷◌, [], List, ℕ, get_or, map, ap, arith}
use Rattle.std.proofs.lemmas.List.{map-append}
use Rattle.policy_table.specs.Printed.{row_of}
use Rattle.policy_table.specs.Rows.{Row, entry_of}
use Rattle.policy_table.proofs.PrintLemmas.{part_rows}
use Rattle.policy_table.proofs.entries.push_rows.Goals as goal

pub loop-place-preserved : goal.loop-place-preserved
loop-place-preserved c =
    let old = c.loop-place.rows.items in
    let row = c.in_ok-table_row.field-0 in
    part_rows (entry_of c.args.step.now) c.loop-place.place-index _ (map row_of c.args.rows.now.items) (map row_of old) _
    (omega (arith, c.as_slice-place-items.ensures.value)) (ap (λ (l : List ℕ). get_or l c.loop-place.place-index 0) c.as_slice-place-items.ensures.value)
    c.loop-place.invariant
    (ap (map row_of) c.in_ok-push.ensures.items ∙ map-append row_of old (row ∷ []) ∙ ap (λ (r : Row). map row_of old ++ r ∷ []) c.in_ok-table_row.ensures)
