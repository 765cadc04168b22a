use Rattle.std.proofs.Common.{Err, arith}
use Rattle.std.proofs.lemmas.List.Sorted.{searched}
use Rattle.compiled_policy.proofs.LineLemmas.{ascend_far, inserted, inserted_kept}
use Rattle.compiled_policy.proofs.line.cut.Goals as goal

pub returns-in-Ok-insert-clause-ascend : goal.returns-in-Ok-insert-clause-ascend
returns-in-Ok-insert-clause-ascend c =
    let starts = c.args.starts.now.items in
    let position = rw c.as_slice.ensures.value at c.in-Err.ensures.position in
    let found = searched starts c.args.at (Err c.in-Err.place) position (ascend_far starts c.requires.ascend) in
    rw c.in-Ok-insert.ensures.items
    (inserted starts c.args.at c.in-Err.place c.requires.ascend
    (record { within = found.0; before = found.1; behind = λ row high within. let up = found.2 row high within in omega (arith, up) })
    found.2)

pub returns-in-Ok-insert-clause-kept : goal.returns-in-Ok-insert-clause-kept
returns-in-Ok-insert-clause-kept c =
    let starts = c.args.starts.now.items in
    let position = rw c.as_slice.ensures.value at c.in-Err.ensures.position in
    let found = searched starts c.args.at (Err c.in-Err.place) position (ascend_far starts c.requires.ascend) in
    rw c.in-Ok-insert.ensures.items (inserted_kept starts c.args.at c.in-Err.place found.0)
