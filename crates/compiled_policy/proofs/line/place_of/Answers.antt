use Rattle.std.proofs.Common.{Ok, Err, arith}
use Rattle.std.proofs.lemmas.List.Sorted.{searched}
use Rattle.compiled_policy.proofs.LineLemmas.{ascend_far, found_place}
use Rattle.compiled_policy.proofs.line.place_of.Goals as goal

pub returns-in-Ok : goal.returns-in-Ok
returns-in-Ok c =
    let starts = c.args.starts.now in
    let found = searched starts c.args.at (Ok c.in-Ok.place) c.in-Ok.ensures.position (ascend_far starts c.requires) in
    found_place starts c.args.at c.in-Ok.place c.requires found.0 found.1

pub returns-in-Err : goal.returns-in-Err
returns-in-Err c =
    let starts = c.args.starts.now in
    let found = searched starts c.args.at (Err c.in-Err.place) c.in-Err.ensures.position (ascend_far starts c.requires) in
    record { within = found.0; before = found.1; behind = λ row high within. let up = found.2 row high within in omega (arith, up) }
