use Rattle.policy_diff.proofs.AddingLemmas.{apart_by}
use Rattle.policy_diff.proofs.diff_rows.is_shown.Goals as goal

pub returns-in-Some : goal.returns-in-Some
returns-in-Some c = λ _ old new sound. apart_by old new c.args.row.now _ c.in-Some.is sound
