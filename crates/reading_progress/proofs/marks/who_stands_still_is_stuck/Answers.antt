use Rattle.reading_progress.proofs.MarkLemmas.{standing_is_stuck}
use Rattle.reading_progress.proofs.marks.who_stands_still_is_stuck.Goals as goal

pub returns : goal.returns
returns c = standing_is_stuck
