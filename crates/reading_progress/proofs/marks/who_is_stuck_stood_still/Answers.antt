use Rattle.reading_progress.proofs.MarkLemmas.{stuck_stood_still}
use Rattle.reading_progress.proofs.marks.who_is_stuck_stood_still.Goals as goal

pub returns : goal.returns
returns c = stuck_stood_still
