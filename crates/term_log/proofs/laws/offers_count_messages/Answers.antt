use Rattle.term_log.proofs.Counts.{offered_counts}
use Rattle.term_log.proofs.laws.offers_count_messages.Goals as goal

pub returns : goal.returns
returns c = offered_counts
