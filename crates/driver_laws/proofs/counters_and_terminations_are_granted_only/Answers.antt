use Rattle.driver_laws.proofs.GrantOnlyLemmas.{counts_and_ends_only}
use Rattle.driver_laws.proofs.counters_and_terminations_are_granted_only.Goals as goal

pub returns : goal.returns
returns c settings policy peers events = counts_and_ends_only _
