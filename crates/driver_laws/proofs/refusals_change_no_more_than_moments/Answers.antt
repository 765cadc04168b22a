use Rattle.driver_laws.proofs.RefusalLemmas.{refusals_leave}
use Rattle.driver_laws.proofs.refusals_change_no_more_than_moments.Goals as goal

pub returns : goal.returns
returns c settings policy peers events = refusals_leave _
