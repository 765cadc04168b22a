use Rattle.two_drivers.proofs.RunLemmas.{lines_run}
use Rattle.two_drivers.proofs.mirrors.lines_are_runs.Goals as goal

pub returns : goal.returns
returns c = lines_run
