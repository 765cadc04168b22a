use Rattle.two_drivers.proofs.ReadingLemmas.{reports_quiet}
use Rattle.two_drivers.proofs.mirrors.reports_are_quiet.Goals as goal

pub returns : goal.returns
returns c = reports_quiet
