use Rattle.driver_laws.proofs.GoingLemmas.{logs_close_only}
use Rattle.driver_laws.proofs.NumberLemmas.{numbers_rise}
use Rattle.driver_laws.proofs.logs_close_only.Goals as goal

pub returns : goal.returns
returns c settings policy peers events event inputs =
    logs_close_only _ event inputs (numbers_rise settings policy peers events)
