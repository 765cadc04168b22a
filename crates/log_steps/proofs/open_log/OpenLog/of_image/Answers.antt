use Rattle.std.proofs.Common.{refl}
use Rattle.log_steps.proofs.open_log.OpenLog.of_image.Goals as goal
use Rattle.log_traffic.specs.Whole.{rebuilt}

pub invariant_of-result : goal.invariant_of-result
invariant_of-result c = record { whole = rebuilt c.heard.new.self.rebuilt; stands = refl }
