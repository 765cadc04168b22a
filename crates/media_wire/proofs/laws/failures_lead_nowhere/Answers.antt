use Rattle.media_wire.proofs.Orders.{failures_lead_nowhere}
use Rattle.media_wire.proofs.laws.failures_lead_nowhere.Goals as goal

pub returns : goal.returns
returns c = failures_lead_nowhere
