use Rattle.media_wire.proofs.Orders.{arrive_in_order}
use Rattle.media_wire.proofs.laws.letters_arrive_in_order.Goals as goal

pub returns : goal.returns
returns c = arrive_in_order
