use Rattle.std.proofs.Common.{refl}
use Rattle.served_clients.proofs.served.ServedSeat.image_positions.Goals as goal

pub returns : goal.returns
returns g c = (
  record {
    gave = c.image_positions-gave.result;
    looks = c.image_positions-gave.ensures.looks;
    shown = c.image_positions-gave.ensures.shown;
    told_is = c.tell_image.ensures;
  },
  refl,
)
