use Rattle.std.proofs.Common.{refl}
use Rattle.served_clients.proofs.served.ServedSeat.publication_positions.Goals as goal

pub returns : goal.returns
returns g c = (
  record {
    gave = c.publication_positions-gave.result;
    looks = c.publication_positions-gave.ensures.looks;
    shown = c.publication_positions-gave.ensures.shown;
    told_is = c.tell_publication.ensures;
  },
  refl,
)
