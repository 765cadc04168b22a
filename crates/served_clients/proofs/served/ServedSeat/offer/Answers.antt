use Rattle.std.proofs.Common.{refl}
use Rattle.served_clients.proofs.DenyLemmas.{heard_of}
use Rattle.served_clients.proofs.served.ServedSeat.offer.Goals as goal

pub returns : goal.returns
returns g c = (
  record {
    gave = c.offer-gave.result;
    known = c.offer-gave.ensures.known;
    moment = c.offer-gave.ensures.moment;
    same = c.offer-gave.ensures.same;
    counted = c.offer-gave.ensures.counted;
    step = c.offer-gave.ensures.step;
    audit = c.offer-gave.ensures.audit;
    heard = heard_of g.K.Keeper.hears _ _ _ _ c.denied_offer.ensures c.denied.ensures.told;
    told_is = c.tell_offer.ensures;
  },
  refl,
)
