use Rattle.std.proofs.Common.{refl}
use Rattle.served_clients.proofs.DenyLemmas.{heard_of}
use Rattle.served_clients.proofs.served.ServedSeat.value.Goals as goal

pub returns : goal.returns
returns g c = (
  record {
    gave = c.counter_value-gave.result;
    looks = c.counter_value-gave.ensures.looks;
    shown = c.counter_value-gave.ensures.shown;
    audit = c.counter_value-gave.ensures.audit;
    heard = heard_of g.K.Keeper.hears _ _ _ _ c.denied_look.ensures c.denied.ensures.told;
    told_is = c.tell_value.ensures;
  },
  refl,
)
