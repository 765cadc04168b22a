use Rattle.std.proofs.Common.{refl}
use Rattle.served_clients.proofs.served.ServedSeat.list.Goals as goal

pub returns : goal.returns
returns g c =
    let w = c.tell_list.ensures in
    record {
      bytes = w.bytes;
      appended = w.appended;
      holds = (
        record {
          gave = c.list-gave.result;
          looks = c.list-gave.ensures.looks;
          listed = c.list-gave.ensures.listed;
          fault = c.list-gave.ensures.fault;
          audit = c.list-gave.ensures.audit;
          told_is = w.holds;
        },
        refl,
      );
    }
