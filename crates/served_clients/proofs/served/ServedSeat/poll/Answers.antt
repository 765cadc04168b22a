use Rattle.std.proofs.Common.{refl}
use Rattle.served_clients.proofs.DenyLemmas.{heard_of}
use Rattle.served_clients.proofs.TellLemmas.{no_fragments}
use Rattle.served_clients.proofs.served.ServedSeat.poll.Goals as goal

pub returns : goal.returns
returns g c =
    let w = c.tell_poll-told.ensures in
    record {
      bytes = w.bytes;
      appended = w.appended;
      holds = (
        (
          record {
            gave = c.poll-gave.result;
            looks = c.poll-gave.ensures.looks;
            step = c.poll-gave.ensures.step;
            audit = c.poll-gave.ensures.audit;
            heard = heard_of g.K.Keeper.hears _ _ _ _ c.denied_poll-denial.ensures c.denied.ensures.told;
            told_is = w.holds;
          },
          refl,
        ),
        no_fragments c.poll-gave.result w.bytes c.tell_poll-told.result w.holds,
      );
    }
