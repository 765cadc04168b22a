use Rattle.std.proofs.Common.{rules, ◌≡◌}
use Rattle.served_clients.specs.Acts.{sitting}
use Rattle.served_clients.proofs.served.ServedSeat.mail.Goals as goal

pub returns : goal.returns
returns g c =
    let w = c.tell_mail.ensures in
    let kept : c.heed.new.self.kept.items ≡ c.next_reply-mail.new.self.kept.items = search rules in
    record {
      bytes = w.bytes;
      appended = w.appended;
      holds = record {
        mail = c.next_reply-mail.result;
        between = sitting c.next_reply-mail.new.self.client c.next_reply-mail.new.self.kept.items;
        taken = c.next_reply-mail.ensures;
        looks = c.heed.ensures.looks;
        kept = kept;
        told_is = w.holds;
      };
    }
