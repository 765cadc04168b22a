use Rattle.std.proofs.Common.{arith, rules, ◌≡◌, Err, Ok, true, false, length, refl}
use Rattle.driver_service.proofs.CallLemmas.{ends_none, ends_refused, mail_ends, mail_full, no_mail, one_more_reply}
use Rattle.driver_service.proofs.connection.Connection.replies.Goals as goal

pub loop-count-init : goal.loop-count-init
loop-count-init g c = (no_mail g.S.Seat.does c.args.self.now.seat c.args.out.now.items, refl)

pub returns-in-Err : goal.returns-in-Err
returns-in-Err g c =
    let w = c.mail.ensures in
    let so = c.loop-count.invariant.0 in
    let refused : c.mail.result ≡ Err c.in-Err.refusal = search rules in
    record {
      takes = mail_ends g.S.Seat.does c.args.self.now.seat c.loop-count.self.seat c.mail.new.self c.args.out.now.items c.loop-count.out.items c.mail.new.out.items w.bytes c.mail.result c.loop-count.count (Err c.in-Err.refusal) so w.appended w.holds (ends_refused (length so.replies) w.bytes c.mail.result c.in-Err.refusal refused);
      refusals = c.loop-count.invariant.1;
    }

pub returns-in-Ok-false : goal.returns-in-Ok-false
returns-in-Ok-false g c =
    let w = c.mail.ensures in
    let so = c.loop-count.invariant.0 in
    let none : c.mail.result ≡ Ok false = search rules in
    record {
      takes = mail_ends g.S.Seat.does c.args.self.now.seat c.loop-count.self.seat c.mail.new.self c.args.out.now.items c.loop-count.out.items c.mail.new.out.items w.bytes c.mail.result c.loop-count.count (Ok c.loop-count.count) so w.appended w.holds (ends_none c.loop-count.count (length so.replies) w.bytes c.mail.result none so.long);
      refusals = c.loop-count.invariant.1;
    }

pub loop-count-preserved : goal.loop-count-preserved
loop-count-preserved g c =
    let w = c.mail.ensures in
    let some : c.mail.result ≡ Ok true = search rules in
    (one_more_reply g.S.Seat.does c.args.self.now.seat c.loop-count.self.seat c.mail.new.self c.args.out.now.items c.loop-count.out.items c.mail.new.out.items w.bytes c.mail.result c.loop-count.count c.loop-count.invariant.0 w.appended w.holds some, c.loop-count.invariant.1)

pub returns : goal.returns
returns g c =
    let many : c.loop-count.count ≡ 256 = omega (arith, c.loop-count-test.false, c.loop-count.auto.count-end) in
    record {
      takes = mail_full g.S.Seat.does c.args.self.now.seat c.loop-count.self.seat c.args.out.now.items c.loop-count.out.items c.loop-count.count c.loop-count.invariant.0 many;
      refusals = c.loop-count.invariant.1;
    }
