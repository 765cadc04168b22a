use Rattle.std.proofs.Common.{rules, ◌≡◌, Ok, subst}
use Rattle.driver_service.specs.Answering.{TakesMail}
use Rattle.driver_service.proofs.CallLemmas.{gives_mail, not_waited, waits_on}
use Rattle.driver_service.proofs.connection.Connection.mail.Goals as goal

pub returns-then-is_over : goal.returns-then-is_over
returns-then-is_over g c =
    let none : c.replies-replied.result ≡ Ok 0 = search rules in
    let took = subst (λ r. TakesMail g.S.Seat.does c.loop.self.seat c.replies-replied.new.self.seat c.loop.out.items c.replies-replied.new.out.items r) none c.replies-replied.ensures.takes in
    record {
      gives = gives_mail g.S.Seat.does c.args.self.now.seat c.loop.self.seat c.replies-replied.new.self.seat c.args.out.now.items c.loop.out.items c.replies-replied.new.out.items (Ok 0) c.loop.invariant.2 took;
      refusals = search;
    }

pub loop-preserved : goal.loop-preserved
loop-preserved g c =
    let none : c.replies-replied.result ≡ Ok 0 = search rules in
    (record {}, record {}, waits_on g.S.Seat.does c.args.self.now.seat c.loop.self.seat c.replies-replied.new.self.seat c.args.out.now.items c.loop.out.items c.replies-replied.new.out.items c.replies-replied.result none c.loop.invariant.2 c.replies-replied.ensures.takes, search)

pub returns-in_default : goal.returns-in_default
returns-in_default g c = record {
  gives = gives_mail g.S.Seat.does c.args.self.now.seat c.loop.self.seat c.replies-replied.new.self.seat c.args.out.now.items c.loop.out.items c.replies-replied.new.out.items c.replies-replied.result c.loop.invariant.2 c.replies-replied.ensures.takes;
  refusals = search;
}
