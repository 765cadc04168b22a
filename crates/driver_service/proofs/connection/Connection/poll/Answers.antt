use Rattle.std.proofs.Common.{rules, ◌≡◌, ◌∙◌, Ok, refl}
use Rattle.driver_service.proofs.GatherLemmas.{polls_one, tries_more}
use Rattle.driver_service.proofs.connection.Connection.poll.Goals as goal

pub loop-preserved : goal.loop-preserved
loop-preserved g c =
    let none : c.gather-polled.result ≡ Ok 0 = search rules in
    let calls = tries_more g.S.Seat.does c.args.subscription c.args.source c.args.limit c.args.self.now.seat c.loop.self.seat c.gather-polled.new.seat c.loop.out.items c.gather-polled.new.out.items c.gather-polled.result c.loop.invariant.2 c.gather-polled.ensures.gathered none in
    (record {}, record {}, calls, c.loop.invariant.3, c.gather-polled.ensures.nothing none ∙ c.loop.invariant.4)

pub returns-then-is_over-clause-polls : goal.returns-then-is_over-clause-polls
returns-then-is_over-clause-polls g c =
    let none : c.gather-polled.result ≡ Ok 0 = search rules in
    polls_one g.S.Seat.does c.args.subscription c.args.source c.args.limit c.args.self.now.seat c.loop.self.seat c.gather-polled.new.seat c.args.out.now.items c.loop.out.items c.gather-polled.new.out.items c.gather-polled.result (Ok 0) c.loop.invariant.2 c.loop.invariant.4 c.gather-polled.ensures.gathered none

pub returns-in_default-clause-polls : goal.returns-in_default-clause-polls
returns-in_default-clause-polls g c =
    polls_one g.S.Seat.does c.args.subscription c.args.source c.args.limit c.args.self.now.seat c.loop.self.seat c.gather-polled.new.seat c.args.out.now.items c.loop.out.items c.gather-polled.new.out.items c.gather-polled.result c.gather-polled.result c.loop.invariant.2 c.loop.invariant.4 c.gather-polled.ensures.gathered refl
