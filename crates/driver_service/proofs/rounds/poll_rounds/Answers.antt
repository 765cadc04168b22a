use Rattle.std.proofs.Common.{arith, rules, ◌≡◌, ◌∙◌, Ok, ap}
use Rattle.driver_service.specs.Requests.{polled_pairs}
use Rattle.driver_service.proofs.RoundLemmas.{idle_more}
use Rattle.driver_service.proofs.rounds.poll_rounds.Goals as goal

pub loop-preserved : goal.loop-preserved
loop-preserved g c =
    let ok : c.poll_round.result ≡ Ok c.in_ok-count.count = search rules in
    let zero : c.in_ok-count.count ≡ 0 = omega (arith, c.if-count-gt0.false) in
    let none : c.poll_round.result ≡ Ok 0 = ok ∙ ap (λ n. Ok n) zero in
    let more = idle_more g.S.Seat.does c.args.limit (polled_pairs c.args.pairs.now) c.args.seat.now c.loop.seat c.poll_round.new.seat c.args.out.now.items c.loop.out.items c.poll_round.new.out.items c.poll_round.result c.loop.invariant.2 c.loop.invariant.3 c.poll_round.ensures none in
    (record {}, record {}, more.0, more.1)
