use Rattle.std.proofs.Common.{arith, rules, ◌≡◌, ◌≤◌, ◌<◌, length, Ok, Err, Result, ℕ, subst, sym}
use Rattle.std.proofs.lemmas.Result.{err_from_is_err_and}
use Rattle.driver_service.specs.Requests.{polled_pairs}
use Rattle.driver_service.specs.Rounds.{Round}
use Rattle.driver_service.proofs.RoundLemmas.{none_yet, one_more_part, round_ends, round_fails, round_full, round_long}
use Rattle.driver_service.proofs.rounds.poll_round.Goals as goal

pub loop-place-init : goal.loop-place-init
loop-place-init g c = none_yet g.S.Seat.does c.args.limit c.args.pairs.now c.args.seat.now c.args.out.now.items

pub returns-in_default : goal.returns-in_default
returns-in_default g c =
    let few : c.loop-place.place < 64 = omega (arith, c.loop-place-test.true) in
    round_ends g.S.Seat.does c.args.limit c.args.pairs.now c.loop-place.left.now c.args.seat.now c.loop-place.seat c.args.out.now.items c.loop-place.out.items c.loop-place.place c.loop-place.count c.loop-place.invariant few c.in_default.ensures

pub returns-in_err-count : goal.returns-in_err-count
returns-in_err-count g c =
    let few : c.loop-place.place < 64 = omega (arith, c.loop-place-test.true) in
    let fault = err_from_is_err_and c.from_residual.result c.from_residual.ensures.1 in
    let round = round_fails g.S.Seat.does c.args.limit c.args.pairs.now c.loop-place.left.now c.in-Some.first.rest.now c.args.seat.now c.loop-place.seat c.poll_part.new.seat c.args.out.now.items c.loop-place.out.items c.poll_part.new.out.items c.loop-place.place c.loop-place.count c.in-Some.first.pair c.poll_part.result fault.0 c.loop-place.invariant few c.in-Some.ensures c.poll_part.ensures in
    subst (λ r. Round g.S.Seat.does c.args.limit (polled_pairs c.args.pairs.now) c.args.seat.now c.poll_part.new.seat c.args.out.now.items c.poll_part.new.out.items r) (sym fault.1) round

pub loop-place-preserved : goal.loop-place-preserved
loop-place-preserved g c =
    let ok : c.poll_part.result ≡ Ok c.in_ok-count.field-0 = search rules in
    let short : length c.loop-place.out.items < 65536 = omega (arith, c.if-len-ge-FULL.false, c.len.ensures) in
    one_more_part g.S.Seat.does c.args.limit c.args.pairs.now c.loop-place.left.now c.in-Some.first.rest.now c.args.seat.now c.loop-place.seat c.poll_part.new.seat c.args.out.now.items c.loop-place.out.items c.poll_part.new.out.items c.loop-place.place c.loop-place.count c.in_ok-count.field-0 c.in-Some.first.pair c.poll_part.result c.loop-place.invariant c.in-Some.ensures short c.poll_part.ensures ok

pub returns : goal.returns
returns g c =
    let full : c.loop-place.place ≡ 64 = omega (arith, c.loop-place-test.false, c.loop-place.auto.place-end) in
    round_full g.S.Seat.does c.args.limit c.args.pairs.now c.loop-place.left.now c.args.seat.now c.loop-place.seat c.args.out.now.items c.loop-place.out.items c.loop-place.place c.loop-place.count c.loop-place.invariant full

pub returns-then-len-ge-FULL : goal.returns-then-len-ge-FULL
returns-then-len-ge-FULL g c =
    let few : c.loop-place.place < 64 = omega (arith, c.loop-place-test.true) in
    let much : 65536 ≤ length c.loop-place.out.items = omega (arith, c.if-len-ge-FULL.true, c.len.ensures) in
    round_long g.S.Seat.does c.args.limit c.args.pairs.now c.loop-place.left.now c.args.seat.now c.loop-place.seat c.args.out.now.items c.loop-place.out.items c.loop-place.place c.loop-place.count c.loop-place.invariant few much
