use Rattle.std.proofs.Common.{rules, ◌≡◌, false, refl}
use Rattle.driver_service.specs.Calls.{Offer}
use Rattle.driver_service.specs.Requests.{IsOffer, IsTry}
use Rattle.driver_service.proofs.CallLemmas.{ends_in, one_more, refused_try}
use Rattle.driver_service.proofs.connection.Connection.offered.Goals as goal

pub loop-preserved : goal.loop-preserved
loop-preserved g c =
    let own = IsOffer c.args.registration c.args.message.now in
    let not : c.is_final.result ≡ false = search rules in
    let nothing = refused_try c.args.registration c.args.message.now c.is_final.result c.offer-told.result c.is_final.ensures not in
    (record {}, record {}, one_more g.S.Seat.does (IsTry own) c.args.self.now.seat c.loop.self.seat c.offer-told.new.self (Offer c.args.registration c.args.message.now c.offer-told.result) c.loop.invariant.2 c.offer-told.ensures ((refl, refl), nothing), c.loop.invariant.3)

pub loop-preserved-else-not-is_at_once : goal.loop-preserved-else-not-is_at_once
loop-preserved-else-not-is_at_once g c =
    let own = IsOffer c.args.registration c.args.message.now in
    let not : c.is_final.result ≡ false = search rules in
    let nothing = refused_try c.args.registration c.args.message.now c.is_final.result c.offer-told.result c.is_final.ensures not in
    (record {}, record {}, one_more g.S.Seat.does (IsTry own) c.args.self.now.seat c.loop.self.seat c.offer-told.new.self (Offer c.args.registration c.args.message.now c.offer-told.result) c.loop.invariant.2 c.offer-told.ensures ((refl, refl), nothing), c.loop.invariant.3)

pub loop-preserved-else-not-is_at_once-2 : goal.loop-preserved-else-not-is_at_once-2
loop-preserved-else-not-is_at_once-2 g c =
    let own = IsOffer c.args.registration c.args.message.now in
    let not : c.is_final.result ≡ false = search rules in
    let nothing = refused_try c.args.registration c.args.message.now c.is_final.result c.offer-told.result c.is_final.ensures not in
    (record {}, record {}, one_more g.S.Seat.does (IsTry own) c.args.self.now.seat c.loop.self.seat c.offer-told.new.self (Offer c.args.registration c.args.message.now c.offer-told.result) c.loop.invariant.2 c.offer-told.ensures ((refl, refl), nothing), c.loop.invariant.3)

pub returns-then-is_final : goal.returns-then-is_final
returns-then-is_final g c = record {
  ends = ends_in g.S.Seat.does (IsOffer c.args.registration c.args.message.now) c.args.self.now.seat c.loop.self.seat c.offer-told.new.self (Offer c.args.registration c.args.message.now c.offer-told.result) c.loop.invariant.2 c.offer-told.ensures (refl, refl);
  refusals = c.loop.invariant.3;
}

pub returns-then-is_over : goal.returns-then-is_over
returns-then-is_over g c = record {
  ends = ends_in g.S.Seat.does (IsOffer c.args.registration c.args.message.now) c.args.self.now.seat c.loop.self.seat c.offer-told.new.self (Offer c.args.registration c.args.message.now c.offer-told.result) c.loop.invariant.2 c.offer-told.ensures (refl, refl);
  refusals = c.loop.invariant.3;
}
