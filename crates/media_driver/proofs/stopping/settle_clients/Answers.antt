use Rattle.std.proofs.Common.{◌∙◌, length, sum_by, ap, arith}
use Rattle.std.proofs.lemmas.List.Sums.{sum_by-cons}
use Rattle.log_slots.specs.Counting.{AmountState}
use Rattle.media_driver.specs.Clients.{Attached}
use Rattle.media_driver.proofs.stopping.settle_clients.Goals as goal

pub loop-client-preserved : goal.loop-client-preserved
loop-client-preserved g c =
    let shorter = ap length c.in-Some.ensures.steps.0 in
    let counts = ap (sum_by (λ (it : Attached). it.counted)) c.in-Some.ensures.steps.0
    ∙ sum_by-cons (λ (it : Attached). it.counted) c.in-Some.client c.next.new.self.rest.items in
    let parts = ap (λ (it : AmountState). it.parts) c.take_back.ensures.counted in
    let number = ap (λ (it : AmountState). it.number) c.take_back.ensures.counted in
    let one = ap (λ (it : AmountState). it.parts) c.settled-counted.ensures.0 in
    let counted = ap (λ (it : AmountState). it.number) c.settled-counted.ensures.0 in
    record {
      parts = omega (arith, shorter, c.loop-client.invariant.parts, parts, one);
      clients = omega (arith, shorter, c.loop-client.invariant.clients, c.take_back.ensures.clients.0, c.settled-counted.ensures.1);
      few = c.take_back.ensures.clients.1;
      number = omega (arith, counts, c.loop-client.invariant.number, number, counted);
      total = c.take_back.ensures.total ∙ c.loop-client.invariant.total;
    }
