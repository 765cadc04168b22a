use Rattle.std.proofs.Common.{rules, ◌≡◌, Ok, true, false, refl}
use Rattle.service_streams.specs.Order.{stands}
use Rattle.service_streams.proofs.ActLemmas.{no_acts, then_acts}
use Rattle.service_streams.proofs.OrderLemmas.{drained, first_ends, first_more, flush_ends, no_stretch, waits}
use Rattle.service_streams.proofs.talking.answer_all.Goals as goal

pub loop-init : goal.loop-init
loop-init g c =
    let start = stands c.args.connection.now.seat c.args.connection.now.refusals c.args.buffers.now in
    (record {}, record {}, no_acts g.S.Seat.does c.args.connection.now.seat, no_stretch g.S.Seat.does g.T.Read.remaining g.T.Write.contents start c.args.stream.now)

pub returns-in-Err : goal.returns-in-Err
returns-in-Err g c =
    let does = g.S.Seat.does in
    let remaining = g.T.Read.remaining in
    let contents = g.T.Write.contents in
    let start = stands c.args.connection.now.seat c.args.connection.now.refusals c.args.buffers.now in
    let before = c.args.stream.now in
    let now = stands c.loop.connection.seat c.loop.connection.refusals c.loop.buffers in
    let first = stands c.answer_first.new.connection.seat c.answer_first.new.connection.refusals c.answer_first.new.self in
    let acts = then_acts g.S.Seat.does c.args.connection.now.seat c.loop.connection.seat c.answer_first.new.connection.seat c.loop.invariant.2 c.answer_first.ensures.acts in
    record {
      acts = acts;
      order = first_ends does remaining contents start before now first c.loop.stream c.answer_first.result c.in-Err.ended c.loop.invariant.3 c.answer_first.ensures.first c.in-Err.is;
    }

pub returns-in-Ok-false : goal.returns-in-Ok-false
returns-in-Ok-false g c =
    let does = g.S.Seat.does in
    let remaining = g.T.Read.remaining in
    let contents = g.T.Write.contents in
    let start = stands c.args.connection.now.seat c.args.connection.now.refusals c.args.buffers.now in
    let before = c.args.stream.now in
    let now = stands c.loop.connection.seat c.loop.connection.refusals c.loop.buffers in
    let first = stands c.answer_first.new.connection.seat c.answer_first.new.connection.refusals c.answer_first.new.self in
    let acts = then_acts g.S.Seat.does c.args.connection.now.seat c.loop.connection.seat c.answer_first.new.connection.seat c.loop.invariant.2 c.answer_first.ensures.acts in
    let none : c.answer_first.result ≡ Ok false = search rules in
    let after = stands c.answer_first.new.connection.seat c.answer_first.new.connection.refusals c.flush.new.self in
    record {
      acts = acts;
      order = waits does remaining contents start before now first after c.loop.stream c.flush.new.stream c.answer_first.result c.flush.result c.loop.invariant.3 c.answer_first.ensures.first none refl c.flush.ensures.left c.flush.ensures.told;
    }

pub returns-in-Err-flush_full : goal.returns-in-Err-flush_full
returns-in-Err-flush_full g c =
    let does = g.S.Seat.does in
    let remaining = g.T.Read.remaining in
    let contents = g.T.Write.contents in
    let start = stands c.args.connection.now.seat c.args.connection.now.refusals c.args.buffers.now in
    let before = c.args.stream.now in
    let now = stands c.loop.connection.seat c.loop.connection.refusals c.loop.buffers in
    let first = stands c.answer_first.new.connection.seat c.answer_first.new.connection.refusals c.answer_first.new.self in
    let acts = then_acts g.S.Seat.does c.args.connection.now.seat c.loop.connection.seat c.answer_first.new.connection.seat c.loop.invariant.2 c.answer_first.ensures.acts in
    let one : c.answer_first.result ≡ Ok true = search rules in
    let so = first_more does remaining contents start before now first c.loop.stream c.answer_first.result c.loop.invariant.3 c.answer_first.ensures.first one in
    let flushed = stands c.answer_first.new.connection.seat c.answer_first.new.connection.refusals c.flush_full.new.self in
    record {
      acts = acts;
      order = flush_ends does remaining contents start before first flushed c.loop.stream c.flush_full.new.stream c.flush_full.result c.in-Err-flush_full.ended so refl c.flush_full.ensures.told c.in-Err-flush_full.is;
    }

pub returns-in-Some-gone : goal.returns-in-Some-gone
returns-in-Some-gone g c =
    let does = g.S.Seat.does in
    let remaining = g.T.Read.remaining in
    let contents = g.T.Write.contents in
    let start = stands c.args.connection.now.seat c.args.connection.now.refusals c.args.buffers.now in
    let before = c.args.stream.now in
    let now = stands c.loop.connection.seat c.loop.connection.refusals c.loop.buffers in
    let first = stands c.answer_first.new.connection.seat c.answer_first.new.connection.refusals c.answer_first.new.self in
    let acts = then_acts g.S.Seat.does c.args.connection.now.seat c.loop.connection.seat c.answer_first.new.connection.seat c.loop.invariant.2 c.answer_first.ensures.acts in
    let one : c.answer_first.result ≡ Ok true = search rules in
    let so = first_more does remaining contents start before now first c.loop.stream c.answer_first.result c.loop.invariant.3 c.answer_first.ensures.first one in
    let flushed = stands c.answer_first.new.connection.seat c.answer_first.new.connection.refusals c.flush_full.new.self in
    let well : c.flush_full.result ≡ Ok tt = search rules in
    let on = drained does remaining contents start before first flushed c.loop.stream c.flush_full.new.stream c.flush_full.result so refl c.flush_full.ensures.left c.flush_full.ensures.told well in
    record { acts = acts; order = on }

pub returns-then-is_stopping : goal.returns-then-is_stopping
returns-then-is_stopping g c =
    let does = g.S.Seat.does in
    let remaining = g.T.Read.remaining in
    let contents = g.T.Write.contents in
    let start = stands c.args.connection.now.seat c.args.connection.now.refusals c.args.buffers.now in
    let before = c.args.stream.now in
    let now = stands c.loop.connection.seat c.loop.connection.refusals c.loop.buffers in
    let first = stands c.answer_first.new.connection.seat c.answer_first.new.connection.refusals c.answer_first.new.self in
    let acts = then_acts g.S.Seat.does c.args.connection.now.seat c.loop.connection.seat c.answer_first.new.connection.seat c.loop.invariant.2 c.answer_first.ensures.acts in
    let one : c.answer_first.result ≡ Ok true = search rules in
    let so = first_more does remaining contents start before now first c.loop.stream c.answer_first.result c.loop.invariant.3 c.answer_first.ensures.first one in
    let flushed = stands c.answer_first.new.connection.seat c.answer_first.new.connection.refusals c.flush_full.new.self in
    let well : c.flush_full.result ≡ Ok tt = search rules in
    let on = drained does remaining contents start before first flushed c.loop.stream c.flush_full.new.stream c.flush_full.result so refl c.flush_full.ensures.left c.flush_full.ensures.told well in
    record { acts = acts; order = (flushed.left, on) }

pub loop-preserved : goal.loop-preserved
loop-preserved g c =
    let does = g.S.Seat.does in
    let remaining = g.T.Read.remaining in
    let contents = g.T.Write.contents in
    let start = stands c.args.connection.now.seat c.args.connection.now.refusals c.args.buffers.now in
    let before = c.args.stream.now in
    let now = stands c.loop.connection.seat c.loop.connection.refusals c.loop.buffers in
    let first = stands c.answer_first.new.connection.seat c.answer_first.new.connection.refusals c.answer_first.new.self in
    let acts = then_acts g.S.Seat.does c.args.connection.now.seat c.loop.connection.seat c.answer_first.new.connection.seat c.loop.invariant.2 c.answer_first.ensures.acts in
    let one : c.answer_first.result ≡ Ok true = search rules in
    let so = first_more does remaining contents start before now first c.loop.stream c.answer_first.result c.loop.invariant.3 c.answer_first.ensures.first one in
    let flushed = stands c.answer_first.new.connection.seat c.answer_first.new.connection.refusals c.flush_full.new.self in
    let well : c.flush_full.result ≡ Ok tt = search rules in
    let on = drained does remaining contents start before first flushed c.loop.stream c.flush_full.new.stream c.flush_full.result so refl c.flush_full.ensures.left c.flush_full.ensures.told well in
    (record {}, record {}, acts, on)
