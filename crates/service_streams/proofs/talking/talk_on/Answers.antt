use Rattle.std.proofs.Common.{rules, ◌≡◌, Ok, refl}
use Rattle.service_streams.specs.Order.{stands}
use Rattle.service_streams.proofs.ActLemmas.{no_acts, then_acts}
use Rattle.service_streams.proofs.OrderLemmas.{no_stretch, proceeds_ends, proceeds_on, read_ends, read_more, stops}
use Rattle.service_streams.proofs.talking.talk_on.Goals as goal

pub loop-init : goal.loop-init
loop-init g c =
    let start = stands c.args.connection.now.seat c.args.connection.now.refusals c.args.buffers.now in
    (record {}, record {}, no_acts g.S.Seat.does c.args.connection.now.seat, no_stretch g.S.Seat.does g.T.Read.remaining g.T.Write.contents start c.args.stream.now)

pub returns-in-Err : goal.returns-in-Err
returns-in-Err g c =
    let does = g.S.Seat.does in
    let remaining = g.T.Read.remaining in
    let contents = g.T.Write.contents in
    let start = stands c.args.connection.now.seat c.args.connection.now.refusals c.args.buffers.now in
    let before = c.args.stream.now in
    let now = stands c.loop.connection.seat c.loop.connection.refusals c.loop.buffers in
    let answered = stands c.answer_all.new.connection.seat c.answer_all.new.connection.refusals c.answer_all.new.buffers in
    let acts = then_acts g.S.Seat.does c.args.connection.now.seat c.loop.connection.seat c.answer_all.new.connection.seat c.loop.invariant.2 c.answer_all.ensures.acts in
    record {
      acts = acts;
      order = proceeds_ends does remaining contents start before now answered c.loop.stream c.answer_all.new.stream c.answer_all.result c.in-Err.ended c.loop.invariant.3 c.answer_all.ensures.order c.in-Err.is;
    }

pub returns-then-is_stopping : goal.returns-then-is_stopping
returns-then-is_stopping g c =
    let does = g.S.Seat.does in
    let remaining = g.T.Read.remaining in
    let contents = g.T.Write.contents in
    let start = stands c.args.connection.now.seat c.args.connection.now.refusals c.args.buffers.now in
    let before = c.args.stream.now in
    let now = stands c.loop.connection.seat c.loop.connection.refusals c.loop.buffers in
    let answered = stands c.answer_all.new.connection.seat c.answer_all.new.connection.refusals c.answer_all.new.buffers in
    let acts = then_acts g.S.Seat.does c.args.connection.now.seat c.loop.connection.seat c.answer_all.new.connection.seat c.loop.invariant.2 c.answer_all.ensures.acts in
    let well : c.answer_all.result ≡ Ok tt = search rules in
    let so = proceeds_on does remaining contents start before now answered c.loop.stream c.answer_all.new.stream c.answer_all.result c.loop.invariant.3 c.answer_all.ensures.order well in
    let after = stands c.answer_all.new.connection.seat c.answer_all.new.connection.refusals c.read.new.self in
    record {
      acts = acts;
      order = stops does remaining contents start before answered after c.answer_all.new.stream c.read.new.stream c.read.result so.0 refl c.read.ensures.out c.read.ensures.reads;
    }

pub returns-in-Err-read : goal.returns-in-Err-read
returns-in-Err-read g c =
    let does = g.S.Seat.does in
    let remaining = g.T.Read.remaining in
    let contents = g.T.Write.contents in
    let start = stands c.args.connection.now.seat c.args.connection.now.refusals c.args.buffers.now in
    let before = c.args.stream.now in
    let now = stands c.loop.connection.seat c.loop.connection.refusals c.loop.buffers in
    let answered = stands c.answer_all.new.connection.seat c.answer_all.new.connection.refusals c.answer_all.new.buffers in
    let acts = then_acts g.S.Seat.does c.args.connection.now.seat c.loop.connection.seat c.answer_all.new.connection.seat c.loop.invariant.2 c.answer_all.ensures.acts in
    let well : c.answer_all.result ≡ Ok tt = search rules in
    let so = proceeds_on does remaining contents start before now answered c.loop.stream c.answer_all.new.stream c.answer_all.result c.loop.invariant.3 c.answer_all.ensures.order well in
    let after = stands c.answer_all.new.connection.seat c.answer_all.new.connection.refusals c.read.new.self in
    record {
      acts = acts;
      order = read_ends does remaining contents start before answered after c.answer_all.new.stream c.read.new.stream c.read.result c.in-Err-read.ended so.0 so.1 so.2 refl c.read.ensures.out c.read.ensures.reads c.in-Err-read.is;
    }

pub loop-preserved : goal.loop-preserved
loop-preserved g c =
    let does = g.S.Seat.does in
    let remaining = g.T.Read.remaining in
    let contents = g.T.Write.contents in
    let start = stands c.args.connection.now.seat c.args.connection.now.refusals c.args.buffers.now in
    let before = c.args.stream.now in
    let now = stands c.loop.connection.seat c.loop.connection.refusals c.loop.buffers in
    let answered = stands c.answer_all.new.connection.seat c.answer_all.new.connection.refusals c.answer_all.new.buffers in
    let acts = then_acts g.S.Seat.does c.args.connection.now.seat c.loop.connection.seat c.answer_all.new.connection.seat c.loop.invariant.2 c.answer_all.ensures.acts in
    let well : c.answer_all.result ≡ Ok tt = search rules in
    let so = proceeds_on does remaining contents start before now answered c.loop.stream c.answer_all.new.stream c.answer_all.result c.loop.invariant.3 c.answer_all.ensures.order well in
    let after = stands c.answer_all.new.connection.seat c.answer_all.new.connection.refusals c.read.new.self in
    let more : c.read.result ≡ Ok tt = search rules in
    let on = read_more does remaining contents start before answered after c.answer_all.new.stream c.read.new.stream c.read.result so.0 refl c.read.ensures.out c.read.ensures.reads more in
    (record {}, record {}, acts, on)
