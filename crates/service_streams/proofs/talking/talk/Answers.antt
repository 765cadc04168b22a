use Rattle.std.proofs.Common.{rules, ◌≡◌, subst}
use Rattle.service_streams.specs.Order.{Ends, Moment, Party, stands, welcome_bytes}
use Rattle.service_streams.proofs.OrderLemmas.{begins, in_order}
use Rattle.service_streams.proofs.talking.talk.Goals as goal

pub returns : goal.returns
returns g c =
    let does = g.S.Seat.does in
    let remaining = g.T.Read.remaining in
    let contents = g.T.Write.contents in
    let party : Party g.row.S.Denot = (c.args.connection.now.seat, c.args.connection.now.refusals) in
    let after = stands c.talk_on-ended.new.connection.seat c.talk_on-ended.new.connection.refusals c.talk_on-ended.new.buffers in
    let empty = c.in-Ok.ensures in
    let welcome : c.greet.new.out.items ≡ welcome_bytes c.args.greeting = search rules in
    let start = begins party c.args.greeting c.in-Ok.buffers.at c.in-Ok.buffers.input.items c.greet.new.out.items empty.0 empty.1 welcome in
    let ends = subst (λ (m : Moment g.row.S.Denot). Ends does remaining contents c.talk_on-ended.result m c.args.stream.now after c.talk_on-ended.new.stream) start c.talk_on-ended.ensures.order in
    record {
      acts = c.talk_on-ended.ensures.acts;
      order = in_order does remaining contents c.args.greeting party after c.args.stream.now c.talk_on-ended.new.stream c.take_leave.new.stream c.talk_on-ended.result c.take_leave.result ends c.take_leave.ensures;
    }
