use Rattle.std.proofs.Common.{rules, ◌≡◌, ◌∙◌, None, Ok, Some, sym}
use Rattle.service_streams.proofs.OrderLemmas.{leaves_closed, leaves_quiet, leaves_said}
use Rattle.service_streams.proofs.talking.take_leave.Goals as goal

pub returns-in_default : goal.returns-in_default
returns-in_default g c =
    let none : c.reason_of.result ≡ None = search rules in
    leaves_quiet g.T.Write.contents c.args.ended c.args.stream.now c.args.buffers.now.out.items (sym c.reason_of.ensures ∙ none)

pub returns-in-Err : goal.returns-in-Err
returns-in-Err g c =
    let why : c.reason_of.result ≡ Some c.in-Some.reason = search rules in
    leaves_closed g.T.Write.contents c.in-Some.reason c.args.ended c.in-Err.closed c.args.stream.now c.flush.new.stream c.args.buffers.now.out.items c.flush.new.self.out.items c.flush.result (sym c.reason_of.ensures ∙ why) c.flush.ensures.told c.in-Err.is

pub returns : goal.returns
returns g c =
    let why : c.reason_of.result ≡ Some c.in-Some.reason = search rules in
    let well : c.flush.result ≡ Ok tt = search rules in
    leaves_said g.T.Write.contents c.in-Some.reason c.args.ended c.args.stream.now c.flush.new.stream c.dismiss.new.stream c.args.buffers.now.out.items c.flush.new.self.out.items c.flush.result (sym c.reason_of.ensures ∙ why) c.flush.ensures.told well c.dismiss.ensures
