use Rattle.std.proofs.Common.{◌≡◌, ◌++◌, Option, OnOk, ap, refl, subst, sym}
use Rattle.driver_service.specs.Answering.{call_bytes}
use Rattle.driver_service.specs.Calls.{Command, refusal_of}
use Rattle.driver_service.specs.Requests.{IsCommand}
use Rattle.driver_service.specs.declared.reason.Refusal.{Refusal}
use Rattle.driver_service.proofs.CallLemmas.{ends_alone}
use Rattle.driver_service.proofs.connection.Connection.command.Goals as goal

pub returns-in-Ok : goal.returns-in-Ok
returns-in-Ok g c =
    let last = Command c.args.bytes.now (refusal_of c.command.result) in
    record {
      answers = record {
        last = last;
        ends = ends_alone g.S.Seat.does (IsCommand c.args.bytes.now) c.args.self.now.seat c.command.new.self last c.command.ensures refl;
        answered = subst (λ (o : Option Refusal). OnOk c.done.result (c.done.new.out.items ≡ c.args.out.now.items ++ call_bytes (Command c.args.bytes.now o))) (sym (ap refusal_of c.in-Ok.is)) c.done.ensures;
      };
      refusals = refl;
    }

pub returns-in-Err : goal.returns-in-Err
returns-in-Err g c =
    let last = Command c.args.bytes.now (refusal_of c.command.result) in
    record {
      answers = record {
        last = last;
        ends = ends_alone g.S.Seat.does (IsCommand c.args.bytes.now) c.args.self.now.seat c.command.new.self last c.command.ensures refl;
        answered = subst (λ (o : Option Refusal). OnOk c.refuse.result (c.refuse.new.out.items ≡ c.args.out.now.items ++ call_bytes (Command c.args.bytes.now o))) (sym (ap refusal_of c.in-Err.is)) c.refuse.ensures;
      };
      refusals = refl;
    }
