use Rattle.std.proofs.Common.{refl}
use Rattle.driver_service.specs.Calls.{Value}
use Rattle.driver_service.specs.Requests.{IsValue}
use Rattle.driver_service.proofs.CallLemmas.{ends_alone}
use Rattle.driver_service.proofs.connection.Connection.value.Goals as goal

pub returns : goal.returns
returns g c =
    let last = Value c.args.number c.value-given.result in
    record {
      answers = record {
        last = last;
        ends = ends_alone g.S.Seat.does (IsValue c.args.number) c.args.self.now.seat c.value-given.new.self last c.value-given.ensures refl;
        answered = c.tell_value.ensures;
      };
      refusals = refl;
    }
