use Rattle.std.proofs.Common.{refl}
use Rattle.driver_service.specs.Calls.{Publication}
use Rattle.driver_service.specs.Requests.{IsPublication}
use Rattle.driver_service.proofs.CallLemmas.{ends_alone}
use Rattle.driver_service.proofs.connection.Connection.publication_positions.Goals as goal

pub returns : goal.returns
returns g c =
    let last = Publication c.args.registration c.publication_positions-given.result in
    record {
      answers = record {
        last = last;
        ends = ends_alone g.S.Seat.does (IsPublication c.args.registration) c.args.self.now.seat c.publication_positions-given.new.self last c.publication_positions-given.ensures refl;
        answered = c.tell_publication.ensures;
      };
      refusals = refl;
    }
