use Rattle.std.proofs.Common.{refl}
use Rattle.driver_service.specs.Calls.{Image}
use Rattle.driver_service.specs.Requests.{IsImage}
use Rattle.driver_service.proofs.CallLemmas.{ends_alone}
use Rattle.driver_service.proofs.connection.Connection.image_positions.Goals as goal

pub returns : goal.returns
returns g c =
    let last = Image c.args.subscription c.args.source c.image_positions-given.result in
    record {
      answers = record {
        last = last;
        ends = ends_alone g.S.Seat.does (IsImage c.args.subscription c.args.source) c.args.self.now.seat c.image_positions-given.new.self last c.image_positions-given.ensures (refl, refl);
        answered = c.tell_image.ensures;
      };
      refusals = refl;
    }
