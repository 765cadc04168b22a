use Rattle.std.proofs.Common.{◌≡◌, ◌∙◌, ◌++◌, List, ℕ, ap, append_assoc, refl}
use Rattle.driver_service.specs.Answering.{done_bytes}
use Rattle.driver_service.specs.Calls.{Look}
use Rattle.driver_service.specs.Requests.{IsLook}
use Rattle.driver_service.proofs.CallLemmas.{ends_alone, on_ok}
use Rattle.driver_service.proofs.connection.Connection.list.Goals as goal

pub returns : goal.returns
returns g c =
    let w = c.list-listed.ensures in
    let last = Look w.bytes c.list-listed.result in
    let told = done_bytes c.list-listed.result in
    record {
      answers = record {
        last = last;
        ends = ends_alone g.S.Seat.does IsLook c.args.self.now.seat c.list-listed.new.self last w.holds (record {});
        answered = on_ok c.done.result (c.done.new.out.items ≡ c.list-listed.new.out.items ++ told) (c.done.new.out.items ≡ c.args.out.now.items ++ (w.bytes ++ told)) (λ e. e ∙ (ap (λ (b : List ℕ). b ++ told) w.appended ∙ append_assoc c.args.out.now.items w.bytes told)) c.done.ensures;
      };
      refusals = refl;
    }
