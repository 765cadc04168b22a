-- What a client's share answers of a command: what its principal's holdings say of it, whatever they are then. Own rules.
use Rattle.std.specs.Prelude.{◌≡◌, ◌+◌, ◌-◌, ◌^◌, min, ℕ, Option, Result, Ok, Err}
use Rattle.command_codec.specs.declared.command.Body.{Body}
use Rattle.driver_service.specs.declared.reason.Reason.{Reason}
use Rattle.service_bounds.specs.Asking.{given_asks}
use Rattle.service_bounds.specs.declared.asked.Asked.{Asked}
use Rattle.service_bounds.specs.declared.flights.Flight.{Flight}
use Rattle.service_bounds.specs.declared.holdings.Holdings.{Holdings}
use Rattle.service_doors.specs.Shares.{AdmitsCommand, greatest, is_fresh, removal_in, waits_until}
use Rattle.service_doors.specs.declared.share.Heard.{Heard}
use Rattle.service_doors.specs.declared.share.Usual.{Usual}

-- a command went
abbrev pub heard_after : Heard → ℕ → Heard
heard_after heard correlation = record heard {
  last = greatest heard.last correlation;
  before = heard.last;
  count = min (heard.count + 1) (2 ^ 64 - 1);
}

-- a command of a client, as it waits for its answer
abbrev pub flight_of : ℕ → ℕ → ℕ → Option Body → Asked → ℕ → Flight
flight_of now client correlation body asked turn = record {
  client = client;
  correlation = correlation;
  turn = turn;
  removes = removal_in asked;
  until = waits_until body now;
}

-- what the holdings say of it, at some moment
pub record Enters (client correlation : ℕ) (body : Option Body) (asked : Asked) (heard : Heard) (told : Result Unit Reason) : Type 0 where
  pub now : ℕ
  pub before : Holdings
  pub after : Holdings
  pub admits : AdmitsCommand now (flight_of now client correlation body asked heard.count) (is_fresh heard.last correlation) asked before after told

-- only a command that was admitted is heard
abbrev pub heard_told : Heard → ℕ → Result Unit Reason → Heard
heard_told heard correlation (Ok done) = heard_after heard correlation
heard_told heard correlation (Err reason) = heard

pub record AdmittedBy (usual : Usual) (client correlation : ℕ) (body : Option Body) (old new : Heard) (told : Result Unit Reason) : Type 0 where
  pub enters : Enters client correlation body (given_asks usual.term_length usual.linger body) old told
  pub heard : new ≡ heard_told old correlation told
