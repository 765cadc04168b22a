use Rattle.std.proofs.Common.{refl}
use Rattle.std.specs.Prelude.{Ok, Err}
use Rattle.service_doors.proofs.share.admit_command.Goals as goal

pub returns-in-Ok-clause-admits : goal.returns-in-Ok-clause-admits
returns-in-Ok-clause-admits c = record {
  gave = Ok tt;
  middle = c.send.new.self;
  sent = c.in-Ok.ensures.sent;
  rows = c.in-Ok.ensures.rows;
  bounds = c.in-Ok.ensures.bounds;
  admits = c.admit_sent.ensures.admits;
}

pub returns-in-Err-clause-admits : goal.returns-in-Err-clause-admits
returns-in-Err-clause-admits c = record {
  gave = Err c.in-Err.bound;
  middle = c.send.new.self;
  sent = c.in-Err.ensures.sent;
  rows = c.in-Err.ensures.rows;
  bounds = c.in-Err.ensures.bounds;
  admits = (refl, c.reason_of.ensures);
}
