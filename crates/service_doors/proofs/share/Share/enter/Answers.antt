use Rattle.std.proofs.Common.{sym}
use Rattle.service_doors.proofs.share.Share.enter.Goals as goal

pub returns : goal.returns
returns g c = record {
  now = c.ticks-now.result;
  before = c.deref_mut.result.now;
  after = c.admit_command.new.holdings;
  admits = rw (sym c.removal_in.ensures, sym c.waits_until.ensures, sym c.is_new-is_new.ensures) c.admit_command.ensures.admits;
}
