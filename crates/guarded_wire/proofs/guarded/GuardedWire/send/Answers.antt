use Rattle.guarded_wire.proofs.Guarding.{kept}
use Rattle.guarded_wire.proofs.guarded.GuardedWire.send.Goals as goal

pub returns : goal.returns
returns g c = record {
  event = λ events is. kept g.W.Wire.went c.args.self.now.wire c.send.new.self c.args.self.now.guard 0 events _ c.send.ensures is;
}
