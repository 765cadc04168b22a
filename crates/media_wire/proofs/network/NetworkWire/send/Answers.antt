use Rattle.std.proofs.Common.{◌∙◌, ap}
use Rattle.media_wire.specs.Networks.{failed_once, flying}
use Rattle.media_wire.proofs.Flights.{goes_failed, goes_sent}
use Rattle.media_wire.proofs.network.NetworkWire.send.Goals as goal

pub returns-then-bytes-gt-LONGEST : goal.returns-then-bytes-gt-LONGEST
returns-then-bytes-gt-LONGEST c = λ events goes. goes_failed _ _ events c.fail.ensures goes

pub returns-in_default : goal.returns-in_default
returns-in_default c = λ events goes. goes_failed _ _ events c.fail-in_default.ensures goes

pub returns-in-Ok-launch : goal.returns-in-Ok-launch
returns-in-Ok-launch c = λ events goes.
    goes_sent _ _ events _ (c.in-Ok-launch.ensures.ok ∙ ap (flying c.args.self.now) c.in-Ok.ensures) goes

pub returns-in-Err : goal.returns-in-Err
returns-in-Err c = λ events goes. goes_failed _ _ events (c.fail-in-Err.ensures ∙ ap failed_once c.in-Err.ensures.err) goes
