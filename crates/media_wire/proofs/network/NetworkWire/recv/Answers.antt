use Rattle.std.proofs.Common.{◌∙◌}
use Rattle.media_wire.proofs.Flights.{front_of, goes_nothing, goes_read}
use Rattle.media_wire.proofs.network.NetworkWire.recv.Goals as goal

pub returns-in-Some-clause-event : goal.returns-in-Some-clause-event
returns-in-Some-clause-event c = λ events goes. goes_read _ _ events _ _ _ c.in-Some.ensures
    (front_of _ _ _ _ (c.copy_from_slice.ensures.after ∙ c.as_slice.ensures) c.len-length.ensures) goes

pub returns-in-None-clause-event : goal.returns-in-None-clause-event
returns-in-None-clause-event c = λ events goes. goes_nothing _ _ events _ c.in-None.ensures goes
