use Rattle.std.proofs.Common.{ℕ, List, [], ◌∷◌, ◌++◌, subst, append_assoc, take}
use Rattle.media_wire.specs.Events.{Event, read}
use Rattle.media_wire.specs.Letters.{letter}
use Rattle.media_wire_tests.proofs.Drained.{more_reads, one_more}
use Rattle.media_wire_tests.proofs.draining.drain.Goals as goal

pub loop-count-preserved : goal.loop-count-preserved
loop-count-preserved g c = λ events is.
    let before = c.loop-count.invariant events is in
    let datagram = c.in-Ok-Some.field-0-0 in
    let bytes : List ℕ = take datagram.0 c.recv.new.buffer in
    let came : Event = read (letter datagram.1 c.args.local.now bytes) in
    let step : g.W.Wire.went c.recv.new.self ((events ++ before.0) ++ came ∷ []) =
    (rw c.in-Ok-Some.field-0-is at c.in-Ok-Some.ensures.event) (events ++ before.0) before.1 in (
      before.0 ++ came ∷ [],
      subst (λ (all : List Event). g.W.Wire.went c.recv.new.self all) (append_assoc events before.0 (came ∷ [])) step,
      more_reads c.args.local.now datagram.1 bytes before.0 before.2,
      one_more before.0 came c.loop-count.count before.3,
    )
