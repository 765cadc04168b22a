-- The pushes are those before the last 4,096, and these behind them.
use Rattle.std.proofs.Common.{◌-◌, length, take, arith}
use Rattle.std.proofs.lemmas.List.{take-append-drop, length-take, length-drop}
use Rattle.audit_ring.specs.Audit.{kept_of}
use Rattle.audit_ring.proofs.laws.end_of_the_pushes_is_kept.Goals as goal

pub returns : goal.returns
unfolding kept_of
returns g c pushes = (
  take (length pushes - 4096) pushes,
  take-append-drop (length pushes - 4096) pushes,
  omega (arith, length-drop (length pushes - 4096) pushes),
  omega (arith, length-take (length pushes - 4096) pushes),
)
