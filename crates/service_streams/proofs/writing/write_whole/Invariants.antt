use Rattle.std.proofs.Common.{◌≡◌, ℕ, List, ◌++◌}
use Rattle.std.specs.Io.KnownBytes.{Appends}
use Rattle.service_streams.proofs.writing.write_whole.Given as goal

-- a front of the bytes is written, and the rest is left
abbrev pub invariant-pieces : goal.invariant-pieces
invariant-pieces g l =
    (front : List ℕ) × (l.bytes ≡ front ++ l.rest)
    × Appends (g.T.Write.contents l.fn.stream) (g.T.Write.contents l.stream) front
