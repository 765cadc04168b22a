use Rattle.std.proofs.Common.{◌≤◌, ◌-◌, vec_len}
use Rattle.std.specs.Io.KnownBytes.{Consumes}
use Rattle.driver_script.proofs.input.read_input.Given as goal

-- the input is what the reader gave so far
abbrev pub invariant-chunks : goal.invariant-chunks
invariant-chunks g l =
    (vec_len l.input ≤ 16777216)
    × Consumes (g.R.Read.remaining l.initial.reader) (g.R.Read.remaining l.reader) l.input.items

-- each turn takes a byte at least
abbrev pub decreases-chunks : goal.decreases-chunks
decreases-chunks g l = 16777216 - vec_len l.input
