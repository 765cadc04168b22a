use Rattle.std.proofs.Common.{◌-◌, map}
use Rattle.channel_uri.specs.Table.{pair_in}
use Rattle.channel_uri.proofs.TableLemmas.{IsBetween}
use Rattle.channel_uri.proofs.table.place.Given as goal

-- the key stands behind those below `low`, and before those from `high` on
abbrev pub invariant-loop-low : goal.invariant-loop-low
invariant-loop-low l = IsBetween l.key (map (pair_in l.text) l.spans) l.low l.high

abbrev pub decreases-loop-low : goal.decreases-loop-low
decreases-loop-low l = l.high - l.low
