use Rattle.std.proofs.Common.{◌≡◌, drop, map}
use Rattle.channel_uri.specs.Keys.{value_at}
use Rattle.channel_uri.specs.Table.{pair_in}
use Rattle.channel_uri.proofs.table.first_of.Given as goal

-- the key is none of those before
abbrev pub invariant-loop-span : goal.invariant-loop-span
invariant-loop-span l =
    value_at l.key (map (pair_in l.text) (drop l.span-index l.spans)) ≡ value_at l.key (map (pair_in l.text) l.spans)
