use Rattle.std.proofs.Common.{◌≡◌, ◌++◌, true, drop}
use Rattle.std.specs.String.{string_bytes}
use Rattle.channel_uri.specs.Canonical.{pairs_text}
use Rattle.channel_uri.proofs.channel.push_pairs.Given as goal

-- the text so far, with the pairs that are left, is the text of all pairs
abbrev pub invariant-loop-at : goal.invariant-loop-at
invariant-loop-at l =
    string_bytes l.text ++ pairs_text l.first (drop l.at l.keys) ≡ string_bytes l.fn.text ++ pairs_text true l.keys
