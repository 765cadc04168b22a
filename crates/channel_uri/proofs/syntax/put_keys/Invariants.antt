use Rattle.std.proofs.Common.{option_copied}
use Rattle.channel_uri.specs.Pieces.{pieces_in}
use Rattle.channel_uri.proofs.Cuts.{pieces_size}
use Rattle.channel_uri.proofs.PieceLemmas.{IsReading}
use Rattle.channel_uri.proofs.syntax.put_keys.Given as goal

-- with the pieces that are left, the keys so far make the keys of all pieces, and there is room for them
abbrev pub invariant-loop-rest : goal.invariant-loop-rest
invariant-loop-rest l = IsReading (pieces_in (option_copied l.fn.text)) l.table (pieces_in (option_copied l.rest))

abbrev pub decreases-loop-rest : goal.decreases-loop-rest
decreases-loop-rest l = pieces_size (pieces_in (option_copied l.rest))
