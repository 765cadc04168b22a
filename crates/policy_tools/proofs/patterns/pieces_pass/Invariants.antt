use Rattle.std.proofs.Common.{◌≡◌, option_copied}
use Rattle.channel_uri.specs.Pieces.{pieces_in}
use Rattle.channel_uri.proofs.Cuts.{pieces_size}
use Rattle.policy_tools.specs.Patterns.{key_passes}
use Rattle.policy_tools.specs.Wider.{all_keys}
use Rattle.policy_tools.proofs.patterns.pieces_pass.Given as goal

-- the pieces that are left decide
abbrev pub invariant-loop-rest : goal.invariant-loop-rest
invariant-loop-rest l =
    all_keys (key_passes l.relation l.one l.other) (pieces_in (option_copied l.rest))
    ≡ all_keys (key_passes l.relation l.one l.other) (pieces_in (option_copied l.fn.pairs))

abbrev pub decreases-loop-rest : goal.decreases-loop-rest
decreases-loop-rest l = pieces_size (pieces_in (option_copied l.rest))
