use Rattle.std.proofs.Common.{◌≡◌, ℕ, List, subst, ap, option_copied, sym, ◌∙◌, true, ◌&&◌}
use Rattle.channel_uri.specs.Pieces.{pieces_in}
use Rattle.policy_tools.specs.Explaining.{key_fits}
use Rattle.policy_tools.specs.Wider.{all_keys, key_of}
use Rattle.policy_tools.proofs.WiderLemmas.{fewer_pieces, next_piece}
use Rattle.policy_tools.proofs.explaining.unfit_key.Goals as goal

pub loop-rest-smaller : goal.loop-rest-smaller
loop-rest-smaller c = fewer_pieces _ _ _ _ (ap option_copied c.in-Some.is) c.first_piece.ensures

pub loop-rest-preserved : goal.loop-rest-preserved
loop-rest-preserved c =
    let next = next_piece (key_fits c.args.wanted.now c.args.channel.now.keys) _ _ _ _ (ap option_copied c.in-Some.is) c.first_piece.ensures in
    let here : key_fits c.args.wanted.now c.args.channel.now.keys (key_of c.first_piece.result.0.now) ≡ true = subst (λ (k : List ℕ). key_fits c.args.wanted.now c.args.channel.now.keys k ≡ true) c.key_of-key.ensures (sym c.key_fits.ensures ∙ c.if-not-key_fits.false) in
    sym (next ∙ ap (λ b. b && all_keys (key_fits c.args.wanted.now c.args.channel.now.keys) (pieces_in (option_copied c.first_piece.result.1))) here) ∙ c.loop-rest.invariant
