use Rattle.std.proofs.Common.{◌≡◌, ℕ, List, subst, ap, option_copied, sym, ◌∙◌, true, false, ◌&&◌}
use Rattle.channel_uri.specs.Pieces.{pieces_in}
use Rattle.policy_tools.specs.Wider.{all_keys, key_of}
use Rattle.policy_tools.proofs.WiderLemmas.{fewer_pieces, next_piece}
use Rattle.policy_tools.specs.Patterns.{key_passes}
use Rattle.policy_tools.proofs.patterns.pieces_pass.Goals as goal

pub loop-rest-smaller : goal.loop-rest-smaller
loop-rest-smaller c = fewer_pieces _ _ _ _ (ap option_copied c.in-Some.is) c.first_piece.ensures

pub loop-rest-preserved : goal.loop-rest-preserved
loop-rest-preserved c =
    let next = next_piece (key_passes c.args.relation c.args.one.now c.args.other.now) _ _ _ _ (ap option_copied c.in-Some.is) c.first_piece.ensures in
    let here : key_passes c.args.relation c.args.one.now c.args.other.now (key_of c.first_piece.result.0.now) ≡ true = subst (λ (k : List ℕ). key_passes c.args.relation c.args.one.now c.args.other.now k ≡ true) c.key_of-key.ensures (sym c.key_passes.ensures ∙ c.if-not-key_passes.false) in
    sym (next ∙ ap (λ b. b && all_keys (key_passes c.args.relation c.args.one.now c.args.other.now) (pieces_in (option_copied c.first_piece.result.1))) here) ∙ c.loop-rest.invariant

pub returns-then-not-key_passes : goal.returns-then-not-key_passes
returns-then-not-key_passes c =
    let next = next_piece (key_passes c.args.relation c.args.one.now c.args.other.now) _ _ _ _ (ap option_copied c.in-Some.is) c.first_piece.ensures in
    let here : key_passes c.args.relation c.args.one.now c.args.other.now (key_of c.first_piece.result.0.now) ≡ false = subst (λ (k : List ℕ). key_passes c.args.relation c.args.one.now c.args.other.now k ≡ false) c.key_of-key.ensures (sym c.key_passes.ensures ∙ c.if-not-key_passes.true) in
    sym (next ∙ ap (λ b. b && all_keys (key_passes c.args.relation c.args.one.now c.args.other.now) (pieces_in (option_copied c.first_piece.result.1))) here) ∙ c.loop-rest.invariant
