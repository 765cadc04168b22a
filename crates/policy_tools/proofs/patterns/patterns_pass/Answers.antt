use Rattle.std.proofs.Common.{◌≡◌, ◌∙◌, ◌&&◌, ℕ, List, Option, Ok, ap, rules, sym}
use Rattle.std.proofs.lemmas.Bool.{eq-eqb}
use Rattle.channel_uri.specs.Media.{media_number}
use Rattle.channel_uri.specs.Pieces.{pieces_in}
use Rattle.policy_tools.specs.Wider.{all_keys}
use Rattle.policy_tools.specs.Patterns.{key_passes, keys_pass}
use Rattle.policy_tools.proofs.KeyLemmas.{pieces_are_keys}
use Rattle.policy_tools.proofs.patterns.patterns_pass.Goals as goal

pub returns : goal.returns
returns c =
    let same : media_number c.in-Of.media ≡ media_number c.in-Of-other.medium = search rules in
    let passes : c.pieces_pass.result ≡ keys_pass c.args.relation c.in-Of.keys c.in-Of-other.others =
    c.pieces_pass.ensures
    ∙ ap (λ (p : Option (List ℕ)). all_keys (key_passes c.args.relation c.in-Of.keys c.in-Of-other.others) (pieces_in p)) c.pairs_in.ensures
    ∙ pieces_are_keys c.args.relation c.args.text.now c.in-Of.media c.in-Of.keys c.in-Of-other.others (c.requires ∙ ap Ok c.in-Of.is) in
    rw (c.in-Of.is, c.in-Of-other.is)
    (passes ∙ sym (ap (λ b. b && keys_pass c.args.relation c.in-Of.keys c.in-Of-other.others) (eq-eqb _ _ same)))
