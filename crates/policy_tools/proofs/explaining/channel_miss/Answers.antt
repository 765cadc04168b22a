use Rattle.std.proofs.Common.{◌≡◌, ◌==◌, ℕ, List, Option, true, Ok, ap, ◌∙◌, subst, option_copied, rules}
use Rattle.std.specs.Prelude.{IfNone}
use Rattle.channel_uri.specs.Media.{media_number}
use Rattle.channel_uri.specs.Pieces.{pieces_in}
use Rattle.policy_tools.specs.Explaining.{key_fits}
use Rattle.policy_tools.specs.Wider.{all_keys}
use Rattle.policy_tools.proofs.ExplainingLemmas.{all_keys_fit}
use Rattle.policy_tools.proofs.explaining.channel_miss.Goals as goal

pub returns-in-None-clause-none : goal.returns-in-None-clause-none
returns-in-None-clause-none c =
    let same : (media_number c.in-Of.media == media_number c.args.channel.now.media) ≡ true = search rules in
    let fit : all_keys (key_fits c.in-Of.keys c.args.channel.now.keys) (pieces_in (option_copied c.pairs_in.result)) ≡ true =
    subst (λ o. IfNone o (all_keys (key_fits c.in-Of.keys c.args.channel.now.keys) (pieces_in (option_copied c.pairs_in.result)) ≡ true)) c.in-None.is c.unfit_key.ensures.none in
    rw c.in-Of.is
    (all_keys_fit c.args.text.now c.in-Of.media c.in-Of.keys c.args.channel.now (c.requires ∙ ap Ok c.in-Of.is) same
    (subst (λ (p : Option (List ℕ)). all_keys (key_fits c.in-Of.keys c.args.channel.now.keys) (pieces_in p) ≡ true) c.pairs_in.ensures fit))
