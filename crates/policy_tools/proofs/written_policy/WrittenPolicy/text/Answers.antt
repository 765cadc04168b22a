use Rattle.std.proofs.Common.{◌≡◌, Some, slice_get, subst, sym, ◌∙◌, ap}
use Rattle.channel_uri.specs.Pattern.{pattern_of}
use Rattle.policy_tools.specs.WrittenPolicy.{Sourced}
use Rattle.policy_tools.proofs.WrittenPolicyLemmas.{pattern_stands}
use Rattle.policy_tools.proofs.written_policy.WrittenPolicy.text.Goals as goal

pub returns : goal.returns
returns c = λ rule stands.
    ap pattern_of c.as_str.ensures
    ∙ pattern_stands c.self.inside.words.items c.self.inside.policy.rules c.args.at rule c.index.result.now c.self.invariant (subst (λ (s : Sourced). slice_get s.policy.rules c.args.at ≡ Some rule) (sym c.self.view_is) stands) c.index.ensures
