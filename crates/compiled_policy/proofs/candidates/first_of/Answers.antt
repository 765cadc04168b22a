use Rattle.std.proofs.Common.{◌≡◌, ◌+◌, ◌<◌, ℕ, List, Some, get_or, sym, ap, ◌∙◌, slice_get, arith}
use Rattle.std.proofs.lemmas.Option.{slice_get-get_or}
use Rattle.policy_core.specs.Question.{question_of}
use Rattle.policy_core.specs.declared.rule.Rule.{Rule}
use Rattle.compiled_policy.proofs.MomentLemmas.{some_rule}
use Rattle.compiled_policy.proofs.candidates.first_of.Goals as goal

pub returns-then-matches : goal.returns-then-matches
returns-then-matches c =
    let bit : ℕ = c.lowest-bit.result in
    let small = c.lowest-bit.ensures.small in
    let found = some_rule c.args.policy.now.rules (c.args.from + bit) (c.requires.inside bit small (c.loop-left.invariant.part bit small c.lowest-bit.ensures.set)) in (
      found.0,
      record {
        low = omega arith;
        high = omega (arith, small);
        stands = found.1;
        is_match = sym (c.matches.ensures found.0 found.1) ∙ c.if-matches.true;
        before = λ earlier other before set there.
            c.loop-left.invariant.none earlier other (omega (arith, before, small)) set (c.lowest-bit.ensures.lower earlier (omega (arith, before))) there;
      },
    )
