use Rattle.std.proofs.Common.{◌*◌, ◌+◌, arith}
use Rattle.policy_core.specs.Question.{question_of}
use Rattle.compiled_policy.proofs.SearchLemmas.{first_from_all, none_common, none_joined}
use Rattle.compiled_policy.proofs.candidates.first_match.Goals as goal

pub loop-block-init : goal.loop-block-init
loop-block-init c = (
  none_common c.args.policy.now.rules (question_of c.args.request.now) c.args.sets.now 0 c.next_block-block.result c.requires.candidates
      (λ place rule low before there. absurd (omega (arith, before))) c.next_block-block.ensures.nothing,
  c.next_block-block.ensures.high,
)

pub returns-in-Some : goal.returns-in-Some
returns-in-Some c =
    let found = c.in-Some.ensures in
    (found.0, first_from_all c.args.policy.now.rules (question_of c.args.request.now) (256 * c.loop-block.block) c.in-Some.index found.0 c.loop-block.invariant.0 found.1)

pub loop-block-preserved : goal.loop-block-preserved
loop-block-preserved c =
    let rules = c.args.policy.now.rules in
    let question = question_of c.args.request.now in
    let next = c.next_block-block-in-None.ensures in
    let none = none_joined rules question (256 * c.loop-block.block) (256 * (c.loop-block.block + 1)) c.loop-block.invariant.0 c.in-None.ensures in (
      none_common rules question c.args.sets.now (c.loop-block.block + 1) c.next_block-block-in-None.result c.requires.candidates none next.nothing,
      next.high,
    )
