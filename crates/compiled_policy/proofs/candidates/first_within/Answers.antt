use Rattle.std.proofs.Common.{◌*◌, ℕ, None, subst}
use Rattle.policy_core.specs.Question.{question_of}
use Rattle.compiled_policy.specs.Search.{IsFirst, IsFirstOf}
use Rattle.compiled_policy.proofs.SearchLemmas.{found_within, word_on}
use Rattle.compiled_policy.proofs.candidates.first_within.Goals as goal

pub returns-in-Some : goal.returns-in-Some
returns-in-Some c =
    let rules = c.args.policy.now.rules in
    let question = question_of c.args.request.now in
    let word = c.loop-word.word in
    let found = c.in-Some.ensures in
    let first = subst (λ (w : ℕ). IsFirstOf rules question w (64 * word) c.in-Some.index found.0) c.common_word.ensures found.1 in
    (found.0, found_within rules question c.args.sets.now (256 * c.args.block) word c.in-Some.index found.0 c.requires.candidates c.loop-word.invariant first)

pub loop-word-preserved : goal.loop-word-preserved
loop-word-preserved c =
    let rules = c.args.policy.now.rules in
    let question = question_of c.args.request.now in
    let word = c.loop-word.word in
    let none = subst (λ (w : ℕ). IsFirst rules question w (64 * word) None) c.common_word.ensures c.in-None.ensures in
    word_on rules question c.args.sets.now (256 * c.args.block) word c.requires.candidates c.loop-word.invariant none
