use Rattle.policy_tools.specs.declared.written_policy.Words.{Words}
use Rattle.policy_tools.specs.WrittenPolicy.{AreWords, words_in}
use Rattle.policy_tools.proofs.WrittenPolicyLemmas.{document_words}
use Rattle.policy_tools.proofs.written_policy.WrittenPolicy.read.Goals as goal
use Rattle.std.proofs.Common.{sym, subst, List}
use Rattle.toml.specs.View.{table_view}

pub invariant_of-result : goal.invariant_of-result
invariant_of-result c =
    let stands : AreWords (words_in (table_view c.in-Toml.table)) c.in_ok-policy.policy.rules =
    document_words c.args.names.now (table_view c.in-Toml.table) c.in_ok-policy.policy c.in_ok-policy.ensures.exact in
    subst (λ (words : List Words). AreWords words c.in_ok-policy.policy.rules) (sym c.in_ok-words.ensures) stands
