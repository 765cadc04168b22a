use Rattle.std.proofs.Common.{◌∙◌, sym}
use Rattle.policy_tools.proofs.PatternLemmas.{patterns_cover}
use Rattle.policy_tools.proofs.patterns.is_wider.Goals as goal

pub returns-clause-wider : goal.returns-clause-wider
returns-clause-wider c = λ found. record {
  covered = λ channel fits. patterns_cover c.args.wide.now c.args.narrow.now channel (sym c.patterns_pass.ensures ∙ found) fits;
}
