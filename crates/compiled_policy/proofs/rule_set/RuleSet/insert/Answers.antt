use Rattle.std.proofs.Common.{◌≡◌, rules, length}
use Rattle.compiled_policy.proofs.SetLemmas.{added}
use Rattle.compiled_policy.proofs.rule_set.RuleSet.insert.Goals as goal

pub returns : goal.returns
returns c =
    let size : length c.args.self.now.words ≡ 16 = search (rules, c.well_formed) in
    added c.args.self.now c.args.place c.requires size
