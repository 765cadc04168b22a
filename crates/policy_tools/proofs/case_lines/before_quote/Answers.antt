use Rattle.std.proofs.Common.{codes}
use Rattle.channel_uri.proofs.EndingLemmas.{before_end-stripped}
use Rattle.policy_tools.proofs.case_lines.before_quote.Goals as goal

pub returns : goal.returns
returns c = before_end-stripped (codes "\"") c.args.text.now c.strip_suffix.result c.strip_suffix.ensures.cases
