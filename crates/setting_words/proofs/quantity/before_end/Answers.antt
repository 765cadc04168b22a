use Rattle.channel_uri.proofs.EndingLemmas.{before_end-stripped}
use Rattle.setting_words.proofs.quantity.before_end.Goals as goal

pub returns : goal.returns
returns c = before_end-stripped c.args.end.now c.args.text.now c.strip_suffix.result c.strip_suffix.ensures.cases
