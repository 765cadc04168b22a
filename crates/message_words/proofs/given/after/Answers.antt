use Rattle.message_words.proofs.Fronts.{after_stripped}
use Rattle.message_words.proofs.given.after.Goals as goal

pub returns : goal.returns
returns c = after_stripped c.args.front.now c.args.text.now c.strip_prefix.result c.strip_prefix.ensures.cases
