use Rattle.std.proofs.Common.{rules}
use Rattle.moment_words.proofs.date.date_text.Goals as goal

pub returns : goal.returns
returns c = record { shown = c.shown_at-shown.result; at_moment = c.shown_at-shown.ensures; written = search rules }
