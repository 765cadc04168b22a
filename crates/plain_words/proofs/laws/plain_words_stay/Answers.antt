use Rattle.plain_words.proofs.PlainLemmas.{plain_stays}
use Rattle.plain_words.proofs.laws.plain_words_stay.Goals as goal

pub returns : goal.returns
returns c = plain_stays
