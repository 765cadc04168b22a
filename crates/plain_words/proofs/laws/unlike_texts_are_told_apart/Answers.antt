use Rattle.plain_words.proofs.ApartLemmas.{texts_apart}
use Rattle.plain_words.proofs.laws.unlike_texts_are_told_apart.Goals as goal

pub returns : goal.returns
returns c = texts_apart
