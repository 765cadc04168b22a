use Rattle.service_records.proofs.AnswerLemmas.{answer_takes}
use Rattle.service_records.proofs.laws.answers_write_back.Goals as goal

pub returns : goal.returns
returns c = λ bytes x fits e. let t = answer_takes bytes x fits e in (t.spelt, t.fits, t.tail)
