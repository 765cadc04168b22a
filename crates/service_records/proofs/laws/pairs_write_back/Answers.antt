use Rattle.service_records.proofs.PairLemmas.{pairs_back}
use Rattle.service_records.proofs.laws.pairs_write_back.Goals as goal

pub returns : goal.returns
returns c = λ bytes fits whole. pairs_back bytes fits whole
