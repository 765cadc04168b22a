use Rattle.service_records.proofs.RequestLemmas.{request_takes}
use Rattle.service_records.proofs.laws.requests_write_back.Goals as goal

pub returns : goal.returns
returns c = λ bytes x fits e. let t = request_takes bytes x fits e in (t.spelt, t.fits, t.tail)
