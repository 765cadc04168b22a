use Rattle.std.proofs.Common.{arith}
use Rattle.service_records.proofs.FramingLemmas.{front_of}
use Rattle.service_records.proofs.framing.first_record.Goals as goal

pub returns-clause-front : goal.returns-clause-front
returns-clause-front c = front_of c.cut_first.result c.args.bytes.now (λ i. let f = c.type_inv.bytes i in omega arith) c.cut_first.ensures
