use Rattle.std.proofs.Common.{rules, w64}
use Rattle.std.proofs.lemmas.Nat.Bits.{bit_at-trailing_zeros}
use Rattle.compiled_policy.proofs.bits.lowest.Goals as goal

pub returns-clause-set : goal.returns-clause-set
returns-clause-set c = (bit_at-trailing_zeros w64 c.args.word c.requires (search rules)).1

pub returns-clause-lower : goal.returns-clause-lower
returns-clause-lower c = (bit_at-trailing_zeros w64 c.args.word c.requires (search rules)).2
