use Rattle.std.proofs.Common.{rules}
use Rattle.log_pairs.proofs.CopyLemmas.{nothing_read}
use Rattle.log_pairs.proofs.copies.FragmentCopies.new.Goals as goal

pub returns : goal.returns
returns c = nothing_read c.in_ok-with_capacity.field-0.items (search rules)
