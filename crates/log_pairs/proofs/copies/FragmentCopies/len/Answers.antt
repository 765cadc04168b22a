use Rattle.std.proofs.Common.{length, ap, rules}
use Rattle.log_pairs.proofs.CopyLemmas.{few_read}
use Rattle.log_pairs.proofs.copies.FragmentCopies.len.Goals as goal

pub overflow_add-count : goal.overflow_add-count
overflow_add-count c =
    let first = ap length c.in-Some.ensures.steps in
    let all = ap length c.self.view_is in
    let few = few_read c.self.inside.bytes.items c.self.invariant in
    let so = c.loop.invariant in
    let here = c.len.ensures in
    let fits = c.len.type_inv in
    search rules
