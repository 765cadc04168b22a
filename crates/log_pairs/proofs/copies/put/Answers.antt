use Rattle.std.proofs.Common.{ℕ, List, ◌++◌, ap, ◌∙◌}
use Rattle.log_pairs.specs.Polling.{fetched_of}
use Rattle.log_pairs.proofs.CopyLemmas.{put_is}
use Rattle.log_pairs.proofs.copies.put.Goals as goal

pub returns-clause-ok : goal.returns-clause-ok
returns-clause-ok c =
    put_is c.args.bytes.now.items c.extend_from_slice.new.self.items c.extend_from_slice-2.new.self.items c.head_of-head.result (fetched_of c.args.fragment.now)
    (c.in-Ok.ensures.items ∙ ap (λ (b : List ℕ). b ++ c.head_of-head.result) c.in_ok-reserve.ensures.items)
    c.in-Ok-extend_from_slice.ensures.items
    c.head_of-head.ensures.bytes
