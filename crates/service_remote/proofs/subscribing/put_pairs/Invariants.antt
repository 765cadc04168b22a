use Rattle.std.proofs.Common.{◌≡◌, ◌++◌, drop}
use Rattle.service_records.specs.Pairs.{pairs_bytes}
use Rattle.service_remote.specs.Polling.{pairs_with}
use Rattle.service_remote.proofs.subscribing.put_pairs.Given as goal

-- the pairs so far, and then those of the streams that are left
abbrev pub invariant-loop-image : goal.invariant-loop-image
invariant-loop-image l =
    l.out.items ++ pairs_bytes (pairs_with l.subscription (drop l.image-index l.images))
    ≡ l.fn.out.items ++ pairs_bytes (pairs_with l.subscription l.images)
