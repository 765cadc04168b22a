use Rattle.std.proofs.Common.{sym}
use Rattle.stream_registry.specs.Leaving.{is_own_subscription}
use Rattle.stream_registry.proofs.LeavingLemmas.{any_here}
use Rattle.stream_registry.proofs.leaving.place_of_subscription.Goals as goal

pub returns-in-Some-clause-known : goal.returns-in-Some-clause-known
returns-in-Some-clause-known c =
    let found = c.in-Some.ensures in
    sym (any_here (is_own_subscription c.args.client c.args.number) c.args.rows.now c.in-Some.at found.0 found.1)
