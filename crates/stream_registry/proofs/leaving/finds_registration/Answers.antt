use Rattle.std.proofs.Common.{refl}
use Rattle.stream_registry.proofs.LeavingLemmas.{own_with}
use Rattle.stream_registry.proofs.leaving.finds_registration.Goals as goal

pub returns-in-Some : goal.returns-in-Some
returns-in-Some c =
    λ _. own_with c.args.client c.args.number c.in-Some.field-0 c.args.rows.now (c.in-Some.ensures c.in-Some.field-0 refl)
