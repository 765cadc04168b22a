use Rattle.std.proofs.Common.{rules}
use Rattle.std.proofs.lemmas.Fn.{filter_same}
use Rattle.media_wire.proofs.doors.close_unused.Goals as goal

pub returns-clause-stay : goal.returns-clause-stay
returns-clause-stay g c = filter_same _ _ _ (λ x b f' k. search rules) _ _ c.retain.ensures.filtered
