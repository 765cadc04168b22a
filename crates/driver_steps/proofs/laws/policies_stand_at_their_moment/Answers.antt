use Rattle.std.proofs.Common.{sym, subst}
use Rattle.driver_core.specs.Looking.{IsAtItsMoment}
use Rattle.driver_steps.specs.Ends.{opening_end}
use Rattle.driver_steps.specs.Laws.{taken_from}
use Rattle.driver_steps.proofs.EndLemmas.{runs_take}
use Rattle.driver_steps.proofs.laws.policies_stand_at_their_moment.Goals as goal

pub returns : goal.returns
returns c = λ settings policy peers readings answers sound are.
    subst IsAtItsMoment (sym (runs_take settings policy peers readings answers).leaves)
    (c.policies_are_of_their_moment.ensures.every settings policy peers
    (taken_from (opening_end settings policy peers) readings answers))
