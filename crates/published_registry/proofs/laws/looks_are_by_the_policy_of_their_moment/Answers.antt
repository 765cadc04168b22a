use Rattle.driver_core.specs.Looking.{IsAtItsMoment}
use Rattle.published_registry.proofs.Later.{kept_of}
use Rattle.published_registry.proofs.laws.looks_are_by_the_policy_of_their_moment.Goals as goal

pub returns : goal.returns
returns c history opened =
    kept_of IsAtItsMoment (λ s event inputs before. c.policies_are_of_their_moment.ensures.after s event inputs) history opened
