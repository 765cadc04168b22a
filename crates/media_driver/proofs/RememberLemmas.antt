-- What is remembered of an offer is what the registry says that a client sees.
use Rattle.std.proofs.Common.{◌≡◌, ℕ, List, refl}
use Rattle.log_steps.specs.Decided.{offer_decision, offer_decision_by}
use Rattle.log_steps.specs.Moves.{offer_move, offer_under}
use Rattle.media_driver.specs.Remembering.{IsSaid}
use Rattle.media_driver.specs.declared.remembering.Said.{Said}
use Rattle.published_registry.specs.Histories.{History, registry_of}

-- the step on the log is that of an offer by that registry
pub moves_so : (client registration now : ℕ) (message : List ℕ) (said : Said) (h : History) → IsSaid client said h → said.registration ≡ registration →
    offer_under said.timeout said.request now message ≡ offer_move (registry_of h) now client registration message
unfolding offer_move
moves_so client registration now message said h is by = rw (is.timeout_is, is.request_is, by) refl

-- and so is the decision
pub decides_so : (client registration : ℕ) (said : Said) (h : History) → IsSaid client said h → said.registration ≡ registration →
    offer_decision_by said.request ≡ offer_decision (registry_of h) client registration
unfolding offer_decision
decides_so client registration said h is by = rw (is.request_is, by) refl
