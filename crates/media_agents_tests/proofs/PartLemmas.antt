-- What a history stands for before its first entry.
use Rattle.std.proofs.Common.{◌≡◌, [], sym, subst, ap₂}
use Rattle.driver_core.specs.Soundness.{IsSound}
use Rattle.driver_core.specs.State.{State}
use Rattle.published_registry.specs.Histories.{History, registry_after, registry_of}

-- without entries it is at the registry that was opened
pub begins_sound : (publisher : History) (registry : State) → publisher.opening ≡ registry → publisher.entries ≡ [] →
    IsSound registry → IsSound (registry_of publisher)
begins_sound publisher registry opening entries sound = subst IsSound (sym (ap₂ registry_after opening entries)) sound
