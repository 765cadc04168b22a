-- Looks at counters by any registry of a run.
use Rattle.std.proofs.Common.{refl}
use Rattle.driver_core.specs.State.{State}
use Rattle.driver_laws.specs.OlderLaws.{LooksAreDecidedBy, LooksByAnyRegistryAreShownExactly}
use Rattle.driver_laws.proofs.ListingLemmas.{looks_exactly}
use Rattle.driver_steps.specs.Ends.{RunEnd}

looks_are_decided : (s : State) (e : RunEnd) → LooksAreDecidedBy s e
looks_are_decided s e = record {
  lists = λ now handle. refl;
  values = λ now handle number. refl;
  exactly = λ handle. looks_exactly s handle;
}

pub looks_by_any : LooksByAnyRegistryAreShownExactly
looks_by_any settings policy peers readings answers k sound are = looks_are_decided _ _
