-- What a file that is read again may put in force, and what is left as it was. Own rules.
use Rattle.std.specs.Prelude.{◌≡◌, ℕ, List, Option, Some}
use Rattle.aeron_policyd.specs.Vetting.{Keeps}
use Rattle.aeron_policyd.specs.declared.rereading.Found.{Found}
use Rattle.aeron_policyd.specs.declared.rereading.Found.TheVariants as found
use Rattle.aeron_policyd.specs.declared.rereading.Sources.{Sources}
use Rattle.media_driver.specs.Parts.{DriverState}
use Rattle.media_driver.specs.Reloading.{Reloads}
use Rattle.policy_query.specs.Document.{text_in}
use Rattle.policy_text.specs.Names.{Known as Names}
use Rattle.published_registry.specs.Histories.{Known}
use Rattle.service_doors.specs.declared.serving.Reloaded.{Reloaded}
use Rattle.service_doors.specs.declared.serving.Reloaded.TheVariants.{InForce}

-- A policy that was found in a file of these bytes is these bytes, under these names, and keeps the cases, where there are any.
abbrev pub IsVetted : List ℕ → Names → Option (List ℕ) → ℕ → Found → Type 0
IsVetted bytes names wanted moment (found.Policy new) =
    (new.bytes.items ≡ bytes) × (new.names.directory ≡ names) × ((cases : List ℕ) → wanted ≡ Some cases → Keeps bytes names cases moment)
IsVetted bytes names wanted moment other = Unit {0}

-- What came of what was found in the file. A policy is in force where the driver put it in force; otherwise what was in force counts
-- as in force. What is no policy, or does not keep its cases, is not asked of the driver.
abbrev pub ComesOf : Found → Reloaded → DriverState → DriverState → Sources → Sources → Type 0
ComesOf (found.Policy new) (InForce said) old then before after =
    ((receipt : Known) × Reloads new.names.directory (text_in new.bytes.items) receipt old then) × (after.in_force ≡ new.bytes)
ComesOf (found.Policy new) _ old then before after = after ≡ before
ComesOf other (InForce said) old then before after = ⊥
ComesOf other _ old then before after = (then ≡ old) × (after ≡ before)
