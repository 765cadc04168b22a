-- Registrations are with publications. Own rules.
use Rattle.std.specs.Prelude.{ℕ, ◌≡◌, ◌≤◌, true, List, All}
use Rattle.driver_core.specs.State.{State}
use Rattle.stream_registry.specs.declared.row.LogRow.{LogRow}
use Rattle.stream_registry.specs.declared.row.Registration.{Registration}
use Rattle.stream_registry.specs.Origins.{is_published}

-- of this number, a log is a publication
abbrev pub IsPublishedBy : ℕ → LogRow → Type 0
IsPublishedBy number log = log.number ≡ number → is_published log ≡ true

-- no later log has the number of the one that it is with, which, if it is there, is a publication
pub record IsWith (last : ℕ) (logs : List LogRow) (registration : Registration) : Type 0 where
  pub drawn : registration.source ≤ last
  pub published : All (IsPublishedBy registration.source) logs

abbrev pub AreRegistered : State → Type 0
AreRegistered s = All (IsWith s.last_number s.streams.sources) s.streams.registrations
