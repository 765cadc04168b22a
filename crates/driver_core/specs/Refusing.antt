-- Why a command is refused, and what the policy decided on it.
use Rattle.std.specs.Prelude.{ℕ, List, [], ◌∷◌, Option, Some, None}
use Rattle.driver_core.specs.declared.state.refusal.Refusal.{Refusal}
use Rattle.driver_core.specs.declared.state.refusal.Refusal.TheVariants.{Denied}
use Rattle.driver_core.specs.declared.state.refused.Refused.{Refused}
use Rattle.driver_core.specs.Draft.{Draft, refused}
use Rattle.driver_core.specs.State.{State}
use Rattle.policy_core.specs.declared.decision.Decision.{Decision}

-- the policy is not asked
abbrev pub plainly : Refusal → Refused
plainly refusal = record { decision = None; refusal = refusal }

-- the policy allows it, and yet it is refused
abbrev pub on : Decision → Refusal → Refused
on decision refusal = record { decision = Some decision; refusal = refusal }

-- the policy denies it
abbrev pub denied : Decision → Refused
denied decision = on decision (Denied decision.verdict)

-- none, or one
abbrev pub decisions_by : Option Decision → List Decision
decisions_by None = []
decisions_by (Some decision) = decision ∷ []

-- the client's command of this correlation id is refused so
abbrev pub refused_by : State → ℕ → ℕ → Refused → Draft
refused_by s client correlation why = refused s (decisions_by why.decision) client correlation why.refusal
