-- A client that comes changes no pair, since no subscription is its own yet.
use Rattle.std.proofs.Common.{◌≡◌, ℕ, All, refl, sym, ap, ◌∙◌}
use Rattle.driver_core.specs.declared.state.event.Inputs.{Inputs}
use Rattle.driver_core.specs.declared.state.outcome.Response.{Response}
use Rattle.driver_core.specs.declared.state.outcome.Response.TheVariants as response
use Rattle.driver_core.specs.declared.state.report.Report.{Report}
use Rattle.driver_core.specs.Attaching.{attach, attached}
use Rattle.driver_core.specs.Draft.{Draft, answered}
use Rattle.driver_core.specs.Pairs.{pairs_of}
use Rattle.driver_core.specs.Renewal.{outcome_by, outcome_kept}
use Rattle.driver_core.specs.State.{State, at_moment}
use Rattle.driver_core.specs.Report.{report_of}
use Rattle.driver_core.proofs.EventCases.{attach_cases}
use Rattle.driver_core.proofs.PairLemmas.{kept}
use Rattle.log_readers.specs.Numbering.{IsOwned}
use Rattle.log_readers.proofs.SameLemmas.{admitted_alike}

-- the driver was stopped, or there is no room for the client
answered_keeps : (s : State) (now : ℕ) (answer : Response) →
    pairs_of (answered (at_moment s now) answer).after ≡ pairs_of s
unfolding answered at_moment pairs_of
answered_keeps s now answer = refl

attached_keeps : (s : State) (now principal : ℕ) → All (IsOwned s.clients.rows) s.streams.subscriptions →
    pairs_of (attached (at_moment s now) principal).after ≡ pairs_of s
unfolding attached answered at_moment pairs_of
attached_keeps s now principal owned =
    (admitted_alike s.policy s.epoch s.streams s.clients principal (at_moment s now).moment owned).pairs

pub attach_kept : (s : State) (now principal : ℕ) (inputs : Inputs) (told : Report) →
    All (IsOwned s.clients.rows) s.streams.subscriptions → told ≡ report_of (attach (at_moment s now) principal) →
    outcome_by s inputs (attach (at_moment s now) principal) ≡ outcome_kept told
attach_kept s now principal inputs told owned is =
    kept s inputs (attach (at_moment s now) principal)
    (attach_cases (λ (draft : Draft). pairs_of draft.after ≡ pairs_of s) (at_moment s now) principal
    (answered_keeps s now response.Stopped) (attached_keeps s now principal owned) (answered_keeps s now response.Full))
    ∙ ap outcome_kept (sym is)
