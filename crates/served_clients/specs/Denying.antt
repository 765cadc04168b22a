-- What a call denies to a client, as those hear of it who share something with others. Own rules.
use Rattle.std.specs.Prelude.{◌≡◌, ℕ, List, Option, Some, None, Result, Ok, Err, option_map}
use Rattle.std.specs.List.{last_or}
use Rattle.driver_core.specs.declared.asked.listing.Shown.{Shown}
use Rattle.driver_core.specs.declared.asked.listing.Shown.TheVariants as shown_as
use Rattle.log_pairs.specs.Polling.{Fetched}
use Rattle.media_agents.specs.declared.journal.Dated.{Dated}
use Rattle.media_driver.specs.declared.faults.LookFault.{LookFault}
use Rattle.media_driver.specs.declared.faults.OfferFault.{OfferFault}
use Rattle.media_driver.specs.declared.faults.OfferFault.TheVariants as offers
use Rattle.media_driver.specs.declared.faults.PollFault.{PollFault}
use Rattle.media_driver.specs.declared.faults.PollFault.TheVariants as polls
use Rattle.policy_core.specs.declared.decision.Decision.{Decision}

-- what was decided last, of what is kept of that
abbrev pub last_of : List Dated → Option Decision
last_of kept = option_map (λ (dated : Dated). dated.decision) (last_or None kept)

-- what an offer was denied by: what was decided last for the client
abbrev pub denied_offer : Result ℕ OfferFault → List Dated → Option Decision
denied_offer (Err (offers.Denied verdict)) kept = last_of kept
denied_offer gave kept = None

-- what a poll was denied by
abbrev pub denied_poll : Result (List Fetched) PollFault → List Dated → Option Decision
denied_poll (Err (polls.Denied verdict)) kept = last_of kept
denied_poll gave kept = None

-- by what a counter was not shown
abbrev pub denied_look : Result Shown LookFault → Option Decision
denied_look (Ok (shown_as.Denied decision)) = Some decision
denied_look gave = None

-- what those are who share something with others, once they heard of a denial
abbrev pub Hears : Type 0 → Type 1
Hears K = K → Decision → K → Type 0

-- they hear of that denial; or of none
abbrev pub IsTold : {K : Type 0} → Hears K → K → Option Decision → K → Type 0
IsTold hears old None new = new ≡ old
IsTold hears old (Some decision) new = hears old decision new

-- the last of which they hear is that denial, if it is one
abbrev pub Heard : {K : Type 0} → Hears K → Option Decision → K → Type 0
Heard {K} hears denial new = (old : K) × IsTold hears old denial new
