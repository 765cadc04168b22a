-- Which counters and logs a list leaves out, and by which decision each. It looks, and changes nothing.
use Rattle.std.specs.Prelude.{ℕ, Bool, not, nat_lt, List, [], ◌∷◌, map, filter, Option, Some, None, if◌then◌else◌}
use Rattle.driver_core.specs.Listing.{counter_decision, shows_source, source_decision}
use Rattle.driver_core.specs.State.{State}
use Rattle.client_registry.specs.declared.client.Client.{Client}
use Rattle.client_registry.specs.Clients.{client_at}
use Rattle.counters.specs.declared.counter.Counter.{Counter}
use Rattle.policy_core.specs.declared.decision.Decision.{Decision}
use Rattle.stream_registry.specs.declared.row.LogRow.{LogRow}

-- the policy in force does not show it to the principal
abbrev pub hides_counter : State → ℕ → Counter → Bool
hides_counter s principal counter = not (counter_decision s principal counter).verdict.allow

abbrev pub hides_source : State → ℕ → LogRow → Bool
hides_source s principal source = not (shows_source s principal source)

-- the decision stands before the first one on a greater number
abbrev pub with_denial : List Decision → Decision → List Decision
with_denial [] denial = denial ∷ []
with_denial (other ∷ others) denial =
    if nat_lt denial.subject other.subject then denial ∷ other ∷ others else other ∷ with_denial others denial

abbrev pub with_denials : List Decision → List Decision → List Decision
with_denials denials [] = denials
with_denials denials (denial ∷ more) = with_denials (with_denial denials denial) more

abbrev pub hidden_counters : State → ℕ → List Decision
hidden_counters s principal = map (counter_decision s principal) (filter (hides_counter s principal) s.counters)

abbrev pub hidden_sources : State → ℕ → List Decision
hidden_sources s principal = map (source_decision s principal) (filter (hides_source s principal) s.streams.sources)

-- the denials of the counters and of the live logs, by their numbers
abbrev pub left_out_by : State → Option Client → List Decision
left_out_by s None = []
left_out_by s (Some client) = with_denials (hidden_counters s client.principal) (hidden_sources s client.principal)

-- a client that is not there is left out of nothing
unfoldable pub left_out : State → ℕ → List Decision
left_out s client = left_out_by s (client_at s.clients.rows client)
