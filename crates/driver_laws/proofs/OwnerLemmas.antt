-- What a row names is there behind each event, if it was before.
use Rattle.std.proofs.Common.{◌≡◌, ℕ, ◌==◌, ◌||◌, Bool, true, false, cond, List, [], ◌∷◌, Option, Some, refl, ap, ⊎_elim}
use Rattle.std.specs.List.{Contains, list_any}
use Rattle.driver_core.specs.declared.state.event.Event.{Event}
use Rattle.driver_core.specs.declared.state.event.Inputs.{Inputs}
use Rattle.driver_core.specs.declared.state.peer.Peer.{Peer}
use Rattle.driver_core.specs.declared.state.settings.Settings.{Settings}
use Rattle.driver_core.specs.Conduct.{coming_to, state_after}
use Rattle.driver_core.specs.State.{State, opened, ruled}
use Rattle.driver_laws.specs.GrantLaws.{IsCounterMadeBy, StoodBefore}
use Rattle.driver_laws.specs.LeavingLaws.{IsGoneBy, is_there}
use Rattle.driver_laws.specs.OwnerLaws.{HaveTheirClients, RowsHaveTheirClients}
use Rattle.driver_laws.specs.PublishingLaws.{IsRegisteredBy}
use Rattle.driver_laws.specs.SubscribingLaws.{IsMadeBy}
use Rattle.client_registry.specs.declared.client.Client.{Client}
use Rattle.client_registry.specs.Clients.{client_at}
use Rattle.counters.specs.declared.counter.Counter.{Counter}
use Rattle.policy_core.specs.RuleList.{Rules}
use Rattle.stream_registry.specs.declared.row.Registration.{Registration}
use Rattle.stream_registry.specs.declared.row.Subscription.{Subscription}
use Rattle.driver_core.proofs.ListLemmas.{contains_none}
use Rattle.driver_laws.proofs.EveryLemmas.{after_any}
use Rattle.driver_laws.proofs.GoingLemmas.{clients_go_only}
use Rattle.driver_laws.proofs.GoneLemmas.{rows_gone}
use Rattle.driver_laws.proofs.GrantOnlyLemmas.{counts_and_ends_only}
use Rattle.driver_laws.proofs.PublishingOnlyLemmas.{published_only}
use Rattle.driver_laws.proofs.SubscribingOnlyLemmas.{grants_only}

-- ---- clients

there_in : (b : Bool) (client row : Client) (rest : Option Client) (later : Bool) →
    (rest ≡ Some client → later ≡ true) → cond b (Some row) rest ≡ Some client → (b || later) ≡ true
there_in true client row rest later by found = refl
there_in false client row rest later by found = by found

-- who is found is there
found_there : (clients : List Client) (number : ℕ) (client : Client) → client_at clients number ≡ Some client →
    list_any (λ (row : Client). row.number == number) clients ≡ true
found_there [] number client found = absurd (cc)
found_there (row ∷ rows) number client found =
    there_in (row.number == number) client row (client_at rows number) _ (found_there rows number client) found

-- who was there is there still, unless it goes
stays_there : (s : State) (event : Event) (inputs : Inputs) (client : ℕ) → is_there s client ≡ true →
    (IsGoneBy (coming_to s event) event client → ⊥) → is_there (state_after s event inputs) client ≡ true
stays_there s event inputs client there stays =
    ⊎_elim (λ still. still) (λ goes. absurd (stays goes)) (clients_go_only s event inputs client there)

registrant_there : (s : State) (event : Event) (inputs : Inputs) (registration : Registration) → HaveTheirClients s →
    Contains (state_after s event inputs).streams.registrations registration →
    is_there (state_after s event inputs) registration.client ≡ true
unfolding ruled
registrant_there s event inputs registration before has =
    let was : is_there s registration.client ≡ true =
    ⊎_elim (λ stood. before.registrations registration stood)
    (λ (made : IsRegisteredBy (coming_to s event) event registration).
    found_there s.clients.rows registration.client made.request.client made.asks.asks.attached)
    ((published_only s event inputs).registrations registration has) in
    stays_there s event inputs registration.client was
    (λ goes. (rows_gone s event inputs registration.client goes).registrations registration has refl)

subscriber_there : (s : State) (event : Event) (inputs : Inputs) (subscription : Subscription) → HaveTheirClients s →
    Contains (state_after s event inputs).streams.subscriptions subscription →
    is_there (state_after s event inputs) subscription.client ≡ true
unfolding ruled
subscriber_there s event inputs subscription before has =
    let was : is_there s subscription.client ≡ true =
    ⊎_elim (λ stood. before.subscriptions subscription stood)
    (λ (made : (correlation : ℕ) × IsMadeBy (coming_to s event) event correlation subscription).
    found_there s.clients.rows subscription.client made.1.request.client made.1.asks.attached)
    ((grants_only s event inputs).stands subscription has) in
    stays_there s event inputs subscription.client was
    (λ goes. (rows_gone s event inputs subscription.client goes).subscriptions subscription has refl)

counting_there : (s : State) (event : Event) (inputs : Inputs) (counter : Counter) → HaveTheirClients s →
    Contains (state_after s event inputs).counters counter →
    is_there (state_after s event inputs) counter.client ≡ true
unfolding ruled
counting_there s event inputs counter before has =
    let was : is_there s counter.client ≡ true =
    ⊎_elim
    (λ (stood : StoodBefore (coming_to s event) counter).
    let same : counter.client ≡ stood.before.client = ap (λ (c : Counter). c.client) stood.same in
    rw same (before.counters stood.before stood.stood))
    (λ (made : IsCounterMadeBy (coming_to s event) event counter).
    found_there s.clients.rows counter.client made.client made.asks.attached)
    ((counts_and_ends_only s event inputs).counters counter has) in
    stays_there s event inputs counter.client was
    (λ goes. (rows_gone s event inputs counter.client goes).counters counter has refl)

pub opened_owned : (settings : Settings) (policy : Rules) (peers : List Peer) →
    HaveTheirClients (opened settings policy peers)
unfolding opened
opened_owned settings policy peers = record {
  registrations = λ registration has. absurd (contains_none registration has);
  subscriptions = λ subscription has. absurd (contains_none subscription has);
  counters = λ counter has. absurd (contains_none counter has);
}

pub stay_owned : (s : State) (event : Event) (inputs : Inputs) → HaveTheirClients s →
    HaveTheirClients (state_after s event inputs)
stay_owned s event inputs before = record {
  registrations = λ registration has. registrant_there s event inputs registration before has;
  subscriptions = λ subscription has. subscriber_there s event inputs subscription before has;
  counters = λ counter has. counting_there s event inputs counter before has;
}

pub rows_owned : RowsHaveTheirClients
rows_owned = after_any HaveTheirClients opened_owned stay_owned
