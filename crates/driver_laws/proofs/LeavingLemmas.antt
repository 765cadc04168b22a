-- What clients leave behind that go.
use Rattle.std.proofs.Common.{◌≡◌, ℕ, ◌==◌, List, [], ◌∷◌, map, inl, inr, refl, ◌∙◌, ⊎_elim}
use Rattle.std.proofs.lemmas.Bool.{cases_Bool, eqb-true, not_from_false}
use Rattle.std.proofs.lemmas.List.Elements.{Contains-push, Contains-append_left, Contains-append_right}
use Rattle.std.specs.List.{AllByRecursion, Contains}
use Rattle.std.specs.Prelude.{◌⊎◌}
use Rattle.driver_core.specs.declared.state.replies.Message.{Message}
use Rattle.driver_core.specs.Leaving.{left, all_left}
use Rattle.driver_core.specs.State.{State}
use Rattle.driver_core.specs.Ticking.{timeout_of}
use Rattle.driver_laws.specs.ReloadLaws.{in_force_at}
use Rattle.stream_registry.specs.declared.row.Subscription.{Subscription}
use Rattle.stream_registry.specs.Leaving.{left as left_in, is_subscription_of_another}
use Rattle.stream_registry.specs.Lingering.{settled}
use Rattle.driver_core.proofs.ListLemmas.{left_was_there, passes_are_left}

-- what holds of what each late client is told holds of all replies
pub all_timeouts : (P : Message → Type 0) → ((client : ℕ) → P (timeout_of client)) → (clients : List ℕ) →
    AllByRecursion P (map timeout_of clients)
all_timeouts P each [] = tt
all_timeouts P each (client ∷ clients) = (each client, all_timeouts P each clients)

-- a subscription that is still there was there
pub one_left_was_subscribed : (s : State) (client : ℕ) (subscription : Subscription) →
    Contains (left s client).streams.subscriptions subscription → Contains s.streams.subscriptions subscription
unfolding left left_in settled
one_left_was_subscribed s client subscription stands =
    left_was_there (is_subscription_of_another client) s.streams.subscriptions subscription stands

pub left_was_subscribed : (s : State) (clients : List ℕ) (subscription : Subscription) →
    Contains (all_left s clients).streams.subscriptions subscription → Contains s.streams.subscriptions subscription
left_was_subscribed s [] subscription stands = stands
left_was_subscribed s (client ∷ clients) subscription stands =
    one_left_was_subscribed s client subscription (left_was_subscribed (left s client) clients subscription stands)

-- a subscription is still there where its client is not among those that went
pub one_left_or_stays : (s : State) (client : ℕ) (subscription : Subscription) → Contains s.streams.subscriptions subscription →
    Contains (left s client).streams.subscriptions subscription ⊎ (subscription.client ≡ client)
unfolding left left_in settled
one_left_or_stays s client subscription has =
    ⊎_elim
    (λ own. inr (eqb-true subscription.client client own))
    (λ other.
    inl (passes_are_left (is_subscription_of_another client) s.streams.subscriptions subscription
    (not_from_false (subscription.client == client) other) has))
    (cases_Bool (subscription.client == client))

pub left_or_stays : (s : State) (clients : List ℕ) (subscription : Subscription) → Contains s.streams.subscriptions subscription →
    Contains (all_left s clients).streams.subscriptions subscription ⊎ Contains clients subscription.client
left_or_stays s [] subscription has = inl has
left_or_stays s (client ∷ clients) subscription has =
    ⊎_elim
    (λ stays.
    ⊎_elim
    (λ there. inl there)
    (λ later. inr (Contains-append_right (client ∷ []) clients subscription.client later))
    (left_or_stays (left s client) clients subscription stays))
    (λ own. inr (rw own (Contains-append_left (client ∷ []) clients client (Contains-push [] client))))
    (one_left_or_stays s client subscription has)

-- the policy in force stays
pub one_left_in_force : (s : State) (client : ℕ) → in_force_at (left s client) ≡ in_force_at s
unfolding left
one_left_in_force s client = refl

pub left_in_force : (s : State) (clients : List ℕ) → in_force_at (all_left s clients) ≡ in_force_at s
left_in_force s [] = refl
left_in_force s (client ∷ clients) = left_in_force (left s client) clients ∙ one_left_in_force s client
