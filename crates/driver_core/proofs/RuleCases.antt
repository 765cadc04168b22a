-- What holds of each draft that a rule may make holds of the one that it makes.
use Rattle.std.proofs.Common.{◌≡◌, ℕ, ℤ, Bool, true, false, not, [], ◌∷◌, Result, Ok, Err, refl}
use Rattle.std.proofs.lemmas.Bool.{cond_both, not-true, not-false}
use Rattle.driver_core.specs.Draft.{Draft}
use Rattle.driver_core.specs.declared.state.refusal.Refusal.{Refusal}
use Rattle.driver_core.specs.declared.state.refusal.Refusal.TheVariants.{UnknownSubscription, UnknownPublication, UnknownCounter, Denied, Full, NoRoom}
use Rattle.client_registry.specs.declared.client.Client.{Client}
use Rattle.driver_core.specs.Draft.{refused}
use Rattle.driver_core.specs.Counting.{add_counter, counted, counter_decision, has_room_for_counter, set_counter, valued, remove_counter, uncounted}
use Rattle.counters.specs.Counters.{has}
use Rattle.driver_core.specs.Publishing.{publication_decision, publish, publish_by, publish_under, published, refused_by_streams, has_place, has_room_for_publication}
use Rattle.driver_core.specs.State.{State}
use Rattle.driver_core.specs.Subscribing.{subscribe, subscribed, decision_of, has_room_for_subscription}
use Rattle.driver_core.specs.Terminating.{terminate, terminated, termination_decision}
use Rattle.driver_core.specs.Unpublishing.{remove_publication, unpublished}
use Rattle.driver_core.specs.Unsubscribing.{remove_subscription, unsubscribed}
use Rattle.channel_uri.specs.Channel.{Shape}
use Rattle.command_codec.specs.declared.add_counter.AddCounter.{AddCounter}
use Rattle.command_codec.specs.declared.removal.Removal.{Removal}
use Rattle.command_codec.specs.declared.set_counter.SetCounter.{SetCounter}
use Rattle.stream_registry.specs.declared.fault.StreamFault.{StreamFault}
use Rattle.stream_registry.specs.declared.fault.StreamFault.TheVariants as fault
use Rattle.stream_registry.specs.declared.wanted.Adding.{Adding}
use Rattle.stream_registry.specs.declared.wanted.Wanted.{Wanted}
use Rattle.stream_registry.specs.Adding.{adding_of}
use Rattle.stream_registry.specs.Leaving.{has_registration, has_subscription}

-- a refusal for which the policy is not asked
abbrev pub IsPlain : Refusal → Type 0
IsPlain (Denied verdict) = ⊥
IsPlain refusal = Unit {0}

-- ---- the policy, and then the room

pub subscribe_cases : (P : Draft → Type 0) (s : State) (client : Client) (correlation : ℕ) (channel : Shape) (stream : ℤ) →
    ((decision_of s client channel stream).verdict.allow ≡ true →
    has_room_for_subscription s client.number channel stream ≡ true →
    P (subscribed s client correlation channel stream)) →
    ((decision_of s client channel stream).verdict.allow ≡ true →
    has_room_for_subscription s client.number channel stream ≡ false →
    P (refused s (decision_of s client channel stream ∷ []) client.number correlation Full)) →
    ((decision_of s client channel stream).verdict.allow ≡ false →
    P (refused s (decision_of s client channel stream ∷ []) client.number correlation
    (Denied (decision_of s client channel stream).verdict))) →
    P (subscribe s client correlation channel stream)
unfolding subscribe
subscribe_cases P s client correlation channel stream granted full denied =
    let allow : Bool = (decision_of s client channel stream).verdict.allow in
    cond_both (not allow) _ _ P (λ e. denied (not-true allow e))
    (λ e. cond_both (has_room_for_subscription s client.number channel stream) _ _ P (granted (not-false allow e)) (full (not-false allow e)))

-- ---- a publication

-- the lists refuse for reasons of their own
pub plain_refusal : (why : StreamFault) → IsPlain (refused_by_streams why)
plain_refusal fault.UnknownPublication = tt
plain_refusal fault.UnknownSubscription = tt
plain_refusal fault.Conflict = tt
plain_refusal fault.Full = tt

-- what has to be shown of each draft that an allowed request for a publication may make
pub record PublishCases (P : Draft → Type 0) (s : State) (client : Client) (correlation : ℕ) (wanted : Wanted) : Type 0 where
  pub denied :
      (publication_decision s client wanted).verdict.allow ≡ false →
      P (refused s (publication_decision s client wanted ∷ []) client.number correlation
      (Denied (publication_decision s client wanted).verdict))
  pub refused_by :
      (why : StreamFault) → (publication_decision s client wanted).verdict.allow ≡ true →
      adding_of s.streams wanted ≡ Err why →
      P (refused s (publication_decision s client wanted ∷ []) client.number correlation (refused_by_streams why))
  pub full :
      (adding : Adding) → (publication_decision s client wanted).verdict.allow ≡ true →
      adding_of s.streams wanted ≡ Ok adding → has_room_for_publication s client.number wanted adding ≡ false →
      P (refused s (publication_decision s client wanted ∷ []) client.number correlation Full)
  pub no_room :
      (adding : Adding) → (publication_decision s client wanted).verdict.allow ≡ true →
      adding_of s.streams wanted ≡ Ok adding → has_room_for_publication s client.number wanted adding ≡ true →
      has_place s wanted adding ≡ false →
      P (refused s (publication_decision s client wanted ∷ []) client.number correlation NoRoom)
  pub granted :
      (adding : Adding) → (publication_decision s client wanted).verdict.allow ≡ true →
      adding_of s.streams wanted ≡ Ok adding → has_room_for_publication s client.number wanted adding ≡ true →
      has_place s wanted adding ≡ true → P (published s client correlation wanted adding)

publish_by_cases : (P : Draft → Type 0) (s : State) (client : Client) (correlation : ℕ) (wanted : Wanted) →
    PublishCases P s client correlation wanted → (publication_decision s client wanted).verdict.allow ≡ true →
    (found : Result Adding StreamFault) → adding_of s.streams wanted ≡ found →
    P (publish_by s client correlation wanted found)
unfolding publish_under
publish_by_cases P s client correlation wanted cases allows (Err why) is = cases.refused_by why allows is
publish_by_cases P s client correlation wanted cases allows (Ok adding) is =
    let room : Bool = has_room_for_publication s client.number wanted adding in
    cond_both (not room) _ _ P (λ e. cases.full adding allows is (not-true room e))
    (λ e.
    cond_both (has_place s wanted adding) _ _ P (cases.granted adding allows is (not-false room e))
    (cases.no_room adding allows is (not-false room e)))

pub publish_cases : (P : Draft → Type 0) (s : State) (client : Client) (correlation : ℕ) (wanted : Wanted) →
    PublishCases P s client correlation wanted → P (publish s client correlation wanted)
unfolding publish
publish_cases P s client correlation wanted cases =
    let allow : Bool = (publication_decision s client wanted).verdict.allow in
    cond_both (not allow) _ _ P (λ e. cases.denied (not-true allow e))
    (λ e.
    publish_by_cases P s client correlation wanted cases (not-false allow e) (adding_of s.streams wanted) refl)

pub remove_publication_cases : (P : Draft → Type 0) (s : State) (client : Client) (correlation : ℕ) (fields : Removal) →
    P (unpublished s client correlation fields.registration) →
    P (refused s [] client.number correlation UnknownPublication) → P (remove_publication s client correlation fields)
unfolding remove_publication
remove_publication_cases P s client correlation fields known unknown =
    cond_both (has_registration s.streams client.number fields.registration) _ _ P (λ e. known) (λ e. unknown)

-- ---- a subscription that goes

pub remove_cases : (P : Draft → Type 0) (s : State) (client : Client) (correlation : ℕ) (fields : Removal) →
    (has_subscription s.streams client.number fields.registration ≡ true →
    P (unsubscribed s client correlation fields.registration)) →
    (has_subscription s.streams client.number fields.registration ≡ false →
    P (refused s [] client.number correlation UnknownSubscription)) → P (remove_subscription s client correlation fields)
unfolding remove_subscription
remove_cases P s client correlation fields known unknown =
    cond_both (has_subscription s.streams client.number fields.registration) _ _ P known unknown

-- ---- a counter

pub add_counter_cases : (P : Draft → Type 0) (s : State) (client : Client) (correlation : ℕ) (fields : AddCounter) →
    ((counter_decision s client fields).verdict.allow ≡ true → has_room_for_counter s ≡ true →
    P (counted s client correlation fields)) →
    ((counter_decision s client fields).verdict.allow ≡ true → has_room_for_counter s ≡ false →
    P (refused s (counter_decision s client fields ∷ []) client.number correlation Full)) →
    ((counter_decision s client fields).verdict.allow ≡ false →
    P (refused s (counter_decision s client fields ∷ []) client.number correlation
    (Denied (counter_decision s client fields).verdict))) →
    P (add_counter s client correlation fields)
unfolding add_counter
add_counter_cases P s client correlation fields granted full denied =
    let allow : Bool = (counter_decision s client fields).verdict.allow in
    cond_both (not allow) _ _ P (λ e. denied (not-true allow e))
    (λ e. cond_both (has_room_for_counter s) _ _ P (granted (not-false allow e)) (full (not-false allow e)))

pub set_counter_cases : (P : Draft → Type 0) (s : State) (client : Client) (correlation : ℕ) (fields : SetCounter) →
    P (valued s client correlation fields) → P (refused s [] client.number correlation UnknownCounter) →
    P (set_counter s client correlation fields)
unfolding set_counter
set_counter_cases P s client correlation fields known unknown =
    cond_both (has s.counters client.number fields.registration) _ _ P (λ e. known) (λ e. unknown)

pub remove_counter_cases : (P : Draft → Type 0) (s : State) (client : Client) (correlation : ℕ) (fields : Removal) →
    P (uncounted s client correlation fields.registration) →
    P (refused s [] client.number correlation UnknownCounter) → P (remove_counter s client correlation fields)
unfolding remove_counter
remove_counter_cases P s client correlation fields known unknown =
    cond_both (has s.counters client.number fields.registration) _ _ P (λ e. known) (λ e. unknown)

-- ---- the end of the driver

pub terminate_cases : (P : Draft → Type 0) (s : State) (client : Client) (correlation : ℕ) →
    ((termination_decision s client).verdict.allow ≡ true → P (terminated s client correlation)) →
    ((termination_decision s client).verdict.allow ≡ false →
    P (refused s (termination_decision s client ∷ []) client.number correlation
    (Denied (termination_decision s client).verdict))) →
    P (terminate s client correlation)
unfolding terminate
terminate_cases P s client correlation granted denied =
    let allow : Bool = (termination_decision s client).verdict.allow in
    cond_both (not allow) _ _ P (λ e. denied (not-true allow e)) (λ e. granted (not-false allow e))
