-- What renewing the pairs adds to a draft.
use Rattle.std.proofs.Common.{◌≡◌, ℕ, ℤ, List, [], ◌∷◌, ◌++◌, Option, Some, None, refl}
use Rattle.std.proofs.lemmas.List.{append-nil}
use Rattle.std.specs.List.{AllByRecursion, flat_map}
use Rattle.driver_core.specs.Change.{Change}
use Rattle.driver_core.specs.declared.state.event.End.{End}
use Rattle.driver_core.specs.declared.state.event.Event.{Event}
use Rattle.driver_core.specs.declared.state.event.Inputs.{Inputs}
use Rattle.driver_core.specs.declared.state.replies.Message.{Message}
use Rattle.driver_core.specs.declared.state.replies.Reply.TheVariants.{AvailableImage, UnavailableImage}
use Rattle.driver_core.specs.Conduct.{coming_to, conduct, drafted}
use Rattle.driver_core.specs.Draft.{Draft}
use Rattle.driver_core.specs.Pairs.{pairs_of}
use Rattle.driver_core.specs.Renewal.{renewed, images_told, images_decided, gone_from, come_to, unavailable_for, unavailable_to, subscription_at, available_for, available_to, source_at}
use Rattle.driver_core.specs.State.{State}
use Rattle.driver_core.specs.Unread.{dropping}
use Rattle.driver_core.proofs.PairLemmas.{nothing_lacks}
use Rattle.stream_registry.specs.declared.pairs.Pair.{Pair}
use Rattle.stream_registry.specs.declared.row.LogRow.{LogRow}
use Rattle.stream_registry.specs.declared.row.Subscription.{Subscription}
use Rattle.driver_core.specs.declared.state.source_identity.SourceIdentity.{SourceIdentity}

-- an event is its draft by the policy as it is at its moment, renewed
pub conduct_is : (s : State) (event : Event) (inputs : Inputs) →
    conduct s event inputs ≡ dropping s (renewed s inputs (drafted (coming_to s event) event inputs))
unfolding conduct
conduct_is s event inputs = refl

pub renewed_after : (s : State) (inputs : Inputs) (draft : Draft) → (renewed s inputs draft).after ≡ draft.after
unfolding renewed
renewed_after s inputs draft = refl

-- the change tells what the draft does
pub record ToldAsItIs (draft : Draft) (change : Change) : Type 0 where
  pub after : change.after ≡ draft.after
  pub replies : change.outcome.replies ≡ draft.replies ++ draft.later
  pub decisions : change.outcome.decisions ≡ draft.decisions
  pub gone : change.outcome.gone ≡ []
  pub come : change.outcome.come ≡ []

pub unchanged : (s : State) (inputs : Inputs) (draft : Draft) → pairs_of draft.after ≡ pairs_of s →
    ToldAsItIs draft (renewed s inputs draft)
unfolding renewed images_told images_decided
unchanged s inputs draft same =
    rw (same, nothing_lacks (pairs_of s)) (record {
      after = refl;
      replies = refl;
      decisions = append-nil draft.decisions;
      gone = refl;
      come = refl;
    })

-- ---- what holds of all replies

pub all_append : {X : Type 0} (P : X → Type 0) (xs ys : List X) → AllByRecursion P xs → AllByRecursion P ys → AllByRecursion P (xs ++ ys)
all_append P [] ys first second = second
all_append P (x ∷ xs) ys first second = (first.0, all_append P xs ys first.1 second)

all_flat : {X Y : Type 0} (P : Y → Type 0) (f : X → List Y) → ((x : X) → AllByRecursion P (f x)) → (xs : List X) →
    AllByRecursion P (flat_map f xs)
all_flat P f each [] = tt
all_flat P f each (x ∷ xs) = all_append P (f x) (flat_map f xs) (each x) (all_flat P f each xs)

-- it holds of what is told of images
pub record HoldsOfImages (P : Message → Type 0) : Type 0 where
  pub unavailable :
      (client source subscription : ℕ) (stream : ℤ) →
      P (record { client = client; reply = UnavailableImage source subscription stream })
  pub available :
      (client source subscription : ℕ) (session stream : ℤ) (position : ℕ) (identity : SourceIdentity) →
      P (record { client = client; reply = AvailableImage source subscription session stream position identity })

unavailable_holds : (P : Message → Type 0) → HoldsOfImages P → (pair : Pair) (subscription : Option Subscription) →
    AllByRecursion P (unavailable_to pair subscription)
unavailable_holds P holds pair None = tt
unavailable_holds P holds pair (Some subscription) =
    (holds.unavailable subscription.client pair.source pair.subscription subscription.stream, tt)

available_holds : (P : Message → Type 0) → HoldsOfImages P → (ends : List End) (pair : Pair) (log : Option LogRow)
    (subscription : Option Subscription) → AllByRecursion P (available_to ends pair log subscription)
available_holds P holds ends pair None subscription = tt
available_holds P holds ends pair (Some log) None = tt
available_holds P holds ends pair (Some log) (Some subscription) =
    (holds.available subscription.client pair.source pair.subscription log.session log.stream _ _, tt)

pub all_images : (P : Message → Type 0) → HoldsOfImages P → (s : State) (inputs : Inputs) (gone come : List Pair) →
    AllByRecursion P (images_told s inputs gone come)
unfolding images_told unavailable_for available_for
all_images P holds s inputs gone come =
    all_append P (flat_map (unavailable_for s) gone) (flat_map (available_for s inputs.ends) come)
    (all_flat P (unavailable_for s)
    (λ pair. unavailable_holds P holds pair (subscription_at s.streams.subscriptions pair.subscription)) gone)
    (all_flat P (available_for s inputs.ends)
    (λ pair.
    available_holds P holds inputs.ends pair (source_at s.streams.sources pair.source)
    (subscription_at s.streams.subscriptions pair.subscription)) come)

pub all_replies : (P : Message → Type 0) (s : State) (inputs : Inputs) (draft : Draft) → AllByRecursion P draft.replies →
    ((client source subscription : ℕ) (stream : ℤ) →
    P (record { client = client; reply = UnavailableImage source subscription stream })) →
    ((client source subscription : ℕ) (session stream : ℤ) (position : ℕ) (identity : SourceIdentity) →
    P (record { client = client; reply = AvailableImage source subscription session stream position identity })) →
    AllByRecursion P draft.later → AllByRecursion P (renewed s inputs draft).outcome.replies
unfolding renewed
all_replies P s inputs draft first unavailable available last =
    all_append P draft.replies _ first
    (all_append P (images_told draft.after inputs (gone_from s draft.after) (come_to s draft.after)) draft.later
    (all_images P (record { unavailable = unavailable; available = available }) draft.after inputs _ _) last)
