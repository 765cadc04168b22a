-- A subscription goes: what goes with it is known by its number, and nobody is told of it.
use Rattle.std.proofs.Common.{◌≡◌, ℕ, max, ◌==◌, ◌&&◌, Bool, true, false, not, cond, List, [], filter, Option, None, refl, ap, ◌∙◌}
use Rattle.std.proofs.lemmas.Bool.{eq-eqb, eqb-true}
use Rattle.driver_core.specs.declared.state.event.Inputs.{Inputs}
use Rattle.driver_core.specs.declared.state.refusal.Refusal.TheVariants.{UnknownSubscription}
use Rattle.driver_core.specs.declared.state.replies.Reply.TheVariants.{OperationSuccess}
use Rattle.driver_core.specs.Commands.{at_request, heard}
use Rattle.driver_core.specs.Draft.{refused, replied, told}
use Rattle.driver_core.specs.Pairs.{lacking, pairs_of}
use Rattle.driver_core.specs.Renewal.{decided_on, outcome_by, outcome_gone, subscription_at, unavailable_for}
use Rattle.driver_core.specs.State.{State, at_moment}
use Rattle.driver_core.specs.Report.{tells_reply}
use Rattle.driver_core.specs.Unsubscribing.{remove_subscription, unsubscribed}
use Rattle.driver_core.proofs.GoneLemmas.{found_in_part, none_of_part, not_decided, not_told, silent_outcome}
use Rattle.driver_core.proofs.PairLemmas.{pairs_by, principal_heard}
use Rattle.client_registry.specs.declared.client.Client.{Client}
use Rattle.client_registry.specs.Clients.{touched}
use Rattle.command_codec.specs.declared.removal.Removal.{Removal}
use Rattle.log_readers.specs.Numbering.{Rises, number_of}
use Rattle.log_readers.specs.Readers.{is_unlike}
use Rattle.log_readers.specs.Turnover.{is_of_number}
use Rattle.log_readers.proofs.TurnoverLemmas.{own_alone, unsubscribed_turnover}
use Rattle.stream_registry.specs.declared.pairs.Pair.{Pair}
use Rattle.stream_registry.specs.declared.row.Subscription.{Subscription}
use Rattle.stream_registry.specs.Leaving.{has_subscription, is_another_subscription, is_own_subscription, unsubscribed as unsubscribed_in}
use Rattle.stream_registry.specs.Pairs.{pairs_of as pairs_on}
use Rattle.stream_registry.specs.Streams.{Streams}

-- ---- nobody has the number any more

itself : (number : ℕ) (found : Option Subscription) → cond (is_unlike number number) found None ≡ None
itself number found = ap (λ (b : Bool). cond (not b) found None) (eq-eqb number number refl)

nobody_numbered : (s : Streams) (client number last : ℕ) → Rises number_of 0 last s.subscriptions →
    has_subscription s client number ≡ true →
    subscription_at (filter (is_another_subscription client number) s.subscriptions) number ≡ None
nobody_numbered s client number last up there =
    ap (λ (rows : List Subscription). subscription_at rows number)
    (own_alone client number 0 last s.subscriptions up there)
    ∙ found_in_part number_of (is_unlike number) number s.subscriptions
    ∙ itself number (subscription_at s.subscriptions number)

nobody_at : (s : State) (number : ℕ) → subscription_at s.streams.subscriptions number ≡ None →
    (pair : Pair) → is_of_number number pair ≡ true → subscription_at s.streams.subscriptions pair.subscription ≡ None
nobody_at s number nobody pair is =
    ap (subscription_at s.streams.subscriptions) (eqb-true pair.subscription number is) ∙ nobody

-- ---- the registry behind it

-- the subscription is gone, and all else is as it was
abbrev without_it : State → ℕ → ℕ → State
without_it s client number = record s { streams = unsubscribed_in s.streams client number }

pairs_without : (s : State) (now handle client number : ℕ) →
    pairs_of (without_it (at_request s now handle) client number)
    ≡ pairs_on (unsubscribed_in s.streams client number) s.clients.rows s.policy s.epoch
unfolding heard at_moment touched pairs_of
pairs_without s now handle client number =
    pairs_by (without_it (at_request s now handle) client number) (without_it s client number) refl refl refl
    (principal_heard s.clients.rows handle (max s.moment now))

-- ---- what it tells

pub unsubscribed_outcome : (s : State) (last now handle : ℕ) (inputs : Inputs) (client : Client) (correlation number : ℕ) →
    Rises number_of 0 last s.streams.subscriptions → has_subscription s.streams client.number number ≡ true →
    outcome_by s inputs (unsubscribed (at_request s now handle) client correlation number)
    ≡ outcome_gone (tells_reply [] client.number (OperationSuccess correlation)) (filter (is_of_number number) (pairs_of s))
unfolding unsubscribed replied told unsubscribed_in heard at_moment pairs_of
unsubscribed_outcome s last now handle inputs client correlation number up there =
    let after : State = without_it (at_request s now handle) client.number number in
    let same = pairs_without s now handle client.number number in
    let turnover = unsubscribed_turnover s.clients.rows s.policy s.epoch s.streams client.number number 0 last up there in
    let nobody = nobody_at after number (nobody_numbered s.streams client.number number last up there) in
    silent_outcome s inputs (unsubscribed (at_request s now handle) client correlation number)
    (filter (is_of_number number) (pairs_of s))
    (record {
      gone = ap (lacking (pairs_of s)) same ∙ turnover.gone;
      come = ap (λ (pairs : List Pair). lacking pairs (pairs_of s)) same ∙ turnover.come;
    })
    (none_of_part (is_of_number number) (unavailable_for after) (pairs_of s) (λ pair is. not_told after pair (nobody pair is)))
    (none_of_part (is_of_number number) (decided_on after) (pairs_of s) (λ pair is. not_decided after pair (nobody pair is)))

-- ---- whether there is such a subscription

-- what is the client's own of this number has it
pub own_number : (client number : ℕ) (row : Subscription) → is_own_subscription client number row ≡ true → row.number ≡ number
own_number client number row own = eqb-true row.number number (second (row.client == client) (row.number == number) own)
  where
    second : (b c : Bool) → (b && c) ≡ true → c ≡ true
    second true c is = is
    second false c is = absurd (cc)

pub removed_where : (s : State) (now handle : ℕ) (client : Client) (correlation : ℕ) (fields : Removal) →
    has_subscription s.streams client.number fields.registration ≡ true →
    remove_subscription (at_request s now handle) client correlation fields
    ≡ unsubscribed (at_request s now handle) client correlation fields.registration
unfolding remove_subscription heard at_moment
removed_where s now handle client correlation fields there = rw there refl

pub not_removed : (s : State) (now handle : ℕ) (client : Client) (correlation : ℕ) (fields : Removal) →
    has_subscription s.streams client.number fields.registration ≡ false →
    remove_subscription (at_request s now handle) client correlation fields
    ≡ refused (at_request s now handle) [] client.number correlation UnknownSubscription
unfolding remove_subscription heard at_moment
not_removed s now handle client correlation fields there = rw there refl
