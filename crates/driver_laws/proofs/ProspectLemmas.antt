-- What is counted where the limit of pairs is looked at is what the policy ever allows.
use Rattle.std.proofs.Common.{◌≡◌, Bool, true, List, filter, refl, sym, ap, ◌∙◌}
use Rattle.std.specs.List.{All, Contains}
use Rattle.std.proofs.lemmas.Bool.{and_parts}
use Rattle.std.proofs.lemmas.List.Elements.{All-contains, All-contains_itself, All-map, All-weaker, filter_passes}
use Rattle.driver_core.specs.Looking.{IsAtItsMoment}
use Rattle.driver_core.specs.Pairs.{prospects_of}
use Rattle.driver_core.specs.State.{State}
use Rattle.driver_laws.specs.MomentLaws.{CountsWhatIsEverAllowed, IsEverReadBy, IsOfProspect, LimitsCountWhatIsEverAllowed}
use Rattle.client_registry.specs.Clients.{principal_at}
use Rattle.policy_core.specs.Moments.{at, coming}
use Rattle.policy_core.specs.RuleList.{Rules}
use Rattle.stream_registry.specs.declared.pairs.Pair.{Pair}
use Rattle.stream_registry.specs.declared.row.LogRow.{LogRow}
use Rattle.stream_registry.specs.declared.row.Subscription.{Subscription}
use Rattle.stream_registry.specs.Pairs.{fits, is_ever_allowed, is_prospect, pair_of, prospects_at, prospects_of as prospects_on}
use Rattle.driver_core.proofs.ListLemmas.{left_was_there, passes_are_left}
use Rattle.driver_laws.proofs.EverLemmas.{EverOne, ever_of, of_ever}
use Rattle.driver_laws.proofs.ImageLemmas.{all_parts, in_part, is_mapped}
use Rattle.driver_laws.proofs.MomentLemmas.{policies_stand}

-- the registry's policy, and what it becomes, are those of its text at its moment
ever_at : (s : State) → IsAtItsMoment s → (subscription : Subscription) →
    is_ever_allowed s.clients.rows s.policy s.prospects s.epoch subscription
    ≡ is_ever_allowed s.clients.rows (at s.given s.moment) (coming s.given s.moment) s.epoch subscription
ever_at s timely subscription =
    ap (λ (policy : Rules). is_ever_allowed s.clients.rows policy s.prospects s.epoch subscription) timely.0
    ∙ ap (λ (later : List Rules). is_ever_allowed s.clients.rows (at s.given s.moment) later s.epoch subscription) timely.1

-- ---- only these

reads_of : (s : State) → IsAtItsMoment s → (log : LogRow) (subscription : Subscription) → Contains s.streams.sources log →
    Contains s.streams.subscriptions subscription →
    is_prospect s.clients.rows s.policy s.prospects s.epoch log subscription ≡ true → IsEverReadBy s log subscription
reads_of s timely log subscription live stands is =
    let parts = and_parts (fits log subscription)
    (is_ever_allowed s.clients.rows s.policy s.prospects s.epoch subscription) is in
    let one : EverOne s.clients.rows s.given s.moment subscription =
    ever_of s.clients.rows s.given s.moment s.epoch subscription (principal_at s.clients.rows subscription.client) refl
    (sym (ever_at s timely subscription) ∙ parts.1) in
    record {
      principal = one.principal;
      is_live = live;
      stands = stands;
      fitting = parts.0;
      attached = one.attached;
      allowed = one.allowed;
    }

prospects_of_log : (s : State) → IsAtItsMoment s → (log : LogRow) → Contains s.streams.sources log →
    All (IsOfProspect s) (prospects_at s.clients.rows s.policy s.prospects s.epoch s.streams.subscriptions log)
prospects_of_log s timely log live =
    let test : Subscription → Bool = is_prospect s.clients.rows s.policy s.prospects s.epoch log in
    let readers : List Subscription = filter test s.streams.subscriptions in
    All-map (IsOfProspect s) (pair_of log) readers
    (All-weaker (Contains readers) (λ subscription. IsOfProspect s (pair_of log subscription))
    (λ subscription has.
    record {
      log = log;
      subscription = subscription;
      pair_is = refl;
      reads =
          reads_of s timely log subscription live (left_was_there test s.streams.subscriptions subscription has)
          (All-contains (λ reader. test reader ≡ true) readers subscription (filter_passes test s.streams.subscriptions) has);
    })
    readers (All-contains_itself readers))

counted_only : (s : State) → IsAtItsMoment s → (pair : Pair) → Contains (prospects_of s) pair → IsOfProspect s pair
unfolding prospects_of prospects_on
counted_only s timely pair has =
    All-contains (IsOfProspect s) (prospects_of s) pair
    (all_parts (IsOfProspect s) (prospects_at s.clients.rows s.policy s.prospects s.epoch s.streams.subscriptions)
    s.streams.sources
    (All-weaker (Contains s.streams.sources)
    (λ log.
    All (IsOfProspect s) (prospects_at s.clients.rows s.policy s.prospects s.epoch s.streams.subscriptions log))
    (prospects_of_log s timely) s.streams.sources (All-contains_itself s.streams.sources)))
    has

-- ---- and each of these

is_counted : (s : State) → IsAtItsMoment s → (log : LogRow) (subscription : Subscription) → IsEverReadBy s log subscription →
    is_prospect s.clients.rows s.policy s.prospects s.epoch log subscription ≡ true
is_counted s timely log subscription reads =
    let ever' : is_ever_allowed s.clients.rows s.policy s.prospects s.epoch subscription ≡ true =
    ever_at s timely subscription
    ∙ of_ever s.clients.rows s.given s.moment s.epoch subscription reads.principal reads.attached reads.allowed in
    rw (reads.fitting, ever') refl

counted_exactly : (s : State) → IsAtItsMoment s → (log : LogRow) (subscription : Subscription) →
    IsEverReadBy s log subscription → Contains (prospects_of s) (pair_of log subscription)
unfolding prospects_of prospects_on
counted_exactly s timely log subscription reads =
    let test : Subscription → Bool = is_prospect s.clients.rows s.policy s.prospects s.epoch log in
    in_part (prospects_at s.clients.rows s.policy s.prospects s.epoch s.streams.subscriptions) s.streams.sources log
    (pair_of log subscription) reads.is_live
    (is_mapped (pair_of log) (filter test s.streams.subscriptions) subscription
    (passes_are_left test s.streams.subscriptions subscription (is_counted s timely log subscription reads) reads.stands))

counts : (s : State) → IsAtItsMoment s → CountsWhatIsEverAllowed s
counts s timely = record { only = counted_only s timely; exactly = counted_exactly s timely }

pub limits_count : LimitsCountWhatIsEverAllowed
limits_count settings policy peers events = counts _ (policies_stand settings policy peers events)
