-- What changes no pair and no reader.
use Rattle.std.proofs.Common.{◌≡◌, ℕ, ℤ, ◌==◌, Bool, true, false, cond, List, map, filter, get_or, refl, ap, ◌∙◌}
use Rattle.std.specs.Prelude.{◌&&◌, All}
use Rattle.std.proofs.lemmas.Bool.{not-true}
use Rattle.std.proofs.lemmas.List.Elements.{All-weaker, filter_passes}
use Rattle.log_readers.specs.Numbering.{IsOwned, number_of}
use Rattle.log_readers.specs.Readers.{all_readers, readers_at}
use Rattle.log_readers.specs.Turnover.{IsReadAlike}
use Rattle.stream_registry.specs.declared.row.Origin.{Origin}
use Rattle.stream_registry.specs.declared.row.Origin.TheVariants.{Published, Remote}
use Rattle.stream_registry.specs.declared.row.LogRow.{LogRow}
use Rattle.stream_registry.specs.declared.row.Registration.{Registration}
use Rattle.stream_registry.specs.declared.row.Subscription.{Subscription}
use Rattle.stream_registry.specs.declared.wanted.Adding.TheVariants.{Join}
use Rattle.stream_registry.specs.declared.wanted.Wanted.{Wanted}
use Rattle.stream_registry.specs.Adding.{added}
use Rattle.stream_registry.specs.Leaving.{is_another_registration, is_registration_of_another, is_subscription_of_another, left, unregistered}
use Rattle.stream_registry.specs.Lingering.{is_used, left_alone, settled, settled_one}
use Rattle.stream_registry.specs.Origins.{left_by}
use Rattle.stream_registry.specs.Pairs.{fits, is_allowed, is_allowed_to, is_pair, pair_of, pairs_at, pairs_of, reaches}
use Rattle.stream_registry.specs.Streams.{Streams}
use Rattle.client_registry.specs.declared.client.Client.{Client}
use Rattle.client_registry.specs.Clients.{ClientList, admitted, is_other, touched, without}
use Rattle.policy_core.specs.RuleList.{Rules}
use Rattle.log_readers.proofs.FoundLemmas.{IsFoundAlike, found_heard, found_left, found_with}
use Rattle.log_readers.proofs.ListLemmas.{filter_alike, flat_alike, flat_through, map_alike, map_through}

-- the subscriptions that the others have
abbrev pub rest_of : Streams → ℕ → Streams
rest_of s client = record s { subscriptions = filter (is_subscription_of_another client) s.subscriptions }

module _ (policy : Rules) (epoch : ℕ) where
  -- ---- clients

  allowed_alike : (clients others : List Client) (row : Subscription) → IsFoundAlike clients others row →
      is_allowed others policy epoch row ≡ is_allowed clients policy epoch row
  unfolding is_allowed
  allowed_alike clients others row same = ap (is_allowed_to policy epoch row) same

  read_alike : (clients others : List Client) (subs : List Subscription) (log : LogRow) →
      All (IsFoundAlike clients others) subs →
      filter (is_pair others policy epoch log) subs ≡ filter (is_pair clients policy epoch log) subs
  read_alike clients others subs log found =
      filter_alike (is_pair others policy epoch log) (is_pair clients policy epoch log) subs
      (λ k d within. ap (λ (allowed : Bool). fits log (get_or subs k d) && allowed)
      (allowed_alike clients others (get_or subs k d) (found k d within)))

  -- where each subscription's client acts for the same one
  pub clients_alike : (s : Streams) (clients others : List Client) → All (IsFoundAlike clients others) s.subscriptions →
      IsReadAlike s s clients others policy epoch
  unfolding pairs_of all_readers
  clients_alike s clients others found = record {
    pairs = flat_alike (pairs_at others policy epoch s.subscriptions) (pairs_at clients policy epoch s.subscriptions) s.sources
        (λ log. ap (map (pair_of log)) (read_alike clients others s.subscriptions log found));
    readers = map_alike (readers_at others policy epoch s.subscriptions) (readers_at clients policy epoch s.subscriptions) s.sources
        (λ log. ap (map number_of) (read_alike clients others s.subscriptions log found));
  }

  -- a further client
  pub admitted_alike : (s : Streams) (clients : ClientList) (principal now : ℕ) → All (IsOwned clients.rows) s.subscriptions →
      IsReadAlike s s clients.rows (admitted clients principal now).rows policy epoch
  unfolding admitted
  admitted_alike s clients principal now owned =
      clients_alike s clients.rows (admitted clients principal now).rows (found_with clients.rows _ s.subscriptions owned)

  -- a client that is heard of
  pub touched_alike : (s : Streams) (clients : ClientList) (number now : ℕ) →
      IsReadAlike s s clients.rows (touched clients number now).rows policy epoch
  unfolding touched
  touched_alike s clients number now =
      clients_alike s clients.rows (touched clients number now).rows (found_heard clients.rows number now s.subscriptions)

  -- ---- publications that begin to linger

  pairs_left : (clients : List Client) (subs : List Subscription) (now : ℕ) (log : LogRow) (origin : Origin) →
      pairs_at clients policy epoch subs (record log { origin = left_by now origin })
      ≡ pairs_at clients policy epoch subs (record log { origin = origin })
  unfolding fits reaches
  pairs_left clients subs now log (Published exclusive since) = refl
  pairs_left clients subs now log (Remote address initial_term join) = refl

  pairs_settled : (clients : List Client) (subs : List Subscription) (registrations : List Registration) (now : ℕ)
      (log : LogRow) →
      pairs_at clients policy epoch subs (settled_one registrations now log) ≡ pairs_at clients policy epoch subs log
  unfolding fits
  pairs_settled clients subs registrations now log =
      elim (is_used registrations log.number) as
      (λ b. pairs_at clients policy epoch subs (cond b log (left_alone now log)) ≡ pairs_at clients policy epoch subs log) [
        | true ↦ refl
        | false ↦ pairs_left clients subs now log log.origin
      ]

  readers_left : (clients : List Client) (subs : List Subscription) (now : ℕ) (log : LogRow) (origin : Origin) →
      readers_at clients policy epoch subs (record log { origin = left_by now origin })
      ≡ readers_at clients policy epoch subs (record log { origin = origin })
  unfolding fits reaches
  readers_left clients subs now log (Published exclusive since) = refl
  readers_left clients subs now log (Remote address initial_term join) = refl

  readers_settled : (clients : List Client) (subs : List Subscription) (registrations : List Registration) (now : ℕ)
      (log : LogRow) →
      readers_at clients policy epoch subs (settled_one registrations now log) ≡ readers_at clients policy epoch subs log
  unfolding fits
  readers_settled clients subs registrations now log =
      elim (is_used registrations log.number) as
      (λ b. readers_at clients policy epoch subs (cond b log (left_alone now log)) ≡ readers_at clients policy epoch subs log) [
        | true ↦ refl
        | false ↦ readers_left clients subs now log log.origin
      ]

  pub settled_alike : (s : Streams) (clients : List Client) (now : ℕ) → IsReadAlike s (settled s now) clients clients policy epoch
  unfolding settled pairs_of all_readers
  settled_alike s clients now = record {
    pairs = flat_through (pairs_at clients policy epoch s.subscriptions) (settled_one s.registrations now) s.sources
        (pairs_settled clients s.subscriptions s.registrations now);
    readers = map_through (readers_at clients policy epoch s.subscriptions) (settled_one s.registrations now) s.sources
        (readers_settled clients s.subscriptions s.registrations now);
  }

  -- ---- registrations

  registrations_alike : (s : Streams) (clients : List Client) (registrations : List Registration) →
      IsReadAlike s (record s { registrations = registrations }) clients clients policy epoch
  unfolding pairs_of all_readers
  registrations_alike s clients registrations = record { pairs = refl; readers = refl }

  pub unregistered_alike : (s : Streams) (clients : List Client) (client number now : ℕ) →
      IsReadAlike s (unregistered s client number now) clients clients policy epoch
  unfolding unregistered pairs_of all_readers
  unregistered_alike s clients client number now =
      let rest = settled_alike (record s { registrations = filter (is_another_registration client number) s.registrations }) clients now in
      record { pairs = rest.pairs; readers = rest.readers }

  -- a log that is joined
  pub joined_alike : (s : Streams) (clients : List Client) (number client : ℕ) (wanted : Wanted) (place source : ℕ) (session : ℤ) →
      IsReadAlike s (added s number client wanted place (Join source session)) clients clients policy epoch
  unfolding pairs_of all_readers
  joined_alike s clients number client wanted place source session = record { pairs = refl; readers = refl }

  -- ---- a client that leaves

  -- it is as if its subscriptions alone went, whether it is still among the clients or not
  pub left_alike : (s : Streams) (clients : ClientList) (client now : ℕ) →
      IsReadAlike (rest_of s client) (left s client now) clients.rows (without clients client).rows policy epoch
  unfolding left without pairs_of all_readers
  left_alike s clients client now =
      let rest : Streams = record s {
        registrations = filter (is_registration_of_another client) s.registrations;
        subscriptions = filter (is_subscription_of_another client) s.subscriptions;
      } in
      let others : List Client = filter (is_other client) clients.rows in
      let settled_rest = settled_alike rest others now in
      let found = clients_alike rest clients.rows others
      (found_left clients.rows client rest.subscriptions
      (All-weaker (λ row. is_subscription_of_another client row ≡ true) (λ row. (row.client == client) ≡ false)
      (λ row stays. not-true (row.client == client) stays) rest.subscriptions
      (filter_passes (is_subscription_of_another client) s.subscriptions))) in
      record {
        pairs = settled_rest.pairs ∙ found.pairs;
        readers = settled_rest.readers ∙ found.readers;
      }

  pub left_alike_there : (s : Streams) (clients : List Client) (client now : ℕ) →
      IsReadAlike (rest_of s client) (left s client now) clients clients policy epoch
  unfolding left pairs_of all_readers
  left_alike_there s clients client now =
      let rest : Streams = record s {
        registrations = filter (is_registration_of_another client) s.registrations;
        subscriptions = filter (is_subscription_of_another client) s.subscriptions;
      } in
      let settled_rest = settled_alike rest clients now in
      record { pairs = settled_rest.pairs; readers = settled_rest.readers }
