-- A subscription that comes brings its own images alone.
use Rattle.std.proofs.Common.{arith, ◌≡◌, ℕ, ℤ, ◌+◌, ◌<◌, ◌≤◌, ◌==◌, max, List, [], ◌∷◌, ◌++◌, map, filter, find, Option, Some, None, refl, ap, ◌∙◌}
use Rattle.std.proofs.lemmas.Bool.{eq-eqb, ne_eqb}
use Rattle.std.proofs.lemmas.List.{append-nil}
use Rattle.std.specs.List.{flat_map}
use Rattle.driver_core.specs.declared.state.event.End.{End}
use Rattle.driver_core.specs.declared.state.event.Inputs.{Inputs}
use Rattle.driver_core.specs.Commands.{at_request, heard}
use Rattle.driver_core.specs.Draft.{Draft, replied, told}
use Rattle.driver_core.specs.Pairs.{lacking, pairs_of}
use Rattle.driver_core.specs.Renewal.{available_for, available_on, available_to, decided_on, decided_to, decided_with, images_decided, images_told, outcome_by, outcome_coming, source_at, renewed, subscription_at}
use Rattle.driver_core.specs.State.{State, at_moment}
use Rattle.driver_core.specs.declared.state.replies.Reply.TheVariants.{SubscriptionReady}
use Rattle.driver_core.specs.Subscribing.{decision_of, subscribed, with_subscription}
use Rattle.driver_core.specs.Report.{report_of, tells_reply}
use Rattle.driver_core.proofs.PairLemmas.{pairs_by, principal_heard}
use Rattle.channel_uri.specs.Channel.{Shape}
use Rattle.client_registry.specs.declared.client.Client.{Client}
use Rattle.client_registry.specs.Clients.{principal_at, touched}
use Rattle.log_readers.specs.Numbering.{AreInOrder, Rises, number_of}
use Rattle.log_readers.specs.Turnover.{is_read_by, pair_with, pairs_with}
use Rattle.log_readers.proofs.RisingLemmas.{all_below}
use Rattle.log_readers.proofs.TurnoverLemmas.{subscribed_turnover}
use Rattle.stream_registry.specs.declared.pairs.Pair.{Pair}
use Rattle.stream_registry.specs.declared.row.LogRow.{LogRow}
use Rattle.stream_registry.specs.declared.row.Subscription.{Subscription}
use Rattle.stream_registry.specs.Adding.{subscribed as subscribed_in}
use Rattle.stream_registry.specs.Pairs.{pairs_of as pairs_on}

-- ---- its row is found by its number

pub found_last : {A : Type 0} (key : A → ℕ) (low last : ℕ) (rows : List A) (row : A) → Rises key low last rows →
    last < key row → find (λ one. key one == key row) (rows ++ row ∷ []) ≡ Some row
found_last key low last [] row up above = rw (eq-eqb (key row) (key row) refl) refl
found_last key low last (one ∷ rows) row up above =
    let below : key one ≤ last = all_below key low last (one ∷ rows) up 0 one (omega arith) in
    rw (ne_eqb (key one) (key row) (λ same. omega (arith, same, below, above)))
    (found_last key (key one) last rows row up.1 above)

-- ---- what is told and decided of its pairs

told_alike : {Y : Type 0} (f g : Pair → List Y) (row : Subscription) (logs : List LogRow) →
    ((log : LogRow) → f (pair_with row log) ≡ g (pair_with row log)) →
    flat_map f (map (pair_with row) logs) ≡ flat_map g (map (pair_with row) logs)
told_alike f g row [] each = refl
told_alike f g row (log ∷ logs) each = λ i. each log i ++ told_alike f g row logs each i

available_alike : (s : State) (row : Subscription) (ends : List End) (log : LogRow) →
    subscription_at s.streams.subscriptions row.number ≡ Some row →
    available_for s ends (pair_with row log) ≡ available_on s.streams.sources ends row (pair_with row log)
unfolding available_for
available_alike s row ends log found =
    ap (available_to ends (pair_with row log) (source_at s.streams.sources log.number)) found

pub decided_alike : (s after : State) (row : Subscription) (found : Option LogRow) → after.policy ≡ s.policy →
    after.epoch ≡ s.epoch → principal_at after.clients.rows row.client ≡ principal_at s.clients.rows row.client →
    decided_to after found (Some row) ≡ decided_to s found (Some row)
decided_alike s after row None policy epoch principal = refl
decided_alike s after row (Some log) policy epoch principal = rw (policy, epoch, principal) refl

decisions_alike : (s after : State) (row : Subscription) (log : LogRow) →
    subscription_at after.streams.subscriptions row.number ≡ Some row →
    after.streams.sources ≡ s.streams.sources → after.policy ≡ s.policy → after.epoch ≡ s.epoch →
    principal_at after.clients.rows row.client ≡ principal_at s.clients.rows row.client →
    decided_on after (pair_with row log) ≡ decided_with s row (pair_with row log)
unfolding decided_on
decisions_alike s after row log found logs policy epoch principal =
    ap (decided_to after (source_at after.streams.sources log.number)) found
    ∙ rw logs (decided_alike s after row (source_at s.streams.sources log.number) policy epoch principal)

-- ---- the whole

abbrev row_for : State → Client → Shape → ℤ → Subscription
row_for s client channel stream =
    record { number = s.last_number + 1; client = client.number; channel = channel; stream = stream }

record Comes (s after : State) (inputs : Inputs) (row : Subscription) : Type 0 where
  gone : lacking (pairs_of s) (pairs_of after) ≡ []
  come : lacking (pairs_of after) (pairs_of s) ≡ pairs_with s.clients.rows s.policy s.epoch s.streams.sources row
  available :
      flat_map (available_for after inputs.ends) (pairs_with s.clients.rows s.policy s.epoch s.streams.sources row)
      ≡ flat_map (available_on s.streams.sources inputs.ends row)
      (pairs_with s.clients.rows s.policy s.epoch s.streams.sources row)
  decided :
      flat_map (decided_on after) (pairs_with s.clients.rows s.policy s.epoch s.streams.sources row)
      ≡ flat_map (decided_with s row) (pairs_with s.clients.rows s.policy s.epoch s.streams.sources row)

pairs_same : (s : State) (now handle : ℕ) (client : Client) (channel : Shape) (stream : ℤ) →
    pairs_of (with_subscription (at_request s now handle) client.number channel stream)
    ≡ pairs_on (subscribed_in s.streams (s.last_number + 1) client.number channel stream) s.clients.rows s.policy s.epoch
unfolding with_subscription heard at_moment touched pairs_of
pairs_same s now handle client channel stream =
    pairs_by (with_subscription (at_request s now handle) client.number channel stream)
    (with_subscription s client.number channel stream) refl refl refl (principal_heard s.clients.rows handle (max s.moment now))

comes : (s : State) (now handle : ℕ) (inputs : Inputs) (client : Client) (channel : Shape) (stream : ℤ) →
    AreInOrder s.streams s.clients.rows s.last_number →
    Comes s (with_subscription (at_request s now handle) client.number channel stream) inputs (row_for s client channel stream)
unfolding with_subscription heard at_moment touched pairs_of subscribed_in
comes s now handle inputs client channel stream order =
    let row : Subscription = row_for s client channel stream in
    let after : State = with_subscription (at_request s now handle) client.number channel stream in
    let turn = subscribed_turnover s.clients.rows s.policy s.epoch s.streams (s.last_number + 1) client.number channel stream 0 s.last_number order.numbers (omega arith) in
    let same = pairs_same s now handle client channel stream in
    let found = found_last number_of 0 s.last_number s.streams.subscriptions row order.numbers (omega arith) in
    record {
      gone = ap (lacking (pairs_of s)) same ∙ turn.gone;
      come = ap (λ (pairs : List Pair). lacking pairs (pairs_of s)) same ∙ turn.come;
      available = told_alike (available_for after inputs.ends) (available_on s.streams.sources inputs.ends row) row
          (filter (is_read_by s.clients.rows s.policy s.epoch row) s.streams.sources)
          (λ log. available_alike after row inputs.ends log found);
      decided = told_alike (decided_on after) (decided_with s row) row
          (filter (is_read_by s.clients.rows s.policy s.epoch row) s.streams.sources)
          (λ log. decisions_alike s after row log found refl refl refl
          (principal_heard s.clients.rows handle (max s.moment now) row.client));
    }

by_parts : (s : State) (inputs : Inputs) (draft : Draft) (row : Subscription) → draft.later ≡ [] →
    Comes s draft.after inputs row → outcome_by s inputs draft ≡ outcome_coming s inputs (report_of draft) row
unfolding renewed images_told images_decided
by_parts s inputs draft row none parts =
    rw (parts.gone, parts.come, none, parts.available, parts.decided, append-nil _) refl

pub coming_is : (s : State) (now handle : ℕ) (inputs : Inputs) (client : Client) (correlation : ℕ) (channel : Shape)
    (stream : ℤ) → AreInOrder s.streams s.clients.rows s.last_number →
    outcome_by s inputs (subscribed (at_request s now handle) client correlation channel stream)
    ≡ outcome_coming s inputs
    (tells_reply (decision_of (at_request s now handle) client channel stream ∷ []) client.number
    (SubscriptionReady correlation (s.last_number + 1)))
    (row_for s client channel stream)
unfolding subscribed with_subscription heard at_moment replied told
coming_is s now handle inputs client correlation channel stream order =
    by_parts s inputs (subscribed (at_request s now handle) client correlation channel stream) (row_for s client channel stream) refl
    (comes s now handle inputs client channel stream order)
