-- A log that comes brings its own images alone, and one that is joined brings none.
use Rattle.std.proofs.Common.{arith, ◌≡◌, ℕ, ℤ, ◌+◌, ◌==◌, max, Bool, true, false, ◌&&◌, All, List, [], ◌∷◌, ◌++◌, get_or, map, find, Some, refl, ap, ◌∙◌}
use Rattle.std.proofs.lemmas.Bool.{eq-eqb, ne_eqb}
use Rattle.std.proofs.lemmas.List.{append-nil}
use Rattle.std.proofs.lemmas.List.Elements.{All-cons, All-filter, All-head, All-nil, All-tail}
use Rattle.std.specs.List.{flat_map}
use Rattle.std.specs.Prelude.{unwrap_or}
use Rattle.driver_core.specs.declared.state.event.End.{End}
use Rattle.driver_core.specs.declared.state.event.Inputs.{Inputs}
use Rattle.driver_core.specs.Commands.{at_request, heard}
use Rattle.driver_core.specs.Directing.{has_room_for_sole}
use Rattle.driver_core.specs.Draft.{Draft, replied, replied_opening, told}
use Rattle.driver_core.specs.Pairs.{is_within_pairs, lacking, pairs_of}
use Rattle.driver_core.specs.Publishing.{has_room_for_publication, new_log, opening_of, place_of_new, publication_decision, published, ready_for, with_directed_publication, with_publication}
use Rattle.driver_core.specs.Renewal.{available_for, available_from, available_to, decided_from, decided_on, decided_to, images_decided, images_told, outcome_by, outcome_kept, outcome_opening, source_at, reading, renewed, subscription_at}
use Rattle.driver_core.specs.State.{State, at_moment, has_number}
use Rattle.driver_core.specs.Report.{report_of, tells_reply}
use Rattle.driver_core.proofs.ComingLemmas.{decided_alike, found_last}
use Rattle.driver_core.proofs.PairLemmas.{kept, pairs_by, pairs_heard, principal_heard}
use Rattle.client_registry.specs.declared.client.Client.{Client}
use Rattle.client_registry.specs.Clients.{principal_at, touched}
use Rattle.destinations.specs.Destinations.{DestinationList}
use Rattle.log_readers.specs.Numbering.{AreInOrder, Rises, number_of, source_of}
use Rattle.log_readers.proofs.RisingLemmas.{all_above}
use Rattle.log_readers.proofs.TurnoverLemmas.{made_turnover}
use Rattle.stream_registry.specs.declared.pairs.Pair.{Pair}
use Rattle.stream_registry.specs.declared.row.LogRow.{LogRow}
use Rattle.stream_registry.specs.declared.row.Subscription.{Subscription}
use Rattle.stream_registry.specs.declared.wanted.Adding.{Adding}
use Rattle.stream_registry.specs.declared.wanted.Adding.TheVariants.{Join, Make}
use Rattle.stream_registry.specs.declared.wanted.Wanted.{Wanted}
use Rattle.stream_registry.specs.Adding.{added}
use Rattle.stream_registry.specs.Lingering.{place_of}
use Rattle.stream_registry.specs.Pairs.{is_pair, pair_of, pairs_of as pairs_on}

-- ---- each row is found by its number

pub found_each : {A : Type 0} (key : A → ℕ) (low last : ℕ) (rows : List A) → Rises key low last rows →
    All (λ row. find (λ one. key one == key row) rows ≡ Some row) rows
found_each key low last [] up = All-nil (λ row. find (λ one. key one == key row) [] ≡ Some row)
found_each key low last (first ∷ rows) up =
    let above = all_above key (key first) last rows up.1 in
    let rest = found_each key (key first) last rows up.1 in
    All-cons (λ row. find (λ one. key one == key row) (first ∷ rows) ≡ Some row) first rows
    (rw (eq-eqb (key first) (key first) refl) refl)
    (λ k d within.
    rw (ne_eqb (key first) (key (get_or rows k d)) (λ same. let later = above k d within in omega (arith, same, later)))
    (rest k d within))

-- ---- what is told and decided of its pairs

pub told_alike : {Y : Type 0} (f : Pair → List Y) (g : Subscription → List Y) (log : LogRow) (rows : List Subscription) →
    All (λ row. f (pair_of log row) ≡ g row) rows → flat_map f (map (pair_of log) rows) ≡ flat_map g rows
told_alike f g log [] each = refl
told_alike f g log (row ∷ rows) each =
    let first : f (pair_of log row) ≡ g row = All-head (λ one. f (pair_of log one) ≡ g one) row rows each in
    let rest = told_alike f g log rows (All-tail (λ one. f (pair_of log one) ≡ g one) row rows each) in
    λ i. first i ++ rest i

pub available_alike : (s : State) (ends : List End) (log : LogRow) (row : Subscription) →
    source_at s.streams.sources log.number ≡ Some log →
    subscription_at s.streams.subscriptions row.number ≡ Some row →
    available_for s ends (pair_of log row) ≡ available_from ends log row
unfolding available_for
available_alike s ends log row log_found found = λ i. available_to ends (pair_of log row) (log_found i) (found i)

pub decisions_alike : (s after : State) (log : LogRow) (row : Subscription) →
    source_at after.streams.sources log.number ≡ Some log →
    subscription_at after.streams.subscriptions row.number ≡ Some row →
    after.policy ≡ s.policy → after.epoch ≡ s.epoch →
    principal_at after.clients.rows row.client ≡ principal_at s.clients.rows row.client →
    decided_on after (pair_of log row) ≡ decided_from s row
unfolding decided_on
decisions_alike s after log row log_found found policy epoch principal =
    (λ i. decided_to after (log_found i) (found i)) ∙ decided_alike s after row (Some log) policy epoch principal

-- ---- a log that is made

pub record Opens (s after : State) (inputs : Inputs) (log : LogRow) : Type 0 where
  pub gone : lacking (pairs_of s) (pairs_of after) ≡ []
  pub come : lacking (pairs_of after) (pairs_of s) ≡ map (pair_of log) (reading s log s.streams.subscriptions)
  pub available :
      flat_map (available_for after inputs.ends) (map (pair_of log) (reading s log s.streams.subscriptions))
      ≡ flat_map (available_from inputs.ends log) (reading s log s.streams.subscriptions)
  pub decided :
      flat_map (decided_on after) (map (pair_of log) (reading s log s.streams.subscriptions))
      ≡ flat_map (decided_from s) (reading s log s.streams.subscriptions)

pairs_same : (s : State) (now handle : ℕ) (client : ℕ) (wanted : Wanted) (session : ℤ) →
    pairs_of (with_publication (at_request s now handle) client wanted (Make session))
    ≡ pairs_on (added s.streams (s.last_number + 1) client wanted (unwrap_or (place_of_new s wanted) 0) (Make session))
    s.clients.rows s.policy s.epoch
unfolding with_publication heard at_moment touched pairs_of
pairs_same s now handle client wanted session =
    pairs_by (with_publication (at_request s now handle) client wanted (Make session))
    (with_publication s client wanted (Make session)) refl refl refl
    (principal_heard s.clients.rows handle (max s.moment now))

opens : (s : State) (now handle : ℕ) (inputs : Inputs) (client : ℕ) (wanted : Wanted) (session : ℤ) →
    AreInOrder s.streams s.clients.rows s.last_number →
    Opens s (with_publication (at_request s now handle) client wanted (Make session)) inputs (new_log s wanted session)
unfolding with_publication heard at_moment touched pairs_of
opens s now handle inputs client wanted session order =
    let log : LogRow = new_log s wanted session in
    let after : State = with_publication (at_request s now handle) client wanted (Make session) in
    let rows : List Subscription = s.streams.subscriptions in
    let turn = made_turnover s.clients.rows s.policy s.epoch s.streams (s.last_number + 1) client wanted (unwrap_or (place_of_new s wanted) 0) session 0 s.last_number order.sources (omega arith) in
    let same = pairs_same s now handle client wanted session in
    let log_found = found_last source_of 0 s.last_number s.streams.sources log order.sources (omega arith) in
    let found = found_each number_of 0 s.last_number rows order.numbers in
    let pass = is_pair s.clients.rows s.policy s.epoch log in
    record {
      gone = ap (lacking (pairs_of s)) same ∙ turn.gone;
      come = ap (λ (pairs : List Pair). lacking pairs (pairs_of s)) same ∙ turn.come;
      available = told_alike (available_for after inputs.ends) (available_from inputs.ends log) log (reading s log rows)
          (All-filter pass (λ row. available_for after inputs.ends (pair_of log row) ≡ available_from inputs.ends log row) rows
          (λ k d within. available_alike after inputs.ends log (get_or rows k d) log_found (found k d within)));
      decided = told_alike (decided_on after) (decided_from s) log (reading s log rows)
          (All-filter pass (λ row. decided_on after (pair_of log row) ≡ decided_from s row) rows
          (λ k d within. decisions_alike s after log (get_or rows k d) log_found (found k d within) refl refl
          (principal_heard s.clients.rows handle (max s.moment now) (get_or rows k d).client)));
    }

-- where publications are directed is nothing to the pairs
directed_opens : (s after : State) (destinations : DestinationList) (inputs : Inputs) (log : LogRow) →
    Opens s after inputs log → Opens s (record after { destinations = destinations }) inputs log
unfolding pairs_of available_for decided_on
directed_opens s after destinations inputs log opens = record {
  gone = opens.gone;
  come = opens.come;
  available = opens.available;
  decided = opens.decided;
}

pub by_parts : (s : State) (inputs : Inputs) (draft : Draft) (log : LogRow) → draft.later ≡ [] →
    Opens s draft.after inputs log → outcome_by s inputs draft ≡ outcome_opening s inputs (report_of draft) log
unfolding renewed images_told images_decided
by_parts s inputs draft log none parts =
    rw (parts.gone, parts.come, none, parts.available, parts.decided, append-nil _) refl

pub made_is : (s : State) (now handle : ℕ) (inputs : Inputs) (client : Client) (correlation : ℕ) (wanted : Wanted)
    (adding : Adding) (session : ℤ) → AreInOrder s.streams s.clients.rows s.last_number → adding ≡ Make session →
    outcome_by s inputs (published (at_request s now handle) client correlation wanted adding)
    ≡ outcome_opening s inputs
    (record (tells_reply (publication_decision (at_request s now handle) client wanted ∷ []) client.number
    (ready_for wanted correlation (s.last_number + 1) session)) { opens = Some (place_of (new_log s wanted session)) })
    (new_log s wanted session)
unfolding published opening_of with_directed_publication with_publication heard at_moment replied_opening replied told
made_is s now handle inputs client correlation wanted adding session order is =
    ap (λ (one : Adding). outcome_by s inputs (published (at_request s now handle) client correlation wanted one)) is
    ∙ by_parts s inputs (published (at_request s now handle) client correlation wanted (Make session)) (new_log s wanted session)
    refl
    (directed_opens s (with_publication (at_request s now handle) client.number wanted (Make session)) _ inputs
    (new_log s wanted session) (opens s now handle inputs client.number wanted session order))

-- ---- a log that is joined

joined_keeps : (s : State) (client : Client) (wanted : Wanted) (source : ℕ) (session : ℤ) →
    pairs_of (with_directed_publication s client wanted (Join source session)) ≡ pairs_of s
unfolding with_directed_publication with_publication pairs_of pairs_on
joined_keeps s client wanted source session = refl

pub joined_is : (s : State) (now handle : ℕ) (inputs : Inputs) (client : Client) (correlation : ℕ) (wanted : Wanted)
    (adding : Adding) (source : ℕ) (session : ℤ) → adding ≡ Join source session →
    outcome_by s inputs (published (at_request s now handle) client correlation wanted adding)
    ≡ outcome_kept (tells_reply (publication_decision (at_request s now handle) client wanted ∷ []) client.number
    (ready_for wanted correlation (s.last_number + 1) session))
unfolding published opening_of heard at_moment replied_opening replied told
joined_is s now handle inputs client correlation wanted adding source session is =
    ap (λ (one : Adding). outcome_by s inputs (published (at_request s now handle) client correlation wanted one)) is
    ∙ kept s inputs (published (at_request s now handle) client correlation wanted (Join source session))
    (joined_keeps (at_request s now handle) client wanted source session ∙ pairs_heard s now handle)

-- ---- its number

first_of : (a b : Bool) → (a && b) ≡ true → a ≡ true
first_of true b both = refl
first_of false b both = absurd cc

-- one is left already before the client was heard of
pub numbered_before : (s : State) (now handle client : ℕ) (wanted : Wanted) (adding : Adding) →
    has_room_for_publication (at_request s now handle) client wanted adding ≡ true → has_number s ≡ true
unfolding has_number heard at_moment
numbered_before s now handle client wanted adding room =
    let before : State = at_request s now handle in
    first_of (has_number s) (has_room_for_sole before wanted adding)
    (first_of (has_number s && has_room_for_sole before wanted adding)
    (is_within_pairs (with_publication before client wanted adding)) room)
