-- The pairs are those of logs and subscriptions that fit, where the policy allows the image.
use Rattle.std.proofs.Common.{◌≡◌, ℕ, Bool, true, List, [], ◌∷◌, Option, Some, None, map, refl, sym, ap, ◌∙◌, ⊎_elim}
use Rattle.std.specs.List.{All, Contains, filter, flat_map}
use Rattle.std.proofs.lemmas.Bool.{and_parts}
use Rattle.std.proofs.lemmas.List.Elements.{All-append, All-contains, All-contains_itself, All-head, All-map, All-nil, All-tail, All-weaker, Contains-append_cases, Contains-append_left, Contains-append_right, Contains-push, filter_passes}
use Rattle.driver_core.specs.declared.state.event.Event.{Event}
use Rattle.driver_core.specs.declared.state.event.Inputs.{Inputs}
use Rattle.driver_core.specs.Conduct.{coming_to, conduct, drafted, moment_told, state_after}
use Rattle.driver_core.specs.Pairs.{lacking, pairs_of}
use Rattle.driver_core.specs.Renewal.{come_to, gone_from, renewed}
use Rattle.driver_core.specs.State.{State}
use Rattle.driver_core.specs.Unread.{dropping}
use Rattle.driver_laws.specs.ImageLaws.{IsReadBy, IsOfReader, PairsExactly}
use Rattle.driver_laws.specs.NumberLaws.{AreRising}
use Rattle.client_registry.specs.Clients.{principal_at}
use Rattle.policy_core.specs.RuleList.{Rules}
use Rattle.policy_core.specs.Rules.{verdict_of}
use Rattle.stream_registry.specs.declared.pairs.Pair.{Pair}
use Rattle.stream_registry.specs.declared.row.LogRow.{LogRow}
use Rattle.stream_registry.specs.declared.row.Subscription.{Subscription}
use Rattle.stream_registry.specs.Pairs.{fits, image_question, is_allowed, is_allowed_to, is_pair, pair_of, pairs_at, pairs_of as pairs_on}
use Rattle.driver_core.proofs.ListLemmas.{contains_none, left_was_there, only_one, passes_are_left}
use Rattle.driver_core.proofs.VerdictLemmas.{by_policy}
use Rattle.driver_laws.proofs.DroppingLemmas.{pairs_stay}
use Rattle.driver_laws.proofs.NumberLemmas.{draft_rises}
use Rattle.driver_laws.proofs.TurningLemmas.{rising_at}

-- ---- what a map and a flat map have

pub all_parts : {X Y : Type 0} (P : Y → Type 0) (parts : X → List Y) (xs : List X) → All (λ x. All P (parts x)) xs →
    All P (flat_map parts xs)
all_parts P parts [] each = All-nil P
all_parts P parts (x ∷ xs) each =
    All-append P (parts x) (flat_map parts xs) (All-head (λ y. All P (parts y)) x xs each)
    (all_parts P parts xs (All-tail (λ y. All P (parts y)) x xs each))

pub in_part : {X Y : Type 0} (parts : X → List Y) (xs : List X) (x : X) (y : Y) → Contains xs x → Contains (parts x) y →
    Contains (flat_map parts xs) y
in_part parts [] x y there has = absurd (contains_none x there)
in_part parts (z ∷ zs) x y there has =
    ⊎_elim
    (λ first.
    Contains-append_left (parts z) (flat_map parts zs) y (rw (ap parts (only_one z x first)) has))
    (λ later. Contains-append_right (parts z) (flat_map parts zs) y (in_part parts zs x y later has))
    (Contains-append_cases (z ∷ []) zs x there)

pub is_mapped : {X Y : Type 0} (change : X → Y) (xs : List X) (x : X) → Contains xs x → Contains (map change xs) (change x)
is_mapped change [] x there = absurd (contains_none x there)
is_mapped change (z ∷ zs) x there =
    ⊎_elim
    (λ first.
    Contains-append_left (change z ∷ []) (map change zs) (change x) (rw (only_one z x first) (Contains-push [] (change x))))
    (λ later. Contains-append_right (change z ∷ []) (map change zs) (change x) (is_mapped change zs x later))
    (Contains-append_cases (z ∷ []) zs x there)

-- ---- a pair has a log, a subscription and the policy's word

pub record Allowed (policy : Rules) (epoch : ℕ) (subscription : Subscription) (found : Option ℕ) : Type 0 where
  pub principal : ℕ
  pub attached : found ≡ Some principal
  pub allows : (verdict_of policy epoch (image_question principal subscription)).allow ≡ true

pub allowed_to : (policy : Rules) (epoch : ℕ) (subscription : Subscription) (found : Option ℕ) →
    is_allowed_to policy epoch subscription found ≡ true → Allowed policy epoch subscription found
allowed_to policy epoch subscription None allows = absurd (cc)
allowed_to policy epoch subscription (Some principal) allows =
    record { principal = principal; attached = refl; allows = allows }

reads_of : (s : State) (log : LogRow) (subscription : Subscription) →
    Contains s.streams.sources log → Contains s.streams.subscriptions subscription →
    is_pair s.clients.rows s.policy s.epoch log subscription ≡ true → IsReadBy s log subscription
unfolding is_allowed
reads_of s log subscription live stands pairs =
    let parts = and_parts (fits log subscription) (is_allowed s.clients.rows s.policy s.epoch subscription) pairs in
    let allowed =
    allowed_to s.policy s.epoch subscription (principal_at s.clients.rows subscription.client) parts.1
    in
    record {
      principal = allowed.principal;
      is_live = live;
      stands = stands;
      fitting = parts.0;
      attached = allowed.attached;
      by = by_policy s (image_question allowed.principal subscription);
      allowed = allowed.allows;
    }

readers_of_log : (s : State) (log : LogRow) → Contains s.streams.sources log →
    All (IsOfReader s) (pairs_at s.clients.rows s.policy s.epoch s.streams.subscriptions log)
readers_of_log s log live =
    let test : Subscription → Bool = is_pair s.clients.rows s.policy s.epoch log in
    let readers : List Subscription = filter test s.streams.subscriptions in
    All-map (IsOfReader s) (pair_of log) readers
    (All-weaker (Contains readers) (λ subscription. IsOfReader s (pair_of log subscription))
    (λ subscription has.
    record {
      log = log;
      subscription = subscription;
      pair_is = refl;
      reads =
          reads_of s log subscription live (left_was_there test s.streams.subscriptions subscription has)
          (All-contains (λ reader. test reader ≡ true) readers subscription (filter_passes test s.streams.subscriptions) has);
    })
    readers (All-contains_itself readers))

pub has_reader : (s : State) (pair : Pair) → Contains (pairs_of s) pair → IsOfReader s pair
unfolding pairs_of pairs_on
has_reader s pair has =
    All-contains (IsOfReader s) (pairs_of s) pair
    (all_parts (IsOfReader s) (pairs_at s.clients.rows s.policy s.epoch s.streams.subscriptions) s.streams.sources
    (All-weaker (Contains s.streams.sources)
    (λ log.
    All (IsOfReader s) (pairs_at s.clients.rows s.policy s.epoch s.streams.subscriptions log))
    (readers_of_log s) s.streams.sources (All-contains_itself s.streams.sources)))
    has

-- ---- and where these are, there is the pair

is_pair_of : (s : State) (log : LogRow) (subscription : Subscription) → IsReadBy s log subscription →
    is_pair s.clients.rows s.policy s.epoch log subscription ≡ true
unfolding is_allowed
is_pair_of s log subscription reads = rw (reads.fitting, reads.attached, reads.allowed) refl

pub has_pair : (s : State) (log : LogRow) (subscription : Subscription) → IsReadBy s log subscription →
    Contains (pairs_of s) (pair_of log subscription)
unfolding pairs_of pairs_on
has_pair s log subscription reads =
    let test : Subscription → Bool = is_pair s.clients.rows s.policy s.epoch log in
    in_part (pairs_at s.clients.rows s.policy s.epoch s.streams.subscriptions) s.streams.sources log
    (pair_of log subscription) reads.is_live
    (is_mapped (pair_of log) (filter test s.streams.subscriptions) subscription
    (passes_are_left test s.streams.subscriptions subscription (is_pair_of s log subscription reads) reads.stands))

-- ---- exactly these

-- what the event's own rule leaves has the same pairs as what the event leaves
pairs_behind : (s : State) (event : Event) (inputs : Inputs) → AreRising s →
    pairs_of (state_after s event inputs) ≡ pairs_of (drafted (coming_to s event) event inputs).after
unfolding conduct renewed dropping
pairs_behind s event inputs rises =
    let at : State = coming_to s event in
    pairs_stay (drafted at event inputs).after (draft_rises at event inputs (rising_at s (moment_told event) rises)).rises

gone_is : (s : State) (event : Event) (inputs : Inputs) →
    (conduct s event inputs).outcome.gone ≡ gone_from s (drafted (coming_to s event) event inputs).after
unfolding conduct renewed dropping
gone_is s event inputs = refl

come_is : (s : State) (event : Event) (inputs : Inputs) →
    (conduct s event inputs).outcome.come ≡ come_to s (drafted (coming_to s event) event inputs).after
unfolding conduct renewed dropping
come_is s event inputs = refl

pub pairs_exactly : (s : State) → AreRising s → PairsExactly s
pairs_exactly s rises = record {
  only = has_reader s;
  exactly = has_pair s;
  gone = λ event inputs.
      gone_is s event inputs ∙ ap (λ (pairs : List Pair). lacking (pairs_of s) pairs) (sym (pairs_behind s event inputs rises));
  come = λ event inputs.
      come_is s event inputs ∙ ap (λ (pairs : List Pair). lacking pairs (pairs_of s)) (sym (pairs_behind s event inputs rises));
}
