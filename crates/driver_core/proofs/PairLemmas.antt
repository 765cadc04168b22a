-- Events that change no pair.
use Rattle.std.proofs.Common.{◌≡◌, ℕ, ◌==◌, ◌&&◌, ◌||◌, max, Bool, true, false, cond, List, [], ◌∷◌, ◌++◌, map, filter, not, Option, Some, Result, Ok, Err, if◌then◌else◌, refl, sym, subst, ap, ◌∙◌}
use Rattle.std.proofs.lemmas.Bool.{eq-eqb, or_left, or_right}
use Rattle.std.proofs.lemmas.List.{append-nil, append_assoc}
use Rattle.std.specs.List.{flat_map, list_any}
use Rattle.std.specs.Option.{option_map}
use Rattle.driver_core.specs.declared.state.event.Inputs.{Inputs}
use Rattle.driver_core.specs.declared.state.refusal.Refusal.{Refusal}
use Rattle.driver_core.specs.declared.state.refusal.Refusal.TheVariants.{UnknownPublication, UnknownCounter, Denied, Full}
use Rattle.driver_core.specs.declared.state.refused.Refused.{Refused}
use Rattle.driver_core.specs.declared.state.report.Report.{Report}
use Rattle.driver_core.specs.Closing.{keep_alive}
use Rattle.driver_core.specs.Commands.{at_request, body_change, heard, keeps_pairs, requested}
use Rattle.driver_core.specs.Directing.{add_destination, directed, directed_as, directing_of, recalled, recalled_as, recalling_of, remove_destination, with_destination, without_destination}
use Rattle.driver_core.specs.declared.rules.directing.Directed.{Directed}
use Rattle.driver_core.specs.declared.rules.directing.Target.{Target}
use Rattle.command_codec.specs.declared.destination.Destination.{Destination}
use Rattle.driver_core.specs.Counting.{add_counter, counted, counter_decision, has_room_for_counter, set_counter, valued, remove_counter, uncounted, with_counter}
use Rattle.driver_core.specs.Draft.{Draft, refused, replied, told}
use Rattle.driver_core.specs.Leaving.{all_left}
use Rattle.driver_core.specs.Pairs.{pairs_of, lacking, is_same_pair, prospects_of}
use Rattle.driver_core.specs.Refusing.{decisions_by, refused_by}
use Rattle.driver_core.specs.Renewal.{renewed, images_told, images_decided, outcome_by, outcome_kept}
use Rattle.driver_core.specs.State.{State, at_moment}
use Rattle.driver_core.specs.Ticking.{closed_past, late, tick, ticked, timeout_of}
use Rattle.driver_core.specs.Report.{report_of, tells_refusal}
use Rattle.driver_core.specs.Unpublishing.{remove_publication, unpublished}
use Rattle.client_registry.specs.declared.client.Client.{Client}
use Rattle.client_registry.specs.Clients.{client_at, heard_one, principal_at, touched}
use Rattle.command_codec.specs.declared.add_counter.AddCounter.{AddCounter}
use Rattle.command_codec.specs.declared.command.Body.{Body}
use Rattle.command_codec.specs.declared.command.Body.TheVariants.{AddPublication as Publishes, AddExclusivePublication as PublishesExclusively, RemovePublication as Unpublishes, AddSubscription as Adds, RemoveSubscription as Removes, ClientKeepalive as Keeps, AddDestination as Directs, RemoveDestination as Recalls, AddCounter as AddsCounter, RemoveCounter as RemovesCounter, ClientClose as Closes, TerminateDriver as Terminates, SetCounter as Sets}
use Rattle.command_codec.specs.declared.command.Command.{Command}
use Rattle.command_codec.specs.declared.removal.Removal.{Removal}
use Rattle.command_codec.specs.declared.set_counter.SetCounter.{SetCounter}
use Rattle.counters.specs.Counters.{has}
use Rattle.log_readers.proofs.SameLemmas.{unregistered_alike}
use Rattle.policy_core.specs.declared.decision.Decision.{Decision}
use Rattle.policy_core.specs.RuleList.{Rules}
use Rattle.stream_registry.specs.declared.pairs.Pair.{Pair}
use Rattle.stream_registry.specs.declared.row.LogRow.{LogRow}
use Rattle.stream_registry.specs.declared.row.Subscription.{Subscription}
use Rattle.stream_registry.specs.Leaving.{has_registration, unregistered}
use Rattle.stream_registry.specs.Lingering.{closed, closing_of, is_closing, place_of, stays_live}
use Rattle.stream_registry.specs.Pairs.{fits, is_allowed, is_allowed_to, pair_of, pairs_at, pairs_of as pairs_on, is_ever_allowed, prospects_of as prospects_on}
use Rattle.stream_registry.specs.Streams.{Streams}

-- ---- whom a client acts for, once it was heard of

row_principal : (b : Bool) (row : Client) (moment : ℕ) → (cond b (record row { heard = moment }) row).principal ≡ row.principal
row_principal true row moment = refl
row_principal false row moment = refl

pub row_number : (b : Bool) (row : Client) (moment : ℕ) → (cond b (record row { heard = moment }) row).number ≡ row.number
row_number true row moment = refl
row_number false row moment = refl

principal_in : (b : Bool) (row other : Client) (rest others : Option Client) → row.principal ≡ other.principal →
    option_map (λ (client : Client). client.principal) rest ≡ option_map (λ (client : Client). client.principal) others →
    option_map (λ (client : Client). client.principal) (cond b (Some row) rest)
    ≡ option_map (λ (client : Client). client.principal) (cond b (Some other) others)
principal_in true row other rest others same later = ap Some same
principal_in false row other rest others same later = later

pub principal_heard : (rows : List Client) (handle moment number : ℕ) →
    principal_at (map (heard_one handle moment) rows) number ≡ principal_at rows number
principal_heard [] handle moment number = refl
principal_heard (row ∷ rows) handle moment number =
    let same : (heard_one handle moment row).number ≡ row.number = row_number (row.number == handle) row (max row.heard moment) in
    rw same
    (principal_in (row.number == number) (heard_one handle moment row) row
    (client_at (map (heard_one handle moment) rows) number) (client_at rows number)
    (row_principal (row.number == handle) row (max row.heard moment))
    (principal_heard rows handle moment number))

-- ---- the pairs are by the lists, the policy and whom clients act for

abbrev by_principals : (ℕ → Option ℕ) → Rules → ℕ → LogRow → Subscription → Bool
by_principals principals policy epoch log subscription =
    fits log subscription && is_allowed_to policy epoch subscription (principals subscription.client)

abbrev pairs_with : (ℕ → Option ℕ) → Rules → ℕ → Streams → List Pair
pairs_with principals policy epoch streams =
    flat_map (λ (log : LogRow).
    map (pair_of log) (filter (by_principals principals policy epoch log) streams.subscriptions)) streams.sources

pairs_are : (s : State) → pairs_of s ≡ pairs_with (principal_at s.clients.rows) s.policy s.epoch s.streams
unfolding pairs_of pairs_on is_allowed
pairs_are s = refl

pub pairs_by : (s t : State) → s.streams ≡ t.streams → s.policy ≡ t.policy → s.epoch ≡ t.epoch →
    ((n : ℕ) → principal_at s.clients.rows n ≡ principal_at t.clients.rows n) → pairs_of s ≡ pairs_of t
pairs_by s t streams policy epoch principals =
    pairs_are s ∙ (λ i. pairs_with (λ n. principals n i) (policy i) (epoch i) (streams i)) ∙ sym (pairs_are t)

-- and so are those that may yet be, by what the policy becomes too

abbrev may_by_principals : (ℕ → Option ℕ) → Rules → List Rules → ℕ → LogRow → Subscription → Bool
may_by_principals principals policy coming epoch log subscription =
    fits log subscription
    && (is_allowed_to policy epoch subscription (principals subscription.client)
    || list_any (λ later. is_allowed_to later epoch subscription (principals subscription.client)) coming)

abbrev prospects_with : (ℕ → Option ℕ) → Rules → List Rules → ℕ → Streams → List Pair
prospects_with principals policy coming epoch streams =
    flat_map (λ (log : LogRow).
    map (pair_of log) (filter (may_by_principals principals policy coming epoch log) streams.subscriptions)) streams.sources

prospects_are : (s : State) → prospects_of s ≡ prospects_with (principal_at s.clients.rows) s.policy s.prospects s.epoch s.streams
unfolding prospects_of prospects_on is_ever_allowed is_allowed
prospects_are s = refl

pub prospects_by : (s t : State) → s.streams ≡ t.streams → s.policy ≡ t.policy → s.prospects ≡ t.prospects → s.epoch ≡ t.epoch →
    ((n : ℕ) → principal_at s.clients.rows n ≡ principal_at t.clients.rows n) → prospects_of s ≡ prospects_of t
prospects_by s t streams policy coming epoch principals =
    prospects_are s ∙ (λ i. prospects_with (λ n. principals n i) (policy i) (coming i) (epoch i) (streams i)) ∙ sym (prospects_are t)

-- where the policy becomes no other they are the pairs

or_false : (b : Bool) → (b || false) ≡ b
or_false true = refl
or_false false = refl

settled_on : (s : Streams) (clients : List Client) (policy : Rules) (epoch : ℕ) → prospects_on s clients policy [] epoch ≡ pairs_on s clients policy epoch
unfolding prospects_on pairs_on is_ever_allowed
settled_on s clients policy epoch = λ i.
    flat_map (λ (log : LogRow).
    map (pair_of log) (filter (λ (subscription : Subscription). fits log subscription && or_false (is_allowed clients policy epoch subscription) i) s.subscriptions))
    s.sources

pub settled_pairs : (s : State) → s.prospects ≡ [] → pairs_of s ≡ prospects_of s
unfolding prospects_of pairs_of
settled_pairs s none =
    sym (ap (λ (coming : List Rules). prospects_on s.streams s.clients.rows s.policy coming s.epoch) none
    ∙ settled_on s.streams s.clients.rows s.policy s.epoch)

-- a command alone changes no pair
pub pairs_heard : (s : State) (now handle : ℕ) → pairs_of (heard (at_moment s now) handle) ≡ pairs_of s
unfolding heard at_moment touched
pairs_heard s now handle =
    pairs_by (heard (at_moment s now) handle) s refl refl refl (principal_heard s.clients.rows handle (max s.moment now))

-- ---- where the pairs stay, nothing is added

is_itself : (pair : Pair) → is_same_pair pair pair ≡ true
is_itself pair = rw (eq-eqb pair.source pair.source refl, eq-eqb pair.subscription pair.subscription refl) refl

is_there : (before rest : List Pair) (pair : Pair) → list_any (is_same_pair pair) (before ++ pair ∷ rest) ≡ true
is_there [] rest pair = or_left (is_same_pair pair pair) _ (is_itself pair)
is_there (other ∷ before) rest pair = or_right (is_same_pair pair other) _ (is_there before rest pair)

lacks_none : (before rest : List Pair) → lacking rest (before ++ rest) ≡ []
lacks_none before [] = refl
lacks_none before (pair ∷ rest) =
    rw (is_there before rest pair)
    (subst (λ (others : List Pair). lacking rest others ≡ []) (append_assoc before (pair ∷ []) rest)
    (lacks_none (before ++ pair ∷ []) rest))

pub nothing_lacks : (pairs : List Pair) → lacking pairs pairs ≡ []
nothing_lacks pairs = lacks_none [] pairs

-- a draft is told as it is, with the later replies behind the others
pub kept : (s : State) (inputs : Inputs) (draft : Draft) → pairs_of draft.after ≡ pairs_of s →
    outcome_by s inputs draft ≡ outcome_kept (report_of draft)
unfolding renewed images_told images_decided
kept s inputs draft same = rw (same, nothing_lacks (pairs_of s), append-nil draft.decisions) refl

-- ---- what changes no pair

either_keeps : (s : State) (b : Bool) (draft other : Draft) → pairs_of draft.after ≡ pairs_of s →
    pairs_of other.after ≡ pairs_of s → pairs_of (if b then draft else other).after ≡ pairs_of s
either_keeps s true draft other first second = first
either_keeps s false draft other first second = second

refused_keeps : (s : State) (decisions : List Decision) (client correlation : ℕ) (refusal : Refusal) →
    pairs_of (refused s decisions client correlation refusal).after ≡ pairs_of s
unfolding refused replied told
refused_keeps s decisions client correlation refusal = refl

pub refused_kept : (s : State) (now : ℕ) (inputs : Inputs) (client correlation : ℕ) (refusal : Refusal) →
    outcome_by s inputs (refused (at_moment s now) [] client correlation refusal)
    ≡ outcome_kept (tells_refusal [] client correlation refusal)
unfolding refused replied told at_moment pairs_of
refused_kept s now inputs client correlation refusal =
    kept s inputs (refused (at_moment s now) [] client correlation refusal) refl

pub asking_refused : (s : State) (now handle : ℕ) (inputs : Inputs) (client correlation : ℕ) (why : Refused) →
    outcome_by s inputs (refused_by (at_request s now handle) client correlation why)
    ≡ outcome_kept (tells_refusal (decisions_by why.decision) client correlation why.refusal)
unfolding refused replied told
asking_refused s now handle inputs client correlation why =
    kept s inputs (refused_by (at_request s now handle) client correlation why) (pairs_heard s now handle)

directed_keeps : (s : State) (client : Client) (correlation : ℕ) (found : Result Directed Refused) →
    pairs_of (directed_as s client correlation found).after ≡ pairs_of s
unfolding directed with_destination replied told pairs_of
directed_keeps s client correlation (Ok granted) = refl
directed_keeps s client correlation (Err why) =
    refused_keeps s (decisions_by why.decision) client.number correlation why.refusal

destination_added : (s : State) (client : Client) (correlation : ℕ) (fields : Destination) →
    pairs_of (add_destination s client correlation fields).after ≡ pairs_of s
unfolding add_destination
destination_added s client correlation fields = directed_keeps s client correlation (directing_of s client fields)

recalled_keeps : (s : State) (client : Client) (correlation : ℕ) (found : Result Target Refused) →
    pairs_of (recalled_as s client correlation found).after ≡ pairs_of s
unfolding recalled without_destination replied told pairs_of
recalled_keeps s client correlation (Ok target) = refl
recalled_keeps s client correlation (Err why) =
    refused_keeps s (decisions_by why.decision) client.number correlation why.refusal

destination_removed : (s : State) (client : Client) (correlation : ℕ) (fields : Destination) →
    pairs_of (remove_destination s client correlation fields).after ≡ pairs_of s
unfolding remove_destination
destination_removed s client correlation fields =
    recalled_keeps s client correlation (recalling_of s client.number fields)

counted_keeps : (s : State) (client : Client) (correlation : ℕ) (fields : AddCounter) →
    pairs_of (counted s client correlation fields).after ≡ pairs_of s
unfolding counted with_counter replied told pairs_of
counted_keeps s client correlation fields = refl

counter_added : (s : State) (client : Client) (correlation : ℕ) (fields : AddCounter) →
    pairs_of (add_counter s client correlation fields).after ≡ pairs_of s
unfolding add_counter
counter_added s client correlation fields =
    let decision = counter_decision s client fields in
    either_keeps s (not decision.verdict.allow) _ _
    (refused_keeps s (decision ∷ []) client.number correlation (Denied decision.verdict))
    (either_keeps s (has_room_for_counter s) _ _ (counted_keeps s client correlation fields)
    (refused_keeps s (decision ∷ []) client.number correlation Full))

valued_keeps : (s : State) (client : Client) (correlation : ℕ) (fields : SetCounter) →
    pairs_of (valued s client correlation fields).after ≡ pairs_of s
unfolding valued replied told pairs_of
valued_keeps s client correlation fields = refl

counter_set : (s : State) (client : Client) (correlation : ℕ) (fields : SetCounter) →
    pairs_of (set_counter s client correlation fields).after ≡ pairs_of s
unfolding set_counter
counter_set s client correlation fields =
    either_keeps s (has s.counters client.number fields.registration) _ _ (valued_keeps s client correlation fields)
    (refused_keeps s [] client.number correlation UnknownCounter)

uncounted_keeps : (s : State) (client : Client) (correlation number : ℕ) →
    pairs_of (uncounted s client correlation number).after ≡ pairs_of s
unfolding uncounted told pairs_of
uncounted_keeps s client correlation number = refl

counter_removed : (s : State) (client : Client) (correlation : ℕ) (fields : Removal) →
    pairs_of (remove_counter s client correlation fields).after ≡ pairs_of s
unfolding remove_counter
counter_removed s client correlation fields =
    either_keeps s (has s.counters client.number fields.registration) _ _
    (uncounted_keeps s client correlation fields.registration)
    (refused_keeps s [] client.number correlation UnknownCounter)

pairs_settled : (s : State) (client number : ℕ) →
    pairs_of (record s { streams = unregistered s.streams client number s.moment }) ≡ pairs_of s
unfolding pairs_of
pairs_settled s client number = (unregistered_alike s.policy s.epoch s.streams s.clients.rows client number s.moment).pairs

unpublished_keeps : (s : State) (client : Client) (correlation number : ℕ) →
    pairs_of (unpublished s client correlation number).after ≡ pairs_of s
unfolding unpublished replied told
unpublished_keeps s client correlation number = pairs_settled s client.number number

publication_removed : (s : State) (client : Client) (correlation : ℕ) (fields : Removal) →
    pairs_of (remove_publication s client correlation fields).after ≡ pairs_of s
unfolding remove_publication
publication_removed s client correlation fields =
    either_keeps s (has_registration s.streams client.number fields.registration) _ _
    (unpublished_keeps s client correlation fields.registration)
    (refused_keeps s [] client.number correlation UnknownPublication)

kept_alive : (s : State) → pairs_of (keep_alive s).after ≡ pairs_of s
unfolding keep_alive told
kept_alive s = refl

body_keeps : (s : State) (client : Client) (correlation : ℕ) (body : Body) → keeps_pairs body ≡ true →
    pairs_of (body_change s client correlation body).after ≡ pairs_of s
body_keeps s client correlation Keeps keeps = kept_alive s
body_keeps s client correlation (Directs fields) keeps = destination_added s client correlation fields
body_keeps s client correlation (Recalls fields) keeps = destination_removed s client correlation fields
body_keeps s client correlation (AddsCounter fields) keeps = counter_added s client correlation fields
body_keeps s client correlation (RemovesCounter fields) keeps = counter_removed s client correlation fields
body_keeps s client correlation (Sets fields) keeps = counter_set s client correlation fields
body_keeps s client correlation (Publishes fields) keeps = absurd cc
body_keeps s client correlation (PublishesExclusively fields) keeps = absurd cc
body_keeps s client correlation (Unpublishes fields) keeps = publication_removed s client correlation fields
body_keeps s client correlation (Adds fields) keeps = absurd cc
body_keeps s client correlation (Removes fields) keeps = absurd cc
body_keeps s client correlation Closes keeps = absurd cc
body_keeps s client correlation (Terminates fields) keeps = absurd cc

pub request_kept : (s : State) (now handle : ℕ) (inputs : Inputs) (client : Client) (command : Command) →
    keeps_pairs command.body ≡ true →
    outcome_by s inputs (requested (at_request s now handle) client command)
    ≡ outcome_kept (report_of (requested (at_request s now handle) client command))
unfolding requested
request_kept s now handle inputs client command keeps =
    kept s inputs (requested (at_request s now handle) client command)
    (body_keeps (at_request s now handle) client command.correlation command.body keeps ∙ pairs_heard s now handle)

-- ---- time goes on, and nobody is late and nothing closes

none_late : (clients : List ℕ) → map timeout_of clients ≡ [] → clients ≡ []
none_late [] none = refl
none_late (client ∷ clients) none = absurd cc

one_stays : (now : ℕ) (silent : List ℕ) (closes : Bool) (log : LogRow) (logs : List LogRow) →
    is_closing now silent log ≡ closes → map place_of (filter (is_closing now silent) (log ∷ logs)) ≡ [] →
    (map place_of (filter (is_closing now silent) logs) ≡ [] → filter (stays_live now silent) logs ≡ logs) →
    filter (stays_live now silent) (log ∷ logs) ≡ log ∷ logs
one_stays now silent true log logs is none others =
    let some :
    map place_of (filter (is_closing now silent) (log ∷ logs)) ≡ place_of log ∷ map place_of (filter (is_closing now silent) logs) =
    rw is refl in
    absurd cc
one_stays now silent false log logs is none others =
    let rest : map place_of (filter (is_closing now silent) logs) ≡ [] = (rw is refl) ∙ none in
    rw is (ap (λ (kept : List LogRow). log ∷ kept) (others rest))

all_stay : (now : ℕ) (silent : List ℕ) (logs : List LogRow) → map place_of (filter (is_closing now silent) logs) ≡ [] →
    filter (stays_live now silent) logs ≡ logs
all_stay now silent [] none = refl
all_stay now silent (log ∷ logs) none =
    one_stays now silent (is_closing now silent log) log logs refl none (all_stay now silent logs)

ticked_keeps : (s : State) (clients silent : List ℕ) → clients ≡ [] →
    (ticked (all_left s clients) clients silent).closes ≡ [] →
    pairs_of (ticked (all_left s clients) clients silent).after ≡ pairs_of s
unfolding ticked closed_past closed closing_of pairs_of pairs_on
ticked_keeps s [] silent none closes =
    ap (λ (logs : List LogRow). flat_map (pairs_at s.clients.rows s.policy s.epoch s.streams.subscriptions) logs)
    (all_stay s.moment silent s.streams.sources closes)
ticked_keeps s (client ∷ clients) silent none closes = absurd cc

tick_keeps : (s : State) (silent : List ℕ) → (tick s silent).later ≡ [] → (tick s silent).closes ≡ [] →
    pairs_of (tick s silent).after ≡ pairs_of s
unfolding tick ticked
tick_keeps s silent later closes = ticked_keeps s (late s) silent (none_late (late s) later) closes

same_moment : (s : State) (now : ℕ) → pairs_of (at_moment s now) ≡ pairs_of s
unfolding at_moment pairs_of
same_moment s now = refl

pub tick_kept : (s : State) (now : ℕ) (inputs : Inputs) (told : Report) → told ≡ report_of (tick (at_moment s now) inputs.silent) →
    told.later ≡ [] → told.closes ≡ [] →
    outcome_by s inputs (tick (at_moment s now) inputs.silent) ≡ outcome_kept told
tick_kept s now inputs told is later closes =
    let late_none : (tick (at_moment s now) inputs.silent).later ≡ [] = sym (ap (λ (t : Report). t.later) is) ∙ later in
    let closes_none : (tick (at_moment s now) inputs.silent).closes ≡ [] = sym (ap (λ (t : Report). t.closes) is) ∙ closes in
    kept s inputs (tick (at_moment s now) inputs.silent) (tick_keeps (at_moment s now) inputs.silent late_none closes_none ∙ same_moment s now)
    ∙ ap outcome_kept (sym is)
