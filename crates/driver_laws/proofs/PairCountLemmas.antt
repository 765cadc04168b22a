-- An event that grants nothing makes no more pairs, those counted that may yet be.
use Rattle.std.proofs.Common.{◌≡◌, ℕ, ◌+◌, ◌≤◌, ◌==◌, ◌&&◌, ◌||◌, max, not, Bool, true, false, cond, List, [], ◌∷◌, ◌++◌, length, map, filter, Option, Some, refl, sym, subst, ap, ◌∙◌, arith}
use Rattle.std.specs.List.{Contains, flat_map, list_any}
use Rattle.std.specs.Option.{option_map}
use Rattle.std.proofs.Math.Nat.{le-max_left}
use Rattle.std.proofs.lemmas.Bool.{and_parts, eqb-true}
use Rattle.std.proofs.lemmas.List.{length-append, length-map}
use Rattle.std.proofs.lemmas.List.Elements.{All-contains, Contains-append_left, Contains-append_right, Contains-push, filter_passes}
use Rattle.driver_core.specs.Leaving.{all_left, left}
use Rattle.driver_core.specs.Pairs.{pairs_of, prospects_of}
use Rattle.driver_core.specs.Looking.{IsAtItsMoment}
use Rattle.driver_core.specs.State.{State, ruled}
use Rattle.driver_core.specs.Unread.{without_unread}
use Rattle.driver_laws.specs.OwnerLaws.{HaveTheirClients}
use Rattle.client_registry.specs.declared.client.Client.{Client}
use Rattle.client_registry.specs.Clients.{admitted, client_at, is_other, principal_at, without}
use Rattle.log_readers.specs.Unread.{is_kept, without_unread as without_unread_in}
use Rattle.policy_core.specs.Moments.{at, coming}
use Rattle.policy_core.specs.RuleList.{Rules}
use Rattle.stream_registry.specs.declared.pairs.Pair.{Pair}
use Rattle.stream_registry.specs.declared.row.Origin.{Origin}
use Rattle.stream_registry.specs.declared.row.Origin.TheVariants.{Published, Remote}
use Rattle.stream_registry.specs.declared.row.LogRow.{LogRow}
use Rattle.stream_registry.specs.declared.row.Registration.{Registration}
use Rattle.stream_registry.specs.declared.row.Subscription.{Subscription}
use Rattle.stream_registry.specs.Leaving.{is_another_subscription, is_registration_of_another, is_subscription_of_another, left as left_in, unregistered, unsubscribed}
use Rattle.stream_registry.specs.Lingering.{closed, is_used, left_alone, settled, settled_one, stays_live}
use Rattle.stream_registry.specs.Origins.{left_by}
use Rattle.stream_registry.specs.Pairs.{fits, is_allowed, is_allowed_to, is_ever_allowed, is_pair, is_prospect, pair_of, pairs_at, pairs_of as pairs_on, prospects_at, prospects_of as prospects_on, reaches}
use Rattle.stream_registry.specs.Streams.{Streams}
use Rattle.driver_core.proofs.PairLemmas.{settled_pairs}
use Rattle.driver_laws.proofs.EverLemmas.{sooner_allowed}

-- ---- how many rows pass

one_passing : {X : Type 0} (b c : Bool) (x : X) (some more : List X) → (b ≡ true → c ≡ true) → length some ≤ length more →
    length (cond b (x ∷ some) some) ≤ length (cond c (x ∷ more) more)
one_passing true true x some more both few = omega (arith, few)
one_passing true false x some more both few = absurd (cc (both refl))
one_passing false true x some more both few = omega (arith, few)
one_passing false false x some more both few = few

-- where each row that passes the one test passes the other
passing : {X : Type 0} (test other : X → Bool) (xs : List X) →
    ((x : X) → Contains xs x → test x ≡ true → other x ≡ true) → length (filter test xs) ≤ length (filter other xs)
passing test other [] each = omega arith
passing test other (x ∷ xs) each =
    one_passing (test x) (other x) x (filter test xs) (filter other xs)
    (each x (Contains-append_left (x ∷ []) xs x (Contains-push [] x)))
    (passing test other xs (λ y has. each y (Contains-append_right (x ∷ []) xs y has)))

one_filtered : {X : Type 0} (test : X → Bool) (b : Bool) (x : X) (some more : List X) →
    length (filter test some) ≤ length (filter test more) →
    length (filter test (cond b (x ∷ some) some)) ≤ length (filter test (x ∷ more))
one_filtered test true x some more few =
    one_passing (test x) (test x) x (filter test some) (filter test more) (λ passes. passes) few
one_filtered test false x some more few =
    one_passing false (test x) x (filter test some) (filter test more) (λ none. absurd (cc none)) few

filtered : {X : Type 0} (test stays : X → Bool) (xs : List X) →
    length (filter test (filter stays xs)) ≤ length (filter test xs)
filtered test stays [] = omega arith
filtered test stays (x ∷ xs) = one_filtered test (stays x) x (filter stays xs) xs (filtered test stays xs)

-- ---- how many each of them has

of_each : {X Y : Type 0} (parts more : X → List Y) (xs : List X) → ((x : X) → length (parts x) ≤ length (more x)) →
    length (flat_map parts xs) ≤ length (flat_map more xs)
of_each parts more [] each = omega arith
of_each parts more (x ∷ xs) each =
    let first = each x in
    let rest = of_each parts more xs each in
    let some : length (parts x ++ flat_map parts xs) ≡ length (parts x) + length (flat_map parts xs) =
    length-append (parts x) (flat_map parts xs) in
    let all : length (more x ++ flat_map more xs) ≡ length (more x) + length (flat_map more xs) =
    length-append (more x) (flat_map more xs) in
    omega (arith, first, rest, some, all)

one_kept : {X Y : Type 0} (parts : X → List Y) (b : Bool) (x : X) (some more : List X) →
    length (flat_map parts some) ≤ length (flat_map parts more) →
    length (flat_map parts (cond b (x ∷ some) some)) ≤ length (parts x ++ flat_map parts more)
one_kept parts true x some more few =
    let left' : length (parts x ++ flat_map parts some) ≡ length (parts x) + length (flat_map parts some) =
    length-append (parts x) (flat_map parts some) in
    let all : length (parts x ++ flat_map parts more) ≡ length (parts x) + length (flat_map parts more) =
    length-append (parts x) (flat_map parts more) in
    omega (arith, few, left', all)
one_kept parts false x some more few =
    let all : length (parts x ++ flat_map parts more) ≡ length (parts x) + length (flat_map parts more) =
    length-append (parts x) (flat_map parts more) in
    omega (arith, few, all)

of_those_kept : {X Y : Type 0} (parts : X → List Y) (stays : X → Bool) (xs : List X) →
    length (flat_map parts (filter stays xs)) ≤ length (flat_map parts xs)
of_those_kept parts stays [] = omega arith
of_those_kept parts stays (x ∷ xs) =
    one_kept parts (stays x) x (filter stays xs) xs (of_those_kept parts stays xs)

of_changed : {X Y : Type 0} (parts : X → List Y) (change : X → X) (xs : List X) →
    ((x : X) → parts (change x) ≡ parts x) → flat_map parts (map change xs) ≡ flat_map parts xs
of_changed parts change [] same = refl
of_changed parts change (x ∷ xs) same = rw (same x, of_changed parts change xs same) refl

-- ---- the pairs of one log

left_prospects : (clients : List Client) (policy : Rules) (next : List Rules) (epoch : ℕ) (subscriptions : List Subscription) (now : ℕ)
    (log : LogRow) (origin : Origin) →
    prospects_at clients policy next epoch subscriptions (record log { origin = left_by now origin })
    ≡ prospects_at clients policy next epoch subscriptions (record log { origin = origin })
unfolding fits reaches
left_prospects clients policy next epoch subscriptions now log (Published exclusive since) = refl
left_prospects clients policy next epoch subscriptions now log (Remote address initial_term join) = refl

one_settled : (b : Bool) (clients : List Client) (policy : Rules) (next : List Rules) (epoch : ℕ) (subscriptions : List Subscription) (now : ℕ)
    (log : LogRow) →
    prospects_at clients policy next epoch subscriptions (cond b log (left_alone now log))
    ≡ prospects_at clients policy next epoch subscriptions log
one_settled true clients policy next epoch subscriptions now log = refl
one_settled false clients policy next epoch subscriptions now log =
    left_prospects clients policy next epoch subscriptions now log log.origin

-- that a log lingers makes no difference to its pairs
prospects_settled : (clients : List Client) (policy : Rules) (next : List Rules) (epoch : ℕ) (subscriptions : List Subscription)
    (registrations : List Registration) (now : ℕ) (logs : List LogRow) →
    flat_map (prospects_at clients policy next epoch subscriptions) (map (settled_one registrations now) logs)
    ≡ flat_map (prospects_at clients policy next epoch subscriptions) logs
prospects_settled clients policy next epoch subscriptions registrations now logs =
    of_changed (prospects_at clients policy next epoch subscriptions) (settled_one registrations now) logs
    (λ log. one_settled (is_used registrations log.number) clients policy next epoch subscriptions now log)

readers_counted : (clients : List Client) (policy : Rules) (next : List Rules) (epoch : ℕ) (subscriptions : List Subscription)
    (log : LogRow) →
    length (prospects_at clients policy next epoch subscriptions log)
    ≡ length (filter (is_prospect clients policy next epoch log) subscriptions)
readers_counted clients policy next epoch subscriptions log =
    length-map (filter (is_prospect clients policy next epoch log) subscriptions) (pair_of log)

-- whom the subscription's client acts for decides
prospect_by : (clients others : List Client) (policy : Rules) (next : List Rules) (epoch : ℕ) (log : LogRow) (subscription : Subscription) →
    principal_at clients subscription.client ≡ principal_at others subscription.client →
    is_prospect clients policy next epoch log subscription ≡ is_prospect others policy next epoch log subscription
unfolding is_ever_allowed is_allowed
prospect_by clients others policy next epoch log subscription same =
    ap (λ (found : Option ℕ).
    fits log subscription
    && (is_allowed_to policy epoch subscription found
    || list_any (λ (later : Rules). is_allowed_to later epoch subscription found) next)) same

-- the clients of these subscriptions act for whom they did
abbrev ActAsBefore : List Client → List Client → List Subscription → Type 0
ActAsBefore clients others subscriptions =
    (subscription : Subscription) → Contains subscriptions subscription →
    principal_at clients subscription.client ≡ principal_at others subscription.client

no_more_readers : (clients others : List Client) (policy : Rules) (next : List Rules) (epoch : ℕ) (stays : Subscription → Bool)
    (subscriptions : List Subscription) (log : LogRow) → ActAsBefore clients others (filter stays subscriptions) →
    length (prospects_at clients policy next epoch (filter stays subscriptions) log)
    ≤ length (prospects_at others policy next epoch subscriptions log)
no_more_readers clients others policy next epoch stays subscriptions log same =
    let left' : List Subscription = filter stays subscriptions in
    let some = readers_counted clients policy next epoch left' log in
    let all = readers_counted others policy next epoch subscriptions log in
    let few = passing (is_prospect clients policy next epoch log) (is_prospect others policy next epoch log) left'
    (λ subscription has is.
    sym (prospect_by clients others policy next epoch log subscription (same subscription has)) ∙ is) in
    let fewer = filtered (is_prospect others policy next epoch log) stays subscriptions in
    omega (arith, some, all, few, fewer)

same_readers : (clients others : List Client) (policy : Rules) (next : List Rules) (epoch : ℕ) (subscriptions : List Subscription)
    (log : LogRow) → ActAsBefore clients others subscriptions →
    length (prospects_at clients policy next epoch subscriptions log) ≤ length (prospects_at others policy next epoch subscriptions log)
same_readers clients others policy next epoch subscriptions log same =
    let some = readers_counted clients policy next epoch subscriptions log in
    let all = readers_counted others policy next epoch subscriptions log in
    let few = passing (is_prospect clients policy next epoch log) (is_prospect others policy next epoch log) subscriptions
    (λ subscription has is.
    sym (prospect_by clients others policy next epoch log subscription (same subscription has)) ∙ is) in
    omega (arith, some, all, few)

-- ---- whom clients act for where one goes or comes

abbrev principal_of : Client → ℕ
principal_of client = client.principal

one_stays : (stays own : Bool) (row : Client) (rest all : List Client) (number : ℕ) → (own ≡ true → stays ≡ true) →
    (row.number == number) ≡ own → client_at rest number ≡ client_at all number →
    client_at (cond stays (row ∷ rest) rest) number ≡ cond own (Some row) (client_at all number)
one_stays true own row rest all number kept is later = rw (is, later) refl
one_stays false true row rest all number kept is later = absurd (cc (kept refl))
one_stays false false row rest all number kept is later = later

-- who is another stays
others_stay : (rows : List Client) (gone number : ℕ) → (number == gone) ≡ false →
    client_at (filter (is_other gone) rows) number ≡ client_at rows number
others_stay [] gone number other = refl
others_stay (row ∷ rows) gone number other =
    one_stays (is_other gone row) (row.number == number) row (filter (is_other gone) rows) rows number
    (λ own.
    let same : row.number ≡ number = eqb-true row.number number own in
    rw (same, other) refl)
    refl (others_stay rows gone number other)

one_there : (own later : Bool) (row : Client) (rest more : Option Client) → (own || later) ≡ true →
    (later ≡ true → more ≡ rest) → cond own (Some row) more ≡ cond own (Some row) rest
one_there true later row rest more there stays = refl
one_there false later row rest more there stays = stays there

-- who was there stays where another one comes
first_stays : (rows : List Client) (new : Client) (number : ℕ) →
    list_any (λ (row : Client). row.number == number) rows ≡ true →
    client_at (rows ++ new ∷ []) number ≡ client_at rows number
first_stays [] new number there = absurd (cc there)
first_stays (row ∷ rows) new number there =
    one_there (row.number == number) (list_any (λ (other : Client). other.number == number) rows) row
    (client_at rows number) (client_at (rows ++ new ∷ []) number) there (first_stays rows new number)

-- ---- no more pairs that may yet be

-- the one registry has no more of them than the other
abbrev pub HasNoMoreProspects : State → State → Type 0
HasNoMoreProspects s after = length (prospects_of after) ≤ length (prospects_of s)

-- a client that comes has no subscription yet
pub prospects_attached : (s : State) (principal : ℕ) → HaveTheirClients s →
    HasNoMoreProspects s (record s { clients = admitted s.clients principal s.moment })
unfolding prospects_of prospects_on admitted
prospects_attached s principal owned =
    of_each _ _ s.streams.sources
    (λ log.
    same_readers _ s.clients.rows s.policy s.prospects s.epoch s.streams.subscriptions log
    (λ subscription has.
    ap (option_map principal_of)
    (first_stays s.clients.rows _ subscription.client (owned.subscriptions subscription has))))

-- a registration that goes takes none away
pub prospects_unregistered : (s : State) (client number now : ℕ) →
    prospects_of (record s { streams = unregistered s.streams client number now }) ≡ prospects_of s
unfolding prospects_of prospects_on unregistered settled
prospects_unregistered s client number now =
    prospects_settled s.clients.rows s.policy s.prospects s.epoch s.streams.subscriptions _ now s.streams.sources

pub prospects_unsubscribed : (s : State) (client number : ℕ) →
    HasNoMoreProspects s (record s { streams = unsubscribed s.streams client number })
unfolding prospects_of prospects_on unsubscribed
prospects_unsubscribed s client number =
    of_each _ _ s.streams.sources
    (λ log.
    no_more_readers s.clients.rows s.clients.rows s.policy s.prospects s.epoch (is_another_subscription client number)
    s.streams.subscriptions log (λ subscription has. refl))

not_own : (b : Bool) → not b ≡ true → b ≡ false
not_own true other = absurd (cc other)
not_own false other = refl

pub prospects_left : (s : State) (client : ℕ) → HasNoMoreProspects s (left s client)
unfolding prospects_of prospects_on left left_in settled without
prospects_left s client =
    let rows : List Client = filter (is_other client) s.clients.rows in
    let stays : List Subscription = filter (is_subscription_of_another client) s.streams.subscriptions in
    let same = ap (λ (pairs : List Pair). length pairs)
    (prospects_settled rows s.policy s.prospects s.epoch stays (filter (is_registration_of_another client) s.streams.registrations) s.moment
    s.streams.sources) in
    let few = of_each (prospects_at rows s.policy s.prospects s.epoch stays) (prospects_at s.clients.rows s.policy s.prospects s.epoch s.streams.subscriptions)
    s.streams.sources
    (λ log.
    no_more_readers rows s.clients.rows s.policy s.prospects s.epoch (is_subscription_of_another client) s.streams.subscriptions log
    (λ subscription has.
    ap (option_map principal_of)
    (others_stay s.clients.rows client subscription.client
    (not_own (subscription.client == client)
    (All-contains (λ row. is_subscription_of_another client row ≡ true) _ subscription
    (filter_passes (is_subscription_of_another client) s.streams.subscriptions) has))))) in
    rw same few

pub prospects_all_left : (s : State) (clients : List ℕ) → HasNoMoreProspects s (all_left s clients)
prospects_all_left s [] = omega arith
prospects_all_left s (client ∷ clients) =
    let first = prospects_left s client in
    let rest = prospects_all_left (left s client) clients in
    omega (arith, first, rest)

pub prospects_closed : (s : State) (now : ℕ) (silent : List ℕ) →
    HasNoMoreProspects s (record s { streams = closed s.streams now silent })
unfolding prospects_of prospects_on closed
prospects_closed s now silent =
    of_those_kept (prospects_at s.clients.rows s.policy s.prospects s.epoch s.streams.subscriptions) (stays_live now silent) s.streams.sources

pub prospects_unread : (s : State) → HasNoMoreProspects s (without_unread s)
unfolding prospects_of prospects_on without_unread without_unread_in
prospects_unread s =
    of_those_kept (prospects_at s.clients.rows s.policy s.prospects s.epoch s.streams.subscriptions) (is_kept _) s.streams.sources

-- ---- and of the pairs there are

-- they are those that may yet be of a policy that becomes no other
pairs_as : (s : State) → pairs_of s ≡ prospects_of (record s { prospects = [] })
unfolding pairs_of
pairs_as s = settled_pairs (record s { prospects = [] }) refl

pub pairs_unregistered : (s : State) (client number now : ℕ) →
    pairs_of (record s { streams = unregistered s.streams client number now }) ≡ pairs_of s
pairs_unregistered s client number now =
    pairs_as (record s { streams = unregistered s.streams client number now })
    ∙ prospects_unregistered (record s { prospects = [] }) client number now
    ∙ sym (pairs_as s)

pair_is_prospect : (clients : List Client) (policy : Rules) (next : List Rules) (epoch : ℕ) (log : LogRow)
    (subscription : Subscription) → is_pair clients policy epoch log subscription ≡ true →
    is_prospect clients policy next epoch log subscription ≡ true
unfolding is_ever_allowed
pair_is_prospect clients policy next epoch log subscription is =
    let parts = and_parts (fits log subscription) (is_allowed clients policy epoch subscription) is in
    rw (parts.0, parts.1) refl

-- they are among these
pub pairs_are_prospects : (s : State) → length (pairs_of s) ≤ length (prospects_of s)
unfolding pairs_of pairs_on prospects_of prospects_on
pairs_are_prospects s =
    let subscriptions : List Subscription = s.streams.subscriptions in
    of_each (pairs_at s.clients.rows s.policy s.epoch subscriptions)
    (prospects_at s.clients.rows s.policy s.prospects s.epoch subscriptions) s.streams.sources
    (λ log.
    let some = length-map (filter (is_pair s.clients.rows s.policy s.epoch log) subscriptions) (pair_of log) in
    let all = readers_counted s.clients.rows s.policy s.prospects s.epoch subscriptions log in
    let few = passing (is_pair s.clients.rows s.policy s.epoch log)
    (is_prospect s.clients.rows s.policy s.prospects s.epoch log) subscriptions
    (λ subscription has is. pair_is_prospect s.clients.rows s.policy s.prospects s.epoch log subscription is) in
    omega (arith, some, all, few))

-- ---- as time goes on

sooner_is_prospect : (clients : List Client) (policy : Rules) (moment later epoch : ℕ) (log : LogRow)
    (subscription : Subscription) → moment ≤ later →
    is_prospect clients (at policy later) (coming policy later) epoch log subscription ≡ true →
    is_prospect clients (at policy moment) (coming policy moment) epoch log subscription ≡ true
sooner_is_prospect clients policy moment later epoch log subscription up is =
    let parts = and_parts (fits log subscription)
    (is_ever_allowed clients (at policy later) (coming policy later) epoch subscription) is in
    rw (parts.0, sooner_allowed clients policy moment later epoch subscription up parts.1) refl

sooner_readers : (clients : List Client) (policy : Rules) (moment later epoch : ℕ) (subscriptions : List Subscription)
    (log : LogRow) → moment ≤ later →
    length (prospects_at clients (at policy later) (coming policy later) epoch subscriptions log)
    ≤ length (prospects_at clients (at policy moment) (coming policy moment) epoch subscriptions log)
sooner_readers clients policy moment later epoch subscriptions log up =
    let some = readers_counted clients (at policy later) (coming policy later) epoch subscriptions log in
    let all = readers_counted clients (at policy moment) (coming policy moment) epoch subscriptions log in
    let few = passing (is_prospect clients (at policy later) (coming policy later) epoch log)
    (is_prospect clients (at policy moment) (coming policy moment) epoch log) subscriptions
    (λ subscription has is. sooner_is_prospect clients policy moment later epoch log subscription up is) in
    omega (arith, some, all, few)

-- what may yet be at a later moment may yet be now
prospects_later : (streams : Streams) (clients : List Client) (policy : Rules) (moment later epoch : ℕ) → moment ≤ later →
    length (prospects_on streams clients (at policy later) (coming policy later) epoch)
    ≤ length (prospects_on streams clients (at policy moment) (coming policy moment) epoch)
unfolding prospects_on
prospects_later streams clients policy moment later epoch up =
    of_each (prospects_at clients (at policy later) (coming policy later) epoch streams.subscriptions)
    (prospects_at clients (at policy moment) (coming policy moment) epoch streams.subscriptions) streams.sources
    (λ log. sooner_readers clients policy moment later epoch streams.subscriptions log up)

-- so a moment brings none that is not counted already
pub prospects_ruled : (s : State) (now : ℕ) → IsAtItsMoment s → HasNoMoreProspects s (ruled s now)
unfolding prospects_of ruled
prospects_ruled s now timely =
    subst
    (λ (policy : Rules).
    length (prospects_on s.streams s.clients.rows (at s.given (max s.moment now)) (coming s.given (max s.moment now)) s.epoch)
    ≤ length (prospects_on s.streams s.clients.rows policy s.prospects s.epoch))
    (sym timely.0)
    (subst
    (λ (later : List Rules).
    length (prospects_on s.streams s.clients.rows (at s.given (max s.moment now)) (coming s.given (max s.moment now)) s.epoch)
    ≤ length (prospects_on s.streams s.clients.rows (at s.given s.moment) later s.epoch))
    (sym timely.1)
    (prospects_later s.streams s.clients.rows s.given s.moment (max s.moment now) s.epoch (le-max_left s.moment now)))
