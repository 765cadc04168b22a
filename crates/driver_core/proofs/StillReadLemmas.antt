-- Where each image has a pair, it has one still behind what changes no pair.
use Rattle.std.proofs.Common.{◌≡◌, ℕ, ℤ, ◌+◌, ◌&&◌, Bool, true, false, not, cond, List, [], ◌∷◌, ◌++◌, filter, is_some, map, refl, sym, ap, ◌∙◌}
use Rattle.std.specs.Prelude.{◌||◌}
use Rattle.std.specs.List.{flat_map, list_any}
use Rattle.std.proofs.lemmas.List.{map-append}
use Rattle.std.proofs.lemmas.List.Elements.{filter-append}
use Rattle.std.proofs.lemmas.List.Folds.{list_any-append}
use Rattle.channel_uri.specs.Channel.{Shape}
use Rattle.client_registry.specs.Clients.{principal_at}
use Rattle.client_registry.specs.declared.client.Client.{Client}
use Rattle.driver_core.specs.Kept.{AreRead, IsTended}
use Rattle.driver_core.specs.Publishing.{is_joined}
use Rattle.driver_core.proofs.KeptLemmas.{kept_added, kept_subscribed, kept_unregistered}
use Rattle.log_readers.specs.Readers.{all_readers}
use Rattle.log_readers.specs.Unread.{has_pair, is_of_source, is_unread}
use Rattle.log_readers.proofs.SameLemmas.{joined_alike, unregistered_alike}
use Rattle.policy_core.specs.RuleList.{Rules}
use Rattle.stream_registry.specs.declared.pairs.Pair.{Pair}
use Rattle.stream_registry.specs.declared.row.Origin.{Origin}
use Rattle.stream_registry.specs.declared.row.Origin.TheVariants.{Published, Remote}
use Rattle.stream_registry.specs.declared.row.Registration.{Registration}
use Rattle.stream_registry.specs.declared.row.LogRow.{LogRow}
use Rattle.stream_registry.specs.declared.row.Subscription.{Subscription}
use Rattle.stream_registry.specs.declared.wanted.Adding.{Adding}
use Rattle.stream_registry.specs.declared.wanted.Adding.TheVariants.{Join, Make}
use Rattle.stream_registry.specs.declared.wanted.Wanted.{Wanted}
use Rattle.stream_registry.specs.Adding.{added, subscribed}
use Rattle.stream_registry.specs.Leaving.{is_another_registration, unregistered}
use Rattle.stream_registry.specs.Lingering.{is_used, left_alone, settled, settled_one}
use Rattle.stream_registry.specs.Origins.{is_published_by, is_remote, left_by}
use Rattle.stream_registry.specs.Pairs.{is_pair, pair_of, pairs_at, pairs_of}
use Rattle.stream_registry.specs.Streams.{Streams}

-- ---- a log that begins to linger is an image as before, and has its pairs

kind_left : (now : ℕ) (origin : Origin) → is_published_by (left_by now origin) ≡ is_published_by origin
kind_left now (Published exclusive since) = refl
kind_left now (Remote address initial_term join) = refl

unread_settled : (pairs : List Pair) (now : ℕ) (log : LogRow) (used : Bool) →
    is_unread pairs (cond used log (left_alone now log)) ≡ is_unread pairs log
unread_settled pairs now log true = refl
unread_settled pairs now log false = ap (λ (b : Bool). not b && not (has_pair pairs log)) (kind_left now log.origin)

none_of : (b : Bool) (x y : LogRow) (rest others : List LogRow) → cond b (x ∷ rest) rest ≡ [] → (rest ≡ [] → others ≡ []) → cond b (y ∷ others) others ≡ []
none_of true x y rest others none later = absurd cc
none_of false x y rest others none later = later none

none_settled : (pairs : List Pair) (registrations : List Registration) (now : ℕ) (logs : List LogRow) →
    filter (is_unread pairs) logs ≡ [] → filter (is_unread pairs) (map (settled_one registrations now) logs) ≡ []
none_settled pairs registrations now [] none = refl
none_settled pairs registrations now (log ∷ logs) none =
    rw (unread_settled pairs now log (is_used registrations log.number))
    (none_of (is_unread pairs log) log (settled_one registrations now log) (filter (is_unread pairs) logs)
    (filter (is_unread pairs) (map (settled_one registrations now) logs)) none (none_settled pairs registrations now logs))

read_unregistered : (s : Streams) (clients : List Client) (policy : Rules) (epoch client number now : ℕ) →
    AreRead s clients policy epoch → AreRead (unregistered s client number now) clients policy epoch
unfolding unregistered settled
read_unregistered s clients policy epoch client number now read =
    let registrations : List Registration = filter (is_another_registration client number) s.registrations in
    record {
      all =
          ap (λ (pairs : List Pair). filter (is_unread pairs) (map (settled_one registrations now) s.sources)) (unregistered_alike policy epoch s clients client number now).pairs
          ∙ none_settled (pairs_of s clients policy epoch) registrations now s.sources read.all;
    }

-- ---- what is kept

pub tended_unregistered : (s : Streams) (clients : List Client) (policy : Rules) (epoch last client number now : ℕ)
    (readers : List (List ℕ)) (known : Bool) → IsTended s clients policy epoch last readers known →
    IsTended (unregistered s client number now) clients policy epoch last readers known
tended_unregistered s clients policy epoch last client number now readers known tended = record {
  kept = kept_unregistered s clients policy epoch last client number now readers tended.kept;
  read = λ is. read_unregistered s clients policy epoch client number now (tended.read is);
}

both_true : (b c : Bool) → (b && c) ≡ true → b ≡ true
both_true true c is = refl
both_true false c is = absurd cc

never : (b : Bool) → (b && false) ≡ true → true ≡ false
never true is = absurd cc
never false is = absurd cc

read_joined : (s : Streams) (clients : List Client) (policy : Rules) (epoch number client : ℕ) (wanted : Wanted) (place source : ℕ) (session : ℤ) →
    AreRead s clients policy epoch → AreRead (added s number client wanted place (Join source session)) clients policy epoch
read_joined s clients policy epoch number client wanted place source session read = record {
  all = ap (λ (pairs : List Pair). filter (is_unread pairs) s.sources) (joined_alike policy epoch s clients number client wanted place source session).pairs ∙ read.all;
}

read_added : (s : Streams) (clients : List Client) (policy : Rules) (epoch number client : ℕ) (wanted : Wanted) (place : ℕ) (adding : Adding) (known : Bool) →
    (known ≡ true → AreRead s clients policy epoch) → (known && is_joined adding) ≡ true → AreRead (added s number client wanted place adding) clients policy epoch
read_added s clients policy epoch number client wanted place (Join source session) known read is =
    read_joined s clients policy epoch number client wanted place source session (read (both_true known true is))
read_added s clients policy epoch number client wanted place (Make session) known read is = absurd (cc (never known is))

pub tended_added : (s : Streams) (clients : List Client) (policy : Rules) (epoch last client : ℕ) (wanted : Wanted) (place : ℕ)
    (adding : Adding) (readers after : List (List ℕ)) (known : Bool) → IsTended s clients policy epoch last readers known →
    after ≡ all_readers (added s (last + 1) client wanted place adding) clients policy epoch →
    IsTended (added s (last + 1) client wanted place adding) clients policy epoch (last + 1) after (known && is_joined adding)
tended_added s clients policy epoch last client wanted place adding readers after known tended is = record {
  kept = kept_added s clients policy epoch last client wanted place adding readers after tended.kept is;
  read = read_added s clients policy epoch (last + 1) client wanted place adding known tended.read;
}

-- ---- with a subscription pairs come, and none goes

more_true : (first more rest later : Bool) → (rest ≡ true → later ≡ true) → (first || rest) ≡ true → ((first || more) || later) ≡ true
more_true true more rest later h is = refl
more_true false true rest later h is = refl
more_true false false rest later h is = h is

pairs_at_more : (clients : List Client) (policy : Rules) (epoch : ℕ) (test : Pair → Bool) (subs : List Subscription) (row : Subscription)
    (log : LogRow) →
    list_any test (pairs_at clients policy epoch (subs ++ row ∷ []) log)
    ≡ (list_any test (pairs_at clients policy epoch subs log) || list_any test (pairs_at clients policy epoch (row ∷ []) log))
pairs_at_more clients policy epoch test subs row log =
    ap (λ (rows : List Subscription). list_any test (map (pair_of log) rows))
    (filter-append (is_pair clients policy epoch log) subs (row ∷ []))
    ∙ ap (list_any test)
    (map-append (pair_of log) (filter (is_pair clients policy epoch log) subs) (filter (is_pair clients policy epoch log) (row ∷ [])))
    ∙ list_any-append test (pairs_at clients policy epoch subs log) (pairs_at clients policy epoch (row ∷ []) log)

any_more : (clients : List Client) (policy : Rules) (epoch : ℕ) (test : Pair → Bool) (subs : List Subscription) (row : Subscription)
    (logs : List LogRow) → list_any test (flat_map (pairs_at clients policy epoch subs) logs) ≡ true →
    list_any test (flat_map (pairs_at clients policy epoch (subs ++ row ∷ [])) logs) ≡ true
any_more clients policy epoch test subs row [] any = any
any_more clients policy epoch test subs row (log ∷ logs) any =
    let rest : List Pair = flat_map (pairs_at clients policy epoch subs) logs in
    let later : List Pair = flat_map (pairs_at clients policy epoch (subs ++ row ∷ [])) logs in
    let first : Bool = list_any test (pairs_at clients policy epoch subs log) in
    let more : Bool = list_any test (pairs_at clients policy epoch (row ∷ []) log) in
    let before : (first || list_any test rest) ≡ true = sym (list_any-append test (pairs_at clients policy epoch subs log) rest) ∙ any in
    list_any-append test (pairs_at clients policy epoch (subs ++ row ∷ []) log) later
    ∙ ap (λ (b : Bool). b || list_any test later) (pairs_at_more clients policy epoch test subs row log)
    ∙ more_true first more (list_any test rest) (list_any test later) (any_more clients policy epoch test subs row logs) before

none_step : (remote had has : Bool) (log : LogRow) (rest others : List LogRow) → (had ≡ true → has ≡ true) → (rest ≡ [] → others ≡ []) →
    cond (remote && not had) (log ∷ rest) rest ≡ [] → cond (remote && not has) (log ∷ others) others ≡ []
none_step true true has log rest others more later none = rw (more refl) (later none)
none_step true false has log rest others more later none = absurd (cc)
none_step false had has log rest others more later none = later none

none_more : (pairs others : List Pair) (logs : List LogRow) → ((log : LogRow) → has_pair pairs log ≡ true → has_pair others log ≡ true) →
    filter (is_unread pairs) logs ≡ [] → filter (is_unread others) logs ≡ []
none_more pairs others [] more none = refl
none_more pairs others (log ∷ logs) more none =
    none_step (is_remote log) (has_pair pairs log) (has_pair others log) log (filter (is_unread pairs) logs) (filter (is_unread others) logs)
    (more log) (none_more pairs others logs more) none

read_subscribed : (s : Streams) (clients : List Client) (policy : Rules) (epoch number client : ℕ) (channel : Shape) (stream : ℤ) →
    AreRead s clients policy epoch → AreRead (subscribed s number client channel stream) clients policy epoch
unfolding pairs_of subscribed
read_subscribed s clients policy epoch number client channel stream read =
    let row : Subscription = record { number = number; client = client; channel = channel; stream = stream } in
    record {
      all =
          none_more (flat_map (pairs_at clients policy epoch s.subscriptions) s.sources)
          (flat_map (pairs_at clients policy epoch (s.subscriptions ++ row ∷ [])) s.sources) s.sources
          (λ log. any_more clients policy epoch (is_of_source log.number) s.subscriptions row s.sources) read.all;
    }

pub tended_subscribed : (s : Streams) (clients : List Client) (policy : Rules) (epoch last client : ℕ) (channel : Shape) (stream : ℤ)
    (readers after : List (List ℕ)) (known : Bool) → IsTended s clients policy epoch last readers known →
    is_some (principal_at clients client) ≡ true →
    after ≡ all_readers (subscribed s (last + 1) client channel stream) clients policy epoch →
    IsTended (subscribed s (last + 1) client channel stream) clients policy epoch (last + 1) after known
tended_subscribed s clients policy epoch last client channel stream readers after known tended owned is = record {
  kept = kept_subscribed s clients policy epoch last client channel stream readers after tended.kept owned is;
  read = λ yes. read_subscribed s clients policy epoch (last + 1) client channel stream (tended.read yes);
}
