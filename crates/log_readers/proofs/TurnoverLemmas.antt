-- What goes and what comes by each change of the lists, from the rows that it changes.
use Rattle.std.proofs.Common.{◌≡◌, ℕ, ◌<◌, ◌≤◌, ℤ, ◌==◌, Bool, true, false, not, cond, List, [], ◌∷◌, ◌++◌, map, filter, get_or, append-nil, refl, sym, ap, ◌∙◌, eqb-true, eq-eqb, ne_eqb, arith}
use Rattle.std.specs.Prelude.{◌&&◌, ◌||◌}
use Rattle.std.specs.List.{flat_map, list_any}
use Rattle.std.proofs.lemmas.List.Elements.{All-weaker, filter_agree, filter-append}
use Rattle.log_readers.specs.Numbering.{Rises, number_of, source_of}
use Rattle.log_readers.specs.Readers.{is_of_others, is_unlike}
use Rattle.log_readers.specs.Turnover.{IsReadAlike, IsTurnover, is_of_client, is_of_closing, is_of_number, lacking, pairs_with}
use Rattle.stream_registry.specs.declared.lingering.LogPlace.{LogPlace}
use Rattle.stream_registry.specs.declared.pairs.Pair.{Pair}
use Rattle.stream_registry.specs.declared.row.LogRow.{LogRow}
use Rattle.stream_registry.specs.declared.row.Subscription.{Subscription}
use Rattle.stream_registry.specs.declared.wanted.Adding.TheVariants.{Make}
use Rattle.stream_registry.specs.declared.wanted.ImageWanted.{ImageWanted}
use Rattle.stream_registry.specs.declared.wanted.Wanted.{Wanted}
use Rattle.stream_registry.specs.Adding.{added, log_of, subscribed}
use Rattle.stream_registry.specs.Leaving.{has_subscription, is_another_subscription, is_own_subscription, is_subscription_of_another, left, unsubscribed}
use Rattle.stream_registry.specs.Images.{image_of, imaged}
use Rattle.stream_registry.specs.Lingering.{closed, closing_of, is_closing, place_of, stays_live}
use Rattle.stream_registry.specs.Pairs.{pairs_at, pairs_of}
use Rattle.stream_registry.specs.Streams.{Streams, cleared}
use Rattle.channel_uri.specs.Channel.{Shape}
use Rattle.client_registry.specs.declared.client.Client.{Client}
use Rattle.client_registry.specs.Clients.{ClientList, without}
use Rattle.policy_core.specs.RuleList.{Rules}
use Rattle.log_readers.proofs.LackingLemmas.{lacked_by_both, lacked_by_number, lacked_by_source, part_lacks_none, same_lack_none}
use Rattle.log_readers.proofs.ListLemmas.{all_pass, any_filtered, filter_alike, none_pass}
use Rattle.log_readers.proofs.PartLemmas.{log_passes, pairs_alone, pairs_of_logs, pairs_of_part, passes}
use Rattle.log_readers.proofs.RisingLemmas.{all_below, finds_itself}
use Rattle.log_readers.proofs.SameLemmas.{left_alike, left_alike_there, rest_of}

-- ---- lists of pairs

-- where the pairs are the same
pub same_turnover : (before after : List Pair) → after ≡ before → IsTurnover before after [] []
same_turnover before after same = record {
  gone = ap (lacking before) same ∙ same_lack_none before;
  come = ap (λ (pairs : List Pair). lacking pairs before) same ∙ same_lack_none before;
}

pub alike_turnover : (s after : Streams) (clients others : List Client) (policy : Rules) (epoch : ℕ) →
    IsReadAlike s after clients others policy epoch →
    IsTurnover (pairs_of s clients policy epoch) (pairs_of after others policy epoch) [] []
alike_turnover s after clients others policy epoch alike =
    same_turnover (pairs_of s clients policy epoch) (pairs_of after others policy epoch) alike.pairs

-- where a part stays
number_turnover : (test : ℕ → Bool) (before after : List Pair) → after ≡ filter (λ pair. test pair.subscription) before →
    IsTurnover before after (filter (λ pair. not (test pair.subscription)) before) []
number_turnover test before after is = record {
  gone = ap (lacking before) is ∙ lacked_by_number test before;
  come = ap (λ (pairs : List Pair). lacking pairs before) is ∙ part_lacks_none (λ pair. test pair.subscription) before;
}

source_turnover : (test : ℕ → Bool) (before after : List Pair) → after ≡ filter (λ pair. test pair.source) before →
    IsTurnover before after (filter (λ pair. not (test pair.source)) before) []
source_turnover test before after is = record {
  gone = ap (lacking before) is ∙ lacked_by_source test before;
  come = ap (λ (pairs : List Pair). lacking pairs before) is ∙ part_lacks_none (λ pair. test pair.source) before;
}

-- where both a subscription and a log have to stay
pub kept_turnover : (by_number by_source : ℕ → Bool) (before after : List Pair) →
    after ≡ filter (λ pair. by_number pair.subscription && by_source pair.source) before →
    IsTurnover before after (filter (λ pair. not (by_number pair.subscription && by_source pair.source)) before) []
kept_turnover by_number by_source before after is = record {
  gone = ap (lacking before) is ∙ lacked_by_both by_number by_source before;
  come = ap (λ (pairs : List Pair). lacking pairs before) is
      ∙ part_lacks_none (λ pair. by_number pair.subscription && by_source pair.source) before;
}

-- read backwards
turned : (before after went came other : List Pair) → IsTurnover after before went came → went ≡ other →
    IsTurnover before after came other
turned before after went came other turnover same = record {
  gone = turnover.come;
  come = turnover.gone ∙ same;
}

renamed : (before after went came other : List Pair) → went ≡ other → IsTurnover before after went came →
    IsTurnover before after other came
renamed before after went came other same turnover = record {
  gone = turnover.gone ∙ same;
  come = turnover.come;
}

not_not : (b : Bool) → not (not b) ≡ b
not_not true = refl
not_not false = refl

-- ---- a row more

module _ {A : Type 0} (number_of_row : A → ℕ) (row : A) where
  -- all but the new row, and the new row alone
  others_stay : (low last : ℕ) (rows : List A) → Rises number_of_row low last rows → last < number_of_row row →
      filter (λ one. is_unlike (number_of_row row) (number_of_row one)) (rows ++ row ∷ []) ≡ rows
  others_stay low last rows up above =
      filter-append (λ one. is_unlike (number_of_row row) (number_of_row one)) rows (row ∷ [])
      ∙ ap (λ (b : Bool). filter (λ one. is_unlike (number_of_row row) (number_of_row one)) rows ++ cond (not b) (row ∷ []) [])
      (eq-eqb (number_of_row row) (number_of_row row) refl)
      ∙ append-nil (filter (λ one. is_unlike (number_of_row row) (number_of_row one)) rows)
      ∙ filter_alike (λ one. is_unlike (number_of_row row) (number_of_row one)) (λ one. true) rows
      (All-weaker (λ one. number_of_row one ≤ last) (λ one. is_unlike (number_of_row row) (number_of_row one) ≡ true)
      (λ one below. ap not (ne_eqb (number_of_row one) (number_of_row row) (λ same. omega (arith, same, below, above)))) rows
      (all_below number_of_row low last rows up))
      ∙ all_pass rows

  row_alone : (low last : ℕ) (rows : List A) → Rises number_of_row low last rows → last < number_of_row row →
      filter (λ one. not (is_unlike (number_of_row row) (number_of_row one))) (rows ++ row ∷ []) ≡ row ∷ []
  row_alone low last rows up above =
      filter-append (λ one. not (is_unlike (number_of_row row) (number_of_row one))) rows (row ∷ [])
      ∙ ap (λ (b : Bool).
      filter (λ one. not (is_unlike (number_of_row row) (number_of_row one))) rows ++ cond (not (not b)) (row ∷ []) [])
      (eq-eqb (number_of_row row) (number_of_row row) refl)
      ∙ ap (λ (rest : List A). rest ++ row ∷ [])
      (filter_alike (λ one. not (is_unlike (number_of_row row) (number_of_row one))) (λ one. false) rows
      (All-weaker (λ one. number_of_row one ≤ last) (λ one. not (is_unlike (number_of_row row) (number_of_row one)) ≡ false)
      (λ one below. ap (λ (b : Bool). not (not b))
      (ne_eqb (number_of_row one) (number_of_row row) (λ same. omega (arith, same, below, above)))) rows
      (all_below number_of_row low last rows up))
      ∙ none_pass rows)

-- ---- a client's subscription, by its number

-- the client's subscription of this number is the only one of the number
one_numbered : (numbered : Bool) (client number : ℕ) (subs : List Subscription) (row : Subscription) →
    (row.number == number) ≡ numbered →
    list_any (is_own_subscription client row.number) subs ≡ (row.client == client) →
    list_any (is_own_subscription client number) subs ≡ true →
    ((row.client == client) && numbered) ≡ numbered
one_numbered true client number subs row same found there =
    let own : (row.client == client) ≡ true =
    sym found ∙ ap (λ (n : ℕ). list_any (is_own_subscription client n) subs) (eqb-true row.number number same) ∙ there in
    rw own refl
one_numbered false client number subs row same found there = never (row.client == client)
  where
    never : (b : Bool) → (b && false) ≡ false
    never true = refl
    never false = refl

pub own_alone : (client number low last : ℕ) (subs : List Subscription) → Rises number_of low last subs →
    list_any (is_own_subscription client number) subs ≡ true →
    filter (is_another_subscription client number) subs ≡ filter (passes (is_unlike number)) subs
own_alone client number low last subs up there =
    let found = finds_itself number_of (λ (row : Subscription). row.client == client) low last subs up in
    filter_alike (is_another_subscription client number) (passes (is_unlike number)) subs
    (λ k d within.
    let row : Subscription = get_or subs k d in
    ap not (ap (λ (b : Bool). (row.client == client) && b) refl
    ∙ one_numbered (row.number == number) client number subs row refl (found k d within) there))

-- the subscriptions of a client, by their numbers
pub others_by_number : (s : Streams) (client low last : ℕ) → Rises number_of low last s.subscriptions →
    filter (is_subscription_of_another client) s.subscriptions ≡ filter (passes (is_of_others s client)) s.subscriptions
others_by_number s client low last up =
    let found = finds_itself number_of (λ (row : Subscription). row.client == client) low last s.subscriptions up in
    filter_alike (is_subscription_of_another client) (passes (is_of_others s client)) s.subscriptions
    (λ k d within. ap not (sym (found k d within)))

-- ---- logs that close, by their sources

-- the source is none of those that close
abbrev pub stays_open : List LogPlace → ℕ → Bool
stays_open closes source = not (list_any (λ closed. closed.source == source) closes)

any_place : (source : ℕ) (logs : List LogRow) →
    list_any (λ (place : LogPlace). place.source == source) (map place_of logs)
    ≡ list_any (λ (log : LogRow). log.number == source) logs
any_place source [] = refl
any_place source (log ∷ logs) = ap (λ (rest : Bool). (log.number == source) || rest) (any_place source logs)

pub closed_by_source : (s : Streams) (now : ℕ) (silent : List ℕ) (low last : ℕ) → Rises source_of low last s.sources →
    filter (stays_live now silent) s.sources ≡ filter (log_passes (stays_open (closing_of s now silent))) s.sources
unfolding closing_of
closed_by_source s now silent low last up =
    let found = finds_itself source_of (is_closing now silent) low last s.sources up in
    filter_alike (stays_live now silent) (log_passes (stays_open (map place_of (filter (is_closing now silent) s.sources)))) s.sources
    (λ k d within.
    let log : LogRow = get_or s.sources k d in
    ap not (sym (any_place log.number (filter (is_closing now silent) s.sources)
    ∙ any_filtered (λ (one : LogRow). one.number == log.number) (is_closing now silent) s.sources
    ∙ found k d within)))

module _ (clients : List Client) (policy : Rules) (epoch : ℕ) where
  -- ---- what comes

  -- the pairs of a subscription whose number is above all others
  pub subscribed_turnover : (s : Streams) (number client : ℕ) (channel : Shape) (stream : ℤ) (low last : ℕ) →
      Rises number_of low last s.subscriptions → last < number →
      IsTurnover (pairs_of s clients policy epoch) (pairs_of (subscribed s number client channel stream) clients policy epoch) []
      (pairs_with clients policy epoch s.sources (record { number = number; client = client; channel = channel; stream = stream }))
  unfolding pairs_of subscribed
  subscribed_turnover s number client channel stream low last up above =
      let row : Subscription = record { number = number; client = client; channel = channel; stream = stream } in
      let subs : List Subscription = s.subscriptions ++ row ∷ [] in
      let before : List Pair = flat_map (pairs_at clients policy epoch s.subscriptions) s.sources in
      let after : List Pair = flat_map (pairs_at clients policy epoch subs) s.sources in
      turned before after (filter (λ (pair : Pair). not (is_unlike number pair.subscription)) after) []
      (pairs_with clients policy epoch s.sources row)
      (number_turnover (is_unlike number) after before
      (ap (λ (rest : List Subscription). flat_map (pairs_at clients policy epoch rest) s.sources)
      (sym (others_stay number_of row low last s.subscriptions up above))
      ∙ pairs_of_part clients policy epoch (is_unlike number) subs s.sources))
      (sym (pairs_of_part clients policy epoch (λ n. not (is_unlike number n)) subs s.sources)
      ∙ ap (λ (rest : List Subscription). flat_map (pairs_at clients policy epoch rest) s.sources)
      (row_alone number_of row low last s.subscriptions up above)
      ∙ pairs_alone clients policy epoch row s.sources)

  -- the pairs of a log whose source is above all others
  log_turnover : (s : Streams) (log : LogRow) (low last : ℕ) → Rises source_of low last s.sources → last < log.number →
      IsTurnover (pairs_of s clients policy epoch) (pairs_of (record s { sources = s.sources ++ log ∷ [] }) clients policy epoch) []
      (pairs_at clients policy epoch s.subscriptions log)
  unfolding pairs_of
  log_turnover s log low last up above =
      let logs : List LogRow = s.sources ++ log ∷ [] in
      let before : List Pair = flat_map (pairs_at clients policy epoch s.subscriptions) s.sources in
      let after : List Pair = flat_map (pairs_at clients policy epoch s.subscriptions) logs in
      turned before after (filter (λ (pair : Pair). not (is_unlike log.number pair.source)) after) []
      (pairs_at clients policy epoch s.subscriptions log)
      (source_turnover (is_unlike log.number) after before
      (ap (flat_map (pairs_at clients policy epoch s.subscriptions)) (sym (others_stay source_of log low last s.sources up above))
      ∙ pairs_of_logs clients policy epoch (is_unlike log.number) s.subscriptions logs))
      (sym (pairs_of_logs clients policy epoch (λ n. not (is_unlike log.number n)) s.subscriptions logs)
      ∙ ap (flat_map (pairs_at clients policy epoch s.subscriptions)) (row_alone source_of log low last s.sources up above)
      ∙ append-nil (pairs_at clients policy epoch s.subscriptions log))

  pub made_turnover : (s : Streams) (number client : ℕ) (wanted : Wanted) (place : ℕ) (session : ℤ) (low last : ℕ) →
      Rises source_of low last s.sources → last < number →
      IsTurnover (pairs_of s clients policy epoch)
      (pairs_of (added s number client wanted place (Make session)) clients policy epoch) []
      (pairs_at clients policy epoch s.subscriptions (log_of s number wanted place session))
  unfolding pairs_of
  made_turnover s number client wanted place session low last up above =
      let turnover = log_turnover s (log_of s number wanted place session) low last up above in
      record { gone = turnover.gone; come = turnover.come }

  pub imaged_turnover : (s : Streams) (number : ℕ) (wanted : ImageWanted) (place low last : ℕ) →
      Rises source_of low last s.sources → last < number →
      IsTurnover (pairs_of s clients policy epoch) (pairs_of (imaged s number wanted place) clients policy epoch) []
      (pairs_at clients policy epoch s.subscriptions (image_of s number wanted place))
  imaged_turnover s number wanted place low last up above =
      log_turnover s (image_of s number wanted place) low last up above

  -- ---- what goes

  -- the pairs of a subscription that goes
  pub unsubscribed_turnover : (s : Streams) (client number low last : ℕ) → Rises number_of low last s.subscriptions →
      has_subscription s client number ≡ true →
      IsTurnover (pairs_of s clients policy epoch) (pairs_of (unsubscribed s client number) clients policy epoch)
      (filter (is_of_number number) (pairs_of s clients policy epoch)) []
  unfolding pairs_of unsubscribed
  unsubscribed_turnover s client number low last up there =
      let before : List Pair = flat_map (pairs_at clients policy epoch s.subscriptions) s.sources in
      let after : List Pair =
      flat_map (pairs_at clients policy epoch (filter (is_another_subscription client number) s.subscriptions)) s.sources in
      renamed before after (filter (λ (pair : Pair). not (is_unlike number pair.subscription)) before) []
      (filter (is_of_number number) before)
      (filter_agree (λ (pair : Pair). not (is_unlike number pair.subscription)) (is_of_number number)
      (λ pair. not_not (pair.subscription == number)) before)
      (number_turnover (is_unlike number) before after
      (ap (λ (rest : List Subscription). flat_map (pairs_at clients policy epoch rest) s.sources)
      (own_alone client number low last s.subscriptions up there)
      ∙ pairs_of_part clients policy epoch (is_unlike number) s.subscriptions s.sources))

  -- what is left of the pairs where logs close
  pub closed_part : (s : Streams) (now : ℕ) (silent : List ℕ) (low last : ℕ) → Rises source_of low last s.sources →
      pairs_of (closed s now silent) clients policy epoch
      ≡ filter (λ pair. stays_open (closing_of s now silent) pair.source) (pairs_of s clients policy epoch)
  unfolding pairs_of closed
  closed_part s now silent low last up =
      ap (flat_map (pairs_at clients policy epoch s.subscriptions)) (closed_by_source s now silent low last up)
      ∙ pairs_of_logs clients policy epoch (stays_open (closing_of s now silent)) s.subscriptions s.sources

  -- the pairs of the logs that close
  pub closed_turnover : (s : Streams) (now : ℕ) (silent : List ℕ) (low last : ℕ) → Rises source_of low last s.sources →
      IsTurnover (pairs_of s clients policy epoch) (pairs_of (closed s now silent) clients policy epoch)
      (filter (is_of_closing (closing_of s now silent)) (pairs_of s clients policy epoch)) []
  closed_turnover s now silent low last up =
      let test : ℕ → Bool = stays_open (closing_of s now silent) in
      let before : List Pair = pairs_of s clients policy epoch in
      let after : List Pair = pairs_of (closed s now silent) clients policy epoch in
      renamed before after (filter (λ (pair : Pair). not (test pair.source)) before) []
      (filter (is_of_closing (closing_of s now silent)) before)
      (filter_agree (λ (pair : Pair). not (test pair.source)) (is_of_closing (closing_of s now silent))
      (λ pair. not_not (is_of_closing (closing_of s now silent) pair)) before)
      (source_turnover test before after (closed_part s now silent low last up))

  -- what is left of the pairs where a client's subscriptions go
  rest_part : (s : Streams) (client low last : ℕ) → Rises number_of low last s.subscriptions →
      pairs_of (rest_of s client) clients policy epoch
      ≡ filter (λ pair. is_of_others s client pair.subscription) (pairs_of s clients policy epoch)
  unfolding pairs_of
  rest_part s client low last up =
      ap (λ (rest : List Subscription). flat_map (pairs_at clients policy epoch rest) s.sources)
      (others_by_number s client low last up)
      ∙ pairs_of_part clients policy epoch (is_of_others s client) s.subscriptions s.sources

  -- the pairs of a client's subscriptions
  rest_turnover : (s : Streams) (client low last : ℕ) (after : List Pair) → Rises number_of low last s.subscriptions →
      after ≡ pairs_of (rest_of s client) clients policy epoch →
      IsTurnover (pairs_of s clients policy epoch) after (filter (is_of_client s client) (pairs_of s clients policy epoch)) []
  rest_turnover s client low last after up is =
      let before : List Pair = pairs_of s clients policy epoch in
      renamed before after (filter (λ (pair : Pair). not (is_of_others s client pair.subscription)) before) []
      (filter (is_of_client s client) before)
      (filter_agree (λ (pair : Pair). not (is_of_others s client pair.subscription)) (is_of_client s client)
      (λ pair. not_not (is_of_client s client pair)) before)
      (number_turnover (is_of_others s client) before after (is ∙ rest_part s client low last up))

  -- whose client is still there
  pub left_turnover_there : (s : Streams) (client now low last : ℕ) → Rises number_of low last s.subscriptions →
      IsTurnover (pairs_of s clients policy epoch) (pairs_of (left s client now) clients policy epoch)
      (filter (is_of_client s client) (pairs_of s clients policy epoch)) []
  left_turnover_there s client now low last up =
      rest_turnover s client low last (pairs_of (left s client now) clients policy epoch) up
      (left_alike_there policy epoch s clients client now).pairs

-- or went with it
pub left_turnover : (policy : Rules) (epoch : ℕ) (s : Streams) (clients : ClientList) (client now low last : ℕ) →
    Rises number_of low last s.subscriptions →
    IsTurnover (pairs_of s clients.rows policy epoch) (pairs_of (left s client now) (without clients client).rows policy epoch)
    (filter (is_of_client s client) (pairs_of s clients.rows policy epoch)) []
left_turnover policy epoch s clients client now low last up =
    rest_turnover clients.rows policy epoch s client low last
    (pairs_of (left s client now) (without clients client).rows policy epoch) up (left_alike policy epoch s clients client now).pairs

-- what is left of the pairs then
pub left_part : (policy : Rules) (epoch : ℕ) (s : Streams) (clients : ClientList) (client now low last : ℕ) →
    Rises number_of low last s.subscriptions →
    pairs_of (left s client now) (without clients client).rows policy epoch
    ≡ filter (λ pair. not (is_of_client s client pair)) (pairs_of s clients.rows policy epoch)
left_part policy epoch s clients client now low last up =
    (left_alike policy epoch s clients client now).pairs ∙ rest_part clients.rows policy epoch s client low last up

-- everything goes, whoever is there afterwards
pub cleared_turnover : (s : Streams) (clients others : List Client) (policy : Rules) (epoch : ℕ) →
    IsTurnover (pairs_of s clients policy epoch) (pairs_of (cleared s) others policy epoch) (pairs_of s clients policy epoch) []
unfolding pairs_of
cleared_turnover s clients others policy epoch =
    record { gone = all_pass (flat_map (pairs_at clients policy epoch s.subscriptions) s.sources); come = refl }
