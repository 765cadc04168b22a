-- How many pairs there are, and once a subscription or a log is there too.
use Rattle.std.proofs.Common.{◌≡◌, ℕ, ◌+◌, ℤ, Bool, true, false, cond, List, [], ◌∷◌, ◌++◌, map, length, refl, sym, ap, ◌∙◌, arith}
use Rattle.std.specs.Prelude.{filter}
use Rattle.std.specs.List.{flat_map, sum_by}
use Rattle.std.proofs.lemmas.Grind.{flat_map-append}
use Rattle.std.proofs.lemmas.List.{length-append, length-map}
use Rattle.std.proofs.lemmas.List.Elements.{filter-append}
use Rattle.std.proofs.lemmas.List.Sums.{sum_by-cons}
use Rattle.log_readers.specs.Numbering.{number_of}
use Rattle.log_readers.specs.Readers.{all_readers, readers_at}
use Rattle.log_readers.specs.Turnover.{is_read_by, pair_with, pairs_with}
use Rattle.stream_registry.specs.declared.row.LogRow.{LogRow}
use Rattle.stream_registry.specs.declared.row.Subscription.{Subscription}
use Rattle.stream_registry.specs.declared.wanted.Adding.TheVariants.{Make}
use Rattle.stream_registry.specs.declared.wanted.ImageWanted.{ImageWanted}
use Rattle.stream_registry.specs.declared.wanted.Wanted.{Wanted}
use Rattle.stream_registry.specs.Adding.{added, log_of, subscribed}
use Rattle.stream_registry.specs.Images.{image_of, imaged}
use Rattle.stream_registry.specs.Pairs.{is_pair, pair_of, pairs_at, pairs_of}
use Rattle.stream_registry.specs.Streams.{Streams}
use Rattle.channel_uri.specs.Channel.{Shape}
use Rattle.client_registry.specs.declared.client.Client.{Client}
use Rattle.policy_core.specs.RuleList.{Rules}

-- ---- a subscription or a log more

module _ {X : Type 0} where
  one_or_none : (b : Bool) (x : X) (rest : List X) → length (cond b (x ∷ rest) rest) ≡ cond b 1 0 + length rest
  one_or_none true x rest = omega arith
  one_or_none false x rest = omega arith

module _ {P S R : Type 0} (reads : P → S → Bool) (pair : P → S → R) (sub : S) (subs : List S) where
  -- the pairs of a log before and after
  abbrev before : P → List R
  before log = map (pair log) (filter (reads log) subs)

  abbrev after : P → List R
  after log = map (pair log) (filter (reads log) (subs ++ sub ∷ []))

  one_reader : (log : P) → length (after log) ≡ length (before log) + cond (reads log sub) 1 0
  one_reader log =
      let parts : length (filter (reads log) (subs ++ sub ∷ []))
      ≡ length (filter (reads log) subs) + length (filter (reads log) (sub ∷ [])) =
      ap length (filter-append (reads log) subs (sub ∷ [])) ∙ length-append _ _ in
      let last : length (filter (reads log) (sub ∷ [])) ≡ cond (reads log sub) 1 0 + 0 = one_or_none (reads log sub) sub [] in
      let old : length (before log) ≡ length (filter (reads log) subs) = length-map _ _ in
      let new : length (after log) ≡ length (filter (reads log) (subs ++ sub ∷ [])) = length-map _ _ in
      omega (arith, parts, last, old, new)

  pub one_more : (logs : List P) →
      length (flat_map after logs) ≡ length (flat_map before logs) + length (filter (λ log. reads log sub) logs)
  one_more [] = refl
  one_more (log ∷ logs) =
      let new : length (flat_map after (log ∷ logs)) ≡ length (after log) + length (flat_map after logs) = length-append _ _ in
      let old : length (flat_map before (log ∷ logs)) ≡ length (before log) + length (flat_map before logs) = length-append _ _ in
      let read : length (filter (λ l. reads l sub) (log ∷ logs))
      ≡ cond (reads log sub) 1 0 + length (filter (λ l. reads l sub) logs) =
      one_or_none (reads log sub) log (filter (λ l. reads l sub) logs) in
      omega (arith, new, old, read, one_reader log, one_more logs)

-- a log that comes brings its own pairs
pub log_more : {P R : Type 0} (at : P → List R) (log : P) (logs : List P) →
    length (flat_map at (logs ++ log ∷ [])) ≡ length (flat_map at logs) + length (at log)
log_more at log logs =
    let last : length (flat_map at (log ∷ [])) ≡ length (at log) + 0 = length-append (at log) [] in
    let parts : length (flat_map at (logs ++ log ∷ [])) ≡ length (flat_map at logs) + length (flat_map at (log ∷ [])) =
    ap length (flat_map-append at logs (log ∷ [])) ∙ length-append _ _ in
    omega (arith, last, parts)

-- ---- all

summed : {a b d e f g : ℕ} (c : ℕ) → a ≡ b + d → b ≡ c → e ≡ c → d ≡ f → g ≡ e + f → a ≡ g
summed c p q r s t = omega (arith, p, q, r, s, t)

module _ (clients : List Client) (policy : Rules) (epoch : ℕ) where
  totals : (subs : List Subscription) (logs : List LogRow) →
      sum_by (λ (numbers : List ℕ). length numbers) (map (readers_at clients policy epoch subs) logs)
      ≡ length (flat_map (pairs_at clients policy epoch subs) logs)
  totals subs [] = refl
  totals subs (log ∷ logs) =
      summed (length (filter (is_pair clients policy epoch log) subs))
      (sum_by-cons (λ (numbers : List ℕ). length numbers) (readers_at clients policy epoch subs log)
      (map (readers_at clients policy epoch subs) logs))
      (length-map (filter (is_pair clients policy epoch log) subs) number_of)
      (length-map (filter (is_pair clients policy epoch log) subs) (pair_of log))
      (totals subs logs)
      (length-append (pairs_at clients policy epoch subs log) (flat_map (pairs_at clients policy epoch subs) logs))

  -- as many as there are readers of all logs together
  pub readers_are_pairs : (s : Streams) →
      sum_by (λ (numbers : List ℕ). length numbers) (all_readers s clients policy epoch) ≡ length (pairs_of s clients policy epoch)
  unfolding all_readers pairs_of
  readers_are_pairs s = totals s.subscriptions s.sources

  -- nobody reads
  pub no_pairs : (logs : List LogRow) → length (flat_map (pairs_at clients policy epoch []) logs) ≡ 0
  no_pairs [] = refl
  no_pairs (log ∷ logs) = no_pairs logs

  -- a subscription brings its own
  pub pairs_with_row : (row : Subscription) (subs : List Subscription) (logs : List LogRow) →
      length (flat_map (pairs_at clients policy epoch (subs ++ row ∷ [])) logs)
      ≡ length (flat_map (pairs_at clients policy epoch subs) logs) + length (pairs_with clients policy epoch logs row)
  pairs_with_row row subs logs =
      one_more (is_pair clients policy epoch) pair_of row subs logs
      ∙ ap (λ (n : ℕ). length (flat_map (pairs_at clients policy epoch subs) logs) + n)
      (sym (length-map (filter (is_read_by clients policy epoch row) logs) (pair_with row)))

  pub pairs_with_subscription : (s : Streams) (number client : ℕ) (channel : Shape) (stream : ℤ) →
      length (pairs_of (subscribed s number client channel stream) clients policy epoch)
      ≡ length (pairs_of s clients policy epoch)
      + length (pairs_with clients policy epoch s.sources
      (record { number = number; client = client; channel = channel; stream = stream }))
  unfolding subscribed pairs_of
  pairs_with_subscription s number client channel stream =
      pairs_with_row (record { number = number; client = client; channel = channel; stream = stream }) s.subscriptions s.sources

  -- and so does a log
  pub pairs_with_log : (s : Streams) (number client : ℕ) (wanted : Wanted) (place : ℕ) (session : ℤ) →
      length (pairs_of (added s number client wanted place (Make session)) clients policy epoch)
      ≡ length (pairs_of s clients policy epoch)
      + length (pairs_at clients policy epoch s.subscriptions (log_of s number wanted place session))
  unfolding pairs_of
  pairs_with_log s number client wanted place session =
      log_more (pairs_at clients policy epoch s.subscriptions) (log_of s number wanted place session) s.sources

  pub pairs_with_image : (s : Streams) (number : ℕ) (wanted : ImageWanted) (place : ℕ) →
      length (pairs_of (imaged s number wanted place) clients policy epoch)
      ≡ length (pairs_of s clients policy epoch)
      + length (pairs_at clients policy epoch s.subscriptions (image_of s number wanted place))
  unfolding pairs_of
  pairs_with_image s number wanted place =
      log_more (pairs_at clients policy epoch s.subscriptions) (image_of s number wanted place) s.sources
