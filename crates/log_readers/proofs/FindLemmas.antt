-- The numbers that stand at a log are those of its pairs.
use Rattle.std.proofs.Common.{◌≡◌, ℕ, zero, suc, ◌<◌, ◌==◌, Bool, true, false, cond, List, [], ◌∷◌, ◌++◌, length, drop, get_or, map, filter, append-nil, refl, sym, ap, ◌∙◌, eqb-true, ne_eqb, arith}
use Rattle.std.specs.Prelude.{◌||◌}
use Rattle.std.specs.List.{flat_map, list_any}
use Rattle.std.proofs.lemmas.List.{map-append}
use Rattle.std.proofs.lemmas.List.Elements.{All-weaker}
use Rattle.log_readers.specs.Finding.{is_among, numbers_at}
use Rattle.log_readers.specs.Numbering.{Rises, number_of, source_of}
use Rattle.log_readers.specs.Readers.{all_readers, readers_at}
use Rattle.stream_registry.specs.declared.pairs.Pair.{Pair}
use Rattle.stream_registry.specs.declared.row.LogRow.{LogRow}
use Rattle.stream_registry.specs.declared.row.Subscription.{Subscription}
use Rattle.stream_registry.specs.Pairs.{is_of, is_pair, pair_of, pairs_at, pairs_of}
use Rattle.stream_registry.specs.Streams.{Streams}
use Rattle.client_registry.specs.declared.client.Client.{Client}
use Rattle.policy_core.specs.RuleList.{Rules}
use Rattle.log_readers.proofs.ListLemmas.{any_filtered, filter_alike, flat_alike, none_pass}
use Rattle.log_readers.proofs.PartLemmas.{log_passes, pairs_of_logs}
use Rattle.log_readers.proofs.RisingLemmas.{all_above}

-- ---- a log of another source is passed over

pub numbers_passed : (source : ℕ) (logs : List LogRow) (readers : List (List ℕ)) (i : ℕ) (log : LogRow) →
    length readers ≡ length logs → i < length logs → log ≡ get_or logs i log → (log.number == source) ≡ false →
    numbers_at source (drop i logs) (drop i readers) ≡ numbers_at source (drop (suc i) logs) (drop (suc i) readers)
numbers_passed source [] readers i log same below is other = absurd (omega (arith, below))
numbers_passed source (first ∷ logs) [] i log same below is other = absurd (omega (arith, same))
numbers_passed source (first ∷ logs) (numbers ∷ readers) zero log same below is other =
    ap (λ (b : Bool). cond b numbers (numbers_at source logs readers))
    (ap (λ (one : LogRow). one.number == source) (sym is) ∙ other)
numbers_passed source (first ∷ logs) (numbers ∷ readers) (suc i) log same below is other =
    numbers_passed source logs readers i log (omega (arith, same)) (omega (arith, below)) is other

-- ---- no two logs have one source

no_other : (source last : ℕ) (logs : List LogRow) → Rises source_of source last logs →
    filter (log_passes (λ n. n == source)) logs ≡ []
no_other source last logs up =
    filter_alike (log_passes (λ n. n == source)) (λ log. false) logs
    (All-weaker (λ log. source < source_of log) (λ log. (log.number == source) ≡ false)
    (λ log above. ne_eqb log.number source (λ same. omega (arith, same, above))) logs (all_above source_of source last logs up))
    ∙ none_pass logs

-- the log is that of the source, or one of the others is
found_or : (b : Bool) (f : LogRow → List ℕ) (source last : ℕ) (log : LogRow) (logs : List LogRow) →
    (log.number == source) ≡ b → Rises source_of log.number last logs →
    numbers_at source logs (map f logs) ≡ flat_map f (filter (log_passes (λ n. n == source)) logs) →
    cond b (f log) (numbers_at source logs (map f logs))
    ≡ flat_map f (cond b (log ∷ filter (log_passes (λ n. n == source)) logs) (filter (log_passes (λ n. n == source)) logs))
found_or true f source last log logs is up rest =
    let same : log.number ≡ source = eqb-true log.number source is in
    sym (append-nil (f log))
    ∙ ap (λ (others : List LogRow). f log ++ flat_map f others)
    (sym (ap (λ (n : ℕ). filter (log_passes (λ m. m == n)) logs) (sym same) ∙ no_other log.number last logs up))
found_or false f source last log logs is up rest = rest

found_alone : (f : LogRow → List ℕ) (source low last : ℕ) (logs : List LogRow) → Rises source_of low last logs →
    numbers_at source logs (map f logs) ≡ flat_map f (filter (log_passes (λ n. n == source)) logs)
found_alone f source low last [] up = refl
found_alone f source low last (log ∷ logs) up =
    found_or (log.number == source) f source last log logs refl up.1 (found_alone f source log.number last logs up.1)

-- ---- by its pairs

abbrev subscription_of : Pair → ℕ
subscription_of pair = pair.subscription

numbers_of_pairs : (log : LogRow) (read : List Subscription) →
    map number_of read ≡ map subscription_of (map (pair_of log) read)
numbers_of_pairs log [] = refl
numbers_of_pairs log (row ∷ read) = ap (λ (rest : List ℕ). row.number ∷ rest) (numbers_of_pairs log read)

map_flat : {X Y Z : Type 0} (f : Y → Z) (g : X → List Y) (xs : List X) → map f (flat_map g xs) ≡ flat_map (λ x. map f (g x)) xs
map_flat f g [] = refl
map_flat {Z = Z} f g (x ∷ xs) =
    map-append f (g x) (flat_map g xs) ∙ ap (λ (rest : List Z). map f (g x) ++ rest) (map_flat f g xs)

any_mapped : (number : ℕ) (pairs : List Pair) →
    is_among (map subscription_of pairs) number ≡ list_any (λ (pair : Pair). pair.subscription == number) pairs
any_mapped number [] = refl
any_mapped number (pair ∷ pairs) = ap (λ (rest : Bool). (pair.subscription == number) || rest) (any_mapped number pairs)

pub among_source : (source number : ℕ) (pairs : List Pair) →
    is_among (map subscription_of (filter (λ pair. pair.source == source) pairs)) number ≡ list_any (is_of source number) pairs
among_source source number pairs =
    any_mapped number (filter (λ pair. pair.source == source) pairs)
    ∙ any_filtered (λ (pair : Pair). pair.subscription == number) (λ pair. pair.source == source) pairs

module _ (clients : List Client) (policy : Rules) (epoch : ℕ) where
  pub found_readers : (s : Streams) (source low last : ℕ) → Rises source_of low last s.sources →
      numbers_at source s.sources (all_readers s clients policy epoch)
      ≡ map (λ pair. pair.subscription) (filter (λ pair. pair.source == source) (pairs_of s clients policy epoch))
  unfolding all_readers pairs_of
  found_readers s source low last up =
      found_alone (readers_at clients policy epoch s.subscriptions) source low last s.sources up
      ∙ flat_alike (readers_at clients policy epoch s.subscriptions)
      (λ log. map subscription_of (pairs_at clients policy epoch s.subscriptions log))
      (filter (log_passes (λ n. n == source)) s.sources)
      (λ log. numbers_of_pairs log (filter (is_pair clients policy epoch log) s.subscriptions))
      ∙ sym (map_flat subscription_of (pairs_at clients policy epoch s.subscriptions)
      (filter (log_passes (λ n. n == source)) s.sources))
      ∙ ap (map subscription_of) (pairs_of_logs clients policy epoch (λ n. n == source) s.subscriptions s.sources)
