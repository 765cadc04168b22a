-- Images that no subscription reads, by what is kept beside them.
use Rattle.std.proofs.Common.{◌≡◌, ℕ, zero, suc, ◌+◌, ◌<◌, ◌≤◌, ◌==◌, Bool, true, false, not, cond, List, [], ◌∷◌, ◌++◌, length, drop, get_or, map, filter, refl, sym, ap, ◌∙◌, ne_eqb, arith, add-one, append_assoc}
use Rattle.std.specs.Prelude.{◌&&◌, ◌||◌, All}
use Rattle.std.specs.List.{flat_map, list_any}
use Rattle.std.proofs.lemmas.List.Folds.{list_any-append}
use Rattle.log_readers.specs.Numbering.{Rises, number_of, source_of}
use Rattle.log_readers.specs.Readers.{all_readers, readers_at}
use Rattle.log_readers.specs.Unread.{has_none, has_pair, is_kept, is_of_source, is_unread, unread_beside, unread_of, without_unread}
use Rattle.stream_registry.specs.declared.pairs.Pair.{Pair}
use Rattle.stream_registry.specs.declared.row.LogRow.{LogRow}
use Rattle.stream_registry.specs.declared.row.Subscription.{Subscription}
use Rattle.stream_registry.specs.Images.{stays_beside, without_images}
use Rattle.stream_registry.specs.Lingering.{is_number}
use Rattle.stream_registry.specs.Origins.{is_remote}
use Rattle.stream_registry.specs.Pairs.{is_pair, pair_of, pairs_at, pairs_of}
use Rattle.stream_registry.specs.Streams.{Streams}
use Rattle.client_registry.specs.declared.client.Client.{Client}
use Rattle.policy_core.specs.RuleList.{Rules}
use Rattle.log_readers.proofs.ListLemmas.{any_filtered, filter_alike}
use Rattle.log_readers.proofs.RisingLemmas.{finds_itself}

-- ---- one log after another

-- the log at this place, where nobody reads it, and then those behind it
unread_step : (logs : List LogRow) (readers : List (List ℕ)) (i : ℕ) (log : LogRow) (numbers d : List ℕ) →
    length readers ≡ length logs → i < length logs → log ≡ get_or logs i log → numbers ≡ get_or readers i d →
    unread_beside (drop i logs) (drop i readers)
    ≡ cond (is_remote log && has_none numbers) (log.number ∷ unread_beside (drop (suc i) logs) (drop (suc i) readers))
    (unread_beside (drop (suc i) logs) (drop (suc i) readers))
unread_step [] readers i log numbers d same below is are = absurd (omega (arith, below))
unread_step (first ∷ logs) [] i log numbers d same below is are = absurd (omega (arith, same))
unread_step (first ∷ logs) (row ∷ readers) zero log numbers d same below is are = rw (is, are) refl
unread_step (first ∷ logs) (row ∷ readers) (suc i) log numbers d same below is are =
    unread_step logs readers i log numbers d (omega (arith, same)) (omega (arith, below)) is are

swapped : (a b : Bool) → (a && b) ≡ (b && a)
swapped true true = refl
swapped true false = refl
swapped false true = refl
swapped false false = refl

-- it is read, and those behind it decide
pub read_on : (logs : List LogRow) (readers : List (List ℕ)) (i : ℕ) (log : LogRow) (numbers d : List ℕ) →
    length readers ≡ length logs → i < length logs → log ≡ get_or logs i log → numbers ≡ get_or readers i d →
    (has_none numbers && is_remote log) ≡ false →
    has_none (unread_beside (drop (i + 1) logs) (drop (i + 1) readers)) ≡ has_none (unread_beside (drop i logs) (drop i readers))
read_on logs readers i log numbers d same below is are goes =
    let rest = unread_beside (drop (suc i) logs) (drop (suc i) readers) in
    rw add-one
    (ap (λ (b : Bool). has_none (cond b (log.number ∷ rest) rest)) (sym (swapped (is_remote log) (has_none numbers) ∙ goes))
    ∙ ap has_none (sym (unread_step logs readers i log numbers d same below is are)))

one_counted : {X : Type 0} (b : Bool) (x : X) (rest : List X) → length (cond b (x ∷ rest) rest) ≡ cond b 1 0 + length rest
one_counted true x rest = omega arith
one_counted false x rest = omega arith

-- so many images are left
images_left : (logs : List LogRow) (i : ℕ) (log : LogRow) → i < length logs → log ≡ get_or logs i log →
    length (filter is_remote (drop i logs)) ≡ cond (is_remote log) 1 0 + length (filter is_remote (drop (suc i) logs))
images_left [] i log below is = absurd (omega (arith, below))
images_left (first ∷ logs) zero log below is = rw is (one_counted (is_remote first) first (filter is_remote logs))
images_left (first ∷ logs) (suc i) log below is = images_left logs i log (omega (arith, below)) is

-- these are the numbers so far, and with the images that are left there are not too many
pub record IsTelling (logs : List LogRow) (readers : List (List ℕ)) (numbers : List ℕ) (count at : ℕ) : Type 0 where
  pub so_far : numbers ++ unread_beside (drop at logs) (drop at readers) ≡ unread_beside logs readers
  pub few : count + length (filter is_remote (drop at logs)) ≤ 512

pub empty_is : (numbers : List ℕ) → (length numbers == 0) ≡ has_none numbers
empty_is [] = refl
empty_is (number ∷ numbers) = ne_eqb (suc (length numbers)) 0 (λ same. omega (arith, same))

-- somebody reads the log
pub goes_not : (remote none : Bool) → none ≡ false → (remote && none) ≡ false
goes_not true none is = is
goes_not false none is = refl

module _ (logs : List LogRow) (readers : List (List ℕ)) (numbers : List ℕ) (count at : ℕ) (log : LogRow) (row d : List ℕ) where
  pub telling_no : IsTelling logs readers numbers count at → length readers ≡ length logs → at < length logs →
      log ≡ get_or logs at log → row ≡ get_or readers at d → (is_remote log && has_none row) ≡ false →
      IsTelling logs readers numbers count (at + 1)
  telling_no h same below is are goes =
      let step = unread_step logs readers at log row d same below is are in
      let left = images_left logs at log below is in
      let few : count + length (filter is_remote (drop at logs)) ≤ 512 = h.few in
      rw add-one (record {
        so_far = ap (λ (rest : List ℕ). numbers ++ rest)
            (sym (step ∙ ap (λ (b : Bool).
            cond b (log.number ∷ unread_beside (drop (suc at) logs) (drop (suc at) readers))
            (unread_beside (drop (suc at) logs) (drop (suc at) readers))) goes))
            ∙ h.so_far;
        few = omega (arith, left, few);
      })

  pub telling_yes : (more : List ℕ) (counted : ℕ) → IsTelling logs readers numbers count at → length readers ≡ length logs →
      at < length logs → log ≡ get_or logs at log → row ≡ get_or readers at d → is_remote log ≡ true → has_none row ≡ true →
      more ≡ numbers ++ log.number ∷ [] → counted ≡ count + 1 → IsTelling logs readers more counted (at + 1)
  telling_yes more counted h same below is are remote none pushed long =
      let step = unread_step logs readers at log row d same below is are in
      let left = images_left logs at log below is ∙ ap (λ (b : Bool). cond b 1 0 + length (filter is_remote (drop (suc at) logs))) remote in
      let few : count + length (filter is_remote (drop at logs)) ≤ 512 = h.few in
      let on : at + 1 ≡ suc at = omega arith in
      rw (pushed, on) (record {
        so_far = append_assoc numbers (log.number ∷ []) (unread_beside (drop (suc at) logs) (drop (suc at) readers))
            ∙ ap (λ (rest : List ℕ). numbers ++ rest)
            (sym (step ∙ ap (λ (b : Bool).
            cond (b && has_none row) (log.number ∷ unread_beside (drop (suc at) logs) (drop (suc at) readers))
            (unread_beside (drop (suc at) logs) (drop (suc at) readers))) remote
            ∙ ap (λ (b : Bool).
            cond b (log.number ∷ unread_beside (drop (suc at) logs) (drop (suc at) readers))
            (unread_beside (drop (suc at) logs) (drop (suc at) readers))) none))
            ∙ h.so_far;
        few = omega (arith, left, few, long);
      })

-- ---- beside a row for each log

one_beside : (b : Bool) (log : LogRow) (logs : List LogRow) (numbers : List ℕ) → numbers ≡ map source_of logs →
    cond b (log.number ∷ numbers) numbers ≡ map source_of (cond b (log ∷ logs) logs)
one_beside true log logs numbers h = ap (λ (rest : List ℕ). log.number ∷ rest) h
one_beside false log logs numbers h = h

unread_mapped : (f : LogRow → List ℕ) (logs : List LogRow) →
    unread_beside logs (map f logs) ≡ map source_of (filter (λ log. is_remote log && has_none (f log)) logs)
unread_mapped f [] = refl
unread_mapped f (log ∷ logs) =
    one_beside (is_remote log && has_none (f log)) log (filter (λ one. is_remote one && has_none (f one)) logs)
    (unread_beside logs (map f logs)) (unread_mapped f logs)

-- ---- by the pairs

pub any_flat : {X Y : Type 0} (t : Y → Bool) (f : X → List Y) (xs : List X) →
    list_any t (flat_map f xs) ≡ list_any (λ x. list_any t (f x)) xs
any_flat t f [] = refl
any_flat {X} {Y} t f (x ∷ xs) =
    list_any-append t (f x) (flat_map f xs) ∙ ap (λ (b : Bool). list_any t (f x) || b) (any_flat t f xs)

pub any_alike : {X : Type 0} (p q : X → Bool) (xs : List X) → ((x : X) → p x ≡ q x) → list_any p xs ≡ list_any q xs
any_alike p q [] same = refl
any_alike p q (x ∷ xs) same = rw (same x) (ap (λ (b : Bool). q x || b) (any_alike p q xs same))

any_number : (number : ℕ) (logs : List LogRow) →
    list_any (is_number number) (map source_of logs) ≡ list_any (λ (log : LogRow). log.number == number) logs
any_number number [] = refl
any_number number (log ∷ logs) = ap (λ (rest : Bool). (log.number == number) || rest) (any_number number logs)

-- the pairs of a log are of its source, and there are some where somebody reads it
any_at : (source : ℕ) (log : LogRow) (read : List Subscription) →
    list_any (is_of_source source) (map (pair_of log) read) ≡ (not (has_none (map number_of read)) && (log.number == source))
any_at source log [] = refl
any_at source log (row ∷ read) = either (log.number == source) source log read refl
  where
    nowhere : (source : ℕ) (log : LogRow) (read : List Subscription) → (log.number == source) ≡ false →
        list_any (is_of_source source) (map (pair_of log) read) ≡ false
    nowhere source log [] other = refl
    nowhere source log (row ∷ read) other =
        ap (λ (b : Bool). b || list_any (is_of_source source) (map (pair_of log) read)) other ∙ nowhere source log read other

    either : (b : Bool) (source : ℕ) (log : LogRow) (read : List Subscription) → (log.number == source) ≡ b →
        ((log.number == source) || list_any (is_of_source source) (map (pair_of log) read)) ≡ (log.number == source)
    either true source log read is = rw is refl
    either false source log read is = rw is (nowhere source log read is)

not_not : (b : Bool) → not (not b) ≡ b
not_not true = refl
not_not false = refl

twice : (a b : Bool) → (a && (a && b)) ≡ (a && b)
twice true b = refl
twice false b = refl

module _ (clients : List Client) (policy : Rules) (epoch : ℕ) where
  -- nobody reads the image
  abbrev is_alone : List Subscription → LogRow → Bool
  is_alone subs log = is_remote log && has_none (readers_at clients policy epoch subs log)

  has_own : (s : Streams) (low last : ℕ) → Rises source_of low last s.sources →
      All (λ log. has_pair (pairs_of s clients policy epoch) log ≡ not (has_none (readers_at clients policy epoch s.subscriptions log)))
      s.sources
  unfolding pairs_of
  has_own s low last up =
      let found = finds_itself source_of (λ log. not (has_none (readers_at clients policy epoch s.subscriptions log))) low last s.sources up in
      λ k d within.
      let log : LogRow = get_or s.sources k d in
      any_flat (is_of_source log.number) (pairs_at clients policy epoch s.subscriptions) s.sources
      ∙ any_alike (λ one. list_any (is_of_source log.number) (pairs_at clients policy epoch s.subscriptions one))
      (λ one. not (has_none (readers_at clients policy epoch s.subscriptions one)) && (source_of one == log.number)) s.sources
      (λ one. any_at log.number one (filter (is_pair clients policy epoch one) s.subscriptions))
      ∙ found k d within

  unread_alone : (s : Streams) (low last : ℕ) → Rises source_of low last s.sources →
      All (λ log. is_unread (pairs_of s clients policy epoch) log ≡ is_alone s.subscriptions log) s.sources
  unread_alone s low last up =
      let own = has_own s low last up in
      λ k d within.
      let log : LogRow = get_or s.sources k d in
      ap (λ (b : Bool). is_remote log && b)
      (ap not (own k d within) ∙ not_not (has_none (readers_at clients policy epoch s.subscriptions log)))

  -- the numbers told are those of the images of which no pair is
  pub unread_numbers : (s : Streams) (low last : ℕ) → Rises source_of low last s.sources →
      unread_beside s.sources (all_readers s clients policy epoch) ≡ unread_of s (pairs_of s clients policy epoch)
  unfolding all_readers
  unread_numbers s low last up =
      unread_mapped (readers_at clients policy epoch s.subscriptions) s.sources
      ∙ ap (map source_of)
      (sym (filter_alike (is_unread (pairs_of s clients policy epoch)) (is_alone s.subscriptions) s.sources (unread_alone s low last up)))

  -- taken away by their numbers, they are gone
  pub unread_gone : (s : Streams) (low last : ℕ) → Rises source_of low last s.sources →
      without_images s (unread_of s (pairs_of s clients policy epoch)) ≡ without_unread s clients policy epoch
  unfolding without_images without_unread
  unread_gone s low last up =
      let pairs : List Pair = pairs_of s clients policy epoch in
      let found = finds_itself source_of (is_unread pairs) low last s.sources up in
      ap (λ (logs : List LogRow). record s { sources = logs })
      (filter_alike (stays_beside (unread_of s pairs)) (is_kept pairs) s.sources
      (λ k d within.
      let log : LogRow = get_or s.sources k d in
      ap not (ap (λ (b : Bool). is_remote log && b)
      (any_number log.number (filter (is_unread pairs) s.sources)
      ∙ any_filtered (λ (one : LogRow). one.number == log.number) (is_unread pairs) s.sources
      ∙ found k d within)
      ∙ twice (is_remote log) (not (has_pair pairs log)))))

  none_at : (log : LogRow) (read : List Subscription) → not (is_remote log && has_none (map number_of read)) ≡ false →
      map (pair_of log) read ≡ []
  none_at log [] goes = refl
  none_at log (row ∷ read) goes = never (is_remote log) goes
    where
      never : (b : Bool) → not (b && false) ≡ false → map (pair_of log) (row ∷ read) ≡ []
      never true h = absurd (cc)
      never false h = absurd (cc)

  one_kept : (b : Bool) (stays : LogRow → Bool) (f : LogRow → List Pair) (log : LogRow) (rest logs : List LogRow) → stays log ≡ b →
      (stays log ≡ false → f log ≡ []) → flat_map f rest ≡ flat_map f logs →
      flat_map f (cond b (log ∷ rest) rest) ≡ f log ++ flat_map f logs
  one_kept true stays f log rest logs is none same = ap (λ (pairs : List Pair). f log ++ pairs) same
  one_kept false stays f log rest logs is none same = rw (none is) same

  -- logs of which no pair is bring none
  kept_pairs : (stays : LogRow → Bool) (f : LogRow → List Pair) (logs : List LogRow) → ((log : LogRow) → stays log ≡ false → f log ≡ []) →
      flat_map f (filter stays logs) ≡ flat_map f logs
  kept_pairs stays f [] none = refl
  kept_pairs stays f (log ∷ logs) none =
      one_kept (stays log) stays f log (filter stays logs) logs refl (none log) (kept_pairs stays f logs none)

  kept_alone : (s : Streams) (low last : ℕ) → Rises source_of low last s.sources →
      filter (is_kept (pairs_of s clients policy epoch)) s.sources ≡ filter (λ log. not (is_alone s.subscriptions log)) s.sources
  kept_alone s low last up =
      let alone = unread_alone s low last up in
      filter_alike (is_kept (pairs_of s clients policy epoch)) (λ log. not (is_alone s.subscriptions log)) s.sources
      (λ k d within. ap not (alone k d within))

  -- the pairs stay
  pub unread_pairs : (s : Streams) (low last : ℕ) → Rises source_of low last s.sources →
      pairs_of (without_unread s clients policy epoch) clients policy epoch ≡ pairs_of s clients policy epoch
  unfolding pairs_of without_unread
  unread_pairs s low last up =
      ap (flat_map (pairs_at clients policy epoch s.subscriptions)) (kept_alone s low last up)
      ∙ kept_pairs (λ log. not (is_alone s.subscriptions log)) (pairs_at clients policy epoch s.subscriptions) s.sources
      (λ log. none_at log (filter (is_pair clients policy epoch log) s.subscriptions))
