-- What the logs have noted, and how it grows by a subscription.
use Rattle.std.proofs.Common.{◌≡◌, ℕ, zero, suc, ◌<◌, ◌≤◌, Bool, true, false, cond, List, [], ◌∷◌, ◌++◌, length, map, take, get_or, set, refl, ap, ◌∙◌, arith, append-nil}
use Rattle.std.specs.Prelude.{◌&&◌, filter, All}
use Rattle.std.proofs.lemmas.List.{map-append}
use Rattle.std.proofs.lemmas.List.Elements.{filter-append, All-nil, All-cons}
use Rattle.log_readers.specs.Numbering.{number_of}
use Rattle.log_readers.specs.Readers.{noted, noted_at, readers_at}
use Rattle.stream_registry.specs.declared.row.LogRow.{LogRow}
use Rattle.stream_registry.specs.declared.row.Subscription.{Subscription}
use Rattle.stream_registry.specs.Pairs.{fits, is_allowed, is_pair}
use Rattle.client_registry.specs.declared.client.Client.{Client}
use Rattle.policy_core.specs.RuleList.{Rules}

-- ---- a loop that notes at one log after another

pub noted_read : (row : Subscription) (logs : List LogRow) (readers : List (List ℕ)) (i : ℕ) (d : List ℕ) →
    length readers ≡ length logs → i < length logs → get_or (noted row (take i logs) readers) i d ≡ get_or readers i d
noted_read row [] readers i d same below = absurd (omega (arith, below))
noted_read row (log ∷ logs) [] i d same below = absurd (omega (arith, same))
noted_read row (log ∷ logs) (numbers ∷ readers) zero d same below = refl
noted_read row (log ∷ logs) (numbers ∷ readers) (suc i) d same below =
    noted_read row logs readers i d (omega (arith, same)) (omega (arith, below))

pub noted_written : (row : Subscription) (logs : List LogRow) (readers : List (List ℕ)) (i : ℕ) (log : LogRow)
    (d numbers : List ℕ) → length readers ≡ length logs → i < length logs →
    numbers ≡ noted_at row (get_or logs i log) (get_or readers i d) →
    set (noted row (take i logs) readers) i numbers ≡ noted row (take (suc i) logs) readers
noted_written row [] readers i other d numbers same below is = absurd (omega (arith, below))
noted_written row (log ∷ logs) [] i other d numbers same below is = absurd (omega (arith, same))
noted_written row (log ∷ logs) (first ∷ readers) zero other d numbers same below is =
    ap (λ (ns : List ℕ). ns ∷ readers) is
noted_written row (log ∷ logs) (first ∷ readers) (suc i) other d numbers same below is =
    ap (λ (rest : List (List ℕ)). noted_at row log first ∷ rest)
    (noted_written row logs readers i other d numbers (omega (arith, same)) (omega (arith, below)) is)

-- ---- a subscription more

one_more : (paired : Bool) (row : Subscription) (numbers : List ℕ) →
    numbers ++ map number_of (cond paired (row ∷ []) []) ≡ cond paired (numbers ++ row.number ∷ []) numbers
one_more true row numbers = refl
one_more false row numbers = append-nil numbers

twice : (fitting allowed : Bool) (more numbers : List ℕ) →
    cond (fitting && allowed) more numbers ≡ cond allowed (cond fitting more numbers) numbers
twice true true more numbers = refl
twice true false more numbers = refl
twice false true more numbers = refl
twice false false more numbers = refl

module _ (clients : List Client) (policy : Rules) (epoch : ℕ) (subs : List Subscription) (row : Subscription) where
  -- at one log
  readers_more : (log : LogRow) →
      readers_at clients policy epoch (subs ++ row ∷ []) log
      ≡ cond (is_allowed clients policy epoch row) (noted_at row log (readers_at clients policy epoch subs log))
      (readers_at clients policy epoch subs log)
  readers_more log =
      ap (map number_of) (filter-append (is_pair clients policy epoch log) subs (row ∷ []))
      ∙ map-append number_of (filter (is_pair clients policy epoch log) subs) (filter (is_pair clients policy epoch log) (row ∷ []))
      ∙ one_more (is_pair clients policy epoch log row) row (readers_at clients policy epoch subs log)
      ∙ twice (fits log row) (is_allowed clients policy epoch row) (readers_at clients policy epoch subs log ++ row.number ∷ [])
      (readers_at clients policy epoch subs log)

  when : (allowed : Bool) (logs : List LogRow) → is_allowed clients policy epoch row ≡ allowed →
      map (readers_at clients policy epoch (subs ++ row ∷ [])) logs
      ≡ cond allowed (noted row logs (map (readers_at clients policy epoch subs) logs)) (map (readers_at clients policy epoch subs) logs)
  when true [] is = refl
  when false [] is = refl
  when true (log ∷ logs) is =
      rw (readers_more log, is)
      (ap (λ (rest : List (List ℕ)). noted_at row log (readers_at clients policy epoch subs log) ∷ rest) (when true logs is))
  when false (log ∷ logs) is =
      rw (readers_more log, is)
      (ap (λ (rest : List (List ℕ)). readers_at clients policy epoch subs log ∷ rest) (when false logs is))

  -- at all logs
  pub noted_more : (logs : List LogRow) →
      map (readers_at clients policy epoch (subs ++ row ∷ [])) logs
      ≡ cond (is_allowed clients policy epoch row) (noted row logs (map (readers_at clients policy epoch subs) logs))
      (map (readers_at clients policy epoch subs) logs)
  noted_more logs = when (is_allowed clients policy epoch row) logs refl

-- ---- how many there are

few_more : (paired : Bool) (row : Subscription) (rest : List Subscription) (limit : ℕ) → length (map number_of rest) ≤ limit →
    length (map number_of (cond paired (row ∷ rest) rest)) ≤ suc limit
few_more true row rest limit h = omega (arith, h)
few_more false row rest limit h = omega (arith, h)

-- no log has more readers than there are subscriptions
pub few_readers : (clients : List Client) (policy : Rules) (epoch : ℕ) (subs : List Subscription) (log : LogRow) →
    length (readers_at clients policy epoch subs log) ≤ length subs
few_readers clients policy epoch [] log = omega arith
few_readers clients policy epoch (row ∷ subs) log =
    few_more (is_pair clients policy epoch log row) row (filter (is_pair clients policy epoch log) subs) (length subs)
    (few_readers clients policy epoch subs log)

pub all_few : (clients : List Client) (policy : Rules) (epoch : ℕ) (subs : List Subscription) (logs : List LogRow) (limit : ℕ) →
    length subs < limit → All (λ (numbers : List ℕ). length numbers < limit) (map (readers_at clients policy epoch subs) logs)
all_few clients policy epoch subs [] limit few = All-nil (λ (numbers : List ℕ). length numbers < limit)
all_few clients policy epoch subs (log ∷ logs) limit few =
    let first = few_readers clients policy epoch subs log in
    All-cons (λ (numbers : List ℕ). length numbers < limit) (readers_at clients policy epoch subs log)
    (map (readers_at clients policy epoch subs) logs) (omega (arith, first, few)) (all_few clients policy epoch subs logs limit few)

-- ---- none yet

-- logs that were emptied
pub emptied : (logs : List LogRow) (slots : List (List ℕ)) → length logs ≤ length slots →
    map {A = List ℕ} {B = List ℕ} (λ numbers. []) (take (length logs) slots)
    ≡ map {A = LogRow} {B = List ℕ} (λ log. []) logs
emptied [] slots few = refl
emptied (log ∷ logs) [] few = absurd (omega (arith, few))
emptied (log ∷ logs) (numbers ∷ slots) few =
    ap (λ (rest : List (List ℕ)). [] ∷ rest) (emptied logs slots (omega (arith, few)))
