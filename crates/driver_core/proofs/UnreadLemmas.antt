-- Images that no subscription reads: those that go are told, at their places.
use Rattle.std.proofs.Common.{◌≡◌, ℕ, ◌<◌, ◌≤◌, ◌==◌, Bool, true, false, not, ◌&&◌, cond, List, [], ◌∷◌, ◌++◌, map, filter, refl, sym, ap, ◌∙◌, arith}
use Rattle.std.specs.Prelude.{◌||◌}
use Rattle.std.specs.List.{AllByRecursion, list_any}
use Rattle.std.proofs.lemmas.Bool.{ne_eqb}
use Rattle.std.proofs.lemmas.List.Elements.{filter_agree}
use Rattle.driver_core.specs.Soundness.{Ascend, log_of}
use Rattle.driver_core.proofs.LogListLemmas.{closed_logs}
use Rattle.log_readers.specs.Unread.{has_pair, is_kept, is_left, is_unread}
use Rattle.log_readers.proofs.ListLemmas.{filter_both, filter_mapped}
use Rattle.stream_registry.specs.declared.lingering.LogPlace.{LogPlace}
use Rattle.stream_registry.specs.declared.pairs.Pair.{Pair}
use Rattle.stream_registry.specs.declared.row.Origin.{Origin}
use Rattle.stream_registry.specs.declared.row.Origin.TheVariants.{Published, Remote}
use Rattle.stream_registry.specs.declared.row.LogRow.{LogRow}
use Rattle.stream_registry.specs.Lingering.{place_of}
use Rattle.stream_registry.specs.Origins.{is_published_by, unlingering}

-- a log that closes, or an image of which none of these pairs is
abbrev pub is_closed_by : List Pair → List LogPlace → LogRow → Bool
is_closed_by pairs closes log = not (is_left closes log) || is_unread pairs log

-- ---- whether a log lingers is nothing to that

log_kind : (origin : Origin) → is_published_by (unlingering origin) ≡ is_published_by origin
log_kind (Published exclusive since) = refl
log_kind (Remote address initial_term join) = refl

kept_alike : (pairs : List Pair) (log : LogRow) → is_kept pairs (log_of log) ≡ is_kept pairs log
kept_alike pairs log = ap (λ (b : Bool). not (not b && not (has_pair pairs log))) (log_kind log.origin)

-- a test that does not see whether logs linger
seen_through : (stays : LogRow → Bool) (logs : List LogRow) → ((log : LogRow) → stays (log_of log) ≡ stays log) →
    map log_of (filter stays logs) ≡ filter stays (map log_of logs)
seen_through stays logs alike =
    ap (map log_of) (filter_agree stays (λ (log : LogRow). stays (log_of log)) (λ log. sym (alike log)) logs)
    ∙ sym (filter_mapped stays log_of logs)

pub kept_as_logs : (pairs : List Pair) (logs : List LogRow) →
    map log_of (filter (is_kept pairs) logs) ≡ filter (is_kept pairs) (map log_of logs)
kept_as_logs pairs logs = seen_through (is_kept pairs) logs (kept_alike pairs)

-- ---- lists one behind the other

pub filter_joined : (stays : LogRow → Bool) (first second : List LogRow) →
    filter stays (first ++ second) ≡ filter stays first ++ filter stays second
filter_joined stays [] second = refl
filter_joined stays (log ∷ first) second = by (stays log) (filter_joined stays first second)
  where
    by : (b : Bool) → filter stays (first ++ second) ≡ filter stays first ++ filter stays second →
        cond b (log ∷ filter stays (first ++ second)) (filter stays (first ++ second))
        ≡ cond b (log ∷ filter stays first) (filter stays first) ++ filter stays second
    by true rest = ap (λ (others : List LogRow). log ∷ others) rest
    by false rest = rest

abbrev is_of : ℕ → LogPlace → Bool
is_of source closed = closed.source == source

-- ---- those that close

either_left : (left unread : Bool) → not (not left || unread) ≡ (left && not unread)
either_left true true = refl
either_left true false = refl
either_left false unread = refl

left_alike : (pairs : List Pair) (closes : List LogPlace) (log : LogRow) →
    (is_left closes (log_of log) && is_kept pairs (log_of log)) ≡ (is_left closes log && is_kept pairs log)
left_alike pairs closes log = ap (λ (b : Bool). is_left closes log && b) (kept_alike pairs log)

-- the places of those that close leave exactly the others
pub closed_left : (pairs : List Pair) (closes : List LogPlace) (last : ℕ) (logs : List LogRow) → Ascend 0 last logs →
    filter (is_left (map place_of (filter (is_closed_by pairs closes) logs))) (map log_of logs)
    ≡ filter (is_kept pairs) (filter (is_left closes) (map log_of logs))
closed_left pairs closes last logs up =
    let both : LogRow → Bool = λ log. is_left closes log && is_kept pairs log in
    sym (closed_logs (is_closed_by pairs closes) 0 last logs up)
    ∙ ap (map log_of)
    (filter_agree (λ (log : LogRow). not (is_closed_by pairs closes log)) (λ log. is_left closes log && is_kept pairs log)
    (λ log. either_left (is_left closes log) (is_unread pairs log)) logs)
    ∙ seen_through (λ log. is_left closes log && is_kept pairs log) logs (left_alike pairs closes)
    ∙ sym (filter_both (is_kept pairs) (is_left closes) (map log_of logs))

-- ---- a log that comes with the event

none_of_lower : (closes : LogRow → Bool) (source before last : ℕ) (logs : List LogRow) → Ascend before last logs → last < source →
    list_any (is_of source) (map place_of (filter closes logs)) ≡ false
none_of_lower closes source before last [] up above = refl
none_of_lower closes source before last (log ∷ logs) up above =
    by (closes log) (none_of_lower closes source log.number last logs up.1 above)
  where
    under : (number end : ℕ) (rest : List LogRow) → Ascend number end rest → number ≤ end
    under number end [] up' = up'
    under number end (one ∷ rest) up' =
        let low = up'.0 in let high = under one.number end rest up'.1 in omega (arith, low, high)

    other : (log.number == source) ≡ false
    other = ne_eqb log.number source (λ same. let low = under log.number last logs up.1 in omega (arith, low, above, same))

    by : (b : Bool) → list_any (is_of source) (map place_of (filter closes logs)) ≡ false →
        list_any (is_of source) (map place_of (cond b (log ∷ filter closes logs) (filter closes logs))) ≡ false
    by true none = rw (other, none) refl
    by false none = none

-- is none of those that close
pub fresh_left : (closes : LogRow → Bool) (last : ℕ) (logs opened : List LogRow) → Ascend 0 last logs →
    AllByRecursion (λ log. last < log.number) opened →
    filter (is_left (map place_of (filter closes logs))) opened ≡ opened
fresh_left closes last logs [] up fresh = refl
fresh_left closes last logs (log ∷ opened) up fresh =
    rw (none_of_lower closes log.number 0 last logs up fresh.0)
    (ap (λ (rest : List LogRow). log ∷ rest) (fresh_left closes last logs opened up fresh.1))
