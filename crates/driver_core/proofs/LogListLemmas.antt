-- Lists of logs: their numbers ascend, so that the places of some of them tell which these are.
use Rattle.std.proofs.Common.{◌≡◌, ℕ, ◌<◌, ◌≤◌, ◌==◌, Bool, true, false, not, cond, List, [], ◌∷◌, ◌++◌, length, map, filter, get_or, refl, sym, ap, subst, arith}
use Rattle.std.specs.List.{All, list_any}
use Rattle.std.proofs.lemmas.Bool.{eq-eqb, ne_eqb}
use Rattle.std.proofs.lemmas.List.{get_or-map, length-map}
use Rattle.std.proofs.lemmas.List.Elements.{All-map}
use Rattle.driver_core.specs.Soundness.{AreSizes, Ascend, BeginsBy, BeginsSoundly, log_of}
use Rattle.log_readers.specs.Unread.{is_left}
use Rattle.stream_registry.specs.declared.lingering.LogPlace.{LogPlace}
use Rattle.stream_registry.specs.declared.row.Origin.{Origin}
use Rattle.stream_registry.specs.declared.row.Origin.TheVariants.{Published, Remote}
use Rattle.stream_registry.specs.declared.row.LogRow.{LogRow}
use Rattle.stream_registry.specs.declared.row.Registration.{Registration}
use Rattle.stream_registry.specs.Lingering.{is_used, left_alone, place_of, settled_one}
use Rattle.stream_registry.specs.Origins.{left_by, unlingering}

-- ---- numbers ascend

pub ascend_push : (before last next : ℕ) (logs : List LogRow) (log : LogRow) → Ascend before last logs →
    last < log.number → log.number ≤ next → Ascend before next (logs ++ log ∷ [])
ascend_push before last next [] log up above below = (omega (arith, up, above), below)
ascend_push before last next (first ∷ logs) log up above below =
    (up.0, ascend_push first.number last next logs log up.1 above below)

pub ascend_up_to : (before last next : ℕ) (logs : List LogRow) → last ≤ next → Ascend before last logs →
    Ascend before next logs
ascend_up_to before last next [] more up = omega (arith, more, up)
ascend_up_to before last next (first ∷ logs) more up = (up.0, ascend_up_to first.number last next logs more up.1)

ascend_from : (lower before last : ℕ) (logs : List LogRow) → lower ≤ before → Ascend before last logs →
    Ascend lower last logs
ascend_from lower before last [] low up = omega (arith, low, up)
ascend_from lower before last (first ∷ logs) low up = (let above = up.0 in omega (arith, low, above), up.1)

one_kept_ascends : (b : Bool) (before last : ℕ) (first : LogRow) (logs : List LogRow) →
    before < first.number → Ascend first.number last logs → Ascend before last (cond b (first ∷ logs) logs)
one_kept_ascends true before last first logs above up = (above, up)
one_kept_ascends false before last first logs above up =
    ascend_from before first.number last logs (omega (arith, above)) up

pub kept_ascend : (stays : LogRow → Bool) (before last : ℕ) (logs : List LogRow) → Ascend before last logs →
    Ascend before last (filter stays logs)
kept_ascend stays before last [] up = up
kept_ascend stays before last (first ∷ logs) up =
    one_kept_ascends (stays first) before last first (filter stays logs) up.0
    (kept_ascend stays first.number last logs up.1)

-- whether they linger is nothing to their numbers
as_logs_ascend : (before last : ℕ) (logs : List LogRow) → Ascend before last logs →
    Ascend before last (map log_of logs)
as_logs_ascend before last [] up = up
as_logs_ascend before last (first ∷ logs) up = (up.0, as_logs_ascend first.number last logs up.1)

ascend_as_logs : (before last : ℕ) (logs : List LogRow) → Ascend before last (map log_of logs) →
    Ascend before last logs
ascend_as_logs before last [] up = up
ascend_as_logs before last (first ∷ logs) up = (up.0, ascend_as_logs first.number last logs up.1)

pub same_logs_ascend : (before last : ℕ) (logs others : List LogRow) → map log_of others ≡ map log_of logs →
    Ascend before last logs → Ascend before last others
same_logs_ascend before last logs others same up =
    ascend_as_logs before last others (rw same (as_logs_ascend before last logs up))

-- ---- nor is it to their sizes

abbrev HasSizes : LogRow → Type 0
HasSizes log = AreSizes log.measures

sizes_as_logs : (logs : List LogRow) → All HasSizes (map log_of logs) → All HasSizes logs
sizes_as_logs logs sound k d within =
    subst HasSizes (get_or-map log_of logs k d d within)
    (sound k d
    (let all : length (map log_of logs) ≡ length logs = length-map logs log_of in omega (arith, all, within)))

as_logs_sizes : (logs : List LogRow) → All HasSizes logs → All HasSizes (map log_of logs)
as_logs_sizes logs sound = All-map HasSizes log_of logs sound

pub same_logs_sizes : (logs others : List LogRow) → map log_of others ≡ map log_of logs → All HasSizes logs →
    All HasSizes others
same_logs_sizes logs others same sound = sizes_as_logs others (rw same (as_logs_sizes logs sound))

-- ---- nor to where they begin

begins_unlingering : (term_length : ℕ) (origin : Origin) → BeginsBy term_length (unlingering origin) ≡ BeginsBy term_length origin
begins_unlingering term_length (Published exclusive since) = refl
begins_unlingering term_length (Remote address initial_term join) = refl

begins_alike : (log : LogRow) → BeginsSoundly (log_of log) ≡ BeginsSoundly log
begins_alike log = begins_unlingering log.measures.term_length log.origin

begins_as_logs : (logs : List LogRow) → All BeginsSoundly (map log_of logs) → All BeginsSoundly logs
begins_as_logs logs sound k d within =
    subst (λ (T : Type 0). T) (begins_alike (get_or logs k d))
    (subst BeginsSoundly (get_or-map log_of logs k d d within)
    (sound k d
    (let all : length (map log_of logs) ≡ length logs = length-map logs log_of in omega (arith, all, within))))

as_logs_begins : (logs : List LogRow) → All BeginsSoundly logs → All BeginsSoundly (map log_of logs)
as_logs_begins logs sound =
    All-map BeginsSoundly log_of logs
    (λ k d within. subst (λ (T : Type 0). T) (sym (begins_alike (get_or logs k d))) (sound k d within))

pub same_logs_begins : (logs others : List LogRow) → map log_of others ≡ map log_of logs → All BeginsSoundly logs →
    All BeginsSoundly others
same_logs_begins logs others same sound = begins_as_logs others (rw same (as_logs_begins logs sound))

-- ---- a log that lingers is the same log

left_origin : (now : ℕ) (origin : Origin) → unlingering (left_by now origin) ≡ unlingering origin
left_origin now (Published exclusive since) = refl
left_origin now (Remote address initial_term join) = refl

one_settled : (b : Bool) (now : ℕ) (log : LogRow) → log_of (cond b log (left_alone now log)) ≡ log_of log
one_settled true now log = refl
one_settled false now log = ap (λ (origin : Origin). record log { origin = origin }) (left_origin now log.origin)

pub settled_logs : (registrations : List Registration) (now : ℕ) (logs : List LogRow) →
    map log_of (map (settled_one registrations now) logs) ≡ map log_of logs
settled_logs registrations now [] = refl
settled_logs registrations now (log ∷ logs) =
    rw (one_settled (is_used registrations log.number) now log, settled_logs registrations now logs) refl

-- ---- those that close are known by their numbers

abbrev is_of : ℕ → LogPlace → Bool
is_of source closed = closed.source == source

-- none of the later ones has the number of an earlier one
none_of : (closes : LogRow → Bool) (source before last : ℕ) (logs : List LogRow) → Ascend before last logs →
    source ≤ before → list_any (is_of source) (map place_of (filter closes logs)) ≡ false
none_of closes source before last [] up low = refl
none_of closes source before last (log ∷ logs) up low =
    by (closes log) (none_of closes source log.number last logs up.1 (let above = up.0 in omega (arith, low, above)))
  where
    other : (log.number == source) ≡ false
    other = ne_eqb log.number source (λ same. let above = up.0 in omega (arith, low, above, same))

    by : (b : Bool) → list_any (is_of source) (map place_of (filter closes logs)) ≡ false →
        list_any (is_of source) (map place_of (cond b (log ∷ filter closes logs) (filter closes logs))) ≡ false
    by true none = rw (other, none) refl
    by false none = none

-- the place of an earlier log closes none of the later ones
earlier_closes_none : (first : LogRow) (closes : List LogPlace) (before last : ℕ) (logs : List LogRow) →
    Ascend before last logs → first.number ≤ before →
    filter (is_left (place_of first ∷ closes)) (map log_of logs) ≡ filter (is_left closes) (map log_of logs)
earlier_closes_none first closes before last [] up low = refl
earlier_closes_none first closes before last (log ∷ logs) up low =
    let other : (first.number == log.number) ≡ false = ne_eqb first.number log.number
    (λ same. let above = up.0 in omega (arith, low, above, same)) in
    let above : before < log.number = up.0 in
    let rest = earlier_closes_none first closes log.number last logs up.1 (omega (arith, low, above)) in
    rw (other, rest) refl

-- the first one closes, or it stays
one_left : (b : Bool) (first : LogRow) (logs stay closed : List LogRow) →
    filter (is_left (place_of first ∷ map place_of closed)) (map log_of logs)
    ≡ filter (is_left (map place_of closed)) (map log_of logs) →
    list_any (is_of first.number) (map place_of closed) ≡ false →
    map log_of stay ≡ filter (is_left (map place_of closed)) (map log_of logs) →
    map log_of (cond (not b) (first ∷ stay) stay)
    ≡ filter (is_left (map place_of (cond b (first ∷ closed) closed))) (map log_of (first ∷ logs))
one_left true first logs stay closed later none rest = rw (eq-eqb first.number first.number refl, later) rest
one_left false first logs stay closed later none rest =
    rw none (ap (λ (others : List LogRow). log_of first ∷ others) rest)

-- what stays are the logs but for those at these places
pub closed_logs : (closes : LogRow → Bool) (before last : ℕ) (logs : List LogRow) → Ascend before last logs →
    map log_of (filter (λ log. not (closes log)) logs)
    ≡ filter (is_left (map place_of (filter closes logs))) (map log_of logs)
closed_logs closes before last [] up = refl
closed_logs closes before last (first ∷ logs) up =
    one_left (closes first) first logs (filter (λ log. not (closes log)) logs) (filter closes logs)
    (earlier_closes_none first (map place_of (filter closes logs)) first.number last logs up.1 (omega arith))
    (none_of closes first.number first.number last logs up.1 (omega arith))
    (closed_logs closes first.number last logs up.1)

-- ---- all of them

pub all_kept : (logs : List LogRow) → filter (λ log. true) logs ≡ logs
all_kept [] = refl
all_kept (log ∷ logs) = ap (λ (rest : List LogRow). log ∷ rest) (all_kept logs)

pub none_kept : (logs : List LogRow) → filter (λ log. false) logs ≡ []
none_kept [] = refl
none_kept (log ∷ logs) = none_kept logs
