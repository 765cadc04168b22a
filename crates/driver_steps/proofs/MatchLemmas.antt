-- The open logs are the live ones, after each event too.
use Rattle.std.proofs.Common.{◌≡◌, ℕ, ◌*◌, ◌<◌, ◌==◌, Bool, true, false, not, cond, List, [], ◌∷◌, ◌++◌, map, filter, Option, Some, None, refl, sym, ap, ap₂, subst, ◌∙◌, arith, append-nil, unwrap_or, option_map, All, IfSome}
use Rattle.std.proofs.lemmas.Bool.{eq-eqb, ne_eqb}
use Rattle.std.proofs.lemmas.List.{map-append}
use Rattle.std.proofs.lemmas.List.Elements.{All-head, All-tail, filter-append}
use Rattle.log_traffic.specs.declared.any_log.AnyLog.{AnyLog}
use Rattle.log_traffic.specs.Held.{Made, made_held, place_held, terms_of}
use Rattle.log_traffic.specs.Whole.{made_for}
use Rattle.log_traffic.proofs.AnyLemmas.{made_stands, rejoined_lies}
use Rattle.driver_core.specs.Change.{Change}
use Rattle.driver_core.specs.Readers.{readers_of}
use Rattle.driver_core.specs.declared.state.event.Event.{Event}
use Rattle.driver_core.specs.declared.state.event.Event.TheVariants.{Attach, Command, Reload, Tick, Setup as SetUp}
use Rattle.driver_core.specs.declared.state.settings.Settings.{Settings}
use Rattle.frame_codec.specs.declared.join.Join.{Join}
use Rattle.frame_codec.specs.Join.{join_of}
use Rattle.driver_core.specs.Renewal.{source_at}
use Rattle.driver_core.specs.Soundness.{AreSizes, Ascend, BeginsSoundly, MovesLogs, Opens, log_of}
use Rattle.driver_core.specs.State.{State}
use Rattle.log_steps.specs.Recovery.{Recovering, recovering}
use Rattle.log_steps.specs.Held.{HeldLog, plot_on}
use Rattle.driver_steps.specs.OpenLogs.{HeldLogs, IsOpening, OpensFor, is_closed, is_kept, plots_of, rejoined_held}
use Rattle.log_steps.specs.Idents.{begins_by, begins_of, made_by, made_of}
use Rattle.driver_steps.specs.Bringing.{Brings, BringsAt, image_terms, image_terms_by, terms_brought, terms_by}
use Rattle.driver_steps.specs.Opening.{CanOpen, IsMemoryFor, OpensNext}
use Rattle.log_steps.specs.Rooms.{IsRoomFor, memory_of, room_by}
use Rattle.log_steps.specs.Plots.{IsLeastVacant}
use Rattle.driver_steps.specs.Standing.{LogPlot, Match, row_for, row_held, row_on}
use Rattle.driver_steps.proofs.VacancyLemmas.{least_held}
use Rattle.log_readers.specs.Unread.{is_left}
use Rattle.stream_registry.specs.declared.lingering.LogPlace.{LogPlace}
use Rattle.stream_registry.specs.declared.pairs.Pair.{Pair}
use Rattle.stream_registry.specs.declared.row.Origin.{Origin}
use Rattle.stream_registry.specs.declared.row.Origin.TheVariants.{Published, Remote}
use Rattle.stream_registry.specs.declared.row.LogRow.{LogRow}
use Rattle.stream_registry.specs.Origins.{unlingering}
use Rattle.stream_registry.specs.LogPages.{log_pages}
use Rattle.stream_registry.specs.Lingering.{place_of}

-- ---- what a log is made for

made_unlingering : (settings : Settings) (log : LogRow) (origin : Origin)
    → made_by settings (log_of log) (unlingering origin) ≡ made_by settings log origin
made_unlingering settings log (Published exclusive since) = refl
made_unlingering settings log (Remote address initial_term join) = refl

-- whether it lingers or not
pub made_as_log : (settings : Settings) (log : LogRow) → made_of settings (log_of log) ≡ made_of settings log
made_as_log settings log = made_unlingering settings log log.origin

-- a log begins made for that
pub begins_made : (settings : Settings) (now : ℕ) (log : LogRow) (origin : Origin)
    → made_for (begins_by settings now log origin) ≡ made_by settings log origin
begins_made settings now log (Published exclusive since) = refl
begins_made settings now log (Remote address initial_term join) = refl

made_terms : (settings : Settings) (log : LogRow) (origin : Origin)
    → terms_of (made_by settings log origin) ≡ log.measures.term_length
made_terms settings log (Published exclusive since) = refl
made_terms settings log (Remote address initial_term join) = refl

-- ---- the log of a source

abbrev is_of : ℕ → LogRow → Bool
is_of source log = log.number == source

found_step : (b : Bool) (log : LogRow) (found : Option LogRow)
    → option_map log_of (cond b (Some log) found) ≡ cond b (Some (log_of log)) (option_map log_of found)
found_step true log found = refl
found_step false log found = refl

-- a log is found whether it lingers or not
found_as_log : (source : ℕ) (logs : List LogRow)
    → option_map log_of (source_at logs source) ≡ source_at (map log_of logs) source
found_as_log source [] = refl
found_as_log source (log ∷ logs) =
    found_step (log.number == source) log (source_at logs source)
    ∙ ap (λ o. cond (log.number == source) (Some (log_of log)) o) (found_as_log source logs)

ascend_as_logs : (before last : ℕ) (logs : List LogRow) → Ascend before last logs → Ascend before last (map log_of logs)
ascend_as_logs before last [] ascend = ascend
ascend_as_logs before last (log ∷ logs) ascend = (ascend.0, ascend_as_logs log.number last logs ascend.1)

-- the last one came after all others
last_behind : (before last : ℕ) (logs : List LogRow) (log : LogRow) → Ascend before last (logs ++ log ∷ []) → before < log.number
last_behind before last [] log ascend = ascend.0
last_behind before last (first ∷ logs) log ascend =
    let above = ascend.0 in
    let behind = last_behind first.number last logs log ascend.1 in
    omega (arith, above, behind)

last_found : (before last : ℕ) (logs : List LogRow) (log : LogRow) → Ascend before last (logs ++ log ∷ [])
    → source_at (logs ++ log ∷ []) log.number ≡ Some log
last_found before last [] log ascend = ap (λ b. cond b (Some log) None) (eq-eqb log.number log.number refl)
last_found before last (first ∷ logs) log ascend =
    let behind = last_behind first.number last logs log ascend.1 in
    let another : (first.number == log.number) ≡ false = ne_eqb first.number log.number (λ same. omega (arith, same, behind)) in
    ap (λ b. cond b (Some first) (source_at (logs ++ log ∷ []) log.number)) another
    ∙ last_found first.number last logs log ascend.1

-- ---- the log that opens

pub opened_found : (s : State) (change : Change) (log : LogRow) → (moves : MovesLogs s change) → moves.opened ≡ log ∷ []
    → option_map log_of (source_at change.after.streams.sources log.number) ≡ Some log
opened_found s change log moves is =
    let kept : List LogRow = filter (is_left change.outcome.closes) (map log_of s.streams.sources) in
    let all : map log_of change.after.streams.sources ≡ kept ++ log ∷ [] = moves.logs ∙ ap (λ (logs : List LogRow). kept ++ logs) is in
    let ascend : Ascend 0 change.after.last_number (kept ++ log ∷ []) =
    subst (Ascend 0 change.after.last_number) all
    (ascend_as_logs 0 change.after.last_number change.after.streams.sources moves.sound.numbered) in
    found_as_log log.number change.after.streams.sources
    ∙ ap (λ (logs : List LogRow). source_at logs log.number) all
    ∙ last_found 0 change.after.last_number kept log ascend

if_found_step : (P : LogRow → Type 0) (b : Bool) (log : LogRow) (found : Option LogRow) → P log → IfSome found P
    → IfSome (cond b (Some log) found) P
if_found_step P true log found holds rest = holds
if_found_step P false log found holds rest = rest

if_found : (P : LogRow → Type 0) (source : ℕ) (logs : List LogRow) → All P logs → IfSome (source_at logs source) P
if_found P source [] all = tt
if_found P source (log ∷ logs) all =
    if_found_step P (log.number == source) log (source_at logs source) (All-head P log logs all)
    (if_found P source logs (All-tail P log logs all))

is_opening : (held : HeldLogs) (found : Option LogRow) (log : LogRow) → option_map log_of found ≡ Some log
    → IfSome found (λ there. AreSizes there.measures) → IfSome found BeginsSoundly
    → IsLeastVacant held.pages (plots_of held.logs) (log_pages log) log.place → IsOpening held log.place found
is_opening held None log is sizes begins least = tt
is_opening held (Some there) log is sizes begins least =
    let same : log_of there ≡ log = ap (λ (o : Option LogRow). unwrap_or o log) is in (
      sizes,
      begins,
      subst (λ (l : LogRow). IsLeastVacant held.pages (plots_of held.logs) (log_pages l) log.place) (sym same) least,
    )

pub opening_fits : (s : State) (held : HeldLogs) (change : Change) (place : LogPlace) → Match s held → MovesLogs s change
    → change.outcome.opens ≡ Some place
    → IsOpening held place.place (source_at change.after.streams.sources place.source)
opening_fits s held change place match moves opens =
    let opened = subst (λ (o : Option LogPlace). Opens s o moves.opened) opens moves.opens in
    let log : LogRow = opened.0 in
    let found = opened_found s change log moves opened.1 in
    let fits : IsOpening held log.place (source_at change.after.streams.sources log.number) =
    is_opening held (source_at change.after.streams.sources log.number) log found
    (if_found (λ there. AreSizes there.measures) log.number change.after.streams.sources moves.sound.sizes)
    (if_found BeginsSoundly log.number change.after.streams.sources moves.sound.begins)
    (least_held s held (log_pages log) log.place match opened.4 opened.5) in
    subst (λ (p : LogPlace). IsOpening held p.place (source_at change.after.streams.sources p.source)) opened.2 fits

-- of how many bytes an image is of terms of that length
abbrev room_for : Option ℕ → Option ℕ
room_for None = None
room_for (Some terms) = Some (3 * terms)

room_of_join : (o : Option Join) → room_by o ≡ room_for (terms_by o)
room_of_join None = refl
room_of_join (Some join) = refl

room_of_terms : (event : Event) → memory_of event ≡ room_for (terms_brought event)
room_of_terms (Attach now principal) = refl
room_of_terms (Command now client bytes) = refl
room_of_terms (Reload now policy) = refl
room_of_terms (Tick now) = refl
room_of_terms (SetUp now local from setup) = room_of_join (join_of setup)

room_fits : (room : Option ℕ) (terms : Option ℕ) (log : LogRow) (origin : Origin) → room ≡ room_for terms
    → image_terms_by log.measures.term_length origin ≡ terms → IsRoomFor room log origin
room_fits room terms log (Published exclusive since) room_is is = room_is ∙ ap room_for (sym is)
room_fits room terms log (Remote address initial_term join) room_is is = room_is ∙ ap room_for (sym is)

memory_fits : (event : Event) (found : Option LogRow) → IfSome found (λ log. image_terms log ≡ terms_brought event)
    → IsMemoryFor (memory_of event) found
memory_fits event None is = tt
memory_fits event (Some log) is = room_fits (memory_of event) (terms_brought event) log log.origin (room_of_terms event) is

can_open : (s : State) (held : HeldLogs) (event : Event) (change : Change) (opens : Option LogPlace) → Match s held
    → MovesLogs s change → BringsAt event change.after.streams.sources opens → change.outcome.opens ≡ opens
    → CanOpen held change.after event opens
can_open s held event change None match moves brings is = tt
can_open s held event change (Some place) match moves brings is = (
  opening_fits s held change place match moves is,
  memory_fits event (source_at change.after.streams.sources place.source) brings,
)

pub opens_fit : (s : State) (held : HeldLogs) (event : Event) (change : Change) → Match s held → MovesLogs s change
    → Brings event change → CanOpen held change.after event change.outcome.opens
opens_fit s held event change match moves brings = can_open s held event change change.outcome.opens match moves brings refl

-- ---- the rows

abbrev stays : List LogPlace → LogPlot → Bool
stays closes row = not (is_closed closes row.source)

kept_step : {X Y : Type 0} (b : Bool) (f : X → Y) (x : X) (xs : List X) → map f (cond b (x ∷ xs) xs) ≡ cond b (f x ∷ map f xs) (map f xs)
kept_step true f x xs = refl
kept_step false f x xs = refl

pub kept_mapped : {X Y : Type 0} (test : Y → Bool) (f : X → Y) (xs : List X) → map f (filter (λ x. test (f x)) xs) ≡ filter test (map f xs)
kept_mapped test f [] = refl
kept_mapped test f (x ∷ xs) =
    kept_step (test (f x)) f x (filter (λ y. test (f y)) xs)
    ∙ ap (λ ys. cond (test (f x)) (f x ∷ ys) ys) (kept_mapped test f xs)

rows_rejoined : (pairs : List Pair) (logs : List HeldLog) → map row_held (map (rejoined_held pairs) logs) ≡ map row_held logs
rows_rejoined pairs [] = refl
rows_rejoined pairs (held ∷ logs) =
    let lies = rejoined_lies (readers_of pairs held.source) held.log in
    ap₂ (λ (row : LogPlot) (rows : List LogPlot). row ∷ rows)
    (ap₂ row_on (ap (plot_on held.source) lies.place_is) lies.made_is) (rows_rejoined pairs logs)

rows_as_logs : (settings : Settings) (logs : List LogRow) → map (row_for settings) (map log_of logs) ≡ map (row_for settings) logs
rows_as_logs settings [] = refl
rows_as_logs settings (log ∷ logs) =
    ap₂ (λ (made : Made) (rows : List LogPlot).
    let row : LogPlot = record { source = log.number; place = 4096 * log.place; term_length = log.measures.term_length; made = made } in row ∷ rows)
    (made_as_log settings log) (rows_as_logs settings logs)

-- ---- what opened

-- these logs came behind the others, if any did, and have the rows of what opened
pub record Adds (settings : Settings) (old new : HeldLogs) (opened : List LogRow) : Type 0 where
  pub logs : List HeldLog
  pub new_is : new ≡ record old { logs = old.logs ++ logs }
  pub rows : map row_held logs ≡ map (row_for settings) opened

adds_none : (settings : Settings) (old new : HeldLogs) (opened : List LogRow) → new ≡ old → opened ≡ [] → Adds settings old new opened
adds_none settings old new opened new_is none = record {
  logs = [];
  new_is = new_is ∙ ap (λ (logs : List HeldLog). record old { logs = logs }) (sym (append-nil old.logs));
  rows = sym (ap (map (row_for settings)) none);
}

row_is : (settings : Settings) (place : ℕ) (found log : LogRow) (l : AnyLog) (kept : Recovering) → log_of found ≡ log → place ≡ log.place
    → made_held l ≡ made_of settings found → (place_held l).place ≡ 4096 * place
    → (place_held l).term_length ≡ found.measures.term_length
    → row_held (record { source = found.number; log = l; recovery = kept }) ≡ row_for settings log
row_is settings place found log l kept same place_is made at terms =
    let there : (place_held l).place ≡ 4096 * log.place = at ∙ ap (λ n. 4096 * n) place_is in
    ap₂ (λ (p t : ℕ). let row : LogPlot = record { source = found.number; place = p; term_length = t; made = made_held l } in row) there terms
    ∙ ap (λ (m : Made). let row : LogPlot = record { source = found.number; place = 4096 * log.place; term_length = found.measures.term_length; made = m } in row)
    (made ∙ sym (made_as_log settings found))
    ∙ ap (λ (p : LogRow).
    let row : LogPlot = record { source = p.number; place = 4096 * log.place; term_length = p.measures.term_length; made = made_of settings p } in row)
    same

adds_one : (after : State) (old new : HeldLogs) (place : ℕ) (found : Option LogRow) (log : LogRow) (opened : List LogRow)
    → option_map log_of found ≡ Some log → place ≡ log.place → opened ≡ log ∷ [] → OpensFor old new after place found
    → Adds after.settings old new opened
adds_one after old new place None log opened is place_is one opens = absurd (cc)
adds_one after old new place (Some found) log opened is place_is one opens =
    let settings : Settings = after.settings in
    let same : log_of found ≡ log = ap (λ (o : Option LogRow). unwrap_or o log) is in
    let made : made_for (begins_of settings after.moment found) ≡ made_of settings found =
    begins_made settings after.moment found found.origin in
    record {
      logs = record { source = found.number; log = opens.log; recovery = recovering settings } ∷ [];
      new_is = opens.new_is;
      rows = ap (λ (row : LogPlot). row ∷ [])
          (row_is settings place found log opens.log (recovering settings) same place_is
          (made_stands opens.log (begins_of settings after.moment found) opens.stands ∙ made) opens.place_is
          (opens.terms_are ∙ ap terms_of made ∙ made_terms settings found found.origin))
          ∙ sym (ap (map (row_for settings)) one);
    }

adds : (s : State) (held new : HeldLogs) (change : Change) (opens : Option LogPlace) → (moves : MovesLogs s change)
    → Opens s opens moves.opened → OpensNext held new change.after opens → Adds change.after.settings held new moves.opened
adds s held new change None moves opened is = adds_none change.after.settings held new moves.opened is opened
adds s held new change (Some place) moves opened is =
    let log : LogRow = opened.0 in
    let found = opened_found s change log moves opened.1 in
    let place_is : place_of log ≡ place = opened.2 in
    adds_one change.after held new place.place (source_at change.after.streams.sources place.source) log moves.opened
    (subst (λ (p : LogPlace). option_map log_of (source_at change.after.streams.sources p.source) ≡ Some log) place_is found)
    (sym (ap (λ (p : LogPlace). p.place) place_is)) opened.1 is

-- ---- all logs

-- the logs that an event leaves
abbrev pub left_held : Change → List Pair → List HeldLog → List HeldLog
left_held change pairs logs = map (rejoined_held pairs) (filter (is_kept change.outcome.closes) logs)

all_rows : (settings : Settings) (held new : HeldLogs) (logs opened : List LogRow) → map row_held held.logs ≡ map (row_for settings) logs
    → Adds settings held new opened → map row_held new.logs ≡ map (row_for settings) (map log_of logs ++ opened)
all_rows settings held new logs opened rows added =
    ap (λ (h : HeldLogs). map row_held h.logs) added.new_is
    ∙ map-append row_held held.logs added.logs
    ∙ ap₂ (λ (xs ys : List LogPlot). xs ++ ys) (rows ∙ sym (rows_as_logs settings logs)) added.rows
    ∙ sym (map-append (row_for settings) (map log_of logs) opened)

rows_after : (s : State) (held new : HeldLogs) (change : Change) (pairs : List Pair) → Match s held → (moves : MovesLogs s change)
    → Adds change.after.settings held new moves.opened
    → map row_held (left_held change pairs new.logs) ≡ map (row_for change.after.settings) change.after.streams.sources
rows_after s held new change pairs match moves added =
    let settings : Settings = change.after.settings in
    let closes : List LogPlace = change.outcome.closes in
    let logs : List LogRow = map log_of s.streams.sources in
    let rows : map row_held held.logs ≡ map (row_for settings) s.streams.sources =
    match.rows ∙ ap (λ (to : Settings). map (row_for to) s.streams.sources) (sym moves.settings) in
    let left : filter (is_left closes) (logs ++ moves.opened) ≡ map log_of change.after.streams.sources =
    filter-append (is_left closes) logs moves.opened
    ∙ ap (λ (opened : List LogRow). filter (is_left closes) logs ++ opened) moves.stays
    ∙ sym moves.logs in
    rows_rejoined pairs (filter (is_kept closes) new.logs)
    ∙ kept_mapped (stays closes) row_held new.logs
    ∙ ap (λ (all : List LogPlot). filter (stays closes) all) (all_rows settings held new s.streams.sources moves.opened rows added)
    ∙ sym (kept_mapped (stays closes) (row_for settings) (logs ++ moves.opened))
    ∙ ap (λ (all : List LogRow). map (row_for settings) all) left
    ∙ rows_as_logs settings change.after.streams.sources

pub matches_after : (s : State) (held new : HeldLogs) (change : Change) (pairs : List Pair) → Match s held → MovesLogs s change
    → OpensNext held new change.after change.outcome.opens
    → Match change.after (record new { logs = left_held change pairs new.logs })
matches_after s held new change pairs match moves is =
    let added = adds s held new change change.outcome.opens moves moves.opens is in
    record {
      sound = moves.sound;
      pages = ap (λ (h : HeldLogs). h.pages) added.new_is ∙ match.pages ∙ ap (λ (to : Settings). to.arena_pages) (sym moves.settings);
      rows = rows_after s held new change pairs match moves added;
    }
