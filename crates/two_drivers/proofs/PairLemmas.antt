-- A pair of the registry reads the log of its source, which is an image as its row says.
use Rattle.std.proofs.Common.{◌≡◌, ℕ, ◌==◌, ◌||◌, not, Bool, true, false, cond, List, [], ◌∷◌, map, filter, Some, refl, sym, ap, ◌∙◌, subst}
use Rattle.std.specs.List.{list_any}
use Rattle.std.proofs.lemmas.Bool.{and_parts, eqb-true, eq-eqb}
use Rattle.driver_core.specs.declared.state.settings.Settings.{Settings}
use Rattle.driver_core.specs.LogRequests.{has_pair}
use Rattle.driver_core.specs.Pairs.{pairs_of}
use Rattle.driver_core.specs.Readers.{readers_of}
use Rattle.driver_core.specs.Renewal.{source_at}
use Rattle.driver_steps.specs.Ends.{RunEnd, log_at}
use Rattle.log_steps.specs.Idents.{made_by, made_of, stream_ident}
use Rattle.driver_steps.specs.Laws.{made_as, made_for}
use Rattle.log_steps.specs.Moves.{WholeLog}
use Rattle.driver_steps.proofs.FollowLemmas.{Follows}
use Rattle.driver_steps.proofs.LiveLemmas.{found_log}
use Rattle.image_log.specs.Rebuilt.{Rebuilt}
use Rattle.image_log.specs.declared.ident.Ident.{Ident as StreamIdent}
use Rattle.log_pairs.specs.Pairs.{position_of}
use Rattle.log_pairs.specs.declared.pair.Pair.{Pair as Reader}
use Rattle.log_traffic.specs.Held.{Made}
use Rattle.log_traffic.specs.Whole.{AnyWhole, whole, rebuilt, made_for as made_any, readers_in}
use Rattle.stream_registry.specs.Pairs.{is_of}
use Rattle.stream_registry.specs.Origins.{is_published_by}
use Rattle.stream_registry.specs.declared.pairs.Pair.{Pair}
use Rattle.stream_registry.specs.declared.row.Origin.{Origin}
use Rattle.stream_registry.specs.declared.row.Origin.TheVariants.{Published, Remote}
use Rattle.stream_registry.specs.declared.row.LogRow.{LogRow}
use Rattle.term_log.specs.declared.ident.Ident.{Ident}
use Rattle.two_drivers.specs.Publication.{IsPair}
use Rattle.two_drivers.specs.Streams.{IsRead}

-- ---- the log of a row

record IsLogOf (n : ℕ) (settings : Settings) (row : LogRow) (logs : List WholeLog) : Type 0 where
  log : WholeLog
  live : log_at logs n ≡ Some log
  made : made_any log.whole ≡ made_of settings row
  number : log.source ≡ n

log_in : (n : ℕ) (settings : Settings) (first : WholeLog) (logs : List WholeLog) (head row : LogRow) (rows : List LogRow) (b : Bool) →
    (head.number == n) ≡ b → made_for first ≡ made_as settings head → cond b (Some head) (source_at rows n) ≡ Some row →
    (source_at rows n ≡ Some row → IsLogOf n settings row logs) → IsLogOf n settings row (first ∷ logs)
log_in n settings first logs head row rows true same made found rest =
    let is : head ≡ row = cc found in
    let number : first.source ≡ n = ap (λ (m : ℕ × Made). m.0) made ∙ eqb-true head.number n same in
    record {
      log = first;
      live = rw (eq-eqb first.source n number) refl;
      made = ap (λ (m : ℕ × Made). m.1) made ∙ ap (made_of settings) is;
      number = number;
    }
log_in n settings first logs head row rows false same made found rest =
    let there = rest found in
    let apart : (first.source == n) ≡ false = ap (λ (m : ℕ × Made). m.0 == n) made ∙ same in
    record { log = there.log; live = rw apart there.live; made = there.made; number = there.number }

log_of_row : (n : ℕ) (settings : Settings) (row : LogRow) (logs : List WholeLog) (rows : List LogRow) →
    map made_for logs ≡ map (made_as settings) rows → source_at rows n ≡ Some row → IsLogOf n settings row logs
log_of_row n settings row logs [] same found = absurd (cc found)
log_of_row n settings row [] (head ∷ rows) same found = absurd (cc same)
log_of_row n settings row (first ∷ logs) (head ∷ rows) same found =
    let one : made_for first ≡ made_as settings head = cc same in
    let more : map made_for logs ≡ map (made_as settings) rows = cc same in
    log_in n settings first logs head row rows (head.number == n) refl one found (log_of_row n settings row logs rows more)

-- ---- it is an image

record IsImageOf (row : LogRow) (w : AnyWhole) : Type 0 where
  r : Rebuilt
  whole_is : w ≡ rebuilt r
  session : r.ident.session_id ≡ row.session
  stream : r.ident.stream_id ≡ row.stream

image_by : (settings : Settings) (row : LogRow) (origin : Origin) (w : AnyWhole) → not (is_published_by origin) ≡ true →
    made_any w ≡ made_by settings row origin → IsImageOf row w
image_by settings row (Published exclusive since) w image made = absurd (cc image)
image_by settings row (Remote address initial_term join) (whole w) image made = absurd (cc made)
image_by settings row (Remote address initial_term join) (rebuilt r) image made =
    let is : r.ident ≡ stream_ident row initial_term = cc made in
    record {
      r = r;
      whole_is = refl;
      session = ap (λ (ident : StreamIdent). ident.session_id) is;
      stream = ap (λ (ident : StreamIdent). ident.stream_id) is;
    }

-- ---- who reads it

kept_reader : (source subscription : ℕ) (pair : Pair) (pairs : List Pair) (b : Bool) → (pair.source == source) ≡ b →
    (is_of source subscription pair ≡ true → list_any (λ number. number == subscription) (map (λ (p : Pair). p.subscription) (cond b (pair ∷ pairs) pairs)) ≡ true)
kept_reader source subscription pair pairs true same is =
    let parts = and_parts (pair.source == source) (pair.subscription == subscription) is in rw parts.1 refl
kept_reader source subscription pair pairs false same is =
    let parts = and_parts (pair.source == source) (pair.subscription == subscription) is in absurd (cc (sym same ∙ parts.0))

later_by : (numbers : List ℕ) (subscription : ℕ) (b : Bool) → list_any (λ number. number == subscription) numbers ≡ true →
    (b || list_any (λ number. number == subscription) numbers) ≡ true
later_by numbers subscription true is = refl
later_by numbers subscription false is = is

later_reader : (subscription : ℕ) (pair : Pair) (pairs : List Pair) (b : Bool) →
    list_any (λ number. number == subscription) (map (λ (p : Pair). p.subscription) pairs) ≡ true →
    list_any (λ number. number == subscription) (map (λ (p : Pair). p.subscription) (cond b (pair ∷ pairs) pairs)) ≡ true
later_reader subscription pair pairs true is = later_by (map (λ (p : Pair). p.subscription) pairs) subscription (pair.subscription == subscription) is
later_reader subscription pair pairs false is = is

reader_by : (source subscription : ℕ) (pair : Pair) (pairs : List Pair) (b : Bool) → is_of source subscription pair ≡ b →
    (b || list_any (is_of source subscription) pairs) ≡ true →
    (list_any (is_of source subscription) pairs ≡ true →
    list_any (λ number. number == subscription) (map (λ (p : Pair). p.subscription) (filter (λ (p : Pair). p.source == source) pairs)) ≡ true) →
    list_any (λ number. number == subscription) (map (λ (p : Pair). p.subscription) (filter (λ (p : Pair). p.source == source) (pair ∷ pairs))) ≡ true
reader_by source subscription pair pairs true here is rest =
    kept_reader source subscription pair (filter (λ (p : Pair). p.source == source) pairs) (pair.source == source) refl here
reader_by source subscription pair pairs false here is rest =
    later_reader subscription pair (filter (λ (p : Pair). p.source == source) pairs) (pair.source == source) (rest is)

readers_have : (source subscription : ℕ) (pairs : List Pair) → list_any (is_of source subscription) pairs ≡ true →
    list_any (λ number. number == subscription) (readers_of pairs source) ≡ true
unfolding readers_of
readers_have source subscription [] is = absurd (cc is)
readers_have source subscription (pair ∷ pairs) is =
    reader_by source subscription pair pairs (is_of source subscription pair) refl is (readers_have source subscription pairs)

record IsStanding (pairs : List Reader) (subscription : ℕ) : Type 0 where
  at : ℕ
  is : position_of pairs subscription ≡ Some at

standing_by : (subscription : ℕ) (reader : Reader) (readers : List Reader) (b : Bool) → (reader.subscription == subscription) ≡ b →
    (b || list_any (λ number. number == subscription) (map (λ (r : Reader). r.subscription) readers)) ≡ true →
    (list_any (λ number. number == subscription) (map (λ (r : Reader). r.subscription) readers) ≡ true → IsStanding readers subscription) →
    IsStanding (reader ∷ readers) subscription
standing_by subscription reader readers true same is rest = record { at = reader.position; is = rw same refl }
standing_by subscription reader readers false same is rest = let there = rest is in record { at = there.at; is = rw same there.is }

standing : (subscription : ℕ) (readers : List Reader) → list_any (λ number. number == subscription) (map (λ (r : Reader). r.subscription) readers) ≡ true →
    IsStanding readers subscription
standing subscription [] is = absurd (cc is)
standing subscription (reader ∷ readers) is =
    standing_by subscription reader readers (reader.subscription == subscription) refl is (standing subscription readers)

has_reader : (e : RunEnd) (source subscription : ℕ) → has_pair e.registry source subscription ≡ true →
    list_any (λ number. number == subscription) (readers_of (pairs_of e.registry) source) ≡ true
unfolding has_pair
has_reader e source subscription is = readers_have source subscription (pairs_of e.registry) is

-- ---- the pair

pub pair_read : (i : Ident) (source subscription : ℕ) (e : RunEnd) → Follows e → IsPair i source subscription e → IsRead i source subscription e
pair_read i source subscription e follows pair =
    let of = log_of_row source e.registry.settings pair.row e.logs e.registry.streams.sources follows.logs.made pair.live in
    let image = image_by e.registry.settings pair.row pair.row.origin of.log.whole pair.image of.made in
    let readers = (found_log (λ (log : WholeLog). readers_in log.whole ≡ readers_of (pairs_of e.registry) log.source) source of.log e.logs follows.logs.read of.live).holds in
    let has : list_any (λ number. number == subscription) (readers_in of.log.whole) ≡ true =
    ap (list_any (λ number. number == subscription)) (readers ∙ ap (readers_of (pairs_of e.registry)) of.number)
    ∙ has_reader e source subscription pair.pair in
    let stands = standing subscription image.r.pairs
    (subst (λ (w : AnyWhole). list_any (λ number. number == subscription) (readers_in w) ≡ true) image.whole_is has) in
    record {
      log = of.log;
      r = image.r;
      at = stands.at;
      live = of.live;
      whole_is = image.whole_is;
      session = image.session ∙ pair.session;
      stream = image.stream ∙ pair.stream;
      stands = stands.is;
    }
