-- How many logs of a kind there are once one came, or some went or linger.
use Rattle.std.proofs.Common.{◌≡◌, ℕ, ◌+◌, ◌<◌, ◌≤◌, Bool, true, false, not, ◌==◌, cond, List, [], ◌∷◌, ◌++◌, length, map, filter, refl, ap, ◌∙◌, arith}
use Rattle.std.proofs.lemmas.List.{length-append}
use Rattle.std.proofs.lemmas.List.Elements.{filter-append}
use Rattle.std.proofs.lemmas.List.Filters.{length-filter_both}
use Rattle.stream_registry.specs.declared.row.Origin.{Origin}
use Rattle.stream_registry.specs.declared.row.Origin.TheVariants.{Published, Remote}
use Rattle.stream_registry.specs.declared.row.Registration.{Registration}
use Rattle.stream_registry.specs.declared.row.LogRow.{LogRow}
use Rattle.stream_registry.specs.Few.{AreFew}
use Rattle.stream_registry.specs.Lingering.{is_used, left_alone, settled_one}
use Rattle.stream_registry.specs.Rest.{settled_where}
use Rattle.stream_registry.specs.Origins.{is_published, is_published_by, is_remote, left_by}

-- ---- some go

kept_step : (kind : LogRow → Bool) (b c : Bool) (log : LogRow) (kept rest : List LogRow) → kind log ≡ c →
    length (filter kind kept) ≤ length rest → length (filter kind (cond b (log ∷ kept) kept)) ≤ length (cond c (log ∷ rest) rest)
kept_step kind true true log kept rest is few = rw is (omega (arith, few))
kept_step kind true false log kept rest is few = rw is few
kept_step kind false true log kept rest is few = omega (arith, few)
kept_step kind false false log kept rest is few = few

kept_fewer : (kind stays : LogRow → Bool) (logs : List LogRow) → length (filter kind (filter stays logs)) ≤ length (filter kind logs)
kept_fewer kind stays [] = omega arith
kept_fewer kind stays (log ∷ logs) =
    kept_step kind (stays log) (kind log) log (filter stays logs) (filter kind logs) refl (kept_fewer kind stays logs)

pub kept_few : (stays : LogRow → Bool) (logs : List LogRow) → AreFew logs → AreFew (filter stays logs)
kept_few stays logs few =
    let publications = kept_fewer is_published stays logs in
    let images = kept_fewer is_remote stays logs in
    record { published = omega (arith, publications, few.published); remote = omega (arith, images, few.remote) }

-- ---- some linger

left_kind : (now : ℕ) (origin : Origin) → is_published_by (left_by now origin) ≡ is_published_by origin
left_kind now (Published exclusive since) = refl
left_kind now (Remote address initial_term join) = refl

pub settled_kind : (registrations : List Registration) (now : ℕ) (log : LogRow) →
    is_published (settled_one registrations now log) ≡ is_published log
settled_kind registrations now log = by (is_used registrations log.number)
  where
    by : (b : Bool) → is_published (cond b log (left_alone now log)) ≡ is_published log
    by true = refl
    by false = left_kind now log.origin

mapped_step : (b : Bool) (new old : LogRow) (news olds : List LogRow) → length news ≡ length olds →
    length (cond b (new ∷ news) news) ≡ length (cond b (old ∷ olds) olds)
mapped_step true new old news olds same = omega (arith, same)
mapped_step false new old news olds same = same

mapped_same : (kind : LogRow → Bool) (f : LogRow → LogRow) → ((log : LogRow) → kind (f log) ≡ kind log) → (logs : List LogRow) →
    length (filter kind (map f logs)) ≡ length (filter kind logs)
mapped_same kind f same [] = refl
mapped_same kind f same (log ∷ logs) =
    ap (λ (b : Bool). length (cond b (f log ∷ filter kind (map f logs)) (filter kind (map f logs)))) (same log)
    ∙ mapped_step (kind log) (f log) log (filter kind (map f logs)) (filter kind logs) (mapped_same kind f same logs)

where_kind : (source : ℕ) (registrations : List Registration) (now : ℕ) (log : LogRow) →
    is_published (settled_where source registrations now log) ≡ is_published log
where_kind source registrations now log = by (log.number == source)
  where
    by : (b : Bool) → is_published (cond b (settled_one registrations now log) log) ≡ is_published log
    by true = settled_kind registrations now log
    by false = refl

pub where_count : (source : ℕ) (registrations : List Registration) (now : ℕ) (logs : List LogRow) →
    length (filter is_published (map (settled_where source registrations now) logs)) ≡ length (filter is_published logs)
where_count source registrations now =
    mapped_same is_published (settled_where source registrations now) (where_kind source registrations now)

pub where_few : (source : ℕ) (registrations : List Registration) (now : ℕ) (logs : List LogRow) → AreFew logs →
    AreFew (map (settled_where source registrations now) logs)
where_few source registrations now logs few =
    let publications = where_count source registrations now logs in
    let images =
    mapped_same is_remote (settled_where source registrations now) (λ (log : LogRow). ap not (where_kind source registrations now log))
    logs in
    record { published = omega (arith, publications, few.published); remote = omega (arith, images, few.remote) }

pub settled_count : (registrations : List Registration) (now : ℕ) (logs : List LogRow) →
    length (filter is_published (map (settled_one registrations now) logs)) ≡ length (filter is_published logs)
settled_count registrations now = mapped_same is_published (settled_one registrations now) (settled_kind registrations now)

pub settled_few : (registrations : List Registration) (now : ℕ) (logs : List LogRow) → AreFew logs →
    AreFew (map (settled_one registrations now) logs)
settled_few registrations now logs few =
    let publications = mapped_same is_published (settled_one registrations now) (settled_kind registrations now) logs in
    let images = mapped_same is_remote (settled_one registrations now) (λ log. ap not (settled_kind registrations now log)) logs in
    record { published = omega (arith, publications, few.published); remote = omega (arith, images, few.remote) }

-- ---- one comes

only : (b : Bool) (log : LogRow) → length (cond b (log ∷ []) []) ≡ cond b 1 0
only true log = refl
only false log = refl

pushed : (kind : LogRow → Bool) (logs : List LogRow) (log : LogRow) →
    length (filter kind (logs ++ log ∷ [])) ≡ length (filter kind logs) + cond (kind log) 1 0
pushed kind logs log =
    ap length (filter-append kind logs (log ∷ [])) ∙ length-append (filter kind logs) (filter kind (log ∷ []))
    ∙ ap (λ (n : ℕ). length (filter kind logs) + n) (only (kind log) log)

counts : (b c : Bool) → b ≡ c → cond {A = ℕ} b 1 0 ≡ cond c 1 0
counts b c same = ap (λ (t : Bool). cond {A = ℕ} t 1 0) same

not_both : (b : Bool) → not b ≡ true → b ≡ false
not_both true is = absurd (cc)
not_both false is = refl

pub published_few : (logs : List LogRow) (log : LogRow) → is_published log ≡ true → length (filter is_published logs) < 256 →
    AreFew logs → AreFew (logs ++ log ∷ [])
published_few logs log is room few =
    let publications = pushed is_published logs log in
    let images = pushed is_remote logs log in
    let one : cond {A = ℕ} (is_published log) 1 0 ≡ 1 = counts (is_published log) true is in
    let none : cond {A = ℕ} (is_remote log) 1 0 ≡ 0 = counts (is_remote log) false (ap not is) in
    record {
      published = omega (arith, publications, one, room);
      remote = omega (arith, images, none, few.remote);
    }

pub imaged_few : (logs : List LogRow) (log : LogRow) → is_remote log ≡ true → length (filter is_remote logs) < 512 →
    AreFew logs → AreFew (logs ++ log ∷ [])
imaged_few logs log is room few =
    let publications = pushed is_published logs log in
    let images = pushed is_remote logs log in
    let none : cond {A = ℕ} (is_published log) 1 0 ≡ 0 = counts (is_published log) false (not_both (is_published log) is) in
    let one : cond {A = ℕ} (is_remote log) 1 0 ≡ 1 = counts (is_remote log) true is in
    record {
      published = omega (arith, publications, none, few.published);
      remote = omega (arith, images, one, room);
    }

pub published_count : (logs : List LogRow) (log : LogRow) → is_published log ≡ true →
    length (filter is_published (logs ++ log ∷ [])) ≡ length (filter is_published logs) + 1
published_count logs log is =
    let publications = pushed is_published logs log in
    let one : cond {A = ℕ} (is_published log) 1 0 ≡ 1 = counts (is_published log) true is in
    omega (arith, publications, one)

pub imaged_count : (logs : List LogRow) (log : LogRow) → is_remote log ≡ true →
    length (filter is_published (logs ++ log ∷ [])) ≡ length (filter is_published logs)
imaged_count logs log is =
    let publications = pushed is_published logs log in
    let none : cond {A = ℕ} (is_published log) 1 0 ≡ 0 = counts (is_published log) false (not_both (is_published log) is) in
    omega (arith, publications, none)

-- ---- all together

pub all_of : (logs : List LogRow) → length (filter is_published logs) + length (filter is_remote logs) ≡ length logs
all_of logs = length-filter_both is_published is_remote (λ log. refl) logs

pub room_for_publication : (logs : List LogRow) → length (filter is_published logs) < 256 → AreFew logs → length logs < 768
room_for_publication logs room few =
    let all = all_of logs in
    omega (arith, all, room, few.remote)

pub room_for_image : (logs : List LogRow) → length (filter is_remote logs) < 512 → AreFew logs → length logs < 768
room_for_image logs room few =
    let all = all_of logs in
    omega (arith, all, room, few.published)

pub none_few : AreFew []
none_few = record { published = omega arith; remote = omega arith }
