-- No event makes more images of one source address than a driver is set to have.
use Rattle.std.proofs.Common.{◌≡◌, ℕ, ◌+◌, ◌<◌, ◌≤◌, ℤ, Bool, true, false, cond, List, [], ◌∷◌, ◌++◌, length, map, filter, refl, ap, ◌∙◌, arith, Option, None, Some}
use Rattle.std.proofs.lemmas.List.{length-append}
use Rattle.std.proofs.lemmas.List.Elements.{filter-append, filter_agree}
use Rattle.std.proofs.lemmas.Slice.Eq.{bytes_eq-Decides}
use Rattle.std.specs.Str.{bytes_eq}
use Rattle.driver_core.specs.SettingUp.{is_from, sends_from}
use Rattle.channel_uri.specs.declared.address.Address.{Address}
use Rattle.channel_uri.specs.Channel.{Shape}
use Rattle.stream_registry.specs.declared.row.Origin.{Origin}
use Rattle.stream_registry.specs.declared.row.Origin.TheVariants.{Published, Remote}
use Rattle.stream_registry.specs.declared.row.Registration.{Registration}
use Rattle.stream_registry.specs.declared.row.LogRow.{LogRow}
use Rattle.stream_registry.specs.declared.wanted.Adding.{Adding}
use Rattle.stream_registry.specs.declared.wanted.Adding.TheVariants.{Join, Make}
use Rattle.stream_registry.specs.declared.wanted.ImageWanted.{ImageWanted}
use Rattle.stream_registry.specs.declared.wanted.Wanted.{Wanted}
use Rattle.stream_registry.specs.Adding.{added, log_of, subscribed}
use Rattle.stream_registry.specs.Images.{image_of, imaged}
use Rattle.stream_registry.specs.Leaving.{left, unregistered, unsubscribed}
use Rattle.stream_registry.specs.Lingering.{closed, is_used, left_alone, settled, settled_one, stays_live}
use Rattle.stream_registry.specs.Origins.{address_by, address_of, left_by}
use Rattle.stream_registry.specs.Streams.{Streams}

abbrev pub count_from : Address → List LogRow → ℕ
count_from from logs = length (filter (is_from from) logs)

-- no source address has more of them than that
abbrev pub AreWithin : ℕ → List LogRow → Type 0
AreWithin bound logs = (from : Address) → count_from from logs ≤ bound

-- ---- some go

kept_step : (test : LogRow → Bool) (b c : Bool) (log : LogRow) (kept rest : List LogRow) → test log ≡ c →
    length (filter test kept) ≤ length rest →
    length (filter test (cond b (log ∷ kept) kept)) ≤ length (cond c (log ∷ rest) rest)
kept_step test true true log kept rest is few = rw is (omega (arith, few))
kept_step test true false log kept rest is few = rw is few
kept_step test false true log kept rest is few = omega (arith, few)
kept_step test false false log kept rest is few = few

kept_fewer : (test stays : LogRow → Bool) (logs : List LogRow) →
    length (filter test (filter stays logs)) ≤ length (filter test logs)
kept_fewer test stays [] = omega arith
kept_fewer test stays (log ∷ logs) =
    kept_step test (stays log) (test log) log (filter stays logs) (filter test logs) refl (kept_fewer test stays logs)

pub kept_within : (bound : ℕ) (stays : LogRow → Bool) (logs : List LogRow) → AreWithin bound logs →
    AreWithin bound (filter stays logs)
kept_within bound stays logs few = λ from.
    let kept = kept_fewer (is_from from) stays logs in
    let most = few from in
    omega (arith, kept, most)

pub closed_within : (bound : ℕ) (s : Streams) (now : ℕ) (silent : List ℕ) → AreWithin bound s.sources →
    AreWithin bound (closed s now silent).sources
unfolding closed
closed_within bound s now silent few = kept_within bound (stays_live now silent) s.sources few

-- ---- some linger

left_address : (now : ℕ) (origin : Origin) → address_by (left_by now origin) ≡ address_by origin
left_address now (Published exclusive since) = refl
left_address now (Remote address initial_term join) = refl

settled_from : (from : Address) (registrations : List Registration) (now : ℕ) (log : LogRow) →
    is_from from (settled_one registrations now log) ≡ is_from from log
settled_from from registrations now log = by (is_used registrations log.number)
  where
    by : (b : Bool) → is_from from (cond b log (left_alone now log)) ≡ is_from from log
    by true = refl
    by false = ap (sends_from from) (left_address now log.origin)

mapped_step : (b : Bool) (new old : LogRow) (news olds : List LogRow) → length news ≡ length olds →
    length (cond b (new ∷ news) news) ≡ length (cond b (old ∷ olds) olds)
mapped_step true new old news olds same = omega (arith, same)
mapped_step false new old news olds same = same

mapped_same : (test : LogRow → Bool) (f : LogRow → LogRow) → ((log : LogRow) → test (f log) ≡ test log) →
    (logs : List LogRow) → length (filter test (map f logs)) ≡ length (filter test logs)
mapped_same test f same [] = refl
mapped_same test f same (log ∷ logs) =
    ap (λ (b : Bool). length (cond b (f log ∷ filter test (map f logs)) (filter test (map f logs)))) (same log)
    ∙ mapped_step (test log) (f log) log (filter test (map f logs)) (filter test logs) (mapped_same test f same logs)

settled_within : (bound : ℕ) (registrations : List Registration) (now : ℕ) (logs : List LogRow) → AreWithin bound logs →
    AreWithin bound (map (settled_one registrations now) logs)
settled_within bound registrations now logs few = λ from.
    let same = mapped_same (is_from from) (settled_one registrations now) (settled_from from registrations now) logs in
    let most = few from in
    omega (arith, same, most)

pub unregistered_within : (bound : ℕ) (s : Streams) (client number now : ℕ) → AreWithin bound s.sources →
    AreWithin bound (unregistered s client number now).sources
unfolding unregistered settled
unregistered_within bound s client number now few = settled_within bound _ now s.sources few

pub left_within : (bound : ℕ) (s : Streams) (client now : ℕ) → AreWithin bound s.sources →
    AreWithin bound (left s client now).sources
unfolding left settled
left_within bound s client now few = settled_within bound _ now s.sources few

-- ---- subscriptions come and go

pub subscribed_within : (bound : ℕ) (s : Streams) (number client : ℕ) (channel : Shape) (stream : ℤ) →
    AreWithin bound s.sources → AreWithin bound (subscribed s number client channel stream).sources
unfolding subscribed
subscribed_within bound s number client channel stream few = few

pub unsubscribed_within : (bound : ℕ) (s : Streams) (client number : ℕ) → AreWithin bound s.sources →
    AreWithin bound (unsubscribed s client number).sources
unfolding unsubscribed
unsubscribed_within bound s client number few = few

-- ---- one comes

only : (b : Bool) (log : LogRow) → length (cond b (log ∷ []) []) ≡ cond b 1 0
only true log = refl
only false log = refl

pushed : (test : LogRow → Bool) (logs : List LogRow) (log : LogRow) →
    length (filter test (logs ++ log ∷ [])) ≡ length (filter test logs) + cond (test log) 1 0
pushed test logs log =
    ap length (filter-append test logs (log ∷ [])) ∙ length-append (filter test logs) (filter test (log ∷ []))
    ∙ ap (λ (n : ℕ). length (filter test logs) + n) (only (test log) log)

-- no publication is one
pub added_within : (bound : ℕ) (s : Streams) (number client place : ℕ) (wanted : Wanted) (adding : Adding) →
    AreWithin bound s.sources → AreWithin bound (added s number client wanted place adding).sources
added_within bound s number client place wanted (Join source session) few = few
added_within bound s number client place wanted (Make session) few = λ from.
    let more = pushed (is_from from) s.sources (log_of s number wanted place session) in
    let most = few from in
    omega (arith, more, most)

-- the port counts for nothing
sends_alike : (one other : Address) → one.octets ≡ other.octets → (publisher : Option Address) →
    sends_from one publisher ≡ sends_from other publisher
sends_alike one other same None = refl
sends_alike one other same (Some publisher) = ap (bytes_eq publisher.octets) same

counted_alike : (one other : Address) → one.octets ≡ other.octets → (logs : List LogRow) →
    count_from one logs ≡ count_from other logs
counted_alike one other same logs =
    ap length
    (filter_agree (is_from one) (is_from other) (λ (log : LogRow). sends_alike one other same (address_of log)) logs)

pub imaged_within : (bound : ℕ) (s : Streams) (number place : ℕ) (wanted : ImageWanted) →
    count_from wanted.address s.sources < bound → AreWithin bound s.sources →
    AreWithin bound (imaged s number wanted place).sources
imaged_within bound s number place wanted room few = λ from.
    one from (bytes_eq wanted.address.octets from.octets) refl (pushed (is_from from) s.sources (image_of s number wanted place)) (few from)
  where
    one : (from : Address) (b : Bool) → bytes_eq wanted.address.octets from.octets ≡ b →
        count_from from (imaged s number wanted place).sources
        ≡ count_from from s.sources + cond (bytes_eq wanted.address.octets from.octets) 1 0 →
        count_from from s.sources ≤ bound → count_from from (imaged s number wanted place).sources ≤ bound
    one from true is more most =
        let octets = (bytes_eq-Decides wanted.address.octets from.octets).0 is in
        let same = counted_alike wanted.address from octets s.sources in
        let step : cond {A = ℕ} (bytes_eq wanted.address.octets from.octets) 1 0 ≡ 1 = rw is refl in
        omega (arith, more, step, same, room)
    one from false is more most =
        let step : cond {A = ℕ} (bytes_eq wanted.address.octets from.octets) 1 0 ≡ 0 = rw is refl in
        omega (arith, more, step, most)
