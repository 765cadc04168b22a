-- A place is found exactly where one is vacant, and logs stay apart.
use Rattle.std.proofs.Common.{◌≡◌, ℕ, ◌+◌, ◌<◌, ◌≤◌, ℤ, Bool, true, false, cond, List, [], length, get_or, map, filter, Option, Some, None, refl, sym, ap, subst, arith}
use Rattle.std.specs.Prelude.{nat_le, All, AllPairs}
use Rattle.std.specs.List.{list_any}
use Rattle.std.proofs.lemmas.Bool.{leb-true, leb-false}
use Rattle.std.proofs.lemmas.List.{get_or-map, length-map}
use Rattle.std.proofs.lemmas.List.Elements.{All-map, All-filter, All-push}
use Rattle.std.proofs.lemmas.List.Kept.{AllPairs-filter}
use Rattle.std.proofs.lemmas.List.Quantifiers.{all_pairs_push}
use Rattle.stream_registry.specs.declared.row.LogRow.{LogRow}
use Rattle.stream_registry.specs.declared.wanted.Adding.TheVariants.{Make}
use Rattle.stream_registry.specs.declared.row.Registration.{Registration}
use Rattle.stream_registry.specs.declared.wanted.ImageWanted.{ImageWanted}
use Rattle.stream_registry.specs.declared.wanted.Wanted.{Wanted}
use Rattle.stream_registry.specs.Adding.{added, log_of, subscribed}
use Rattle.stream_registry.specs.Images.{image_of, image_place_for, imaged, stays_beside, without_images}
use Rattle.stream_registry.specs.Leaving.{is_another_registration, is_registration_of_another, is_subscription_of_another, left, unregistered, unsubscribed}
use Rattle.stream_registry.specs.Lingering.{closed, is_used, left_alone, settled, settled_one, stays_live}
use Rattle.stream_registry.specs.LogPages.{fits, free_place, holds_some, log_pages, place_for}
use Rattle.stream_registry.specs.PageLaws.{IsAmong, IsVacant, HasPage, ShareNoPage, IsLaidOut, PlacesAreLeast, PlacesShareNothing}
use Rattle.stream_registry.specs.Streams.{Streams}
use Rattle.channel_uri.specs.Channel.{Shape}
use Rattle.stream_registry.proofs.PageLemmas.{IsFirst, Meets, differs, found_first, held_within, none_held, some_held, within_and_free}

-- ---- the least place

vacant_here : (s : Streams) (arena pages place : ℕ) → fits s.sources arena pages place ≡ true → IsVacant s arena pages place
vacant_here s arena pages place is =
    let both : (place + pages ≤ arena) × (list_any (holds_some pages place) s.sources ≡ false) =
    within_and_free s.sources arena pages place is in
    record {
      within = both.0;
      free = λ k d within page among has. none_held s.sources pages place k d within both.1 (record {
        some = omega (arith, among.0, among.1);
        any = omega (arith, has.0, has.1);
        front = omega (arith, among.0, has.1);
        back = omega (arith, among.1, has.0);
      });
    }

-- a page that two rows have in common: where the one behind begins
meet_at : (pages place : ℕ) (log : LogRow) → Meets pages place (log_pages log) log.place →
    ((page : ℕ) → IsAmong place pages page → ¬ HasPage log page) → ⊥
meet_at pages place log m free = by (nat_le place log.place) refl
  where
    by : (b : Bool) → nat_le place log.place ≡ b → ⊥
    by true is =
        let front = leb-true place log.place is in
        let any = m.any in
        free log.place (front, m.back) (omega arith, omega (arith, any))
    by false is =
        let behind = leb-false place log.place is in
        let some = m.some in
        free place (omega arith, omega (arith, some)) (omega (arith, behind), m.front)

fits_here : (s : Streams) (arena pages place : ℕ) → IsVacant s arena pages place → fits s.sources arena pages place ≡ true
fits_here s arena pages place vacant = by (fits s.sources arena pages place) refl
  where
    by : (b : Bool) → fits s.sources arena pages place ≡ b → b ≡ true
    by true is = refl
    by false is =
        let holder = some_held s.sources pages place (held_within s.sources arena pages place is vacant.within) in
        absurd (meet_at pages place (get_or s.sources holder.at holder.log) holder.meets (vacant.free holder.at holder.log holder.within))

first_is : (s : Streams) (arena pages : ℕ) (found : Option ℕ) → free_place s arena pages ≡ found →
    IsFirst (fits s.sources arena pages) 0 (arena + 1) found
unfolding free_place
first_is s arena pages found is =
    subst (IsFirst (fits s.sources arena pages) 0 (arena + 1)) is (found_first (fits s.sources arena pages) 0 (arena + 1))

vacant_found : (s : Streams) (arena pages place : ℕ) → free_place s arena pages ≡ Some place → IsVacant s arena pages place
vacant_found s arena pages place is = vacant_here s arena pages place (first_is s arena pages (Some place) is).2

none_lower : (s : Streams) (arena pages place lower : ℕ) → free_place s arena pages ≡ Some place → lower < place →
    ¬ IsVacant s arena pages lower
none_lower s arena pages place lower is below vacant =
    differs (fits s.sources arena pages lower) (fits_here s arena pages lower vacant)
    ((first_is s arena pages (Some place) is).3 lower (omega arith) below)

none_at_all : (s : Streams) (arena pages place : ℕ) → free_place s arena pages ≡ None → ¬ IsVacant s arena pages place
none_at_all s arena pages place is vacant =
    let within = vacant.within in
    differs (fits s.sources arena pages place) (fits_here s arena pages place vacant)
    (first_is s arena pages None is place (omega arith) (omega (arith, within)))

pub all_least : PlacesAreLeast
all_least = record { vacant = vacant_found; least = none_lower; none = none_at_all }

-- ---- no two logs share a page

nothing_laid_out : (arena : ℕ) (s : Streams) → s.sources ≡ [] → IsLaidOut arena s
nothing_laid_out arena s none = record {
  within = λ k d within. absurd (let e : length s.sources ≡ 0 = ap length none in omega (arith, e, within));
  apart = λ i j d before within. absurd (let e : length s.sources ≡ 0 = ap length none in omega (arith, e, within));
}

made_laid_out : (arena : ℕ) (s : Streams) (number client place : ℕ) (wanted : Wanted) (session : ℤ) → IsLaidOut arena s →
    place_for s arena wanted ≡ Some place → IsLaidOut arena (added s number client wanted place (Make session))
made_laid_out arena s number client place wanted session h is =
    let log = log_of s number wanted place session in
    let vacant : IsVacant s arena (log_pages log) place = vacant_found s arena (log_pages log) place is in
    record {
      within = All-push (λ one. one.place + log_pages one ≤ arena) s.sources log h.within vacant.within;
      apart = all_pairs_push ShareNoPage s.sources log h.apart (λ k d within page has new. vacant.free k d within page new has);
    }

imaged_laid_out : (arena : ℕ) (s : Streams) (number place : ℕ) (wanted : ImageWanted) → IsLaidOut arena s →
    image_place_for s arena wanted ≡ Some place → IsLaidOut arena (imaged s number wanted place)
imaged_laid_out arena s number place wanted h is =
    let log = image_of s number wanted place in
    let vacant : IsVacant s arena (log_pages log) place = vacant_found s arena (log_pages log) place is in
    record {
      within = All-push (λ one. one.place + log_pages one ≤ arena) s.sources log h.within vacant.within;
      apart = all_pairs_push ShareNoPage s.sources log h.apart (λ k d within page has new. vacant.free k d within page new has);
    }

pub kept_laid_out : (arena : ℕ) (s t : Streams) (stays : LogRow → Bool) → t.sources ≡ filter stays s.sources → IsLaidOut arena s →
    IsLaidOut arena t
kept_laid_out arena s t stays is h = record {
  within = subst (All (λ one. one.place + log_pages one ≤ arena)) (sym is)
      (All-filter stays (λ one. one.place + log_pages one ≤ arena) s.sources h.within);
  apart = subst (AllPairs ShareNoPage) (sym is) (AllPairs-filter ShareNoPage stays s.sources h.apart);
}

-- what only lingers keeps its pages
record IsSame (old new : LogRow) : Type 0 where
  place : new.place ≡ old.place
  pages : log_pages new ≡ log_pages old

settled_same : (registrations : List Registration) (now : ℕ) (log : LogRow) → IsSame log (settled_one registrations now log)
settled_same registrations now log = by (is_used registrations log.number)
  where
    by : (b : Bool) → IsSame log (cond b log (left_alone now log))
    by true = record { place = refl; pages = refl }
    by false = record { place = refl; pages = refl }

same_page : (old new : LogRow) (page : ℕ) → IsSame old new → HasPage new page → HasPage old page
same_page old new page same has = (omega (arith, same.place, has.0), omega (arith, same.place, same.pages, has.1))

settled_apart : (registrations : List Registration) (now : ℕ) (logs : List LogRow) → AllPairs ShareNoPage logs →
    AllPairs ShareNoPage (map (settled_one registrations now) logs)
settled_apart registrations now logs h i j d before within page one other =
    let f = settled_one registrations now in
    let all : length (map f logs) ≡ length logs = length-map logs f in
    let first : get_or (map f logs) i d ≡ f (get_or logs i d) = get_or-map f logs i d d (omega (arith, all, before, within)) in
    let second : get_or (map f logs) j d ≡ f (get_or logs j d) = get_or-map f logs j d d (omega (arith, all, within)) in
    h i j d before (omega (arith, all, within)) page
    (same_page (get_or logs i d) (f (get_or logs i d)) page (settled_same registrations now (get_or logs i d)) (subst (λ l. HasPage l page) first one))
    (same_page (get_or logs j d) (f (get_or logs j d)) page (settled_same registrations now (get_or logs j d)) (subst (λ l. HasPage l page) second other))

settled_laid_out : (arena : ℕ) (s : Streams) (now : ℕ) → IsLaidOut arena s → IsLaidOut arena (settled s now)
unfolding settled
settled_laid_out arena s now h = record {
  within = All-map (λ one. one.place + log_pages one ≤ arena) (settled_one s.registrations now) s.sources
      (λ k d within.
      let same = settled_same s.registrations now (get_or s.sources k d) in
      let before = h.within k d within in
      omega (arith, same.place, same.pages, before));
  apart = settled_apart s.registrations now s.sources h.apart;
}

unregistered_laid_out : (arena : ℕ) (s : Streams) (client number now : ℕ) → IsLaidOut arena s →
    IsLaidOut arena (unregistered s client number now)
unfolding unregistered
unregistered_laid_out arena s client number now h =
    settled_laid_out arena (record s { registrations = filter (is_another_registration client number) s.registrations }) now
    (record { within = h.within; apart = h.apart })

left_laid_out : (arena : ℕ) (s : Streams) (client now : ℕ) → IsLaidOut arena s → IsLaidOut arena (left s client now)
unfolding left
left_laid_out arena s client now h =
    settled_laid_out arena (record s {
      registrations = filter (is_registration_of_another client) s.registrations;
      subscriptions = filter (is_subscription_of_another client) s.subscriptions;
    }) now (record { within = h.within; apart = h.apart })

unsubscribed_laid_out : (arena : ℕ) (s : Streams) (client number : ℕ) → IsLaidOut arena s → IsLaidOut arena (unsubscribed s client number)
unfolding unsubscribed
unsubscribed_laid_out arena s client number h = record { within = h.within; apart = h.apart }

subscribed_laid_out : (arena : ℕ) (s : Streams) (number client : ℕ) (channel : Shape) (stream : ℤ) → IsLaidOut arena s →
    IsLaidOut arena (subscribed s number client channel stream)
unfolding subscribed
subscribed_laid_out arena s number client channel stream h = record { within = h.within; apart = h.apart }

closed_laid_out : (arena : ℕ) (s : Streams) (now : ℕ) (silent : List ℕ) → IsLaidOut arena s → IsLaidOut arena (closed s now silent)
unfolding closed
closed_laid_out arena s now silent h = kept_laid_out arena s (closed s now silent) (stays_live now silent) refl h

without_laid_out : (arena : ℕ) (s : Streams) (numbers : List ℕ) → IsLaidOut arena s → IsLaidOut arena (without_images s numbers)
unfolding without_images
without_laid_out arena s numbers h = kept_laid_out arena s (without_images s numbers) (stays_beside numbers) refl h

pub share_nothing : PlacesShareNothing
share_nothing arena = record {
  opened = λ defaults first. nothing_laid_out arena _ refl;
  made = made_laid_out arena;
  joined = λ s number client place source wanted session h. record { within = h.within; apart = h.apart };
  imaged = imaged_laid_out arena;
  subscribed = subscribed_laid_out arena;
  unregistered = unregistered_laid_out arena;
  unsubscribed = unsubscribed_laid_out arena;
  left = left_laid_out arena;
  closed = closed_laid_out arena;
  without_images = without_laid_out arena;
  cleared = λ s h. nothing_laid_out arena _ refl;
}
