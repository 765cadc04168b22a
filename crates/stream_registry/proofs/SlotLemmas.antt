-- The least free slot is below the limit of its kind, and slots stay apart.
use Rattle.std.proofs.Common.{◌≡◌, ℕ, zero, suc, ◌+◌, ◌<◌, ◌≤◌, ℤ, Bool, true, false, not, ◌==◌, ◌&&◌, ◌||◌, cond, List, [], ◌∷◌, length, get_or, map, filter, refl, sym, ap, subst, ◌∙◌, arith}
use Rattle.std.specs.Prelude.{nat_lt, All, AllPairs, Ok}
use Rattle.std.specs.List.{list_any}
use Rattle.std.proofs.lemmas.Bool.{ltb-true, ltb-false, eqb-true, eq-eqb}
use Rattle.std.proofs.lemmas.List.{get_or-map, length-map}
use Rattle.std.proofs.lemmas.List.Elements.{All-map, All-filter, All-push}
use Rattle.std.proofs.lemmas.List.Filters.{length-filter_both}
use Rattle.std.proofs.lemmas.List.Folds.{list_any_at}
use Rattle.std.proofs.lemmas.List.Kept.{AllPairs-filter}
use Rattle.std.proofs.lemmas.List.Quantifiers.{all_pairs_push}
use Rattle.stream_registry.specs.declared.row.Registration.{Registration}
use Rattle.stream_registry.specs.declared.row.LogRow.{LogRow}
use Rattle.stream_registry.specs.declared.wanted.Adding.{Adding}
use Rattle.stream_registry.specs.declared.wanted.Adding.TheVariants.{Join, Make}
use Rattle.stream_registry.specs.declared.wanted.ImageWanted.{ImageWanted}
use Rattle.stream_registry.specs.declared.wanted.Wanted.{Wanted}
use Rattle.stream_registry.specs.Adding.{adding_of, added, has_room_for_log, log_of, subscribed}
use Rattle.stream_registry.specs.Images.{has_room_for_image, image_of, imaged, stays_beside, without_images}
use Rattle.stream_registry.specs.Leaving.{is_another_registration, is_registration_of_another, is_subscription_of_another, left, unregistered, unsubscribed}
use Rattle.stream_registry.specs.Lingering.{closed, is_used, left_alone, settled, settled_one, stays_live}
use Rattle.stream_registry.specs.Origins.{is_of_kind, is_published, is_remote}
use Rattle.stream_registry.specs.Slots.{free_slot, has_slot, is_slot_taken, slot_from}
use Rattle.stream_registry.specs.SlotLaws.{HasOwnSlots, IsInReach, IsLeastSlot, ShareNoSlot, SlotsAreFree, limit_of}
use Rattle.stream_registry.specs.Streams.{Streams}
use Rattle.channel_uri.specs.Channel.{Shape}
use Rattle.stream_registry.proofs.FewLemmas.{settled_kind}
use Rattle.stream_registry.proofs.LimitLemmas.{make_has_room_for_log}

-- ---- as many slots as these logs have are at most as many as the logs

abbrev is_at : ℕ → LogRow → Bool
is_at slot log = log.slot == slot

abbrev lacks : ℕ → LogRow → Bool
lacks slot log = not (is_at slot log)

rest_has : (here rest : Bool) → (here ≡ true → ⊥) → (here || rest) ≡ true → rest ≡ true
rest_has true rest never is = absurd (never refl)
rest_has false rest never is = is

either_has : (here rest kept : Bool) → (rest ≡ true → kept ≡ true) → (here || rest) ≡ true → (here || kept) ≡ true
either_has true rest kept more is = refl
either_has false rest kept more is = more is

there_step : (b : Bool) (slot : ℕ) (log : LogRow) (logs kept : List LogRow) → (b ≡ true → is_at slot log ≡ true → ⊥) →
    (list_any (is_at slot) logs ≡ true → list_any (is_at slot) kept ≡ true) → list_any (is_at slot) (log ∷ logs) ≡ true →
    list_any (is_at slot) (cond (not b) (log ∷ kept) kept) ≡ true
there_step true slot log logs kept never more is = more (rest_has (is_at slot log) (list_any (is_at slot) logs) (never refl) is)
there_step false slot log logs kept never more is =
    either_has (is_at slot log) (list_any (is_at slot) logs) (list_any (is_at slot) kept) more is

still_there : (slot other : ℕ) (logs : List LogRow) → (slot ≡ other → ⊥) → list_any (is_at slot) logs ≡ true →
    list_any (is_at slot) (filter (lacks other) logs) ≡ true
still_there slot other [] never is = is
still_there slot other (log ∷ logs) never is =
    there_step (is_at other log) slot log logs (filter (lacks other) logs)
    (λ has one. never (sym (eqb-true log.slot slot one) ∙ eqb-true log.slot other has)) (still_there slot other logs never) is

shorter_step : (b : Bool) (log : LogRow) (logs kept : List LogRow) (rest : Bool) → length kept ≤ length logs →
    (rest ≡ true → length kept < length logs) → (b || rest) ≡ true → length (cond (not b) (log ∷ kept) kept) < suc (length logs)
shorter_step true log logs kept rest few more is = omega (arith, few)
shorter_step false log logs kept rest few more is = omega (arith, more is)

shorter : (slot : ℕ) (logs : List LogRow) → list_any (is_at slot) logs ≡ true → length (filter (lacks slot) logs) < length logs
shorter slot [] is = absurd (cc)
shorter slot (log ∷ logs) is =
    let both : length (filter (is_at slot) logs) + length (filter (lacks slot) logs) ≡ length logs =
    length-filter_both (is_at slot) (lacks slot) (λ x. refl) logs in
    shorter_step (is_at slot log) log logs (filter (lacks slot) logs) (list_any (is_at slot) logs) (omega (arith, both))
    (shorter slot logs) is

crowded : (n : ℕ) (logs : List LogRow) → ((k : ℕ) → k < n → list_any (is_at k) logs ≡ true) → n ≤ length logs
crowded zero logs taken = omega arith
crowded (suc n) logs taken =
    let fewer = shorter n logs (taken n (omega arith)) in
    let rest = crowded n (filter (lacks n) logs)
    (λ k before. still_there k n logs (λ same. omega (arith, same, before)) (taken k (omega (arith, before)))) in
    omega (arith, fewer, rest)

-- ---- the logs of a kind

kind_step : (b c rest : Bool) (slot : ℕ) (log : LogRow) (kept : List LogRow) → is_at slot log ≡ c →
    (rest ≡ true → list_any (is_at slot) kept ≡ true) → ((b && c) || rest) ≡ true →
    list_any (is_at slot) (cond b (log ∷ kept) kept) ≡ true
kind_step true true rest slot log kept here more is = ap (λ (t : Bool). t || list_any (is_at slot) kept) here
kind_step true false rest slot log kept here more is = ap (λ (t : Bool). t || list_any (is_at slot) kept) here ∙ more is
kind_step false c rest slot log kept here more is = more is

of_kind : (published : Bool) (slot : ℕ) (logs : List LogRow) → is_slot_taken published logs slot ≡ true →
    list_any (is_at slot) (filter (is_of_kind published) logs) ≡ true
of_kind published slot [] is = is
of_kind published slot (log ∷ logs) is =
    kind_step (is_of_kind published log) (is_at slot log) (is_slot_taken published logs slot) slot log
    (filter (is_of_kind published) logs) refl (of_kind published slot logs) is

fewer_of_kind : (published : Bool) (logs : List LogRow) → length (filter (is_of_kind published) logs) ≤ length logs
fewer_of_kind published logs =
    let both = length-filter_both (is_of_kind published) (λ log. not (is_of_kind published log)) (λ log. refl) logs in
    omega (arith, both)

-- ---- the search

record IsSearched (published : Bool) (logs : List LogRow) (first slot tries : ℕ) : Type 0 where
  pub behind : first ≤ slot
  pub taken_between : (k : ℕ) → first ≤ k → k < slot → is_slot_taken published logs k ≡ true
  pub goes_on : is_slot_taken published logs slot ≡ true → slot ≡ first + tries

at_or_behind : (b : Bool) (published : Bool) (logs : List LogRow) (first k : ℕ) → nat_lt first k ≡ b → first ≤ k →
    is_slot_taken published logs first ≡ true → (first + 1 ≤ k → is_slot_taken published logs k ≡ true) →
    is_slot_taken published logs k ≡ true
at_or_behind true published logs first k is behind here more =
    let after = ltb-true first k is in
    more (omega (arith, after))
at_or_behind false published logs first k is behind here more =
    let not_after = ltb-false first k is in
    let same : first ≡ k = omega (arith, not_after, behind) in
    subst (λ (n : ℕ). is_slot_taken published logs n ≡ true) same here

searched_step : (b : Bool) (published : Bool) (logs : List LogRow) (first slot tries : ℕ) →
    is_slot_taken published logs first ≡ b → IsSearched published logs (first + 1) slot tries →
    IsSearched published logs first (cond b slot first) (suc tries)
searched_step true published logs first slot tries is more = record {
  behind = let behind = more.behind in omega (arith, behind);
  taken_between = λ k from before.
      at_or_behind (nat_lt first k) published logs first k refl from is (λ behind. more.taken_between k behind before);
  goes_on = λ taken. let on = more.goes_on taken in omega (arith, on);
}
searched_step false published logs first slot tries is more = record {
  behind = omega arith;
  taken_between = λ k from before. absurd (omega (arith, from, before));
  goes_on = λ taken. absurd (cc);
}

searched : (published : Bool) (others logs : List LogRow) (first : ℕ) →
    IsSearched published logs first (slot_from published others logs first) (length others)
searched published [] logs first = record {
  behind = omega arith;
  taken_between = λ k from before. absurd (omega (arith, from, before));
  goes_on = λ taken. omega arith;
}
searched published (other ∷ others) logs first =
    searched_step (is_slot_taken published logs first) published logs first (slot_from published others logs (first + 1))
    (length others) refl (searched published others logs (first + 1))

not_true : (b : Bool) → (b ≡ true → ⊥) → b ≡ false
not_true true never = absurd (never refl)
not_true false never = refl

up_to : (b : Bool) (published : Bool) (logs : List LogRow) (slot k : ℕ) → nat_lt k slot ≡ b → k < slot + 1 →
    ((j : ℕ) → j < slot → is_slot_taken published logs j ≡ true) → is_slot_taken published logs slot ≡ true →
    is_slot_taken published logs k ≡ true
up_to true published logs slot k is within before last = before k (ltb-true k slot is)
up_to false published logs slot k is within before last =
    let not_before = ltb-false k slot is in
    let same : slot ≡ k = omega (arith, not_before, within) in
    subst (λ (n : ℕ). is_slot_taken published logs n ≡ true) same last

never_all : (published : Bool) (logs : List LogRow) (slot : ℕ) → IsSearched published logs 0 slot (length logs) →
    is_slot_taken published logs slot ≡ true → ⊥
never_all published logs slot result taken =
    let over = crowded (slot + 1) (filter (is_of_kind published) logs)
    (λ k within. of_kind published k logs
    (up_to (nat_lt k slot) published logs slot k refl within (λ j before. result.taken_between j (omega arith) before) taken)) in
    let few = fewer_of_kind published logs in
    let all = result.goes_on taken in
    omega (arith, over, few, all)

least_slot : (published : Bool) (logs : List LogRow) → IsLeastSlot published logs (free_slot published logs)
unfolding free_slot
least_slot published logs =
    let result = searched published logs logs 0 in
    record {
      is_free = not_true (is_slot_taken published logs (slot_from published logs logs 0))
          (never_all published logs (slot_from published logs logs 0) result);
      taken_below = λ lower below. result.taken_between lower (omega arith) below;
    }

within_kind : (published : Bool) (logs : List LogRow) → free_slot published logs ≤ length (filter (is_of_kind published) logs)
within_kind published logs =
    crowded (free_slot published logs) (filter (is_of_kind published) logs)
    (λ k below. of_kind published k logs ((least_slot published logs).taken_below k below))

-- ---- slots stay apart

differs : {X : Type 0} (b : Bool) → b ≡ true → b ≡ false → X
differs b is is_not = absurd (let e : true ≡ false = sym is ∙ is_not in cc)

holds_slot : (published : Bool) (slot : ℕ) (log : LogRow) → is_of_kind published log ≡ true → log.slot ≡ slot →
    has_slot published slot log ≡ true
holds_slot published slot log kind same =
    let there : is_at slot log ≡ true = eq-eqb log.slot slot same in
    ap (λ (b : Bool). b && is_at slot log) kind ∙ there

new_apart : (published : Bool) (logs : List LogRow) (k : ℕ) (d : LogRow) → k < length logs →
    is_of_kind published (get_or logs k d) ≡ true → (get_or logs k d).slot ≡ free_slot published logs → ⊥
new_apart published logs k d within kind same =
    let slot = free_slot published logs in
    differs (is_slot_taken published logs slot)
    (list_any_at (has_slot published slot) logs k d within (holds_slot published slot (get_or logs k d) kind same))
    (least_slot published logs).is_free

mapped_apart : (f : LogRow → LogRow) →
    ((log other : LogRow) → ShareNoSlot log other → ShareNoSlot (f log) (f other)) → (logs : List LogRow) →
    AllPairs ShareNoSlot logs → AllPairs ShareNoSlot (map f logs)
mapped_apart f keeps logs h i j d before within =
    let all : length (map f logs) ≡ length logs = length-map logs f in
    let first : get_or (map f logs) i d ≡ f (get_or logs i d) = get_or-map f logs i d d (omega (arith, all, before, within)) in
    let second : get_or (map f logs) j d ≡ f (get_or logs j d) = get_or-map f logs j d d (omega (arith, all, within)) in
    subst (λ log. ShareNoSlot log (get_or (map f logs) j d)) (sym first)
    (subst (λ other. ShareNoSlot (f (get_or logs i d)) other) (sym second)
    (keeps (get_or logs i d) (get_or logs j d) (h i j d before (omega (arith, all, within)))))

settled_slot : (registrations : List Registration) (now : ℕ) (log : LogRow) → (settled_one registrations now log).slot ≡ log.slot
settled_slot registrations now log = by (is_used registrations log.number)
  where
    by : (b : Bool) → (cond b log (left_alone now log)).slot ≡ log.slot
    by true = refl
    by false = refl

settled_apart : (registrations : List Registration) (now : ℕ) (log other : LogRow) → ShareNoSlot log other →
    ShareNoSlot (settled_one registrations now log) (settled_one registrations now other)
settled_apart registrations now log other apart kinds slots =
    apart (sym (settled_kind registrations now log) ∙ kinds ∙ settled_kind registrations now other)
    (sym (settled_slot registrations now log) ∙ slots ∙ settled_slot registrations now other)

settled_in_reach : (registrations : List Registration) (now : ℕ) (log : LogRow) → IsInReach log →
    IsInReach (settled_one registrations now log)
settled_in_reach registrations now log within =
    subst (λ (b : Bool). (settled_one registrations now log).slot < limit_of b) (sym (settled_kind registrations now log))
    (subst (λ (n : ℕ). n < limit_of (is_published log)) (sym (settled_slot registrations now log)) within)

-- ---- after each call

no_slots : (s : Streams) → s.sources ≡ [] → HasOwnSlots s
no_slots s none = record {
  within = λ k d within. absurd (let e : length s.sources ≡ 0 = ap length none in omega (arith, e, within));
  apart = λ i j d before within. absurd (let e : length s.sources ≡ 0 = ap length none in omega (arith, e, within));
}

kept_slots : (s t : Streams) (stays : LogRow → Bool) → t.sources ≡ filter stays s.sources → HasOwnSlots s → HasOwnSlots t
kept_slots s t stays is h = record {
  within = subst (All IsInReach) (sym is) (All-filter stays IsInReach s.sources h.within);
  apart = subst (AllPairs ShareNoSlot) (sym is) (AllPairs-filter ShareNoSlot stays s.sources h.apart);
}

made_slots : (s : Streams) (number client place : ℕ) (wanted : Wanted) (session : ℤ) → HasOwnSlots s → has_room_for_log s ≡ true →
    HasOwnSlots (added s number client wanted place (Make session))
made_slots s number client place wanted session h room =
    let log = log_of s number wanted place session in
    let few = ltb-true (length (filter is_published s.sources)) 256 room in
    let low : free_slot true s.sources ≤ length (filter is_published s.sources) = within_kind true s.sources in
    let reach : free_slot true s.sources < 256 = omega (arith, low, few) in
    record {
      within = All-push IsInReach s.sources log h.within reach;
      apart = all_pairs_push ShareNoSlot s.sources log h.apart
          (λ k d within kinds slots. new_apart true s.sources k d within kinds slots);
    }

added_slots : (s : Streams) (number client place : ℕ) (wanted : Wanted) (adding : Adding) → HasOwnSlots s →
    adding_of s wanted ≡ Ok adding → HasOwnSlots (added s number client wanted place adding)
added_slots s number client place wanted (Join source session) h is = record { within = h.within; apart = h.apart }
added_slots s number client place wanted (Make session) h is =
    made_slots s number client place wanted session h (make_has_room_for_log s wanted session is)

imaged_slots : (s : Streams) (number place : ℕ) (wanted : ImageWanted) → HasOwnSlots s → has_room_for_image s ≡ true →
    HasOwnSlots (imaged s number wanted place)
imaged_slots s number place wanted h room =
    let log = image_of s number wanted place in
    let few = ltb-true (length (filter is_remote s.sources)) 512 room in
    let low : free_slot false s.sources ≤ length (filter is_remote s.sources) = within_kind false s.sources in
    let reach : free_slot false s.sources < 512 = omega (arith, low, few) in
    record {
      within = All-push IsInReach s.sources log h.within reach;
      apart = all_pairs_push ShareNoSlot s.sources log h.apart
          (λ k d within kinds slots. new_apart false s.sources k d within (ap not kinds) slots);
    }

settled_slots : (s : Streams) (now : ℕ) → HasOwnSlots s → HasOwnSlots (settled s now)
unfolding settled
settled_slots s now h = record {
  within = All-map IsInReach (settled_one s.registrations now) s.sources
      (λ k d within. settled_in_reach s.registrations now (get_or s.sources k d) (h.within k d within));
  apart = mapped_apart (settled_one s.registrations now) (settled_apart s.registrations now) s.sources h.apart;
}

unregistered_slots : (s : Streams) (client number now : ℕ) → HasOwnSlots s → HasOwnSlots (unregistered s client number now)
unfolding unregistered
unregistered_slots s client number now h =
    settled_slots (record s { registrations = filter (is_another_registration client number) s.registrations }) now
    (record { within = h.within; apart = h.apart })

left_slots : (s : Streams) (client now : ℕ) → HasOwnSlots s → HasOwnSlots (left s client now)
unfolding left
left_slots s client now h =
    settled_slots (record s {
      registrations = filter (is_registration_of_another client) s.registrations;
      subscriptions = filter (is_subscription_of_another client) s.subscriptions;
    }) now (record { within = h.within; apart = h.apart })

unsubscribed_slots : (s : Streams) (client number : ℕ) → HasOwnSlots s → HasOwnSlots (unsubscribed s client number)
unfolding unsubscribed
unsubscribed_slots s client number h = record { within = h.within; apart = h.apart }

subscribed_slots : (s : Streams) (number client : ℕ) (channel : Shape) (stream : ℤ) → HasOwnSlots s →
    HasOwnSlots (subscribed s number client channel stream)
unfolding subscribed
subscribed_slots s number client channel stream h = record { within = h.within; apart = h.apart }

closed_slots : (s : Streams) (now : ℕ) (silent : List ℕ) → HasOwnSlots s → HasOwnSlots (closed s now silent)
unfolding closed
closed_slots s now silent h = kept_slots s (closed s now silent) (stays_live now silent) refl h

without_slots : (s : Streams) (numbers : List ℕ) → HasOwnSlots s → HasOwnSlots (without_images s numbers)
unfolding without_images
without_slots s numbers h = kept_slots s (without_images s numbers) (stays_beside numbers) refl h

pub all_slots_free : SlotsAreFree
all_slots_free = record {
  least = least_slot;
  opened = λ defaults first. no_slots _ refl;
  added = added_slots;
  imaged = imaged_slots;
  subscribed = subscribed_slots;
  unregistered = unregistered_slots;
  unsubscribed = unsubscribed_slots;
  left = left_slots;
  closed = closed_slots;
  without_images = without_slots;
  cleared = λ s h. no_slots _ refl;
}
