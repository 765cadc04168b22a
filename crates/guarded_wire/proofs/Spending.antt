-- What is spent, and what was given.
use Rattle.std.proofs.Common.{◌≡◌, ◌≤◌, ◌<◌, ◌==◌, ℕ, ◌+◌, ◌-◌, Bool, true, false, cond, List, [], ◌∷◌, ◌++◌, Option, Some, None, is_some, length, nat_le, slice_index_or, slice_set, refl, ap, sym, ◌∙◌, subst, arith, inl, inr, ⊎_elim}
use Rattle.std.proofs.lemmas.Bool.{cases_eq, cond-true, eq-eqb, ltb-false, true≢false}
use Rattle.std.proofs.lemmas.List.{get_or-set_other, get_or-set_same}
use Rattle.channel_uri.specs.declared.address.Address.{Address}
use Rattle.media_wire.specs.Events.{Event, sent, read, nothing, failed}
use Rattle.media_wire.specs.declared.letter.Letter.{Letter}
use Rattle.guarded_wire.specs.Guards.{Asks, Judged, Spends, Watch, none_spent, spent_of}
use Rattle.guarded_wire.specs.Kinds.{is_ask, kind_of}
use Rattle.guarded_wire.specs.Origins.{place_of}
use Rattle.guarded_wire.specs.Reads.{MayDrop, asked, once_at, stranger, too_much, too_often}
use Rattle.guarded_wire.specs.Spending.{begun, may_ask, once_more}
use Rattle.guarded_wire.specs.declared.cause.Cause.{Cause}
use Rattle.guarded_wire.specs.declared.cause.Cause.TheVariants.{Stranger, TooMuch, TooOften}
use Rattle.guarded_wire.specs.declared.origin.Origin.{Origin}
use Rattle.guarded_wire.specs.declared.spent.Spent.{Spent}

-- ---- what was given, event by event

behind : (one rest more all : ℕ) → all ≡ rest + more → one + all ≡ one + rest + more
behind one rest more all is = omega (arith, is)

pub asked-append : (origins : List Origin) (place : ℕ) (events : List Event) (event : Event) →
    asked origins place (events ++ event ∷ []) ≡ asked origins place events + asked origins place (event ∷ [])
asked-append origins place [] event = omega arith
asked-append origins place (sent it ∷ events) event = asked-append origins place events event
asked-append origins place (read it ∷ events) event =
    behind (cond (is_ask (kind_of it.bytes)) (once_at place (place_of it.from origins)) 0) (asked origins place events) (asked origins place (event ∷ []))
    (asked origins place (events ++ event ∷ [])) (asked-append origins place events event)
asked-append origins place (nothing address ∷ events) event = asked-append origins place events event
asked-append origins place (failed ∷ events) event = asked-append origins place events event

once_there : (place : ℕ) → once_at place (Some place) ≡ 1
once_there place = cond-true (place == place) 1 0 (eq-eqb place place refl)

-- a NAK or a status message counts where its address stands
pub asked_once : (origins : List Origin) (place : ℕ) (it : Letter) → is_ask (kind_of it.bytes) ≡ true → place_of it.from origins ≡ Some place →
    asked origins place (read it ∷ []) ≡ 1
asked_once origins place it asks there =
    ap (λ (b : Bool). cond b (once_at place (place_of it.from origins)) 0 + 0) asks
    ∙ ap (λ (found : Option ℕ). once_at place found + 0) there ∙ ap (λ (n : ℕ). n + 0) (once_there place)

-- ---- what is spent

begun_from : (test : Bool) (now : ℕ) (spent : Spent) → (cond {A = Spent} test (record { since = now; asked = 0 }) spent).asked ≤ spent.asked
begun_from true now spent = omega arith
begun_from false now spent = omega arith

begun_less : (now : ℕ) (spent : Spent) → (begun now spent).asked ≤ spent.asked
begun_less now spent = begun_from (nat_le 60000000 (now - spent.since)) now spent

-- of one place, and of the others
pub spent_at : (spent : List Spent) (place other : ℕ) (put : Spent) (bound : ℕ → ℕ) → place < length spent → put.asked ≤ bound place →
    ((at : ℕ) → (slice_index_or spent at none_spent).asked ≤ bound at) →
    (slice_index_or (slice_set spent place put) other none_spent).asked ≤ bound other
spent_at spent place other put bound within here were = ⊎_elim
    (λ same. subst (λ (at : ℕ). (slice_index_or (slice_set spent place put) at none_spent).asked ≤ bound at) (sym same)
    (subst (λ (it : Spent). it.asked ≤ bound place) (sym (get_or-set_same spent place put none_spent within)) here))
    (λ differs. subst (λ (it : Spent). it.asked ≤ bound other) (sym (get_or-set_other spent place other put none_spent differs)) (were other))
    (cases_eq other place)

pub set_watch : Watch → ℕ → Spent → Watch
set_watch watch place put = record watch { spent = slice_set watch.spent place put }

-- ---- a datagram goes on

pub record GoesOn (watch next : Watch) (it : Letter) : Type 0 where
  pub rules : next.rules ≡ watch.rules
  pub spends : (place : ℕ) → (spent_of next place).asked ≤ (spent_of watch place).asked + asked watch.rules.origins place (read it ∷ [])

same_goes_on : (watch next : Watch) (it : Letter) → next ≡ watch → GoesOn watch next it
same_goes_on watch next it is = subst (λ (w : Watch). GoesOn watch w it) (sym is) (record { rules = refl; spends = λ place. omega arith })

asked_goes_on : (watch next : Watch) (it : Letter) → Asks watch it.from it.bytes true next → GoesOn watch next it
asked_goes_on watch next it asks = subst (λ (w : Watch). GoesOn watch w it) (sym asks.spends.next_is) (record {
  rules = refl;
  spends = λ other. spent_at watch.spent asks.place other (once_more (begun asks.spends.now (spent_of watch asks.place)))
      (λ at. (spent_of watch at).asked + asked watch.rules.origins at (read it ∷ [])) asks.within
      (omega (arith, begun_less asks.spends.now (spent_of watch asks.place), asked_once watch.rules.origins asks.place it asks.asks asks.there))
      (λ at. omega arith);
})

pub judged_goes_on : (watch next : Watch) (it : Letter) → Judged watch it.from it.bytes None next → GoesOn watch next it
judged_goes_on watch next it (inl opened) = same_goes_on watch next it opened.1
judged_goes_on watch next it (inr (inl plain)) = same_goes_on watch next it plain.next_is
judged_goes_on watch next it (inr (inr asks)) = asked_goes_on watch next it asks

-- ---- a datagram is dropped

pub record IsDropped (watch next : Watch) (events : List Event) (it : Letter) : Type 0 where
  pub rules : next.rules ≡ watch.rules
  pub may : MayDrop watch.rules events it
  pub spends : (place : ℕ) → (spent_of next place).asked ≤ (spent_of watch place).asked

same_is_dropped : (watch next : Watch) (events : List Event) (it : Letter) → next ≡ watch → MayDrop watch.rules events it → IsDropped watch next events it
same_is_dropped watch next events it is may =
    subst (λ (w : Watch). IsDropped watch w events it) (sym is) (record { rules = refl; may = may; spends = λ place. omega arith })

asked_is_dropped : (watch next : Watch) (events : List Event) (it : Letter) → watch.rules.drops ≡ true → Asks watch it.from it.bytes false next →
    ((place : ℕ) → (spent_of watch place).asked ≤ asked watch.rules.origins place events) → IsDropped watch next events it
asked_is_dropped watch next events it drops asks spent = subst (λ (w : Watch). IsDropped watch w events it) (sym asks.spends.next_is) (record {
  rules = refl;
  may = too_often drops asks.place asks.there asks.asks
      (omega (
        arith,
        ltb-false (begun asks.spends.now (spent_of watch asks.place)).asked watch.rules.budget (sym asks.spends.may_is),
        begun_less asks.spends.now (spent_of watch asks.place),
        spent asks.place,
      ));
  spends = λ other. spent_at watch.spent asks.place other (begun asks.spends.now (spent_of watch asks.place))
      (λ at. (spent_of watch at).asked) asks.within (begun_less asks.spends.now (spent_of watch asks.place)) (λ at. omega arith);
})

pub judged_is_dropped : (watch next : Watch) (events : List Event) (it : Letter) (cause : Cause) → Judged watch it.from it.bytes (Some cause) next →
    ((place : ℕ) → (spent_of watch place).asked ≤ asked watch.rules.origins place events) → IsDropped watch next events it
judged_is_dropped watch next events it (Stranger kind) judged spent =
    same_is_dropped watch next events it judged.3 (stranger judged.0 judged.1)
judged_is_dropped watch next events it TooMuch judged spent = same_is_dropped watch next events it judged.2 (too_much judged.0 judged.1)
judged_is_dropped watch next events it (TooOften kind) judged spent = asked_is_dropped watch next events it judged.0 judged.1 spent

-- by none of them are the rules changed
pub judged_rules : (watch next : Watch) (from : Address) (bytes : List ℕ) (cause : Option Cause) → Judged watch from bytes cause next →
    next.rules ≡ watch.rules
judged_rules watch next from bytes None (inl opened) = ap (λ (w : Watch). w.rules) opened.1
judged_rules watch next from bytes None (inr (inl plain)) = ap (λ (w : Watch). w.rules) plain.next_is
judged_rules watch next from bytes None (inr (inr asks)) = ap (λ (w : Watch). w.rules) asks.spends.next_is
judged_rules watch next from bytes (Some (Stranger kind)) judged = ap (λ (w : Watch). w.rules) judged.3
judged_rules watch next from bytes (Some TooMuch) judged = ap (λ (w : Watch). w.rules) judged.2
judged_rules watch next from bytes (Some (TooOften kind)) judged = ap (λ (w : Watch). w.rules) judged.1.spends.next_is

-- who goes on is bound, where anything is dropped
pub judged_bound : (watch next : Watch) (from : Address) (bytes : List ℕ) → Judged watch from bytes None next → watch.rules.drops ≡ true →
    is_some (place_of from watch.rules.origins) ≡ true
judged_bound watch next from bytes (inl opened) drops = absurd (true≢false (sym drops ∙ opened.0))
judged_bound watch next from bytes (inr (inl plain)) drops = ap (λ (found : Option ℕ). is_some found) plain.there
judged_bound watch next from bytes (inr (inr asks)) drops = ap (λ (found : Option ℕ). is_some found) asks.there

-- ---- what is said of a datagram

pub spends_inside : (inside was next : Watch) (place now : ℕ) (may : Bool) → inside ≡ was →
    may ≡ may_ask inside.rules.budget (begun now (spent_of inside place)) →
    next ≡ record inside {
      spent = slice_set inside.spent place
          (cond may (once_more (begun now (spent_of inside place))) (begun now (spent_of inside place)));
    } → Spends was place may next
spends_inside inside was next place now may same may_is next_is =
    subst (λ (w : Watch). Spends w place may next) same (record { now = now; may_is = may_is; next_is = next_is })
