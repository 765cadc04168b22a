-- What is known of a gap after ticks.
use Rattle.std.proofs.Common.{◌≡◌, ℕ, ◌+◌, Bool, true, false, cond, List, [], ◌∷◌, ◌++◌, max, Option, Some, None, refl, sym, ap, ap₂, subst, ◌∙◌, arith}
use Rattle.std.specs.Prelude.{nat_lt, ◌==◌, if◌then◌else◌}
use Rattle.std.proofs.lemmas.Bool.{eq-eqb, ne_eqb}
use Rattle.std.proofs.lemmas.Bool.Decides.{nat_tests}
use Rattle.retransmit_gate.specs.declared.nakker.Missing.{Missing}
use Rattle.retransmit_gate.specs.declared.nakker.Nak.{Nak}
use Rattle.retransmit_gate.specs.Moment.{is_past, later_of}
use Rattle.retransmit_gate.specs.Nakker.{Watch, watching, first_seen, known_of, is_due, nak_of, asked_if, after_tick}
use Rattle.retransmit_gate.specs.NakLaws.{Tick, ticked, after_ticks, watch_of, latest_of, IsAt, IsNew, AreQuiet, IsSeen, IsAsked, AsksExactly, GapsAreAskedExactly}

-- ---- ticks, one behind the other

pub after_append : (watch : Watch) (xs ys : List Tick) → after_ticks watch (xs ++ ys) ≡ after_ticks (after_ticks watch xs) ys
after_append watch [] ys = refl
after_append watch (tick ∷ xs) ys = after_append (ticked watch tick) xs ys

-- the two delays stay, and the greatest moment counts
record IsBehind (old new : Watch) (ticks : List Tick) : Type 0 where
  delay : new.delay ≡ old.delay
  repeat : new.repeat ≡ old.repeat
  latest : new.latest ≡ max old.latest (latest_of ticks)

is_behind : (watch : Watch) (ticks : List Tick) → IsBehind watch (after_ticks watch ticks) ticks
unfolding after_tick
is_behind watch [] = record { delay = refl; repeat = refl; latest = omega arith }
is_behind watch (tick ∷ ticks) =
    let next = is_behind (ticked watch tick) ticks in
    let latest = next.latest in
    record { delay = next.delay; repeat = next.repeat; latest = omega (arith, latest) }

latest_is : (delay repeat : ℕ) (ticks : List Tick) → (watch_of delay repeat ticks).latest ≡ latest_of ticks
latest_is delay repeat ticks = let latest = (is_behind (watching delay repeat) ticks).latest in omega (arith, latest)

latest_more : (ticks : List Tick) (tick : Tick) → latest_of (ticks ++ tick ∷ []) ≡ max (latest_of ticks) tick.now
latest_more [] tick = omega arith
latest_more (t ∷ ticks) tick = omega (arith, latest_more ticks tick)

-- ---- one tick

-- the NAK of a gap of which that is known
nak_known : (watch : Watch) (now : ℕ) (gap : ℕ × ℕ) (known : Missing) → known_of watch.missing gap.0 (later_of watch.latest now) ≡ known
    → nak_of watch now (Some gap) ≡ (if is_due watch (later_of watch.latest now) known then Some (record { position = gap.0; length = gap.1 }) else None)
unfolding nak_of
nak_known watch now gap known is =
    ap (λ (m : Missing). cond (is_due watch (later_of watch.latest now) m) (Some (let n : Nak = record { position = gap.0; length = gap.1 } in n)) None) is

not_due : (b : Bool) (nak : Nak) → cond b (Some nak) None ≡ None → b ≡ false
not_due true nak is = absurd cc
not_due false nak is = refl

due_now : (b : Bool) (given nak : Nak) → cond b (Some given) None ≡ Some nak → b ≡ true
due_now true given nak is = refl
due_now false given nak is = absurd cc

-- a tick with that gap that gives no NAK leaves what is known
stays : (watch : Watch) (now : ℕ) (gap : ℕ × ℕ) (known : Missing) → known_of watch.missing gap.0 (later_of watch.latest now) ≡ known
    → nak_of watch now (Some gap) ≡ None → (after_tick watch now (Some gap)).missing ≡ Some known
unfolding after_tick
stays watch now gap known is none =
    let moment : ℕ = later_of watch.latest now in
    let due : is_due watch moment known ≡ false = not_due (is_due watch moment known) (record { position = gap.0; length = gap.1 }) (sym (nak_known watch now gap known is) ∙ none) in
    ap (λ (m : Missing). Some (asked_if (is_due watch moment m) moment m)) is
    ∙ ap (λ (b : Bool). Some (asked_if b moment known)) due

-- and one that gives a NAK notes its moment
abbrev asked_then : Missing → ℕ → Missing
asked_then known moment = record { position = known.position; seen = known.seen; asked = Some moment }

asks : (watch : Watch) (now : ℕ) (gap : ℕ × ℕ) (known : Missing) (nak : Nak) → known_of watch.missing gap.0 (later_of watch.latest now) ≡ known
    → nak_of watch now (Some gap) ≡ Some nak → (after_tick watch now (Some gap)).missing ≡ Some (asked_then known (later_of watch.latest now))
unfolding after_tick
asks watch now gap known nak is given =
    let moment : ℕ = later_of watch.latest now in
    let due : is_due watch moment known ≡ true = due_now (is_due watch moment known) (record { position = gap.0; length = gap.1 }) nak (sym (nak_known watch now gap known is) ∙ given) in
    ap (λ (m : Missing). Some (asked_if (is_due watch moment m) moment m)) is
    ∙ ap (λ (b : Bool). Some (asked_if b moment known)) due

-- ---- what is known of a gap

known_place : (o : Option Missing) (position moment : ℕ) → (known_of o position moment).position ≡ position
known_place None position moment = refl
known_place (Some missing) position moment =
    elim (missing.position == position) as (λ b. (missing.position == position) ≡ b → (cond b missing (first_seen position moment)).position ≡ position) [
      | true ↦ λ same. grind (arith, nat_tests, same)
      | false ↦ λ other. refl
    ]
    refl

known_same : (o : Option Missing) (missing : Missing) (position moment : ℕ) → o ≡ Some missing → missing.position ≡ position → known_of o position moment ≡ missing
known_same o missing position moment is same = rw (is, eq-eqb missing.position position same) refl

known_other : (missing : Missing) (position moment : ℕ) → (missing.position ≡ position → ⊥) → known_of (Some missing) position moment ≡ first_seen position moment
known_other missing position moment other = rw (ne_eqb missing.position position other) refl

-- after a tick without that gap nothing is known of it
new_after : (watch : Watch) (now position moment : ℕ) (gap : Option (ℕ × ℕ)) → (IsAt position gap → ⊥) → known_of (after_tick watch now gap).missing position moment ≡ first_seen position moment
unfolding after_tick
new_after watch now position moment None other = refl
new_after watch now position moment (Some gap) other =
    let here : ℕ = later_of watch.latest now in
    let known : Missing = known_of watch.missing gap.0 here in
    let place = known_place watch.missing gap.0 here in
    known_other (asked_if (is_due watch here known) here known) position moment (λ same. other (sym place ∙ same))

new_behind : (watch : Watch) (tick : Tick) (ticks : List Tick) (position moment : ℕ) → IsNew position (tick ∷ ticks)
    → known_of (after_ticks watch (tick ∷ ticks)).missing position moment ≡ first_seen position moment
new_behind watch tick [] position moment new = new_after watch tick.now position moment tick.gap new
new_behind watch tick (next ∷ ticks) position moment new = new_behind (ticked watch tick) next ticks position moment new

new_known : (delay repeat : ℕ) (ticks : List Tick) (position moment : ℕ) → IsNew position ticks
    → known_of (watch_of delay repeat ticks).missing position moment ≡ first_seen position moment
new_known delay repeat [] position moment new = refl
new_known delay repeat (tick ∷ ticks) position moment new = new_behind (watching delay repeat) tick ticks position moment new

-- quiet ticks leave what is known
quiet_one : (watch : Watch) (now : ℕ) (gap : Option (ℕ × ℕ)) (missing : Missing) → watch.missing ≡ Some missing → IsAt missing.position gap → nak_of watch now gap ≡ None
    → (after_tick watch now gap).missing ≡ Some missing
quiet_one watch now None missing is here none = absurd here
quiet_one watch now (Some gap) missing is here none =
    stays watch now gap missing (known_same watch.missing missing gap.0 (later_of watch.latest now) is (sym here)) none

quiet_all : (watch : Watch) (ticks : List Tick) (missing : Missing) → watch.missing ≡ Some missing → AreQuiet missing.position watch ticks
    → (after_ticks watch ticks).missing ≡ Some missing
quiet_all watch [] missing is quiet = is
quiet_all watch (tick ∷ ticks) missing is quiet =
    quiet_all (ticked watch tick) ticks missing (quiet_one watch tick.now tick.gap missing is quiet.0 quiet.1) quiet.2

first_one : (watch : Watch) (now position : ℕ) (gap : Option (ℕ × ℕ)) → ((moment : ℕ) → known_of watch.missing position moment ≡ first_seen position moment)
    → IsAt position gap → nak_of watch now gap ≡ None → (after_tick watch now gap).missing ≡ Some (first_seen position (later_of watch.latest now))
first_one watch now position None new here none = absurd here
first_one watch now position (Some gap) new here none =
    let moment : ℕ = later_of watch.latest now in
    stays watch now gap (first_seen position moment) (ap (λ (p : ℕ). known_of watch.missing p moment) here ∙ new moment) none

-- of a gap that was asked for
record Noted (missing : Option Missing) (position asked : ℕ) : Type 0 where
  seen : ℕ
  is : missing ≡ Some (record { position = position; seen = seen; asked = Some asked })

asked_one : (watch : Watch) (now position : ℕ) (gap : Option (ℕ × ℕ)) (nak : Nak) → IsAt position gap → nak_of watch now gap ≡ Some nak
    → Noted (after_tick watch now gap).missing position (later_of watch.latest now)
asked_one watch now position None nak here given = absurd here
asked_one watch now position (Some gap) nak here given =
    let moment : ℕ = later_of watch.latest now in
    let known : Missing = known_of watch.missing gap.0 moment in
    let place : known.position ≡ position = known_place watch.missing gap.0 moment ∙ here in
    record {
      seen = known.seen;
      is = asks watch now gap known nak refl given
          ∙ ap (λ (p : ℕ). Some (let m : Missing = record { position = p; seen = known.seen; asked = Some moment } in m)) place;
    }

-- ---- the law

past_since : (limit since moment : ℕ) → is_past moment since limit ≡ nat_lt (since + limit) moment
past_since limit since moment = grind (arith, nat_tests)

none_first : (delay moment : ℕ) → is_past moment moment delay ≡ false
none_first delay moment = grind (arith, nat_tests)

no_gap : (watch : Watch) (now : ℕ) → nak_of watch now None ≡ None
unfolding nak_of
no_gap watch now = refl

seen_missing : (delay repeat : ℕ) (ticks : List Tick) (position seen : ℕ) → IsSeen delay repeat ticks position seen
    → (watch_of delay repeat ticks).missing ≡ Some (first_seen position seen)
seen_missing delay repeat ticks position seen s =
    let before : Watch = watch_of delay repeat s.before in
    let moment : ℕ = later_of before.latest s.first.now in
    let first = first_one before s.first.now position s.first.gap (λ m. new_known delay repeat s.before position m s.new) s.quiet.0 s.quiet.1 in
    let since = s.at in
    let same : moment ≡ seen = omega (arith, since, latest_is delay repeat s.before, latest_more s.before s.first) in
    ap (λ (ts : List Tick). (watch_of delay repeat ts).missing) s.is
    ∙ ap (λ (w : Watch). w.missing) (after_append (watching delay repeat) s.before (s.first ∷ s.later))
    ∙ quiet_all (ticked before s.first) s.later (first_seen position moment) first s.quiet.2
    ∙ ap (λ (m : ℕ). Some (first_seen position m)) same

asked_missing : (delay repeat : ℕ) (ticks : List Tick) (position asked : ℕ) → IsAsked delay repeat ticks position asked
    → Noted (watch_of delay repeat ticks).missing position asked
asked_missing delay repeat ticks position asked s =
    let before : Watch = watch_of delay repeat s.before in
    let moment : ℕ = later_of before.latest s.last.now in
    let noted = asked_one before s.last.now position s.last.gap s.nak s.here s.asks in
    let known : Missing = record { position = position; seen = noted.seen; asked = Some moment } in
    let behind : watch_of delay repeat (s.before ++ s.last ∷ []) ≡ ticked before s.last = after_append (watching delay repeat) s.before (s.last ∷ []) in
    let quiet : AreQuiet position (ticked before s.last) s.later = subst (λ (w : Watch). AreQuiet position w s.later) behind s.quiet in
    let since = s.at in
    let same : moment ≡ asked = omega (arith, since, latest_is delay repeat s.before, latest_more s.before s.last) in
    record {
      seen = noted.seen;
      is = ap (λ (ts : List Tick). (watch_of delay repeat ts).missing) s.is
          ∙ ap (λ (w : Watch). w.missing) (after_append (watching delay repeat) s.before (s.last ∷ s.later))
          ∙ quiet_all (ticked before s.last) s.later known noted.is quiet
          ∙ ap (λ (m : ℕ). Some (let k : Missing = record { position = position; seen = noted.seen; asked = Some m } in k)) same;
    }

-- the NAK of a gap of which that is known, by the ticks alone
nak_by : (delay repeat : ℕ) (ticks : List Tick) (now position size : ℕ) (known : Missing) (b : Bool)
    → known_of (watch_of delay repeat ticks).missing position (later_of (watch_of delay repeat ticks).latest now) ≡ known
    → is_due (watch_of delay repeat ticks) (later_of (watch_of delay repeat ticks).latest now) known ≡ b
    → nak_of (watch_of delay repeat ticks) now (Some (position, size)) ≡ (if b then Some (record { position = position; length = size }) else None)
nak_by delay repeat ticks now position size known b is due =
    nak_known (watch_of delay repeat ticks) now (position, size) known is
    ∙ ap (λ (x : Bool). cond x (Some (let n : Nak = record { position = position; length = size } in n)) None) due

asks_exactly : (delay repeat : ℕ) (ticks : List Tick) → AsksExactly delay repeat ticks
asks_exactly delay repeat ticks =
    let watch : Watch = watch_of delay repeat ticks in
    let times = is_behind (watching delay repeat) ticks in
    let latest = latest_is delay repeat ticks in
    record {
      none = λ now. no_gap watch now;
      first = λ now position size new.
          let moment : ℕ = later_of watch.latest now in
          nak_by delay repeat ticks now position size (first_seen position moment) false (new_known delay repeat ticks position moment new) (none_first watch.delay moment);
      waits = λ now position size seen s.
          let moment : ℕ = later_of watch.latest now in
          let known : Missing = first_seen position seen in
          let due : is_past moment seen watch.delay ≡ nat_lt (seen + delay) (max (latest_of ticks) now) =
          past_since watch.delay seen moment ∙ ap₂ (λ (d l : ℕ). nat_lt (seen + d) (max l now)) times.delay latest in
          nak_by delay repeat ticks now position size known (nat_lt (seen + delay) (max (latest_of ticks) now))
          (known_same watch.missing known position moment (seen_missing delay repeat ticks position seen s) refl) due;
      repeats = λ now position size asked s.
          let moment : ℕ = later_of watch.latest now in
          let noted = asked_missing delay repeat ticks position asked s in
          let known : Missing = record { position = position; seen = noted.seen; asked = Some asked } in
          let due : is_past moment asked watch.repeat ≡ nat_lt (asked + repeat) (max (latest_of ticks) now) =
          past_since watch.repeat asked moment ∙ ap₂ (λ (r l : ℕ). nat_lt (asked + r) (max l now)) times.repeat latest in
          nak_by delay repeat ticks now position size known (nat_lt (asked + repeat) (max (latest_of ticks) now))
          (known_same watch.missing known position moment noted.is refl) due;
    }

pub gaps_asked : GapsAreAskedExactly
gaps_asked = asks_exactly
