-- Where a gap stands after any ticks.
use Rattle.std.proofs.Common.{◌≡◌, ℕ, true, false, List, [], ◌∷◌, ◌++◌, Option, Some, None, refl, sym, ap, subst, ◌∙◌, arith, append_assoc}
use Rattle.std.specs.Prelude.{◌==◌}
use Rattle.std.proofs.lemmas.Bool.Decides.{nat_tests}
use Rattle.std.proofs.lemmas.List.{append-nil}
use Rattle.retransmit_gate.specs.declared.nakker.Nak.{Nak}
use Rattle.retransmit_gate.specs.Nakker.{Watch, watching}
use Rattle.retransmit_gate.specs.NakLaws.{Tick, nak_at, ticked, after_ticks, watch_of, latest_of, IsAt, IsNew, AreQuiet, IsSeen, IsAsked, Stand, fresh_gap, seen_gap, asked_gap, GapsStandSomewhere}
use Rattle.retransmit_gate.proofs.NakLemmas.{after_append}

-- a tick more without the gap
new_more : (position : ℕ) (ticks : List Tick) (tick : Tick) → (IsAt position tick.gap → ⊥) → IsNew position (ticks ++ tick ∷ [])
new_more position [] tick other = other
new_more position (t ∷ []) tick other = other
new_more position (t ∷ (next ∷ ticks)) tick other = new_more position (next ∷ ticks) tick other

-- a quiet tick more
quiet_more : (position : ℕ) (watch : Watch) (ticks : List Tick) (tick : Tick) → AreQuiet position watch ticks → IsAt position tick.gap
    → nak_at (after_ticks watch ticks) tick ≡ None → AreQuiet position watch (ticks ++ tick ∷ [])
quiet_more position watch [] tick quiet here none = (here, none, tt)
quiet_more position watch (t ∷ ticks) tick quiet here none = (quiet.0, quiet.1, quiet_more position (ticked watch t) ticks tick quiet.2 here none)

seen_more : (delay repeat : ℕ) (ticks : List Tick) (position seen : ℕ) (tick : Tick) → IsSeen delay repeat ticks position seen → IsAt position tick.gap
    → nak_at (watch_of delay repeat ticks) tick ≡ None → IsSeen delay repeat (ticks ++ tick ∷ []) position seen
seen_more delay repeat ticks position seen tick s here none =
    let before : Watch = watch_of delay repeat s.before in
    let same : watch_of delay repeat ticks ≡ after_ticks before (s.first ∷ s.later) =
    ap (watch_of delay repeat) s.is ∙ after_append (watching delay repeat) s.before (s.first ∷ s.later) in
    record {
      before = s.before;
      first = s.first;
      later = s.later ++ tick ∷ [];
      is = ap (λ (ts : List Tick). ts ++ tick ∷ []) s.is ∙ append_assoc s.before (s.first ∷ s.later) (tick ∷ []);
      new = s.new;
      quiet = quiet_more position before (s.first ∷ s.later) tick s.quiet here (subst (λ (w : Watch). nak_at w tick ≡ None) same none);
      at = s.at;
    }

asked_more : (delay repeat : ℕ) (ticks : List Tick) (position asked : ℕ) (tick : Tick) → IsAsked delay repeat ticks position asked → IsAt position tick.gap
    → nak_at (watch_of delay repeat ticks) tick ≡ None → IsAsked delay repeat (ticks ++ tick ∷ []) position asked
asked_more delay repeat ticks position asked tick s here none =
    let before : Watch = watch_of delay repeat (s.before ++ s.last ∷ []) in
    let split : ticks ≡ (s.before ++ s.last ∷ []) ++ s.later = s.is ∙ sym (append_assoc s.before (s.last ∷ []) s.later) in
    let same : watch_of delay repeat ticks ≡ after_ticks before s.later =
    ap (watch_of delay repeat) split ∙ after_append (watching delay repeat) (s.before ++ s.last ∷ []) s.later in
    record {
      before = s.before;
      last = s.last;
      later = s.later ++ tick ∷ [];
      is = ap (λ (ts : List Tick). ts ++ tick ∷ []) s.is ∙ append_assoc s.before (s.last ∷ s.later) (tick ∷ []);
      here = s.here;
      nak = s.nak;
      asks = s.asks;
      quiet = quiet_more position before s.later tick s.quiet here (subst (λ (w : Watch). nak_at w tick ≡ None) same none);
      at = s.at;
    }

-- a tick more with the gap, that gives no NAK
stand_quiet : (delay repeat : ℕ) (ticks : List Tick) (position : ℕ) (tick : Tick) → Stand delay repeat ticks position → IsAt position tick.gap
    → nak_at (watch_of delay repeat ticks) tick ≡ None → Stand delay repeat (ticks ++ tick ∷ []) position
stand_quiet delay repeat ticks position tick (fresh_gap new) here none =
    seen_gap (latest_of (ticks ++ tick ∷ []))
    (record { before = ticks; first = tick; later = []; is = refl; new = new; quiet = (here, none, tt); at = refl })
stand_quiet delay repeat ticks position tick (seen_gap seen s) here none = seen_gap seen (seen_more delay repeat ticks position seen tick s here none)
stand_quiet delay repeat ticks position tick (asked_gap asked s) here none = asked_gap asked (asked_more delay repeat ticks position asked tick s here none)

stand_here : (delay repeat : ℕ) (ticks : List Tick) (position : ℕ) (tick : Tick) (o : Option Nak) → Stand delay repeat ticks position → IsAt position tick.gap
    → nak_at (watch_of delay repeat ticks) tick ≡ o → Stand delay repeat (ticks ++ tick ∷ []) position
stand_here delay repeat ticks position tick None stand here none = stand_quiet delay repeat ticks position tick stand here none
stand_here delay repeat ticks position tick (Some nak) stand here asks =
    asked_gap (latest_of (ticks ++ tick ∷ []))
    (record { before = ticks; last = tick; later = []; is = refl; here = here; nak = nak; asks = asks; quiet = tt; at = refl })

stand_by : (delay repeat : ℕ) (ticks : List Tick) (position : ℕ) (tick : Tick) (gap : Option (ℕ × ℕ)) → tick.gap ≡ gap → Stand delay repeat ticks position
    → Stand delay repeat (ticks ++ tick ∷ []) position
stand_by delay repeat ticks position tick None is stand =
    fresh_gap (new_more position ticks tick (λ here. subst (λ (g : Option (ℕ × ℕ)). IsAt position g) is here))
stand_by delay repeat ticks position tick (Some gap) is stand =
    elim (gap.0 == position) as (λ b. (gap.0 == position) ≡ b → Stand delay repeat (ticks ++ tick ∷ []) position) [
      | true ↦ λ same.
          let here : gap.0 ≡ position = grind (arith, nat_tests, same) in
          stand_here delay repeat ticks position tick (nak_at (watch_of delay repeat ticks) tick) stand
          (subst (λ (g : Option (ℕ × ℕ)). IsAt position g) (sym is) here) refl
      | false ↦ λ other.
          fresh_gap (new_more position ticks tick (λ here.
          let same : gap.0 ≡ position = subst (λ (g : Option (ℕ × ℕ)). IsAt position g) is here in
          let matches : (gap.0 == position) ≡ true = grind (arith, nat_tests, same) in
          absurd cc))
    ]
    refl

stands_from : (delay repeat : ℕ) (done ticks : List Tick) (position : ℕ) → Stand delay repeat done position → Stand delay repeat (done ++ ticks) position
stands_from delay repeat done [] position stand = subst (λ (ts : List Tick). Stand delay repeat ts position) (sym (append-nil done)) stand
stands_from delay repeat done (tick ∷ ticks) position stand =
    subst (λ (ts : List Tick). Stand delay repeat ts position) (append_assoc done (tick ∷ []) ticks)
    (stands_from delay repeat (done ++ tick ∷ []) ticks position (stand_by delay repeat done position tick tick.gap refl stand))

pub gaps_stand : GapsStandSomewhere
gaps_stand delay repeat ticks position = stands_from delay repeat [] ticks position (fresh_gap tt)
