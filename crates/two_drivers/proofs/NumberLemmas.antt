-- At each end of a run a log is found by its number, and none that went comes again.
use Rattle.std.proofs.Common.{◌≡◌, ℕ, ◌==◌, ◌<◌, ◌≤◌, Bool, true, false, cond, List, [], ◌∷◌, map, Option, Some, None, refl, sym, ap, ◌∙◌, subst, arith, ⊎_elim, ◌⊎◌, inl, inr}
use Rattle.std.specs.List.{All, Contains}
use Rattle.std.proofs.lemmas.Bool.{eqb-true, eq-eqb}
use Rattle.std.proofs.lemmas.List.Elements.{All-nil, All-cons, All-head, All-weaker, All-contains_itself, Contains-append_cases, Contains-append_right}
use Rattle.driver_core.specs.declared.state.event.Event.{Event}
use Rattle.driver_core.specs.declared.state.event.Inputs.{Inputs}
use Rattle.driver_core.specs.Conduct.{state_after, state_of}
use Rattle.driver_core.specs.State.{State}
use Rattle.driver_core.proofs.ListLemmas.{contains_none, only_one}
use Rattle.driver_laws.specs.NumberLaws.{AreRising, Rises}
use Rattle.driver_laws.specs.PublishingLaws.{WasLive}
use Rattle.driver_laws.proofs.NewNumberLemmas.{comes_above}
use Rattle.driver_laws.proofs.NumberLemmas.{event_rises}
use Rattle.driver_laws.proofs.RisingLemmas.{between}
use Rattle.log_steps.specs.declared.answer.Answer.{Answer}
use Rattle.driver_steps.specs.Ends.{RunEnd, log_at}
use Rattle.driver_steps.specs.Laws.{event_of, made_as, made_for}
use Rattle.log_steps.specs.Moves.{WholeLog}
use Rattle.driver_steps.specs.Runs.{Reading, left_by, moved_to, read_by}
use Rattle.driver_steps.proofs.EndLemmas.{after_both, moved_takes}
use Rattle.driver_steps.proofs.FollowLemmas.{Follows}
use Rattle.log_traffic.specs.Held.{Made}
use Rattle.stream_registry.specs.declared.row.LogRow.{LogRow}
use Rattle.two_drivers.proofs.LaterLemmas.{AreFound}

-- ---- the numbers of logs are those of their rows

source_of : WholeLog → ℕ
source_of log = log.source

number_of : LogRow → ℕ
number_of row = row.number

first_of : ℕ × Made → ℕ
first_of made = made.0

-- rows of the same numbers
abbrev AreNumbered : List WholeLog → List LogRow → Type 0
AreNumbered [] [] = Unit {0}
AreNumbered [] (row ∷ rows) = ⊥
AreNumbered (log ∷ logs) [] = ⊥
AreNumbered (log ∷ logs) (row ∷ rows) = (log.source ≡ row.number) × AreNumbered logs rows

numbered_by : (e : State) (logs : List WholeLog) (rows : List LogRow) → map made_for logs ≡ map (made_as e.settings) rows → AreNumbered logs rows
numbered_by e [] [] same = tt
numbered_by e [] (row ∷ rows) same = absurd (cc same)
numbered_by e (log ∷ logs) [] same = absurd (cc same)
numbered_by e (log ∷ logs) (row ∷ rows) same =
    let head : made_for log ≡ made_as e.settings row = cc same in
    let tail : map made_for logs ≡ map (made_as e.settings) rows = cc same in
    (ap (λ (made : ℕ × Made). made.0) head, numbered_by e logs rows tail)

pub numbered : (e : RunEnd) → Follows e → AreNumbered e.logs e.registry.streams.sources
numbered e follows = numbered_by e.registry e.logs e.registry.streams.sources follows.logs.made

-- ---- found by its number

abbrev ArePast : ℕ → List WholeLog → Type 0
ArePast low logs = All (λ (log : WholeLog). low < log.source) logs

past_more : (low lower : ℕ) (logs : List WholeLog) → lower ≤ low → ArePast low logs → ArePast lower logs
past_more low lower logs below past =
    All-weaker (λ (log : WholeLog). low < log.source) (λ (log : WholeLog). lower < log.source) (λ log high. omega (arith, high, below)) logs past

past_by : (low last : ℕ) (logs : List WholeLog) (rows : List LogRow) → AreNumbered logs rows → Rises (λ (row : LogRow). row.number) low last rows →
    ArePast low logs
past_by low last [] rows same up = All-nil (λ (log : WholeLog). low < log.source)
past_by low last (log ∷ logs) [] same up = absurd same
past_by low last (log ∷ logs) (row ∷ rows) same up =
    let is = same.0 in
    let above = up.0 in
    All-cons (λ (one : WholeLog). low < one.source) log logs (omega (arith, is, above))
    (past_more row.number low logs (omega (arith, above)) (past_by row.number last logs rows same.1 up.1))

behind_first : (first one : WholeLog) (logs : List WholeLog) (b : Bool) → (first.source == one.source) ≡ b → first.source < one.source →
    log_at logs one.source ≡ Some one → cond b (Some first) (log_at logs one.source) ≡ Some one
behind_first first one logs true same high found =
    let is : first.source ≡ one.source = eqb-true first.source one.source same in absurd (omega (arith, is, high))
behind_first first one logs false same high found = found

all_both : (P Q R : WholeLog → Type 0) (logs : List WholeLog) → ((log : WholeLog) → P log → Q log → R log) → All P logs → All Q logs → All R logs
all_both P Q R [] both ps qs = All-nil R
all_both P Q R (log ∷ logs) both ps qs =
    All-cons R log logs (both log (All-head P log logs ps) (All-head Q log logs qs))
    (all_both P Q R logs both (Rattle.std.proofs.lemmas.List.Elements.All-tail P log logs ps) (Rattle.std.proofs.lemmas.List.Elements.All-tail Q log logs qs))

found_by : (low last : ℕ) (logs : List WholeLog) (rows : List LogRow) → AreNumbered logs rows → Rises (λ (row : LogRow). row.number) low last rows →
    AreFound logs
found_by low last [] rows same up = All-nil (λ (log : WholeLog). log_at [] log.source ≡ Some log)
found_by low last (first ∷ logs) [] same up = absurd same
found_by low last (first ∷ logs) (row ∷ rows) same up =
    let past = past_by row.number last logs rows same.1 up.1 in
    let P : WholeLog → Type 0 = λ one. log_at (first ∷ logs) one.source ≡ Some one in
    let here : P first = rw (eq-eqb first.source first.source refl) refl in
    let is = same.0 in
    All-cons P first logs here
    (all_both (λ one. row.number < one.source) (λ one. log_at logs one.source ≡ Some one) P logs
    (λ one high there. behind_first first one logs (first.source == one.source) refl (omega (arith, is, high)) there)
    past (found_by row.number last logs rows same.1 up.1))

pub are_found : (e : RunEnd) → Follows e → AreRising e.registry → AreFound e.logs
are_found e follows rises = found_by 0 e.registry.last_number e.logs e.registry.streams.sources (numbered e follows) rises.sources

-- ---- a log and its row

pub record IsRow (n : ℕ) (rows : List LogRow) : Type 0 where
  pub row : LogRow
  pub has : Contains rows row
  pub number : row.number ≡ n

head_row : (row : LogRow) (rows : List LogRow) → Contains (row ∷ rows) row
head_row row rows = All-head (Contains (row ∷ rows)) row rows (All-contains_itself (row ∷ rows))

row_in : (n : ℕ) (first log : WholeLog) (logs : List WholeLog) (row : LogRow) (rows : List LogRow) (b : Bool) → (first.source == n) ≡ b →
    first.source ≡ row.number → cond b (Some first) (log_at logs n) ≡ Some log → (log_at logs n ≡ Some log → IsRow n rows) → IsRow n (row ∷ rows)
row_in n first log logs row rows true same is found rest =
    record { row = row; has = head_row row rows; number = sym is ∙ eqb-true first.source n same }
row_in n first log logs row rows false same is found rest =
    let there = rest found in
    record { row = there.row; has = Contains-append_right (row ∷ []) rows there.row there.has; number = there.number }

row_of : (n : ℕ) (log : WholeLog) (logs : List WholeLog) (rows : List LogRow) → AreNumbered logs rows → log_at logs n ≡ Some log → IsRow n rows
row_of n log [] rows same found = absurd (cc found)
row_of n log (first ∷ logs) [] same found = absurd same
row_of n log (first ∷ logs) (row ∷ rows) same found =
    row_in n first log logs row rows (first.source == n) refl same.0 found (row_of n log logs rows same.1)

none_in : (n : ℕ) (first : WholeLog) (logs : List WholeLog) (row one : LogRow) (rows : List LogRow) (b : Bool) → (first.source == n) ≡ b →
    first.source ≡ row.number → cond b (Some first) (log_at logs n) ≡ None → one.number ≡ n → (row ≡ one) ⊎ Contains rows one →
    (log_at logs n ≡ None → Contains rows one → ⊥) → ⊥
none_in n first logs row one rows true same is found number which rest = absurd (cc found)
none_in n first logs row one rows false same is found number which rest =
    ⊎_elim (λ (here : row ≡ one). absurd (cc (sym (eq-eqb first.source n (is ∙ ap (λ (r : LogRow). r.number) here ∙ number)) ∙ same)))
    (λ later. rest found later) which

-- no row has the number of none
none_of : (n : ℕ) (one : LogRow) (logs : List WholeLog) (rows : List LogRow) → AreNumbered logs rows → log_at logs n ≡ None → one.number ≡ n →
    Contains rows one → ⊥
none_of n one logs [] same found number has = contains_none one has
none_of n one [] (row ∷ rows) same found number has = absurd same
none_of n one (first ∷ logs) (row ∷ rows) same found number has =
    none_in n first logs row one rows (first.source == n) refl same.0 found number
    (⊎_elim (λ here. inl (only_one row one here)) (λ later. inr later) (Contains-append_cases (row ∷ []) rows one has))
    (λ none later. none_of n one logs rows same.1 none number later)

-- ---- events

pub record Draws (s after : State) : Type 0 where
  pub rises : AreRising after
  pub last : s.last_number ≤ after.last_number
  pub comes : (row : LogRow) → Contains after.streams.sources row → IsRow row.number s.streams.sources ⊎ (s.last_number < row.number)

draws_then : (s t u : State) → Draws s t → Draws t u → Draws s u
draws_then s t u first second = record {
  rises = second.rises;
  last = (let a = first.last in let b = second.last in omega (arith, a, b));
  comes = λ row has.
      ⊎_elim
      (λ (was : IsRow row.number t.streams.sources).
      ⊎_elim
      (λ (old : IsRow was.row.number s.streams.sources). inl (record { row = old.row; has = old.has; number = old.number ∙ was.number }))
      (λ (high : s.last_number < was.row.number). (let is = was.number in inr (omega (arith, high, is))))
      (first.comes was.row was.has))
      (λ (high : t.last_number < row.number). (let a = first.last in inr (omega (arith, high, a))))
      (second.comes row has);
}

event_draws : (s : State) (event : Event) (inputs : Inputs) → AreRising s → Draws s (state_after s event inputs)
event_draws s event inputs rises =
    let next = event_rises s event inputs rises in
    record {
      rises = next.rises;
      last = next.draws.last;
      comes = λ row has.
          ⊎_elim
          (λ (live : WasLive s.streams row). inl (record { row = live.before; has = live.stood; number = ap (λ (r : LogRow). r.number) (sym live.same) }))
          (λ high. inr high)
          ((comes_above s event inputs).sources row has);
    }

events_draw : (s : State) (events : List (Event × Inputs)) → AreRising s → Draws s (state_of s events)
events_draw s [] rises = record {
  rises = rises;
  last = omega arith;
  comes = λ row has. inl (record { row = row; has = has; number = refl });
}
events_draw s (one ∷ more) rises =
    let first = event_draws s one.0 one.1 rises in
    draws_then s (state_after s one.0 one.1) (state_of s (one ∷ more)) first (events_draw (state_after s one.0 one.1) more first.rises)

pub left_draws : (e : RunEnd) (reading : Reading) (answer : Answer) → AreRising e.registry → Draws e.registry (left_by e reading answer).registry
left_draws e reading answer rises =
    after_both (λ end. Draws e.registry end.registry) e (moved_to e reading) answer (events_draw e.registry [] rises)
    (subst (Draws e.registry) (sym (moved_takes (read_by e reading.older) e reading.step)) (events_draw e.registry (event_of e reading.step) rises))

-- ---- a number that was drawn, and no log's now

pub record IsPast (n : ℕ) (e : RunEnd) : Type 0 where
  pub drawn : n ≤ e.registry.last_number
  pub gone : log_at e.logs n ≡ None

pub drawn_at : (n : ℕ) (log : WholeLog) (e : RunEnd) → Follows e → AreRising e.registry → log_at e.logs n ≡ Some log → n ≤ e.registry.last_number
drawn_at n log e follows rises live =
    let is = row_of n log e.logs e.registry.streams.sources (numbered e follows) live in
    let high = (between (λ (row : LogRow). row.number) 0 e.registry.last_number e.registry.streams.sources is.row rises.sources is.has).1 in
    let number = is.number in
    omega (arith, high, number)

none_again : (n : ℕ) (e end : RunEnd) → Follows e → Follows end → Draws e.registry end.registry → IsPast n e → (o : Option WholeLog) →
    log_at end.logs n ≡ o → log_at end.logs n ≡ None
none_again n e end follows after' draws past None found = found
none_again n e end follows after' draws past (Some log) found =
    let is = row_of n log end.logs end.registry.streams.sources (numbered end after') found in
    ⊎_elim
    (λ (was : IsRow is.row.number e.registry.streams.sources).
    absurd (none_of n was.row e.logs e.registry.streams.sources (numbered e follows) past.gone (was.number ∙ is.number) was.has))
    (λ (high : e.registry.last_number < is.row.number).
    (let number = is.number in let low = past.drawn in absurd (omega (arith, high, number, low))))
    (draws.comes is.row is.has)

pub past_on : (n : ℕ) (e end : RunEnd) → Follows e → Follows end → Draws e.registry end.registry → IsPast n e → IsPast n end
past_on n e end follows after' draws past = record {
  drawn = (let low = past.drawn in let up = draws.last in omega (arith, low, up));
  gone = none_again n e end follows after' draws past (log_at end.logs n) refl;
}
