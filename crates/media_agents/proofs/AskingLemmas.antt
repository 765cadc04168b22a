-- One more of those that are asked in order; and a slot that is not there.
use Rattle.std.proofs.Common.{◌≡◌, arith, ◌+◌, ◌<◌, ◌≤◌, ◌==◌, ℕ, ℤ, Bool, true, false, All, List, [], ◌∷◌, ◌++◌, Option, Some, None, Result, Ok, Err, IfErr, OnErr, OnOk, ap, cond, get_or, length, max, pos, refl, subst, sym, take, ◌∙◌}
use Rattle.std.proofs.lemmas.List.{append-nil, take_all, take_more}
use Rattle.std.proofs.lemmas.List.Elements.{All-append, All-cons, All-nil, filter_map-append}
use Rattle.std.specs.Prelude.{filter_map}
use Rattle.driver_core.specs.declared.state.event.End.{End}
use Rattle.driver_core.specs.declared.state.event.Event.{Event}
use Rattle.driver_core.specs.declared.state.event.Event.TheVariants.{Attach, Command, Reload, Setup, Tick}
use Rattle.driver_core.specs.State.{State, at_moment}
use Rattle.log_steps.specs.Held.{HeldLog}
use Rattle.log_arena.specs.Homes.{Home}
use Rattle.log_slots.specs.Slots.{IsLocked, SlotLog, is_silent_by, log_of, reach_by, with_log, with_readers, without_log}
use Rattle.media_agents.specs.declared.slots.LogAt.{LogAt}
use Rattle.media_agents.specs.Acts.{Access, Chain, GoesOn, held}
use Rattle.media_agents.specs.Asking.{AreSilent, AreSilentAt, Asks, Closes, Gathers, IsHold, Joins, JoinsSome, LeavesIt, Opens, Refuses, Rejoins, SaysSilent, SilenceOf, SilenceOfKind}
use Rattle.media_agents.specs.Finding.{log_at}
use Rattle.media_agents.proofs.ActLemmas.{goes_on, goes_on_as}
use Rattle.media_agents.proofs.ChainLemmas.{chain_on}
use Rattle.stream_registry.specs.declared.pairs.Pair.{Pair}
use Rattle.stream_registry.specs.declared.row.LogRow.{LogRow}
use Rattle.stream_registry.specs.Origins.{is_published}

-- what is said of each failure holds where that does
pub on_err : {T E : Type 0} (A : Type 0) (result : Result T E) → A → OnErr result A
on_err A (Ok it) holds = tt
on_err A (Err why) holds = holds

module _ {A B : Type 0} (Says : A → Option B → List Access → Type 0) where
  pub answered_next : (all : List A) (at : ℕ) (d : A) (old new : List B) (answer : B) (first between last : List Access → Type 0) → at < length all
      → GoesOn (Gathers Says (take at all) old) first between → GoesOn (Says (get_or all at d) (Some answer)) between last → new ≡ old ++ answer ∷ []
      → GoesOn (Gathers Says (take (at + 1) all) new) first last
  answered_next all at d old new answer first between last within before said more =
      chain_on (Asks Says) all at d [] old new first between last within before
      (goes_on_as (Says (get_or all at d) (Some answer)) (Asks Says (get_or all at d) old new) between last (λ a one. (Some answer, one, more)) said)

  pub none_next : (all : List A) (at : ℕ) (d : A) (old : List B) (first between last : List Access → Type 0) → at < length all
      → GoesOn (Gathers Says (take at all) old) first between → GoesOn (Says (get_or all at d) None) between last
      → GoesOn (Gathers Says (take (at + 1) all) old) first last
  none_next all at d old first between last within before said =
      chain_on (Asks Says) all at d [] old old first between last within before
      (goes_on_as (Says (get_or all at d) None) (Asks Says (get_or all at d) old old) between last (λ a one. (None, one, refl)) said)

-- ---- images that are silent

kind_leaves : (kind : Bool) (at : LogAt) (now limit : ℕ) (answer : Option ℕ) (accesses : List Access) → SilenceOfKind kind at now limit answer accesses
    → All LeavesIt accesses
kind_leaves true at now limit answer accesses none = subst (All LeavesIt) (sym none.1) (All-nil LeavesIt)
kind_leaves false at now limit answer accesses asked =
    subst (All LeavesIt) (sym asked.1.held) (All-cons LeavesIt (held at asked.1.found asked.1.found) [] refl (All-nil LeavesIt))

silence_leaves : (now limit : ℕ) (rows : List LogRow) (before after : List ℕ) (accesses : List Access)
    → Chain (Asks (SilenceOf now limit)) rows before after accesses → All LeavesIt accesses
silence_leaves now limit [] before after accesses none = subst (All LeavesIt) (sym none.1) (All-nil LeavesIt)
silence_leaves now limit (row ∷ rows) before after accesses (next, first, rest, is, asked, more) =
    subst (All LeavesIt) (sym is)
    (All-append LeavesIt first rest (kind_leaves (is_published row) (log_at row) now limit asked.0 first asked.1)
    (silence_leaves now limit rows next after rest more))

none_left : {A : Type 0} (accesses : List Access) → A × (accesses ≡ []) → All LeavesIt accesses
none_left accesses none = subst (All LeavesIt) (sym none.1) (All-nil LeavesIt)

pub silent_leaves : (s : State) (event : Event) (silent : List ℕ) (accesses : List Access) → AreSilent s event silent accesses → All LeavesIt accesses
silent_leaves s (Attach now principal) silent accesses none = none_left accesses none
silent_leaves s (Command now client bytes) silent accesses none = none_left accesses none
silent_leaves s (Reload now policy) silent accesses none = none_left accesses none
silent_leaves s (Tick now) silent accesses asked =
    silence_leaves (at_moment s now).moment s.settings.image_liveness s.streams.sources [] silent accesses asked
silent_leaves s (Setup now local from setup) silent accesses none = none_left accesses none

-- asking alone changes nothing
pub only_asked : (s : State) (event : Event) (silent : List ℕ) (first last : List Access → Type 0) → GoesOn (AreSilent s event silent) first last
    → GoesOn (All LeavesIt) first last
only_asked s event silent first last =
    goes_on_as (AreSilent s event silent) (All LeavesIt) first last (λ a asked. silent_leaves s event silent a asked)

-- one more was asked, and there was no memory for its answer
pub silence_ends : (now limit : ℕ) (rows : List LogRow) (silent : List ℕ) (row : LogRow) (answer : Option ℕ) (first between last : List Access → Type 0)
    → GoesOn (Gathers (SilenceOf now limit) rows silent) first between → GoesOn (SilenceOf now limit row answer) between last
    → GoesOn (All LeavesIt) first last
silence_ends now limit rows silent row answer first between last =
    goes_on (Gathers (SilenceOf now limit) rows silent) (SilenceOf now limit row answer) (All LeavesIt) first between last
    (λ a b asked one. All-append LeavesIt a b (silence_leaves now limit rows [] silent a asked) (kind_leaves (is_published row) (log_at row) now limit answer b one))

-- the images that are silent at a moment, once all rows were asked
pub all_asked : (s : State) (now moment limit : ℕ) (rows : List LogRow) (n : ℕ) (silent : List ℕ) (first last : List Access → Type 0) →
    moment ≡ max s.moment now → limit ≡ s.settings.image_liveness → rows ≡ s.streams.sources → length rows ≤ n →
    GoesOn (Gathers (SilenceOf moment limit) (take n rows) silent) first last → GoesOn (AreSilentAt s now silent) first last
unfolding at_moment
all_asked s now moment limit rows n silent first last moment_is limit_is rows_are all asked =
    subst (λ (m : ℕ). GoesOn (Gathers (SilenceOf m s.settings.image_liveness) s.streams.sources silent) first last) moment_is
    (subst (λ (l : ℕ). GoesOn (Gathers (SilenceOf moment l) s.streams.sources silent) first last) limit_is
    (subst (λ (those : List LogRow). GoesOn (Gathers (SilenceOf moment limit) those silent) first last) (take_all n rows all ∙ rows_are) asked))

-- ---- pairs that come

-- as many were joined
pub joins_some : (s : State) (come : List Pair) (count : ℕ) (ends : List End) (first last : List Access → Type 0)
    → GoesOn (Gathers (Joins s come) (take count come) ends) first last → GoesOn (JoinsSome s come) first last
joins_some s come count ends first last =
    goes_on_as (Gathers (Joins s come) (take count come) ends) (JoinsSome s come) first last
    (λ a joins. record { count = count; ends = ends; joins = joins })

-- all were
pub joins_all : (s : State) (come : List Pair) (ends : List End) (first last : List Access → Type 0)
    → GoesOn (Gathers (Joins s come) come ends) first last → GoesOn (JoinsSome s come) first last
joins_all s come ends first last joined =
    joins_some s come (length come) ends first last
    (subst (λ (those : List Pair). GoesOn (Gathers (Joins s come) those ends) first last) (sym (take_all (length come) come (omega arith))) joined)

-- ---- one more of those that are found

module _ {A B : Type 0} (of : A → Option B) where
  found_more : (all : List A) (at : ℕ) (d : A) (old : List B) → at < length all → old ≡ filter_map of (take at all) →
      filter_map of (take (at + 1) all) ≡ old ++ filter_map of (get_or all at d ∷ [])
  found_more all at d old within before =
      ap (filter_map of) (take_more all at d within)
      ∙ filter_map-append of (take at all) (get_or all at d ∷ [])
      ∙ ap (λ (those : List B). those ++ filter_map of (get_or all at d ∷ [])) (sym before)

  pub found_next : (all : List A) (at : ℕ) (d : A) (old new : List B) (answer : B) → at < length all → old ≡ filter_map of (take at all) →
      Some answer ≡ of (get_or all at d) → new ≡ old ++ answer ∷ [] → new ≡ filter_map of (take (at + 1) all)
  found_next all at d old new answer within before said more =
      let one : filter_map of (get_or all at d ∷ []) ≡ answer ∷ [] = rw (sym said) refl in
      more ∙ ap (λ (those : List B). old ++ those) (sym one) ∙ sym (found_more all at d old within before)

  pub none_found : (all : List A) (at : ℕ) (d : A) (old : List B) → at < length all → old ≡ filter_map of (take at all) →
      None ≡ of (get_or all at d) → old ≡ filter_map of (take (at + 1) all)
  none_found all at d old within before said =
      let none : filter_map of (get_or all at d ∷ []) ≡ [] = rw (sym said) refl in
      sym (append-nil old) ∙ ap (λ (those : List B). old ++ those) (sym none) ∙ sym (found_more all at d old within before)

-- ---- a slot that is not there is as one in which no log was opened

abbrev nowhere : SlotLog
nowhere = record { source = 0; session = pos 0; stream = pos 0; log = None }

abbrev no_log : Option HeldLog
no_log = None

none_of : (b : Bool) → cond b no_log no_log ≡ no_log
none_of true = refl
none_of false = refl

same_of : (b : Bool) → cond b nowhere nowhere ≡ nowhere
same_of true = refl
same_of false = refl

none_there : (source : ℕ) → log_of source nowhere ≡ None
none_there source = none_of (0 == source)

stays : (home : Home) (left : SlotLog) → left ≡ nowhere → IsHold home nowhere left
stays home left is = subst (λ (there : SlotLog). IsHold home nowhere there) (sym is) (record { found_is = record { own = tt; whole = tt }; left_is = record { own = tt; whole = tt } })

pub nowhere_rejoins : (home : Home) (source : ℕ) (subscriptions : List ℕ) (position : Option ℕ) → position ≡ None →
    Rejoins (λ found left. IsHold home found left) source subscriptions position
nowhere_rejoins home source subscriptions position is = record {
  found = nowhere;
  held = stays home (with_readers source subscriptions nowhere) (same_of (0 == source));
  position_is = is ∙ sym (ap reach_by (none_there source));
}

pub nowhere_says : (home : Home) (source now limit : ℕ) → SaysSilent (λ found left. IsHold home found left) source now limit false
nowhere_says home source now limit = record {
  found = nowhere;
  held = stays home nowhere refl;
  silent_is = sym (ap (is_silent_by now limit) (none_there source));
}

pub nowhere_closes : (home : Home) (source : ℕ) (log : Option HeldLog) → log ≡ None → Closes (λ found left. IsHold home found left) source log
nowhere_closes home source log is = record {
  found = nowhere;
  held = stays home (without_log source nowhere) (same_of (0 == source));
  log_is = is ∙ sym (none_there source);
}

pub nowhere_refuses : (home : Home) (log back : HeldLog) → back ≡ log → Refuses (λ found left. IsHold home found left) log back
nowhere_refuses home log back is = record { found = nowhere; held = stays home nowhere refl; back_is = is }

-- ---- a log opens in a slot, or comes back

abbrev AreSlot : Home → SlotLog → Type 0
AreSlot home slot = IsLocked home slot

pub opens_in : (home : Home) (session stream session' stream' : ℤ) (log : HeldLog) (result : Result Unit HeldLog) (old new : SlotLog) →
    session' ≡ session → stream' ≡ stream → AreSlot home old → AreSlot home new →
    OnOk result (old.log ≡ None) → OnOk result (new ≡ with_log session' stream' log) → IfErr result (λ back. back ≡ log) →
    Opens (IsHold home) session stream log result
opens_in home session stream session' stream' log (Ok done) old new session_is stream_is before after free opened back = record {
  found = old;
  held = record {
    found_is = before;
    left_is = subst (λ (slot : SlotLog). AreSlot home slot)
        (opened ∙ ap (λ (s : ℤ). with_log s stream' log) session_is ∙ ap (λ (s : ℤ). with_log session s log) stream_is) after;
  };
  free = free;
}
opens_in home session stream session' stream' log (Err it) old new session_is stream_is before after free opened back = record {
  found = old;
  held = record { found_is = before; left_is = before };
  back_is = back;
}
