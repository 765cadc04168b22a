-- Acts, accesses and calls, one after another.
use Rattle.std.proofs.Common.{◌≡◌, List, [], ◌∷◌, ◌++◌, refl, sym, ap, subst, ◌∙◌, append_assoc, map}
use Rattle.std.proofs.lemmas.List.{append-nil}
use Rattle.media_agents.specs.Acts.{Access, Act, Alone, GoesOn, Then, Trail, accesses_in, called, calls_in, shared}
use Rattle.media_wire.specs.Events.{Event}

module _ {A : Type 0} where
  -- what was done first, and what was done then
  pub goes_on : (First Next Whole : List A → Type 0) (old between new : List A → Type 0)
      → ((a b : List A) → First a → Next b → Whole (a ++ b))
      → GoesOn First old between → GoesOn Next between new → GoesOn Whole old new
  goes_on First Next Whole old between new join first next = λ before went.
      let one = first before went in
      let two = next (before ++ one.0) one.2 in
      (one.0 ++ two.0, join one.0 two.0 one.1 two.1, subst new (append_assoc before one.0 two.0) two.2)

  pub goes_then : (First Next : List A → Type 0) (old between new : List A → Type 0) → GoesOn First old between → GoesOn Next between new
      → GoesOn (Then First Next) old new
  goes_then First Next old between new = goes_on First Next (Then First Next) old between new (λ a b one two. (a, b, refl, one, two))

  -- nothing was done
  pub stays : (Whole : List A → Type 0) (old : List A → Type 0) → Whole [] → GoesOn Whole old old
  stays Whole old none = λ before went. ([], none, subst old (sym (append-nil before)) went)

  -- what was done is also that
  pub goes_on_as : (First Whole : List A → Type 0) (old new : List A → Type 0)
      → ((a : List A) → First a → Whole a) → GoesOn First old new → GoesOn Whole old new
  goes_on_as First Whole old new is first = λ before went.
      let one = first before went in (one.0, is one.0 one.1, one.2)

  -- and nothing then
  pub then_none : (First : List A → Type 0) (old new : List A → Type 0) → GoesOn First old new → GoesOn (Then First (λ (a : List A). a ≡ [])) old new
  then_none First old new =
      goes_on_as First (Then First (λ (a : List A). a ≡ [])) old new (λ a one. (a, [], sym (append-nil a), one, refl))

accesses-append : (a b : List Act) → accesses_in (a ++ b) ≡ accesses_in a ++ accesses_in b
accesses-append [] b = refl
accesses-append (shared access ∷ a) b = ap (λ (more : List Access). access ∷ more) (accesses-append a b)
accesses-append (called event ∷ a) b = accesses-append a b

calls-append : (a b : List Act) → calls_in (a ++ b) ≡ calls_in a ++ calls_in b
calls-append [] b = refl
calls-append (shared access ∷ a) b = calls-append a b
calls-append (called event ∷ a) b = ap (λ (more : List Event). event ∷ more) (calls-append a b)

accesses-shared : (all : List Access) → accesses_in (map shared all) ≡ all
accesses-shared [] = refl
accesses-shared (one ∷ all) = ap (λ (more : List Access). one ∷ more) (accesses-shared all)

calls-shared : (all : List Access) → calls_in (map shared all) ≡ []
calls-shared [] = refl
calls-shared (one ∷ all) = calls-shared all

-- accesses are acts
pub alone : (Does : List Access → Type 0) (old new : List Access → Type 0) (went : List Event → Type 0) → GoesOn Does old new
    → GoesOn (Alone Does) (Trail old went) (Trail new went)
alone Does old new went goes = λ acts so.
    let one = goes (accesses_in acts) so.0 in
    let more = map shared one.0 in (
      more,
      (one.0, one.1, refl),
      (
        subst new (sym (accesses-append acts more ∙ ap (λ (more : List Access). accesses_in acts ++ more) (accesses-shared one.0))) one.2,
        subst went (sym (calls-append acts more ∙ ap (λ (more : List Event). calls_in acts ++ more) (calls-shared one.0) ∙ append-nil (calls_in acts))) so.1,
      ),
    )

-- one call was made
pub calls : (Whole : List Act → Type 0) (did : List Access → Type 0) (old new : List Event → Type 0) (event : Event) → Whole (called event ∷ [])
    → ((events : List Event) → old events → new (events ++ event ∷ [])) → GoesOn Whole (Trail did old) (Trail did new)
calls Whole did old new event is step = λ acts so. (
  called event ∷ [],
  is,
  (
    subst did (sym (accesses-append acts (called event ∷ []) ∙ append-nil (accesses_in acts))) so.0,
    subst new (sym (calls-append acts (called event ∷ []))) (step (calls_in acts) so.1),
  ),
)

-- a turn's end is no call
pub turn_ends : (Whole : List Act → Type 0) (old : List Act → Type 0) (did : List Access → Type 0) (between new : List Event → Type 0)
    → GoesOn Whole old (Trail did between) → ((events : List Event) → between events → new events) → GoesOn Whole old (Trail did new)
turn_ends Whole old did between new first end = λ acts went.
    let one = first acts went in (one.0, one.1, (one.2.0, end (calls_in (acts ++ one.0)) one.2.1))
