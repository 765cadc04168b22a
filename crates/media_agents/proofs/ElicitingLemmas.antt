-- Which status messages go out for the elicitations of a receiver.
use Rattle.std.proofs.Common.{◌≡◌, ℕ, List, [], ◌∷◌, ◌++◌, Option, ap, ap₂, inl, inr, map, refl, subst, sym, ◌∙◌}
use Rattle.driver_core.specs.declared.state.settings.Settings.{Settings}
use Rattle.driver_core.specs.State.{State}
use Rattle.media_agents.specs.Acts.{Access, Act, Alone, GoesOn, Trail, lacked, looked}
use Rattle.media_agents.specs.declared.eliciting.Elicitation.{Elicitation}
use Rattle.media_agents.specs.declared.eliciting.Wanted.{Wanted}
use Rattle.media_agents.specs.Eliciting.{Eliciting, Elicits, ElicitsIf, letters_due, looked_at, with_handed}
use Rattle.media_agents.specs.Traffic.{AreTried}
use Rattle.media_agents.proofs.ActLemmas.{alone, goes_on}
use Rattle.media_wire.specs.Events.{Event}
use Rattle.media_wire.specs.declared.letter.Letter.{Letter}
use Rattle.published_registry.specs.Histories.{History, IsContinuedBy, registry_of}

-- by a look, once one was handed over
pub elicits : (now : ℕ) (look passed : History) (registry : State) (settings : Settings) (handed : Option Elicitation)
    (old taken new : Eliciting) (rows : List Wanted) →
    passed ≡ look → registry ≡ registry_of look → settings ≡ registry.settings → taken ≡ with_handed handed old →
    new ≡ record taken { wanted = map (looked_at registry now) taken.wanted } → rows ≡ new.wanted →
    ElicitsIf now passed (with_handed handed old) new (letters_due settings.receiver_id rows) (looked look ∷ [])
elicits now look passed registry settings handed old taken new rows left shown set took marked listed =
    let seen : registry ≡ registry_of passed = shown ∙ ap registry_of (sym left) in
    inl (
      (
        marked ∙ ap₂ (λ (before : Eliciting) (s : State). record before { wanted = map (looked_at s now) before.wanted }) took seen,
        ap₂ (λ (s : Settings) (all : List Wanted). letters_due s.receiver_id all) (set ∙ ap (λ (s : State). s.settings) seen) listed,
      ),
      ap (λ (look : History). looked look ∷ []) (sym left),
    )

-- there was no look
pub elicits_none : (now : ℕ) (passed : History) (handed : Option Elicitation) (old taken : Eliciting) → taken ≡ with_handed handed old →
    ElicitsIf now passed (with_handed handed old) taken [] (lacked ∷ [])
elicits_none now passed handed old taken took = inr (took, refl, refl)

-- and then they go out
pub elicits_then : (now : ℕ) (before after : History) (handed : Option Elicitation) (old new : Eliciting) (letters : List Letter) (access : Access)
    (did done : List Access → Type 0) (went : List Event → Type 0) (then : List Act → Type 0)
    → IsContinuedBy before after → ElicitsIf now after (with_handed handed old) new letters (access ∷ [])
    → GoesOn (λ (accesses : List Access). accesses ≡ access ∷ []) did done → GoesOn (AreTried letters) (Trail done went) then
    → GoesOn (Elicits now before after old new) (Trail did went) then
elicits_then now before after handed old new letters access did done went then later goes looks tried =
    let One = λ (accesses : List Access). accesses ≡ access ∷ [] in
    goes_on (Alone One) (AreTried letters) (Elicits now before after old new) (Trail did went) (Trail done went) then
    (λ a b looks sent. record {
      handed = handed;
      later = later;
      letters = letters;
      looks = looks.0;
      goes = subst (ElicitsIf now after (with_handed handed old) new letters) (sym looks.1) goes;
      sent = b;
      tried = sent;
      order = ap (λ (a : List Act). a ++ b) looks.2;
    })
    (alone One did done went looks) tried
