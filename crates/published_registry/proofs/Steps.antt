-- What an entry makes of what is shown.
use Rattle.std.proofs.Common.{◌≡◌, List, [], ◌∷◌, ◌++◌, refl, sym, ap, ◌∙◌, subst}
use Rattle.driver_core.specs.Conduct.{state_after}
use Rattle.driver_core.specs.declared.state.entry.Entry.{Entry}
use Rattle.driver_core.specs.State.{State}
use Rattle.logbook.specs.Pages.{Named}
use Rattle.published_registry.specs.declared.rule.Told.{Told}
use Rattle.published_registry.specs.declared.shown.Shown.{Shown}
use Rattle.published_registry.specs.declared.shown.Step.TheVariants.{Takes}
use Rattle.published_registry.specs.Histories.{Known, IsLegal, IsPlannedOn, registry_after}
use Rattle.published_registry.specs.Books.{head_of}
use Rattle.published_registry.specs.Publishers.{Stands, Waits}
use Rattle.published_registry.specs.Rules.{Fits, Sees, after_step, told}
use Rattle.published_registry.proofs.Fronts.{prefix_trans}
use Rattle.published_registry.proofs.Moves.{GoesOn, seen}

-- the registry after one more entry
pub one_more : (s : State) (es : List Entry) (e : Entry) → registry_after s (es ++ e ∷ []) ≡ state_after (registry_after s es) e.event e.inputs
one_more s [] e = refl
one_more s (x ∷ es) e = one_more (state_after s x.event x.inputs) es e

-- one more entry that was planned on the registry after the others
pub legal_more : (s : State) (es : List Entry) (e : Entry) → IsLegal s es → IsPlannedOn (registry_after s es) e → IsLegal s (es ++ e ∷ [])
legal_more s [] e legal planned = (planned, tt)
legal_more s (x ∷ es) e legal planned =
    (legal.0, legal_more (state_after s x.event x.inputs) es e legal.1 planned)

-- what is shown after one more entry fits what fitted before
pub step_fits : (x : Shown) (e : Entry) (front : Known) → front.book ≡ x.front.book → front.entries ≡ x.front.entries ++ e ∷ []
    → IsPlannedOn x.registry e
    → GoesOn x (after_step x (Takes e front))
step_fits x e front book more planned opening known fits = record {
  book = book ∙ fits.book;
  fold = ap (λ (s : State). state_after s e.event e.inputs) fits.fold ∙ sym (one_more opening x.front.entries e) ∙ ap (registry_after opening) (sym more);
  legal = subst (IsLegal opening) (sym more) (legal_more opening x.front.entries e fits.legal (subst (λ (s : State). IsPlannedOn s e) fits.fold planned));
  later = prefix_trans known.entries x.front.entries front.entries fits.later (e ∷ [], sym more);
}

-- an entry that was planned on the publisher's registry goes on with what readers are shown
pub stands_goes : (known : Told) (shown : Shown) (newest : State) (front : Known) (head : Named) (e : Entry) (more : Known) → Stands known shown newest front head
    → more.book ≡ front.book → more.entries ≡ front.entries ++ e ∷ [] → IsPlannedOn (registry_after known.opening front.entries) e
    → GoesOn shown (after_step shown (Takes e more))
stands_goes known shown newest front head e more stands book entries planned =
    let at : shown.registry ≡ registry_after known.opening front.entries = stands.fits.fold ∙ ap (λ (k : Known). registry_after known.opening k.entries) stands.last in
    step_fits shown e more (book ∙ ap (λ (k : Known). k.book) (sym stands.last)) (entries ∙ ap (λ (k : Known). k.entries ++ e ∷ []) (sym stands.last))
    (subst (λ (s : State). IsPlannedOn s e) (sym at) planned)

-- and after it the publisher's copies go together again
pub stands_after : (known : Told) (shown : Shown) (newest : State) (front : Known) (head : Named) (e : Entry) (more again : Known) → Stands known shown newest front head
    → again ≡ more → more.book ≡ front.book
    → (shown' : Shown) → shown' ≡ after_step shown (Takes e again)
    → (known' : Told) → Sees known shown shown' known'
    → (newest' : State) → newest' ≡ state_after newest e.event e.inputs
    → Stands known' shown' newest' more head
stands_after known shown newest front head e more again stands same book shown' shows known' sees newest' applied =
    let now = sees (ap (λ (t : Told). t.knows) stands.knows) in
    let last : shown'.front ≡ more = ap (λ (x : Shown). x.front) shows ∙ same in
    let opening : known'.opening ≡ known.opening = ap (λ (t : Told). t.opening) now.0 in
    record {
      knows = now.0 ∙ ap (told known.opening) last ∙ ap (λ (s : State). told s more) (sym opening);
      fits = subst (λ (s : State). Fits s more shown') (sym opening) (subst (λ (k : Known). Fits known.opening k shown') last (seen known.opening known.front shown' now.1));
      last = last;
      own = applied ∙ ap (λ (s : State). state_after s e.event e.inputs) stands.own ∙ ap (λ (x : Shown). x.registry) (sym shows);
      right = stands.right ∙ ap head_of (sym book);
    }

-- the publisher's own registry before the entry that waits
at_before : (known : Told) (shown : Shown) (newest : State) (front : Known) (head : Named) → Stands known shown newest front head
    → newest ≡ registry_after known.opening front.entries
at_before known shown newest front head stands =
    stands.own ∙ stands.fits.fold ∙ ap (λ (k : Known). registry_after known.opening k.entries) stands.last

-- and after it
pub waits_newest : (known : Told) (shown : Shown) (newest : State) (front : Known) (head : Named) (e : Entry) → Waits known shown newest front head e
    → newest ≡ registry_after known.opening front.entries
waits_newest known shown newest front head e waits =
    waits.own ∙ ap (λ (s : State). state_after s e.event e.inputs) (at_before known shown waits.before waits.was head waits.stands)
    ∙ sym (one_more known.opening waits.was.entries e)
    ∙ ap (registry_after known.opening) (sym waits.entries)

-- with the entry that waits the history is legal
pub waits_legal : (known : Told) (shown : Shown) (newest : State) (front : Known) (head : Named) (e : Entry) → Waits known shown newest front head e
    → IsLegal known.opening front.entries
waits_legal known shown newest front head e waits =
    let legal : IsLegal known.opening waits.was.entries =
    subst (λ (k : Known). IsLegal known.opening k.entries) waits.stands.last waits.stands.fits.legal in
    subst (IsLegal known.opening) (sym waits.entries) (legal_more known.opening waits.was.entries e legal waits.planned)
