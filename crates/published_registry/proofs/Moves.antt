-- Each step keeps the rule under which a registry is shown.
use Rattle.std.proofs.Common.{◌≡◌, ℕ, Bool, true, false, true≢false, List, [], ◌∷◌, set, fold, refl, sym, ap, ◌∙◌, subst, ⊎_elim}
use mathlib.Core.Option.{some}
use lib.ListN.{get_elem?}
use Rattle.atomic_table.proofs.Lists.{at_set, at_snoc}
use Rattle.crossbeam_utils.specs.Register.{Admits, TurnsAt, Forks, Merges}
use Rattle.driver_core.specs.State.{State}
use Rattle.published_registry.specs.declared.rule.Told.{Told}
use Rattle.published_registry.specs.declared.shown.Shown.{Shown}
use Rattle.published_registry.specs.declared.shown.Step.{Step}
use Rattle.published_registry.specs.declared.shown.Step.TheVariants.{Nothing}
use Rattle.published_registry.specs.Histories.{Known, IsLegal, registry_after}
use Rattle.published_registry.specs.Rules.{Holds, Fits, Sees, Begins, after_step, stranger, told}
use Rattle.published_registry.proofs.Fronts.{prefix_self}

-- what fits what is known of x goes on to fit y
abbrev pub GoesOn : Shown → Shown → Type 0
GoesOn x y = (opening : State) (front : Known) → Fits opening front x → Fits opening front y

knows_none : (v : Told) → v ≡ stranger → v.knows ≡ true → ⊥
knows_none v is knows = true≢false (sym knows ∙ ap (λ (t : Told). t.knows) is)

-- the rule after one seat's knowledge has changed to what fits
changed : (views : List Told) (seat : ℕ) (w : Told) (x y : Shown) → GoesOn x y → Holds x views → (w.knows ≡ true → Fits w.opening w.front y)
    → Holds y (set views seat w)
changed views seat w x y goes h fits j u at knows =
    ⊎_elim
    (λ is. subst (λ (t : Told). t.knows ≡ true → Fits t.opening t.front y) is.1 fits knows)
    (λ old. goes u.opening u.front (h j u old.1 knows))
    (at_set views seat j w u at)

pub stays : (x : Shown) → GoesOn x x
stays x opening front fits = fits

-- what is shown, seen by one who knew that it would fit
pub seen : (opening : State) (front : Known) (x : Shown) → Fits opening front x → Fits opening x.front x
seen opening front x fits = record {
  book = refl;
  fold = fits.fold;
  legal = fits.legal;
  later = prefix_self x.front.entries;
}

pub sees : (seat : ℕ) (v : Told) (x y : Shown) → GoesOn x y → TurnsAt Holds seat v x y Sees
sees seat v x y goes views h at = by_knowing v.knows refl
  where
    by_knowing : (b : Bool) → v.knows ≡ b → (w : Told) × Holds y (set views seat w) × Sees v x y w
    by_knowing true knows =
        let fits = goes v.opening v.front (h seat v at knows) in (
          told v.opening y.front,
          changed views seat (told v.opening y.front) x y goes h (λ _. seen v.opening v.front y fits),
          λ _. (refl, fits),
        )
    by_knowing false not = (
      stranger,
      changed views seat stranger x y goes h (λ knows. absurd (true≢false (sym knows))),
      λ knows. absurd (true≢false (sym knows ∙ not)),
    )

pub begins : (seat : ℕ) (v : Told) (x y : Shown) → GoesOn x y → Fits y.registry y.front y → TurnsAt Holds seat v x y Begins
begins seat v x y goes fits views h at = (
  told y.registry y.front,
  changed views seat (told y.registry y.front) x y goes h (λ _. fits),
  refl,
)

pub admits : Admits Holds stranger
admits x views h seat v at knows =
    ⊎_elim (λ old. h seat v old knows) (λ is. absurd (knows_none v (sym is) knows)) (at_snoc views stranger v seat at)

pub first : (x : Shown) → Holds x (stranger ∷ [])
first x seat v at knows =
    ⊎_elim (λ none. absurd (nothing seat v none)) (λ is. absurd (knows_none v (sym is) knows)) (at_snoc [] stranger v seat at)
  where
    nothing : (j : ℕ) (u : Told) → get_elem? [] j ≡ some u → ⊥
    nothing j u at = cc at

pub forks : (seat : ℕ) (v : Told) → Forks Holds seat v v v
forks seat v x views h at j u there knows =
    ⊎_elim
    (λ old. changed views seat v x x (stays x) h (h seat v at) j u old knows)
    (λ is. subst (λ (t : Told). t.knows ≡ true → Fits t.opening t.front x) is (h seat v at) knows)
    (at_snoc (set views seat v) v u j there)

pub merges : (seat : ℕ) (v : Told) (other : ℕ) (w : Told) → Merges Holds seat v other w w stranger
merges seat v other w x views h at apart there =
    ⊎_elim
    (λ is. absurd (apart is.0))
    (λ old.
    changed (set views seat w) other stranger x x (stays x)
    (changed views seat w x x (stays x) h (h other w old.1))
    (λ knows. absurd (true≢false (sym knows))))
    (at_set views seat other w w there)

-- nothing was committed yet
first_fits : (x : Shown) → x.front.entries ≡ [] → Fits x.registry x.front x
first_fits x none = record {
  book = refl;
  fold = ap (registry_after x.registry) (sym none);
  legal = subst (IsLegal x.registry) (sym none) tt;
  later = prefix_self x.front.entries;
}

pub opens : (seat : ℕ) (v : Told) (x next : Shown) (steps : List Step) → steps ≡ Nothing ∷ [] → next ≡ fold after_step x steps → x.front.entries ≡ []
    → TurnsAt Holds seat v x next Begins
opens seat v x next steps pending is none =
    let same : next ≡ x = is ∙ ap (fold after_step x) pending in
    subst (λ (y : Shown). TurnsAt Holds seat v x y Begins) (sym same) (begins seat v x x (stays x) (first_fits x none))

pub shows : (seat : ℕ) (v : Told) (x next : Shown) (step : Step) (steps : List Step) → steps ≡ step ∷ [] → next ≡ fold after_step x steps → GoesOn x (after_step x step)
    → TurnsAt Holds seat v x next Sees
shows seat v x next step steps pending is goes =
    let same : next ≡ after_step x step = is ∙ ap (fold after_step x) pending in
    subst (λ (y : Shown). TurnsAt Holds seat v x y Sees) (sym same) (sees seat v x (after_step x step) goes)
