-- What each event keeps holds after more entries.
use Rattle.std.proofs.Common.{◌≡◌, List, [], ◌∷◌, ◌++◌, refl, sym, ap, ◌∙◌, subst, inl, inr, ⊎_elim, arith}
use Rattle.driver_core.specs.Conduct.{state_after}
use Rattle.driver_core.specs.declared.state.entry.Entry.{Entry}
use Rattle.driver_core.specs.declared.state.event.Event.{Event}
use Rattle.driver_core.specs.declared.state.event.Inputs.{Inputs}
use Rattle.driver_core.specs.Looking.{IsSameOrNewer}
use Rattle.driver_core.specs.State.{State}
use Rattle.published_registry.specs.Histories.{History, IsContinuedBy, registry_after, registry_of}

-- what each event keeps
abbrev pub IsKept : (State → Type 0) → Type 0
IsKept P = (s : State) (event : Event) (inputs : Inputs) → P s → P (state_after s event inputs)

after_more : (P : State → Type 0) → IsKept P → (s : State) (entries : List Entry) → P s → P (registry_after s entries)
after_more P kept s [] p = p
after_more P kept s (e ∷ entries) p =
    after_more P kept (state_after s e.event e.inputs) entries (kept s e.event e.inputs p)

after_both : (s : State) (xs ys : List Entry) → registry_after s (xs ++ ys) ≡ registry_after (registry_after s xs) ys
after_both s [] ys = refl
after_both s (x ∷ xs) ys = after_both (state_after s x.event x.inputs) xs ys

-- what each event keeps holds after all entries of a history, where it held of what was opened
pub kept_of : (P : State → Type 0) → IsKept P → (history : History) → P history.opening → P (registry_of history)
kept_of P kept history p = after_more P kept history.opening history.entries p

-- what holds of the registry and is kept holds of the later one
pub kept_later : (P : State → Type 0) → IsKept P → (earlier later : History) → IsContinuedBy earlier later → P (registry_of earlier) → P (registry_of later)
kept_later P kept earlier later more p =
    let rest = more.entries.0 in
    let same : registry_of later ≡ registry_after (registry_of earlier) rest =
    ap (λ (s : State). registry_after s later.entries) more.opening
    ∙ ap (registry_after earlier.opening) (sym more.entries.1)
    ∙ after_both earlier.opening earlier.entries rest in
    subst P (sym same) (after_more P kept (registry_of earlier) rest p)

-- ---- policies

newer_both : (s between after : State) → IsSameOrNewer s between → IsSameOrNewer between after → IsSameOrNewer s after
newer_both s between after first second =
    ⊎_elim
    (λ (same : (after.given ≡ between.given) × (after.epoch ≡ between.epoch)).
    ⊎_elim
    (λ (still : (between.given ≡ s.given) × (between.epoch ≡ s.epoch)). inl (same.0 ∙ still.0, same.1 ∙ still.1))
    (λ newer.
    let epoch = same.1 in
    inr (omega (arith, epoch, newer)))
    first)
    (λ newer.
    ⊎_elim
    (λ (still : (between.given ≡ s.given) × (between.epoch ≡ s.epoch)).
    let epoch = still.1 in
    inr (omega (arith, epoch, newer)))
    (λ before. inr (omega (arith, before, newer)))
    first)
    second

pub newer_later : ((s : State) (event : Event) (inputs : Inputs) → IsSameOrNewer s (state_after s event inputs))
    → (earlier later : History) → IsContinuedBy earlier later → IsSameOrNewer (registry_of earlier) (registry_of later)
newer_later newer earlier later more =
    kept_later (IsSameOrNewer (registry_of earlier))
    (λ s event inputs before. newer_both (registry_of earlier) s (state_after s event inputs) before (newer s event inputs))
    earlier later more (inl (refl, refl))
