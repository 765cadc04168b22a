-- A row of a registry whose logs are sound.
use Rattle.std.proofs.Common.{◌≡◌, ℕ, suc, arith, ◌==◌, Bool, true, false, cond, List, [], ◌∷◌, find, All, Option, Some, None, Result, Ok, Err, IfOk, IfSome, IsSome, Bor, subst, sym, ap, ◌∙◌, refl, ◌++◌}
use Rattle.std.specs.Option.{option_copied}
use Rattle.driver_core.specs.Conduct.{state_after}
use Rattle.driver_core.specs.declared.state.entry.Entry.{Entry}
use Rattle.driver_core.specs.Renewal.{source_at}
use Rattle.driver_core.specs.Soundness.{AreSizes, BeginsSoundly, IsSound}
use Rattle.driver_core.specs.State.{State}
use Rattle.logbook.specs.Pages.{Book}
use Rattle.published_registry.specs.Histories.{History, history_in, registry_after, registry_of}
use Rattle.stream_registry.specs.declared.row.LogRow.{LogRow}

found_by : (P : LogRow → Type 0) (b : Bool) (first row : LogRow) (rest : Option LogRow) → P first → (rest ≡ Some row → P row) →
    cond b (Some first) rest ≡ Some row → P row
found_by P true first row rest p later is = subst P (cc is) p
found_by P false first row rest p later is = later is

found : (P : LogRow → Type 0) (test : LogRow → Bool) (logs : List LogRow) (row : LogRow) → All P logs → find test logs ≡ Some row → P row
found P test [] row all is = absurd (cc is)
found P test (first ∷ logs) row all is =
    found_by P (test first) first row (find test logs) (all 0 first (omega arith))
    (found P test logs row (λ k d within. all (suc k) d (omega arith))) is

pub row_sound : (s : State) (number : ℕ) (row : Option (Bor LogRow)) → IsSound s → option_copied row ≡ source_at s.streams.sources number →
    IfSome row (λ (log : Bor LogRow). AreSizes log.now.measures × BeginsSoundly log.now)
row_sound s number None sound is = tt
row_sound s number (Some log) sound is =
    let here : source_at s.streams.sources number ≡ Some log.now = cc is in (
      found (λ (l : LogRow). AreSizes l.measures) (λ (l : LogRow). l.number == number) s.streams.sources log.now sound.sizes here,
      found BeginsSoundly (λ (l : LogRow). l.number == number) s.streams.sources log.now sound.begins here,
    )

one_more : (s : State) (entries : List Entry) (entry : Entry) →
    registry_after s (entries ++ entry ∷ []) ≡ state_after (registry_after s entries) entry.event entry.inputs
one_more s [] entry = refl
one_more s (first ∷ entries) entry = one_more (state_after s first.event first.inputs) entries entry

-- the registry after one entry more is sound, where its event leaves it so
pub sound_more : (before after : History) (entry : Entry) → after ≡ record before { entries = before.entries ++ entry ∷ [] } →
    IsSound (state_after (registry_of before) entry.event entry.inputs) → IsSound (registry_of after)
sound_more before after entry is sound =
    subst IsSound (sym (ap registry_of is ∙ one_more before.opening before.entries entry)) sound

-- what a conductor's works are once its publisher has one entry more
pub works_go_on : (book : Book) (now : History) (inside after : Option History) (publisher more : History) (entry : Entry) →
    history_in inside ≡ now → inside ≡ Some publisher → after ≡ Some more → more ≡ record publisher { entries = publisher.entries ++ entry ∷ [] } →
    (history_in inside).book ≡ book → IsSound (state_after (registry_of now) entry.event entry.inputs) →
    IsSome after × ((history_in after).book ≡ book) × IsSound (registry_of (history_in after))
works_go_on book now inside after publisher more entry view there here is ours sound =
    let same : publisher ≡ now = sym (ap history_in there) ∙ view in
    let mine : publisher.book ≡ book = ap (λ (h : History). h.book) same ∙ sym (ap (λ (h : History). h.book) view) ∙ ours in
    subst (λ (o : Option History). IsSome o × ((history_in o).book ≡ book) × IsSound (registry_of (history_in o))) (sym here) (
      refl,
      ap (λ (h : History). h.book) is ∙ mine,
      sound_more publisher more entry is (subst (λ (h : History). IsSound (state_after (registry_of h) entry.event entry.inputs)) (sym same) sound),
    )

-- what is said of each success holds where there is one
pub ok_holds : {T E : Type 0} (A : Type 0) (r : Result T E) (x : T) → IfOk r (λ _. A) → r ≡ Ok x → A
ok_holds A (Ok y) x all is = all
ok_holds A (Err e) x all is = absurd (cc is)
