-- What an agent does, one act after another: with what it shares with others, and with its wire. Own rules.
use Rattle.std.specs.Prelude.{◌≡◌, List, [], ◌∷◌, ◌++◌, map}
use Rattle.log_slots.specs.Slots.{SlotLog}
use Rattle.media_agents.specs.declared.journal.Journal.{Journal}
use Rattle.media_agents.specs.declared.slots.LogAt.{LogAt}
use Rattle.media_wire.specs.Events.{Event}
use Rattle.published_registry.specs.Histories.{History}

-- An access to what is shared: a look showed that; there was no look, no such slot, or no memory; in one hold of the lock of that
-- log's slot this was found there, and that was left; or so it was in one hold of the journal's lock.
pub data Access : Type 0 where
  looked : History → Access
  lacked : Access
  held : LogAt → SlotLog → SlotLog → Access
  kept : Journal → Journal → Access

-- an access to what is shared, or a call of the wire
pub data Act : Type 0 where
  shared : Access → Act
  called : Event → Act

-- the accesses among these acts, and the calls, each in their order
abbrev pub accesses_in : List Act → List Access
accesses_in [] = []
accesses_in (shared access ∷ acts) = access ∷ accesses_in acts
accesses_in (called event ∷ acts) = accesses_in acts

abbrev pub calls_in : List Act → List Event
calls_in [] = []
calls_in (shared access ∷ acts) = calls_in acts
calls_in (called event ∷ acts) = event ∷ calls_in acts

-- these are all acts so far, by what is known of the accesses, and of the calls
abbrev pub Trail : (List Access → Type 0) → (List Event → Type 0) → List Act → Type 0
Trail did went acts = did (accesses_in acts) × went (calls_in acts)

module _ {A : Type 0} where
  -- after all so far came more, of which that holds
  abbrev pub GoesOn : (List A → Type 0) → (List A → Type 0) → (List A → Type 0) → Type 0
  GoesOn Behaves old new = (before : List A) → old before → (more : List A) × Behaves more × new (before ++ more)

  -- the one came, and after it the other
  abbrev pub Then : (List A → Type 0) → (List A → Type 0) → List A → Type 0
  Then First Next all = (first : List A) × (next : List A) × (all ≡ first ++ next) × First first × Next next

module _ {A S X : Type 0} where
  -- one after another, each of these did that, from one state to the next, by these acts
  abbrev pub Chain : (X → S → S → List A → Type 0) → List X → S → S → List A → Type 0
  Chain Does [] before after acts = (after ≡ before) × (acts ≡ [])
  Chain Does (one ∷ more) before after acts =
      (next : S) × (first : List A) × (rest : List A) × (acts ≡ first ++ rest) × Does one before next first × Chain Does more next after rest

module _ {A X : Type 0} where
  -- each of these did that, in their order
  abbrev pub Each : (X → List A → Type 0) → List X → List A → Type 0
  Each Does all acts = Chain (λ (one : X) (before after : Unit {0}). Does one) all tt tt acts

-- those accesses, and no call
abbrev pub Alone : (List Access → Type 0) → List Act → Type 0
Alone Does acts = (accesses : List Access) × Does accesses × (acts ≡ map shared accesses)

-- one hold of the journal's lock, which changed the journal so
abbrev pub Writes : (Journal → Journal) → List Access → Type 0
Writes change accesses = (journal : Journal) × (accesses ≡ kept journal (change journal) ∷ [])
