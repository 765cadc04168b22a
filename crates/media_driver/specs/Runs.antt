-- Offers of a client, one after another. Own rules.
use Rattle.std.specs.Prelude.{◌≡◌, ℕ, ◌≤◌, ◌⊎◌, List, [], ◌∷◌, Bool, Option, Some, None, Result, Ok, Err, IfErr, length}
use Rattle.audit_ring.specs.Audit.{KeptOf}
use Rattle.log_arena.specs.Homes.{Home}
use Rattle.media_agents.specs.declared.journal.Dated.{Dated}
use Rattle.media_driver.specs.Audits.{KeepsOffered, ReportsOffer}
use Rattle.media_driver.specs.Clients.{Attached}
use Rattle.media_driver.specs.Steps.{Counts, IsOffer}
use Rattle.media_driver.specs.declared.faults.OfferFault.{OfferFault}
use Rattle.published_registry.specs.Histories.{History, IsContinuedBy, registry_of}

-- what an offer changes of a client
abbrev pub with_offer : Attached → History → ℕ → ℕ → Bool → KeptOf Dated → Attached
with_offer client known moment counted ended audited = record client {
  known = known;
  moment = moment;
  counted = counted;
  ended = ended;
  audited = audited;
}

-- the client offers the message by that registration, and that comes of it
pub record IsOffered (home : Home) (registration : ℕ) (message : List ℕ) (result : Result ℕ OfferFault) (old new : Attached) : Type 0 where
  pub known : IsContinuedBy old.known new.known
  pub moment : old.moment ≤ new.moment
  pub new_is : new ≡ with_offer old new.known new.moment new.counted new.ended new.audited
  pub counted : Counts result old new
  pub step : IsOffer home (registry_of new.known) new.moment old.number registration message result
  pub audit : ReportsOffer home new.known new.moment old.number registration message result old.audited new.audited
  pub unseen : IfErr result (λ fault. KeepsOffered fault old.audited new.audited)

-- nothing is offered: the client knows more of the history, or a later moment, and no more changes
pub record OffersNone (old new : Attached) : Type 0 where
  pub known : IsContinuedBy old.known new.known
  pub moment : old.moment ≤ new.moment
  pub new_is : new ≡ record old { known = new.known; moment = new.moment }

module _ {M : Type 0} (next_is : M → Option (List ℕ)) (went : M → ℕ → M → Type 0) where
  -- the next message is offered, and is taken: after it comes that position; and so on with those after it
  abbrev pub Taken : Home → ℕ → List ℕ → M → M → Attached → Attached → Type 0
  Taken home registration [] before after old new = (after ≡ before) × (new ≡ old)
  Taken home registration (position ∷ later) before after old new =
      (message : List ℕ) × (next : M) × (between : Attached) × (next_is before ≡ Some message) × went before position next
      × IsOffered home registration message (Ok position) old between × Taken home registration later next after between new

  -- they end with one that is not taken; or none is left, or so many were taken
  abbrev pub Ends : {T : Type 0} → Home → ℕ → ℕ → ℕ → M → Result T OfferFault → Attached → Attached → Type 0
  Ends home registration most count after (Ok _) old new = (new ≡ old) × ((next_is after ≡ None) ⊎ (count ≡ most))
  Ends home registration most count after (Err fault) old new =
      (message : List ℕ) × (next_is after ≡ Some message) × IsOffered home registration message (Err fault) old new

  -- messages are offered one after another, so many at most, until one is not taken
  pub record OffersOn {T : Type 0} (home : Home) (registration most : ℕ) (before after : M) (result : Result T OfferFault) (old new : Attached) : Type 0 where
    pub positions : List ℕ
    pub between : Attached
    pub taken : Taken home registration positions before after old between
    pub ends : Ends home registration most (length positions) after result between new

  -- so they are, from some later look and moment on
  pub record Offers {T : Type 0} (home : Home) (registration most : ℕ) (before after : M) (result : Result T OfferFault) (old new : Attached) : Type 0 where
    pub begun : Attached
    pub begins : OffersNone old begun
    pub offers : OffersOn home registration most before after result begun new
