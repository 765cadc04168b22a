-- Offers of a client, one after another.
use Rattle.std.proofs.Common.{◌≡◌, ℕ, ◌+◌, ◌≤◌, ◌⊎◌, List, [], ◌∷◌, ◌++◌, Bool, true, Option, Some, None, Result, Ok, Err, IfErr, IfSome, length, refl, sym, ap, subst, ◌∙◌, inl, inr, ⊎_elim, arith}
use Rattle.std.proofs.lemmas.List.{length-append}
use Rattle.audit_ring.specs.Audit.{KeptOf}
use Rattle.log_slots.specs.Counting.{taken_by}
use Rattle.log_steps.specs.declared.answer.Answer.TheVariants.{Offered as OfferedAs}
use Rattle.log_steps.specs.declared.answer.Offered.TheVariants.{Closed as IsClosed}
use Rattle.log_slots.specs.Slots.{DecidesIn, IsLocked, Moves, SlotLog}
use Rattle.log_steps.specs.declared.answered.Answered.{Answered}
use Rattle.log_steps.specs.Decided.{offer_decision, offer_decision_by}
use Rattle.log_steps.specs.Held.{HeldLog}
use Rattle.log_steps.specs.Moves.{Move, WholeLog, offer_move, offer_under}
use Rattle.log_arena.specs.Homes.{Home}
use Rattle.media_agents.proofs.LookLemmas.{continues, stays_known}
use Rattle.media_agents.specs.Journals.{audited_if, stamp_of}
use Rattle.media_agents.specs.declared.journal.Dated.{Dated}
use Rattle.media_agents.specs.declared.journal.Stamp.{Stamp}
use Rattle.media_driver.proofs.AuditLemmas.{step_told}
use Rattle.media_driver.proofs.OfferLemmas.{counted, to_some}
use Rattle.media_driver.proofs.RememberLemmas.{decides_so, moves_so}
use Rattle.media_driver.specs.Audits.{KeepsOffered, ReportsOffer}
use Rattle.media_driver.specs.Clients.{Attached, Looks}
use Rattle.media_driver.specs.Remembering.{IsSaid}
use Rattle.media_driver.specs.Runs.{Ends, IsOffered, Offers, OffersNone, OffersOn, Taken, with_offer}
use Rattle.media_driver.specs.Steps.{Counts, IsOffer, IsStep, offer_answer}
use Rattle.media_driver.specs.declared.faults.OfferFault.{OfferFault}
use Rattle.media_driver.specs.declared.faults.OfferFault.TheVariants.{Closed, NoLook}
use Rattle.media_driver.specs.declared.remembering.Said.{Said}
use Rattle.policy_core.specs.declared.decision.Decision.{Decision}
use Rattle.published_registry.specs.Histories.{History, IsContinuedBy, registry_of}

-- a client that knows no more, and at no later moment
pub none_offered : (client : Attached) → OffersNone client client
none_offered client = record { known = stays_known client.known; moment = omega arith; new_is = refl }

counted_as : (result : Result ℕ OfferFault) (one two new : Attached) → one.counted ≡ two.counted → Counts result one new → Counts result two new
counted_as (Ok position) one two new same counts = subst (λ (n : ℕ). (new.counted ≡ n + 1) ⊎ ((new.counted ≡ n) × (new.ended ≡ true))) same counts
counted_as (Err fault) one two new same counts = counts ∙ same

-- what is offered after a look is offered
pub offered_later : (home : Home) (registration : ℕ) (message : List ℕ) (result : Result ℕ OfferFault) (old begun new : Attached) →
    OffersNone old begun → IsOffered home registration message result begun new → IsOffered home registration message result old new
offered_later home registration message result old begun new none offered =
    let start : Attached = record old { known = begun.known; moment = begun.moment } in
    let it : IsOffered home registration message result start new = subst (λ (x : Attached). IsOffered home registration message result x new) none.new_is offered in
    let first : old.moment ≤ begun.moment = none.moment in
    let then : begun.moment ≤ new.moment = it.moment in
    record {
      known = continues none.known it.known;
      moment = omega (arith, first, then);
      new_is = it.new_is;
      counted = counted_as result start old new refl it.counted;
      step = it.step;
      audit = it.audit;
      unseen = it.unseen;
    }

-- one step on the log that a lock guards, by what the registry says, of which the answer says that
pub held_offered : (home : Home) (client registration now : ℕ) (message : List ℕ) (attached : Attached) (pass look : History) (before after : ℕ) (ended end : Bool)
    (audit : KeptOf Dated) (said : Said) (slot : SlotLog) (log : Option HeldLog) (told : Answered) (result : Result ℕ OfferFault) → attached.number ≡ client →
    IsContinuedBy pass look → IsSaid client said look → said.registration ≡ registration → IsLocked home slot →
    Moves (offer_under said.timeout said.request now message) (OfferedAs IsClosed) slot.log log told.answer → DecidesIn (offer_decision_by said.request) slot.log told.decision →
    (after ≡ before + taken_by told.answer) ⊎ ((after ≡ before) × (end ≡ true)) →
    IfSome (offer_answer result) (λ answer. told.answer ≡ answer) → IfErr result (λ _. taken_by told.answer ≡ 0) →
    IfErr result (λ fault. KeepsOffered fault audit (audited_if said.stamp told.decision audit)) →
    IsOffered home registration message result (with_offer attached pass now before ended audit)
    (with_offer attached look now after end (audited_if said.stamp told.decision audit))
held_offered home client registration now message attached pass look before after ended end audit said slot log told result same later is by locked moves decides counts answers none seen =
    let kept : KeptOf Dated = audited_if said.stamp told.decision audit in
    let old : Attached = with_offer attached pass now before ended audit in
    let new : Attached = with_offer attached look now after end kept in
    let move : WholeLog → Move = offer_move (registry_of look) now client registration message in
    let decide : WholeLog → Option Decision = offer_decision (registry_of look) client registration in
    let moved : Moves move (OfferedAs IsClosed) slot.log log told.answer =
    subst (λ (m : WholeLog → Move). Moves m (OfferedAs IsClosed) slot.log log told.answer) (moves_so client registration now message said look is by) moves in
    let decided : DecidesIn decide slot.log told.decision =
    subst (λ (d : WholeLog → Option Decision). DecidesIn d slot.log told.decision) (decides_so client registration said look is by) decides in
    record {
      known = later;
      moment = omega arith;
      new_is = refl;
      counted = counted result told.answer old new answers none counts;
      step =
          subst (λ (n : ℕ). IsOffer home (registry_of look) now n registration message result) (sym same)
          (to_some (IsStep home move (OfferedAs IsClosed)) (offer_answer result) told.answer answers (record { slot = slot; locked = locked; new = log; moves = moved }));
      audit =
          subst (λ (n : ℕ). ReportsOffer home look now n registration message result audit kept) (sym same)
          (step_told home move decide (OfferedAs IsClosed) (offer_answer result) told.answer told.decision (stamp_of look) audit kept answers
          (record { slot = slot; locked = locked; new = log; moves = moved; decides = decided }) (ap (λ (stamp : Stamp). audited_if stamp told.decision audit) is.stamp_is));
      unseen = seen;
    }

-- there was no look
pub unseen_offered : (home : Home) (registration now : ℕ) (message : List ℕ) (attached : Attached) (pass look : History) (count : ℕ) (ended : Bool)
    (audit : KeptOf Dated) → IsContinuedBy pass look →
    IsOffered home registration message (Err NoLook) (with_offer attached pass now count ended audit) (with_offer attached look now count ended audit)
unseen_offered home registration now message attached pass look count ended audit later = record {
  known = later;
  moment = omega arith;
  new_is = refl;
  counted = refl;
  step = tt;
  audit = record { decision = None; decided = inl refl; kept = refl };
  unseen = refl;
}

-- and so where nothing changes
pub still_unseen : (home : Home) (registration : ℕ) (message : List ℕ) (client : Attached) → IsOffered home registration message (Err NoLook) client client
still_unseen home registration message client = record {
  known = stays_known client.known;
  moment = omega arith;
  new_is = refl;
  counted = refl;
  step = tt;
  audit = record { decision = None; decided = inl refl; kept = refl };
  unseen = refl;
}

-- the client has no such registration
pub still_closed : (home : Home) (registration : ℕ) (message : List ℕ) (client : Attached) → IsOffered home registration message (Err Closed) client client
still_closed home registration message client = record {
  known = stays_known client.known;
  moment = omega arith;
  new_is = refl;
  counted = refl;
  step = tt;
  audit = record { decision = None; decided = inl refl; kept = refl };
  unseen = tt;
}

module _ {M : Type 0} (next_is : M → Option (List ℕ)) (went : M → ℕ → M → Type 0) (home : Home) (registration : ℕ) where
  -- one more was taken
  pub taken_more : (positions : List ℕ) (position : ℕ) (message : List ℕ) (before now after : M) (old between new : Attached) →
      Taken next_is went home registration positions before now old between → next_is now ≡ Some message → went now position after →
      IsOffered home registration message (Ok position) between new → Taken next_is went home registration (positions ++ position ∷ []) before after old new
  taken_more [] position message before now after old between new taken is goes offered = (
    message,
    after,
    new,
    subst (λ (s : M). next_is s ≡ Some message) taken.0 is,
    subst (λ (s : M). went s position after) taken.0 goes,
    subst (λ (x : Attached). IsOffered home registration message (Ok position) x new) taken.1 offered,
    (refl, refl),
  )
  taken_more (first ∷ positions) position message before now after old between new taken is goes offered = (
    taken.0,
    taken.1,
    taken.2,
    taken.3,
    taken.4,
    taken.5,
    taken_more positions position message taken.1 now after taken.2 between new taken.6 is goes offered,
  )

  -- so many were taken so far
  pub record Went (count : ℕ) (before after : M) (old new : Attached) : Type 0 where
    pub positions : List ℕ
    pub count_is : length positions ≡ count
    pub taken : Taken next_is went home registration positions before after old new

  pub went_none : (before : M) (client : Attached) → Went 0 before before client client
  went_none before client = record { positions = []; count_is = refl; taken = (refl, refl) }

  pub went_more : (count position : ℕ) (message : List ℕ) (before now after : M) (old between new : Attached) →
      Went count before now old between → next_is now ≡ Some message → went now position after →
      IsOffered home registration message (Ok position) between new → Went (count + 1) before after old new
  went_more count position message before now after old between new far is goes offered = record {
    positions = far.positions ++ position ∷ [];
    count_is = omega (arith, length-append far.positions (position ∷ []), far.count_is);
    taken = taken_more far.positions position message before now after old between new far.taken is goes offered;
  }

  -- none is left, or so many were taken
  pub run_full : {T : Type 0} (most count : ℕ) (value : T) (before after : M) (old new : Attached) → Went count before after old new →
      (next_is after ≡ None) ⊎ (count ≡ most) → let result : Result T OfferFault = Ok value in OffersOn next_is went home registration most before after result old new
  run_full most count value before after old new far over = record {
    positions = far.positions;
    between = new;
    taken = far.taken;
    ends = (refl, ⊎_elim (λ none. inl none) (λ all. inr (far.count_is ∙ all)) over);
  }

  -- one is not taken
  pub run_ends : {T : Type 0} (most count : ℕ) (message : List ℕ) (fault : OfferFault) (before after : M) (old between new : Attached) →
      Went count before after old between → next_is after ≡ Some message → IsOffered home registration message (Err fault) between new →
      let result : Result T OfferFault = Err fault in OffersOn next_is went home registration most before after result old new
  run_ends most count message fault before after old between new far is offered = record {
    positions = far.positions;
    between = between;
    taken = far.taken;
    ends = (message, is, offered);
  }

-- a look was taken
pub looks_none : (old new : Attached) → Looks old new → OffersNone old new
looks_none old new looks =
    let same : new.moment ≡ old.moment = ap (λ (client : Attached). client.moment) looks.new_is in
    record {
      known = looks.known;
      moment = omega (arith, same);
      new_is = looks.new_is ∙ ap (λ (moment : ℕ). record old { known = new.known; moment = moment }) (sym same);
    }

-- then the pass is taken out, and the moment is later
pub begins_run : (old looked at : Attached) (pass : History) (now : ℕ) → Looks old looked → at ≡ looked → at.known ≡ pass → at.moment ≤ now →
    OffersNone old (record at { known = pass; moment = now })
begins_run old looked at pass now looks is known later =
    let at_is : at ≡ record old { known = looked.known } = is ∙ looks.new_is in
    let same : at.moment ≡ old.moment = ap (λ (client : Attached). client.moment) at_is in
    record {
      known = subst (IsContinuedBy old.known) (sym (ap (λ (client : Attached). client.known) is) ∙ known) looks.known;
      moment = omega (arith, same, later);
      new_is = ap (λ (client : Attached). record client { known = pass; moment = now }) at_is;
    }

module _ {M : Type 0} (next_is : M → Option (List ℕ)) (went : M → ℕ → M → Type 0) (home : Home) (registration : ℕ) where
  -- there is none to offer
  pub none_run : {T : Type 0} (most : ℕ) (value : T) (before : M) (client : Attached) → (next_is before ≡ None) ⊎ (0 ≡ most) →
      let result : Result T OfferFault = Ok value in Offers next_is went home registration most before before result client client
  none_run most value before client over = record {
    begun = client;
    begins = none_offered client;
    offers = run_full next_is went home registration most 0 value before before client client (went_none next_is went home registration before client) over;
  }

  -- the first is refused after a look
  pub refused_run : (T : Type 0) (most : ℕ) (message : List ℕ) (fault : OfferFault) (before : M) (old new : Attached) → Looks old new →
      next_is before ≡ Some message → IsOffered home registration message (Err fault) new new →
      let result : Result T OfferFault = Err fault in Offers next_is went home registration most before before result old new
  refused_run T most message fault before old new looks is offered = record {
    begun = new;
    begins = looks_none old new looks;
    offers = run_ends next_is went home registration most 0 message fault before before new new new (went_none next_is went home registration before new) is offered;
  }

-- with one message that is no longer next once it was taken, what comes of it is what comes of an offer
module _ {M : Type 0} (next_is : M → Option (List ℕ)) (went : M → ℕ → M → Type 0) (once : (before : M) (position : ℕ) (after : M) → went before position after → next_is after ≡ None) where
  taken_alone : {T : Type 0} (home : Home) (registration : ℕ) (message : List ℕ) (positions : List ℕ) (before after : M) (value : T) (old between new : Attached) →
      next_is before ≡ Some message → Taken next_is went home registration positions before after old between →
      (let result : Result T OfferFault = Ok value in Ends next_is went home registration 1 (length positions) after result between new) →
      (position : ℕ) × went before position after × IsOffered home registration message (Ok position) old new
  taken_alone home registration message [] before after value old between new is taken ends =
      absurd (⊎_elim (λ none. cc (is, none, taken.0)) (λ count. omega (arith, count)) ends.1)
  taken_alone home registration message (position ∷ []) before after value old between new is taken ends =
      let same : message ≡ taken.0 = cc (is, taken.3) in
      let end : new ≡ taken.2 = ends.0 ∙ taken.6.1 in (
        position,
        subst (λ (s : M). went before position s) (sym taken.6.0) taken.4,
        subst (λ (m : List ℕ). IsOffered home registration m (Ok position) old new) (sym same)
            (subst (λ (x : Attached). IsOffered home registration taken.0 (Ok position) old x) (sym end) taken.5),
      )
  taken_alone home registration message (position ∷ (second ∷ positions)) before after value old between new is taken ends =
      absurd (cc (once before position taken.1 taken.4, taken.6.3))

  refused_alone : (T : Type 0) (home : Home) (registration : ℕ) (message : List ℕ) (positions : List ℕ) (before after : M) (fault : OfferFault) (old between new : Attached) →
      next_is before ≡ Some message → Taken next_is went home registration positions before after old between →
      (let result : Result T OfferFault = Err fault in Ends next_is went home registration 1 (length positions) after result between new) → IsOffered home registration message (Err fault) old new
  refused_alone T home registration message [] before after fault old between new is taken ends =
      let same : message ≡ ends.0 = cc (is, ends.1, taken.0) in
      subst (λ (m : List ℕ). IsOffered home registration m (Err fault) old new) (sym same)
      (subst (λ (x : Attached). IsOffered home registration ends.0 (Err fault) x new) taken.1 ends.2)
  refused_alone T home registration message (position ∷ []) before after fault old between new is taken ends =
      absurd (cc (once before position taken.1 taken.4, ends.1, taken.6.0))
  refused_alone T home registration message (position ∷ (second ∷ positions)) before after fault old between new is taken ends =
      absurd (cc (once before position taken.1 taken.4, taken.6.3))

  -- it was taken
  pub one_taken : {T : Type 0} (home : Home) (registration : ℕ) (message : List ℕ) (before after : M) (result : Result T OfferFault) (value : T) (old new : Attached) →
      next_is before ≡ Some message → result ≡ Ok value → Offers next_is went home registration 1 before after result old new →
      (position : ℕ) × went before position after × IsOffered home registration message (Ok position) old new
  one_taken {T} home registration message before after result value old new here is run =
      let it = subst (λ (r : Result T OfferFault). Offers next_is went home registration 1 before after r old new) is run in
      let came = taken_alone home registration message it.offers.positions before after value it.begun it.offers.between new here it.offers.taken it.offers.ends in
      (came.0, came.1, offered_later home registration message (Ok came.0) old it.begun new it.begins came.2)

  -- it was not
  pub one_refused : {T : Type 0} (home : Home) (registration : ℕ) (message : List ℕ) (before after : M) (result : Result T OfferFault) (fault : OfferFault) (old new : Attached) →
      next_is before ≡ Some message → result ≡ Err fault → Offers next_is went home registration 1 before after result old new →
      IsOffered home registration message (Err fault) old new
  one_refused {T} home registration message before after result fault old new here is run =
      let it = subst (λ (r : Result T OfferFault). Offers next_is went home registration 1 before after r old new) is run in
      offered_later home registration message (Err fault) old it.begun new it.begins
      (refused_alone T home registration message it.offers.positions before after fault it.begun it.offers.between new here it.offers.taken it.offers.ends)
