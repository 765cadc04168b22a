-- The accesses of an agent of a driver: each hold finds and leaves what a slot's lock guards.
use Rattle.std.proofs.Common.{◌≡◌, ℕ, ℤ, Bool, List, [], ◌∷◌, Option, None, Some, inl, inr, refl, subst, sym, All}
use Rattle.std.proofs.lemmas.List.Elements.{All-append, All-cons, All-nil}
use Rattle.std.specs.Prelude.{⊤, Result, Ok, Err, IfSome}
use Rattle.channel_uri.specs.declared.address.Address.{Address}
use Rattle.driver_core.specs.declared.asked.image_request.Astray.{Astray}
use Rattle.log_steps.specs.declared.answer.Answer.TheVariants.{Gone}
use Rattle.log_steps.specs.declared.packets.PacketRequest.{PacketRequest}
use Rattle.log_steps.specs.Held.{HeldLog}
use Rattle.log_steps.specs.Moves.{Move, WholeLog, for_source}
use Rattle.log_steps.specs.Packets.{packet_request}
use Rattle.log_steps.specs.Reporting.{image_move}
use Rattle.log_steps.specs.Sending.{send_move}
use Rattle.frame_codec.specs.Datagram.{Content}
use Rattle.log_arena.specs.Homes.{Home}
use Rattle.log_slots.specs.Slots.{SlotLog, with_log, with_readers, without_log}
use Rattle.media_agents.specs.Acts.{Access, GoesOn, Writes, held, kept, lacked, looked}
use Rattle.media_agents.specs.Asking.{Closes, IsAt, IsHold, Opens, Rejoins, SaysSilent}
use Rattle.media_agents.specs.declared.journal.Journal.{Journal}
use Rattle.media_agents.specs.declared.journal.Stamp.{Stamp}
use Rattle.media_agents.specs.declared.slots.LogAt.{LogAt}
use Rattle.media_agents.specs.declared.stepping.Stepped.{Stepped}
use Rattle.media_agents.specs.Journals.{blank, stamp_of}
use Rattle.media_agents.specs.Stepping.{Finds, HearsAt, HearsBy, HearsIf, IsComing, IsOf, IsTurn, Reports, ReportsBy, Sends, SendsBy, Turns, look_of, seen, unseen, place_for}
use Rattle.media_agents.proofs.LookLemmas.{stays_known}
use Rattle.published_registry.specs.Histories.{History, IsContinuedBy, registry_of}

module _ (home : Home) where
  abbrev Known : List Access → Type 0
  Known accesses = All (IsOf home) accesses

  none_known : Known []
  none_known = All-nil (IsOf home)

  and_known : (access : Access) (accesses : List Access) → IsOf home access → Known accesses → Known (access ∷ accesses)
  and_known = All-cons (IsOf home)

  -- that was done, and each access is of a driver
  pub knows : (Does : List Access → Type 0) (accesses : List Access) → Does accesses → Known accesses → GoesOn Does Known Known
  knows Does accesses does more = λ before so. (accesses, does, All-append (IsOf home) before accesses so more)

  pub look_known : (answer : Result History History) → GoesOn (λ (accesses : List Access). accesses ≡ look_of answer ∷ []) Known Known
  look_known (Ok look) = knows (λ (accesses : List Access). accesses ≡ looked look ∷ []) (looked look ∷ []) refl (and_known (looked look) [] tt none_known)
  look_known (Err pass) = knows (λ (accesses : List Access). accesses ≡ lacked ∷ []) (lacked ∷ []) refl (and_known lacked [] tt none_known)

  pub writes_known : (change : Journal → Journal) → GoesOn (Writes change) Known Known
  writes_known change =
      knows (Writes change) (kept blank (change blank) ∷ []) (blank, refl) (and_known (kept blank (change blank)) [] tt none_known)

  -- ---- what the conductor asks of logs, each in one hold

  one_known : (at : LogAt) (found left : SlotLog) → IsHold home found left → Known (held at found left ∷ [])
  one_known at found left holds = and_known (held at found left) [] holds none_known

  pub rejoins_known : (at : LogAt) (source : ℕ) (subscriptions : List ℕ) (position : Option ℕ) → Rejoins (IsHold home) source subscriptions position
      → GoesOn (λ (accesses : List Access). Rejoins (IsAt at accesses) source subscriptions position) Known Known
  rejoins_known at source subscriptions position it =
      let left = with_readers source subscriptions it.found in
      knows (λ (accesses : List Access). Rejoins (IsAt at accesses) source subscriptions position) (held at it.found left ∷ [])
      (record { found = it.found; held = refl; position_is = it.position_is }) (one_known at it.found left it.held)

  pub says_known : (at : LogAt) (source now limit : ℕ) (silent : Bool) → SaysSilent (IsHold home) source now limit silent
      → GoesOn (λ (accesses : List Access). SaysSilent (IsAt at accesses) source now limit silent) Known Known
  says_known at source now limit silent it =
      knows (λ (accesses : List Access). SaysSilent (IsAt at accesses) source now limit silent) (held at it.found it.found ∷ [])
      (record { found = it.found; held = refl; silent_is = it.silent_is }) (one_known at it.found it.found it.held)

  pub closes_known : (at : LogAt) (source : ℕ) (log : Option HeldLog) → Closes (IsHold home) source log
      → GoesOn (λ (accesses : List Access). Closes (IsAt at accesses) source log) Known Known
  closes_known at source log it =
      let left = without_log source it.found in
      knows (λ (accesses : List Access). Closes (IsAt at accesses) source log) (held at it.found left ∷ [])
      (record { found = it.found; held = refl; log_is = it.log_is }) (one_known at it.found left it.held)

  pub opens_known : (at : LogAt) (session stream : ℤ) (log : HeldLog) (result : Result Unit HeldLog) → Opens (IsHold home) session stream log result
      → GoesOn (λ (accesses : List Access). Opens (IsAt at accesses) session stream log result) Known Known
  opens_known at session stream log (Ok done) it =
      let left = with_log session stream log in
      knows (λ (accesses : List Access). Opens (IsAt at accesses) session stream log (Ok done)) (held at it.found left ∷ [])
      (record { found = it.found; held = refl; free = it.free }) (one_known at it.found left it.held)
  opens_known at session stream log (Err back) it =
      knows (λ (accesses : List Access). Opens (IsAt at accesses) session stream log (Err back)) (held at it.found it.found ∷ [])
      (record { found = it.found; held = refl; back_is = it.back_is }) (one_known at it.found it.found it.held)

  -- ---- turns

  abbrev turn_accesses : History → LogAt → SlotLog → SlotLog → List Access
  turn_accesses look at found left = looked look ∷ held at found left ∷ []

  turn_known : (look : History) (at : LogAt) (found left : SlotLog) → IsHold home found left → Known (turn_accesses look at found left)
  turn_known look at found left holds =
      and_known (looked look) (held at found left ∷ []) tt (and_known (held at found left) [] holds none_known)

  turns_known : (move : WholeLog → Move) (it : Stepped) (look : History) (at : LogAt) → Turns (IsHold home) move it
      → (accesses : List Access) × Turns (IsTurn look at accesses) move it × Known accesses
  turns_known move it look at turns =
      let left = record turns.found { log = turns.new } in (
        turn_accesses look at turns.found left,
        record { found = turns.found; new = turns.new; held = refl; moves = turns.moves; undecided = turns.undecided },
        turn_known look at turns.found left turns.held,
      )

  pub sends_known : (now : ℕ) (at : LogAt) (it : Option Stepped) (before after : History) → IsContinuedBy before after
      → IfSome it (λ (it : Stepped). Sends (IsHold home) (registry_of after) now at.source it × (it.stamp ≡ stamp_of after))
      → GoesOn (SendsBy now at it before after) Known Known
  sends_known now at None before after known steps =
      knows (SendsBy now at None before after) (lacked ∷ []) (known, refl) (and_known lacked [] tt none_known)
  sends_known now at (Some it) before after known steps =
      let turn = turns_known (for_source at.source (send_move (registry_of after) now) Gone) it after at steps.0 in
      knows (SendsBy now at (Some it) before after) turn.0 (known, turn.1, steps.1) turn.2

  pub reports_known : (now : ℕ) (at : LogAt) (it : Option Stepped) (before after : History) → IsContinuedBy before after
      → IfSome it (λ (it : Stepped). Reports (IsHold home) (registry_of after) now at.source it × (it.stamp ≡ stamp_of after))
      → GoesOn (ReportsBy now at it before after) Known Known
  reports_known now at None before after known steps =
      knows (ReportsBy now at None before after) (lacked ∷ []) (known, refl) (and_known lacked [] tt none_known)
  reports_known now at (Some it) before after known steps =
      let turn = turns_known (for_source at.source (image_move (registry_of after) now) Gone) it after at steps.0 in
      knows (ReportsBy now at (Some it) before after) turn.0 (known, turn.1, steps.1) turn.2

  -- ---- datagrams

  abbrev coming_accesses : History → History → LogAt → SlotLog → SlotLog → List Access
  coming_accesses look later at found left = looked look ∷ turn_accesses later at found left

  coming_known : (look later : History) (at : LogAt) (found left : SlotLog) → IsHold home found left → Known (coming_accesses look later at found left)
  coming_known look later at found left holds = and_known (looked look) (turn_accesses later at found left) tt (turn_known later at found left holds)

  hears_by_known : (look later : History) (at : LogAt) (now : ℕ) (from : Address) (content : Content) (request : Result PacketRequest Astray)
      (stamp : Stamp) (it : Stepped) → HearsBy (IsHold home) ⊤ now from content request stamp it
      → (accesses : List Access)
      × HearsBy (IsComing look later at accesses) (accesses ≡ looked look ∷ looked later ∷ []) now from content request stamp it
      × Known accesses
  hears_by_known look later at now from content (Err why) stamp it strays = (
    looked look ∷ looked later ∷ [],
    (strays.0, refl),
    and_known (looked look) (looked later ∷ []) tt (and_known (looked later) [] tt none_known),
  )
  hears_by_known look later at now from content (Ok request) stamp it (dated, inl comes) =
      let left = record comes.found { log = comes.new } in (
        coming_accesses look later at comes.found left,
        (dated, inl (record { found = comes.found; new = comes.new; held = refl; hears = comes.hears; decides = comes.decides })),
        coming_known look later at comes.found left comes.held,
      )
  hears_by_known look later at now from content (Ok request) stamp it (dated, inr lacks) = (
    coming_accesses look later at lacks.found lacks.found,
    (dated, inr (record { found = lacks.found; held = refl; gives = lacks.gives; answer_is = lacks.answer_is; undecided = lacks.undecided })),
    coming_known look later at lacks.found lacks.found lacks.held,
  )

  -- it came to the slot where its log is
  pub comes_known : (now : ℕ) (local from : Address) (content : Content) (at : LogAt) (it : Option Stepped) (before look after : History)
      → IsContinuedBy before look → IsContinuedBy look after → IsContinuedBy before after
      → Finds (place_for (registry_of look) local from content) (stamp_of look) (Ok at)
      → IfSome it (HearsBy (IsHold home) ⊤ now from content (packet_request (registry_of after) local from content) (stamp_of after))
      → GoesOn (HearsIf now local from content it before after) Known Known
  comes_known now local from content at None before look after later earlier known finds hears =
      knows (HearsIf now local from content None before after) (looked look ∷ lacked ∷ []) (known, seen look later earlier refl)
      (and_known (looked look) (lacked ∷ []) tt (and_known lacked [] tt none_known))
  comes_known now local from content at (Some it) before look after later earlier known finds hears =
      let more = hears_by_known look after at now from content (packet_request (registry_of after) local from content) (stamp_of after) it hears in
      knows (HearsIf now local from content (Some it) before after) more.0 (
        known,
        record {
          look = look;
          later = later;
          earlier = earlier;
          hears = subst (λ (place : Result LogAt Astray). HearsAt place look after now local from content it more.0) (sym finds) more.1;
        },
      )
      more.2

  -- it is for no log, or from a stranger
  pub strays_known : (now : ℕ) (local from : Address) (content : Content) (it : Stepped) (before look : History) → IsContinuedBy before look
      → Finds (place_for (registry_of look) local from content) (stamp_of look) (Err it)
      → GoesOn (HearsIf now local from content (Some it) before look) Known Known
  strays_known now local from content it before look later finds =
      knows (HearsIf now local from content (Some it) before look) (looked look ∷ []) (
        later,
        record {
          look = look;
          later = later;
          earlier = stays_known look;
          hears = subst (λ (place : Result LogAt Astray). HearsAt place look look now local from content it (looked look ∷ [])) (sym finds.1) (finds.2, refl);
        },
      )
      (and_known (looked look) [] tt none_known)

  -- there was no look
  pub unseen_known : (now : ℕ) (local from : Address) (content : Content) (before after : History) → IsContinuedBy before after
      → GoesOn (HearsIf now local from content None before after) Known Known
  unseen_known now local from content before after known =
      knows (HearsIf now local from content None before after) (lacked ∷ []) (known, unseen refl) (and_known lacked [] tt none_known)
