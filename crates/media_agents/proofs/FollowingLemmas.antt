-- Logs open and close, one after another, and what follows an entry.
use Rattle.std.proofs.Common.{◌≡◌, ℕ, ℤ, Bool, List, Option, refl, subst}
use Rattle.driver_core.specs.declared.state.entry.Entry.{Entry}
use Rattle.driver_core.specs.Pairs.{pairs_of}
use Rattle.driver_core.specs.Readers.{readers_of}
use Rattle.driver_core.specs.State.{State}
use Rattle.log_steps.specs.Held.{HeldLog}
use Rattle.log_steps.specs.Rooms.{memory_of}
use Rattle.log_arena.specs.Homes.{Home}
use Rattle.log_slots.specs.Opening.{OpensAs}
use Rattle.media_agents.specs.Acts.{Access, GoesOn}
use Rattle.media_agents.specs.Asking.{Closes, IsAt, IsClosed, IsRowClosed, Refuses, Rejoins, Takes, closing}
use Rattle.media_agents.specs.declared.slots.LogAt.{LogAt}
use Rattle.media_agents.specs.Finding.{log_at}
use Rattle.media_agents.specs.Following.{ClosesAt, Follows, Leaves, OpensNext, OpensRow, Puts, freed, freed_if, gave_back, opened, put, taken_by}
use Rattle.media_agents.proofs.ActLemmas.{goes_on, goes_on_as}
use Rattle.stream_registry.specs.declared.lingering.LogPlace.{LogPlace}
use Rattle.stream_registry.specs.declared.pairs.Pair.{Pair}
use Rattle.stream_registry.specs.declared.row.LogRow.{LogRow}

-- the slot took the log, and then it is read by those that the registry says
pub puts : (s : State) (row : LogRow) (log : HeldLog) (at later : LogAt) (session stream : ℤ) (readers : List ℕ) (position : Option ℕ) (pages : List Bool)
    (first between last : List Access → Type 0) → at ≡ log_at row → later ≡ log_at row → session ≡ row.session → stream ≡ row.stream
    → readers ≡ readers_of (pairs_of s) row.number
    → GoesOn (λ (accesses : List Access). Takes (IsAt at accesses) session stream log) first between
    → GoesOn (λ (accesses : List Access). Rejoins (IsAt later accesses) later.source readers position) between last
    → GoesOn (Puts s row log pages pages) first last
puts s row log at later session stream readers position pages first between last at_is later_is session_is stream_is readers_are =
    goes_on (λ (accesses : List Access). Takes (IsAt at accesses) session stream log)
    (λ (accesses : List Access). Rejoins (IsAt later accesses) later.source readers position) (Puts s row log pages pages) first between last
    (λ a b takes reads. put (
      a,
      b,
      refl,
      subst (λ (there : LogAt). Takes (IsAt there a) row.session row.stream log) at_is
          (subst (λ (number : ℤ). Takes (IsAt at a) number row.stream log) session_is
          (subst (λ (number : ℤ). Takes (IsAt at a) session number log) stream_is takes)),
      (
        position,
        subst (λ (those : List ℕ). Rejoins (IsAt (log_at row) b) row.number those position) readers_are
            (subst (λ (there : LogAt). Rejoins (IsAt there b) there.source readers position) later_is reads),
      ),
    ) refl)

-- the slot did not take it
pub gives_back : (s : State) (row : LogRow) (log back : HeldLog) (at : LogAt) (old new : List Bool) (first last : List Access → Type 0) → at ≡ log_at row
    → (back ≡ log → new ≡ freed log old)
    → GoesOn (λ (accesses : List Access). Refuses (IsAt at accesses) log back) first last → GoesOn (Puts s row log old new) first last
gives_back s row log back at old new first last at_is free =
    goes_on_as (λ (accesses : List Access). Refuses (IsAt at accesses) log back) (Puts s row log old new) first last
    (λ a refused. gave_back (record {
      found = refused.found;
      held = subst (λ (there : LogAt). IsAt there a refused.found refused.found) at_is refused.held;
      back_is = refl;
    }) (free refused.back_is))

-- the log of a row opened
pub opens_row : (home : Home) (s : State) (room : Option ℕ) (row : LogRow) (log : HeldLog) (old taken new : List Bool) (first last : List Access → Type 0)
    → OpensAs home s.settings s.moment row log → taken ≡ taken_by row old → GoesOn (Puts s row log taken new) first last
    → GoesOn (OpensRow home s room row old new) first last
opens_row home s room row log old taken new first last is taken_is =
    goes_on_as (Puts s row log taken new) (OpensRow home s room row old new) first last
    (λ a it. opened log is (subst (λ (pages : List Bool). Puts s row log pages new a) taken_is it))

-- a log closed, and then its pages are free
pub closes_one : (at : LogAt) (log : Option HeldLog) (old new : List Bool) (first last : List Access → Type 0) → new ≡ freed_if log old
    → GoesOn (λ (accesses : List Access). Closes (IsAt at accesses) at.source log) first last → GoesOn (ClosesAt at old new) first last
closes_one at log old new first last free =
    goes_on_as (λ (accesses : List Access). Closes (IsAt at accesses) at.source log) (ClosesAt at old new) first last (λ a closes. (log, closes, free))

-- that of a row closed
pub row_closed : (row : LogRow) (at : LogAt) (log : Option HeldLog) (first last : List Access → Type 0) → at ≡ log_at row
    → GoesOn (λ (accesses : List Access). Closes (IsAt at accesses) at.source log) first last → GoesOn (IsRowClosed row) first last
row_closed row at log first last at_is =
    goes_on_as (λ (accesses : List Access). Closes (IsAt at accesses) at.source log) (IsRowClosed row) first last
    (λ a closes. subst (λ (there : LogAt). IsClosed there a) at_is (log, closes))

-- all that follows, where what is left to do is the entry's
pub follows_entry : (home : Home) (s t : State) (entry : Entry) (room : Option ℕ) (opens : Option LogPlace) (gone : List Pair) (closes : List LogAt)
    (old mid new : List Bool) (first between last : List Access → Type 0) → room ≡ memory_of entry.event → opens ≡ entry.outcome.opens →
    gone ≡ entry.outcome.gone → closes ≡ closing s entry.outcome.closes → GoesOn (OpensNext home t room opens old mid) first between →
    GoesOn (Leaves t gone closes mid new) between last → GoesOn (Follows home s t entry old new) first last
follows_entry home s t entry room opens gone closes old mid new first between last room_is opens_is gone_is closes_are opening leaving =
    goes_on (OpensNext home t room opens old mid) (Leaves t gone closes mid new) (Follows home s t entry old new) first between last
    (λ a b open_so leave_so. record {
      opened = mid;
      happens = (
        a,
        b,
        refl,
        subst (λ (o : Option LogPlace). OpensNext home t (memory_of entry.event) o old mid a) opens_is
            (subst (λ (r : Option ℕ). OpensNext home t r opens old mid a) room_is open_so),
        subst (λ (p : List Pair). Leaves t p (closing s entry.outcome.closes) mid new b) gone_is
            (subst (λ (ats : List LogAt). Leaves t gone ats mid new b) closes_are leave_so),
      );
    }) opening leaving
