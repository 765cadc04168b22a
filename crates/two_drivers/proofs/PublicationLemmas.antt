-- All frames of a publication are those that its log had when it was last there; and the promise, of two worlds.
use Rattle.std.proofs.Common.{◌≡◌, ℕ, ◌==◌, ◌<◌, ◌≤◌, Bool, true, false, cond, take, drop, List, [], ◌∷◌, ◌++◌, Option, Some, None, refl, sym, ap, ap₂, ◌∙◌, subst, arith, length, map}
use Rattle.std.specs.List.{All}
use Rattle.std.proofs.lemmas.List.{append-nil, take-append-drop}
use Rattle.std.proofs.lemmas.List.Elements.{All-nil, All-cons, All-head, All-tail}
use Rattle.log_traffic.specs.Whole.{AnyWhole, whole, rebuilt}
use Rattle.driver_core.specs.declared.state.event.Event.{Event}
use Rattle.driver_core.specs.declared.state.event.Inputs.{Inputs}
use Rattle.driver_core.specs.Conduct.{state_of}
use Rattle.driver_core.specs.Soundness.{AreSettings}
use Rattle.driver_core.specs.State.{State, opened}
use Rattle.driver_laws.specs.NumberLaws.{AreRising}
use Rattle.driver_laws.specs.WidthLaws.{AreSettingsOf32Bits, HasNumbersOf32Bits}
use Rattle.driver_laws.proofs.NumberLemmas.{opened_rises}
use Rattle.log_steps.specs.declared.answer.Answer.{Answer}
use Rattle.log_steps.specs.declared.answer.Answer.TheVariants.{NoMemory}
use Rattle.driver_steps.specs.declared.step.Step.{Step}
use Rattle.driver_steps.specs.Ends.{RunEnd, log_at, opening_end}
use Rattle.driver_steps.specs.Laws.{made_as, made_for}
use Rattle.log_steps.specs.Moves.{WholeLog}
use Rattle.driver_steps.specs.Runs.{Reading as DriverReading, AreAnswers, IsAnswerTo, end_of, left_by, read_by}
use Rattle.driver_steps.proofs.EndLemmas.{opening_is, state_of_both}
use Rattle.driver_steps.proofs.FollowLemmas.{Follows, ends_follow}
use Rattle.driver_steps.proofs.LiveLemmas.{found_log}
use Rattle.driver_world.specs.declared.actor.Actor.{Actor}
use Rattle.driver_world.specs.declared.actor.Actor.TheVariants.{Client, Conductor, Receiver, Sender}
use Rattle.driver_world.specs.declared.reading.Reading.{Reading}
use Rattle.driver_world.specs.Ends.{RunEnd as WorldEnd, Moved, after, after_by, bad, end_of as world_end_of, moved_as, opening_end as world_opening}
use Rattle.driver_world.specs.Views.{Past, actor_of, is_out, newest_of, registry_at, seat_of, view_or}
use Rattle.driver_world.proofs.RunLemmas.{IsNewest, goes_as, is_drivers_run}
use Rattle.two_drivers.specs.Line.{IsLine, line_of}
use Rattle.two_drivers.specs.Sending.{IsFit, IsWell}
use Rattle.two_drivers.proofs.ReadingLemmas.{line_is}
use Rattle.term_log.specs.declared.ident.Ident.{Ident}
use Rattle.term_log.specs.Frames.{Frame}
use Rattle.term_log.specs.Whole.{Whole}
use Rattle.two_drivers.specs.Publication.{AreSole, HasPair, IsSole, IsSoleOf, RunGivesARunOfThePublication, SecondGivesARunOfThePublication, firsts_after, frames_in, last_seen, later_of, seen, seen_in}
use Rattle.two_drivers.proofs.AskedLemmas.{asked}
use Rattle.two_drivers.proofs.FitLemmas.{end_numbers, fit_of}
use Rattle.two_drivers.proofs.LaterLemmas.{IsLater, IsMore, left_later, more_later, stays_there}
use Rattle.two_drivers.proofs.NumberLemmas.{IsPast, are_found, drawn_at, left_draws, past_on}
use Rattle.two_drivers.proofs.PairLemmas.{pair_read}
use Rattle.two_drivers.proofs.PromiseLemmas.{named_second, reads_of}
use Rattle.two_drivers.specs.Drivers.{Opening, PairEnd, opening_pair}
use Rattle.two_drivers.specs.Sent.{Datagram, IsFitLog, IsPart}
use Rattle.two_drivers.specs.declared.pair_step.PairStep.{PairStep}
use Rattle.two_drivers.specs.declared.pair_step.PairStep.TheVariants.{A, B, Deliver}
use Rattle.two_drivers.specs.Worlds.{AreAnswersOfBoth, AreFresh, AtEach, IsAnswerToBoth, IsFresh, ReadsThere, TwoEnds, after_both, after_second, end_of_both, step_of_second}
use Rattle.two_drivers.proofs.DriversLemmas.{Holds, opening_holds, reached_follows}
use Rattle.two_drivers.proofs.GivenLemmas.{answers_push, end_push}
use Rattle.two_drivers.proofs.SentLemmas.{IsAsked, IsOverUdp, OverUdp, WellLog, opening_well, step_sends, step_well}
use Rattle.two_drivers.proofs.WorldLemmas.{AreSentGood, IsSeen, SendsGood, an_older, both_held, drivers_of, run_held, stayed, the_newest, went, went_sends, world_sends, world_went}

-- ---- ends of a driver, one behind the other

-- at the end of some run, with what holds there
record IsEnd (opening : Opening) (e : RunEnd) : Type 0 where
  readings : List DriverReading
  answers : List Answer
  are : AreAnswers (opening_end opening.settings opening.policy opening.peers) readings answers
  is : e ≡ end_of (opening_end opening.settings opening.policy opening.peers) readings answers
  rises : AreRising e.registry
  well : All WellLog e.logs

data IsNext (e next : RunEnd) : Type 0 where
  same_end : next ≡ e → IsNext e next
  one_step : (reading : DriverReading) (answer : Answer) → IsAnswerTo e reading answer → next ≡ left_by e reading answer → IsNext e next

abbrev AreNext : RunEnd → List RunEnd → Type 0
AreNext e [] = Unit {0}
AreNext e (next ∷ later) = IsNext e next × AreNext next later

end_left : (opening : Opening) (e : RunEnd) (reading : DriverReading) (answer : Answer) → IsEnd opening e → IsAnswerTo e reading answer →
    IsEnd opening (left_by e reading answer)
end_left opening e reading answer end answered =
    let first : RunEnd = opening_end opening.settings opening.policy opening.peers in
    record {
      readings = end.readings ++ reading ∷ [];
      answers = end.answers ++ answer ∷ [];
      are = answers_push first end.readings end.answers reading answer end.are (subst (λ (x : RunEnd). IsAnswerTo x reading answer) end.is answered);
      is = ap (λ (x : RunEnd). left_by x reading answer) end.is ∙ sym (end_push first end.readings end.answers reading answer end.are);
      rises = (left_draws e reading answer end.rises).rises;
      well = step_well e reading answer end.well;
    }

next_end : (opening : Opening) (e next : RunEnd) → IsEnd opening e → IsNext e next → IsEnd opening next
next_end opening e next end (same_end is) = subst (IsEnd opening) (sym is) end
next_end opening e next end (one_step reading answer answered is) =
    subst (IsEnd opening) (sym is) (end_left opening e reading answer end answered)

end_follows : (opening : Opening) (e : RunEnd) → AreSettings opening.settings → IsEnd opening e → Follows e
end_follows opening e sound end =
    subst Follows (sym end.is) (ends_follow opening.settings opening.policy opening.peers end.readings end.answers sound end.are)

end_fits : (opening : Opening) (e : RunEnd) → AreSettingsOf32Bits opening.settings → IsEnd opening e → HasNumbersOf32Bits e.registry
end_fits opening e fit end =
    subst (λ (x : RunEnd). HasNumbersOf32Bits x.registry) (sym end.is)
    (end_numbers opening.settings opening.policy opening.peers end.readings end.answers fit)

-- ---- what was last seen

-- a number that went is not seen again
past_next : (opening : Opening) (n : ℕ) (e next : RunEnd) → AreSettings opening.settings → IsEnd opening e → IsNext e next → IsPast n e → IsPast n next
past_next opening n e next sound end (same_end is) past = subst (IsPast n) (sym is) past
past_next opening n e next sound end (one_step reading answer answered is) past =
    subst (IsPast n) (sym is)
    (past_on n e (left_by e reading answer) (end_follows opening e sound end)
    (end_follows opening (left_by e reading answer) sound (end_left opening e reading answer end answered)) (left_draws e reading answer end.rises) past)

past_seen : (opening : Opening) (n : ℕ) (e : RunEnd) (later : List RunEnd) → AreSettings opening.settings → IsEnd opening e → AreNext e later →
    IsPast n e → last_seen n later ≡ None
past_seen opening n e [] sound end next past = refl
past_seen opening n e (one ∷ later) sound end next past =
    let there = past_next opening n e one sound end next.0 past in
    ap (λ (o : Option Whole). later_of (seen n one) o) (past_seen opening n one later sound (next_end opening e one end next.0) next.1 there)
    ∙ ap seen_in there.gone

-- the log is later on what it was, and more
next_later : (opening : Opening) (n : ℕ) (e next : RunEnd) (log new : WholeLog) → AreSettings opening.settings → IsEnd opening e → IsNext e next →
    log_at e.logs n ≡ Some log → log_at next.logs n ≡ Some new → IsLater log.whole new.whole
next_later opening n e next log new sound end (same_end is) live found =
    stays_there n log e.logs live new (sym (ap (λ (x : RunEnd). log_at x.logs n) is) ∙ found)
next_later opening n e next log new sound end (one_step reading answer answered is) live found =
    left_later n log new e reading answer live (are_found e (end_follows opening e sound end) end.rises)
    (sym (ap (λ (x : RunEnd). log_at x.logs n) is) ∙ found)

later_whole : (w : Whole) (a : AnyWhole) → IsLater (whole w) a → (v : Whole) × (a ≡ whole v) × IsMore w v
later_whole w (whole v) more = (v, refl, more)
later_whole w (rebuilt r) more = absurd more

seen_whole : (n : ℕ) (e : RunEnd) (log : WholeLog) (w : Whole) → log_at e.logs n ≡ Some log → log.whole ≡ whole w → seen n e ≡ Some w
seen_whole n e log w live is = ap seen_in live ∙ ap frames_in is

last_by : (w v last : Whole) (o : Option Whole) → IsMore w v → ((x : Whole) → o ≡ Some x → IsMore v x) → later_of (Some v) o ≡ Some last → IsMore w last
last_by w v last None more rest is = let same : v ≡ last = cc is in subst (IsMore w) same more
last_by w v last (Some x) more rest is = let same : x ≡ last = cc is in subst (IsMore w) same (more_later w v x more (rest x refl))

-- at the next end it is there, or went
data IsStillThere (n : ℕ) (w : Whole) (next : RunEnd) : Type 0 where
  went_away : log_at next.logs n ≡ None → IsStillThere n w next
  still_there : (log : WholeLog) (v : Whole) → log_at next.logs n ≡ Some log → log.whole ≡ whole v → IsMore w v → IsStillThere n w next

there_by : (opening : Opening) (n : ℕ) (e next : RunEnd) (log : WholeLog) (w : Whole) (o : Option WholeLog) → AreSettings opening.settings →
    IsEnd opening e → IsNext e next → log_at e.logs n ≡ Some log → log.whole ≡ whole w → log_at next.logs n ≡ o → IsStillThere n w next
there_by opening n e next log w None sound end one live is found = went_away found
there_by opening n e next log w (Some new) sound end one live is found =
    let more = later_whole w new.whole
    (subst (λ (a : AnyWhole). IsLater a new.whole) is (next_later opening n e next log new sound end one live found)) in
    still_there new more.0 found more.1 more.2

-- the number that was drawn last does not fall
low_on : (opening : Opening) (n : ℕ) (e next : RunEnd) → IsEnd opening e → IsNext e next → n ≤ e.registry.last_number → n ≤ next.registry.last_number
low_on opening n e next end (same_end is) low = subst (λ (x : RunEnd). n ≤ x.registry.last_number) (sym is) low
low_on opening n e next end (one_step reading answer answered is) low =
    let up = (left_draws e reading answer end.rises).last in
    subst (λ (x : RunEnd). n ≤ x.registry.last_number) (sym is) (omega (arith, up, low))

lasts : (opening : Opening) (n : ℕ) (e : RunEnd) (later : List RunEnd) (log : WholeLog) (w last : Whole) → AreSettings opening.settings →
    IsEnd opening e → AreNext e later → log_at e.logs n ≡ Some log → log.whole ≡ whole w → last_seen n later ≡ Some last → IsMore w last
lasts opening n e [] log w last sound end next live is seen' = absurd (cc seen')
lasts opening n e (one ∷ later) log w last sound end next live is seen' =
    let there = there_by opening n e one log w (log_at one.logs n) sound end next.0 live is refl in
    let end' = next_end opening e one end next.0 in
    elim there [
      | went_away none ↦
          (let past : IsPast n one = (record {
            drawn = (let low = drawn_at n log e (end_follows opening e sound end) end.rises live in low_on opening n e one end next.0 low);
            gone = none;
          }) in
          let nothing : last_seen n (one ∷ later) ≡ None =
          ap (λ (o : Option Whole). later_of (seen n one) o) (past_seen opening n one later sound end' next.1 past) ∙ ap seen_in none in
          absurd (cc (sym nothing ∙ seen')))
      | still_there new v found whole' more ↦
          last_by w v last (last_seen n later) more
          (λ x is'. lasts opening n one later new v x sound end' next.1 found whole' is')
          (ap (λ (o : Option Whole). later_of o (last_seen n later)) (sym (seen_whole n one new v found whole')) ∙ seen')
    ]

-- ---- all its frames

-- if anything is last seen it is that
abbrev IsAllOf : Ident → List Frame → ℕ → List RunEnd → Type 0
IsAllOf i all n ends = (last : Whole) → last_seen n ends ≡ Some last → (last.ident ≡ i) × (last.frames ≡ all)

all_behind : (i : Ident) (all : List Frame) (n : ℕ) (e : RunEnd) (later : List RunEnd) → IsAllOf i all n (e ∷ later) → IsAllOf i all n later
all_behind i all n e later is last found = is last (ap (later_of (seen n e)) found)

part_by : (opening : Opening) (i : Ident) (all : List Frame) (n : ℕ) (e : RunEnd) (later : List RunEnd) (log : WholeLog) (w : Whole) (o : Option Whole) →
    AreSettings opening.settings → IsEnd opening e → AreNext e later → IsAllOf i all n (e ∷ later) → log_at e.logs n ≡ Some log → log.whole ≡ whole w →
    last_seen n later ≡ o → IsPart i all w
part_by opening i all n e later log w None sound end next is live whole' found =
    let this = is w (ap (λ (o : Option Whole). later_of (seen n e) o) found ∙ seen_whole n e log w live whole') in
    record { ident = this.0; later = []; frames = sym this.1 ∙ sym (append-nil w.frames) }
part_by opening i all n e later log w (Some last) sound end next is live whole' found =
    let this = is last (ap (λ (o : Option Whole). later_of (seen n e) o) found) in
    let more = lasts opening n e later log w last sound end next live whole' found in
    record { ident = sym more.ident ∙ this.0; later = more.more; frames = sym this.1 ∙ more.frames }

only_by : (opening : Opening) (i : Ident) (all : List Frame) (n : ℕ) (e : RunEnd) (later : List RunEnd) (log : WholeLog) (a : AnyWhole) →
    AreSettings opening.settings → IsEnd opening e → AreNext e later → IsAllOf i all n (e ∷ later) → log_at e.logs log.source ≡ Some log → log.whole ≡ a →
    IsSoleOf i n log.source a → OverUdp i all a
only_by opening i all n e later log (whole w) sound end next is live whole' sole = λ udp session stream.
    (let number = sole udp session stream in
    part_by opening i all n e later log w (last_seen n later) sound end next is (ap (log_at e.logs) (sym number) ∙ live) whole' refl)
only_by opening i all n e later log (rebuilt r) sound end next is live whole' sole = tt

all_both : (P Q R : WholeLog → Type 0) (logs : List WholeLog) → ((log : WholeLog) → P log → Q log → R log) → All P logs → All Q logs → All R logs
all_both P Q R [] both ps qs = All-nil R
all_both P Q R (log ∷ logs) both ps qs =
    All-cons R log logs (both log (All-head P log logs ps) (All-head Q log logs qs))
    (all_both P Q R logs both (All-tail P log logs ps) (All-tail Q log logs qs))

end_only : (opening : Opening) (i : Ident) (all : List Frame) (n : ℕ) (e : RunEnd) (later : List RunEnd) → AreSettings opening.settings →
    AreSettingsOf32Bits opening.settings → IsEnd opening e → AreNext e later → IsAllOf i all n (e ∷ later) → AreSole i n e →
    All (IsOverUdp i all) e.logs
end_only opening i all n e later sound fit end next is sole =
    all_both (λ (log : WholeLog). log_at e.logs log.source ≡ Some log) (IsSole i n) (IsOverUdp i all) e.logs
    (λ log live one. record {
      only = only_by opening i all n e later log log.whole sound end next is live refl one;
      fit = fit_of log.source e log (end_follows opening e sound end) (end_fits opening e fit end) live;
    })
    (are_found e (end_follows opening e sound end) end.rises) sole

ends_only : (opening : Opening) (i : Ident) (all : List Frame) (n : ℕ) (e : RunEnd) (later : List RunEnd) → AreSettings opening.settings →
    AreSettingsOf32Bits opening.settings → IsEnd opening e → AreNext e later → IsAllOf i all n (e ∷ later) → All (AreSole i n) (e ∷ later) →
    All (λ (end : RunEnd). All (IsOverUdp i all) end.logs) (e ∷ later)
ends_only opening i all n e [] sound fit end next is sole =
    All-cons (λ (x : RunEnd). All (IsOverUdp i all) x.logs) e []
    (end_only opening i all n e [] sound fit end next is (All-head (AreSole i n) e [] sole)) (All-nil (λ (x : RunEnd). All (IsOverUdp i all) x.logs))
ends_only opening i all n e (one ∷ later) sound fit end next is sole =
    All-cons (λ (x : RunEnd). All (IsOverUdp i all) x.logs) e (one ∷ later)
    (end_only opening i all n e (one ∷ later) sound fit end next is (All-head (AreSole i n) e (one ∷ later) sole))
    (ends_only opening i all n one later sound fit (next_end opening e one end next.0) next.1 (all_behind i all n e (one ∷ later) is)
    (All-tail (AreSole i n) e (one ∷ later) sole))

-- ---- what was last seen is sound

abbrev IsSoundWhole : Whole → Type 0
IsSoundWhole w = IsFit w.ident × IsWell w

log_sound : (a : AnyWhole) (last : Whole) → Rattle.two_drivers.proofs.SentLemmas.WellIf a → IsFitLog a → frames_in a ≡ Some last → IsSoundWhole last
log_sound (whole w) last well fit is = let same : w ≡ last = cc is in subst IsSoundWhole same (fit, well fit)
log_sound (rebuilt r) last well fit is = absurd (cc is)

seen_sound : (n : ℕ) (e : RunEnd) (last : Whole) (o : Option WholeLog) → Follows e → HasNumbersOf32Bits e.registry → log_at e.logs n ≡ o →
    All WellLog e.logs → seen_in o ≡ Some last → IsSoundWhole last
seen_sound n e last None follows numbers found well is = absurd (cc is)
seen_sound n e last (Some log) follows numbers found well is =
    log_sound log.whole last (found_log WellLog n log e.logs well found).holds (fit_of n e log follows numbers found) is

last_sound : (opening : Opening) (n : ℕ) (e : RunEnd) (later : List RunEnd) (last : Whole) (o : Option Whole) → AreSettings opening.settings →
    AreSettingsOf32Bits opening.settings → IsEnd opening e → AreNext e later → last_seen n later ≡ o → later_of (seen n e) o ≡ Some last →
    IsSoundWhole last
last_sound opening n e later last None sound fit end next found is =
    seen_sound n e last (log_at e.logs n) (end_follows opening e sound end) (end_fits opening e fit end) refl end.well is
last_sound opening n e [] last (Some x) sound fit end next found is = absurd (cc found)
last_sound opening n e (one ∷ later) last (Some x) sound fit end next found is =
    last_sound opening n one later last (last_seen n later) sound fit (next_end opening e one end next.0) next.1 refl (found ∙ is)

-- ---- two worlds

second_same : (e : TwoEnds) (answer : Answer) (o : Option Reading) →
    (after_second e o answer).first.driver ≡ e.first.driver
second_same e answer None = refl
second_same e answer (Some reading) = refl

none_next : (e : RunEnd) → AreNext e []
none_next e = tt

world_next : (e : TwoEnds) (step : PairStep) (answer : Answer) → IsAnswerToBoth e step answer → IsNext e.first.driver (after_both e step answer).first.driver
world_next e (A reading) answer answered =
    elim (world_went e.first reading answer answered) [
      | stayed same silent ↦ same_end same
      | went r like seen told leaves ↦ one_step r answer told leaves
    ]
world_next e (B reading) answer answered = same_end (second_same e answer (step_of_second e (B reading)))
world_next e (Deliver sent now view) answer answered = same_end (second_same e answer (step_of_second e (Deliver sent now view)))

worlds_next : (e : TwoEnds) (steps : List PairStep) (answers : List Answer) (more : List RunEnd) → AreAnswersOfBoth e steps answers →
    AreNext (end_of_both e steps answers).first.driver more → AreNext e.first.driver (firsts_after e steps answers ++ more)
worlds_next e [] answers more are next = next
worlds_next e (step ∷ steps) [] more are next = absurd are
worlds_next e (step ∷ steps) (answer ∷ answers) more are next =
    (world_next e step answer are.0, worlds_next (after_both e step answer) steps answers more are.1 next)

-- of two lists of ends, both
first_part : (P : RunEnd → Type 0) (xs ys : List RunEnd) → All P (xs ++ ys) → All P xs
first_part P [] ys all = All-nil P
first_part P (x ∷ xs) ys all = All-cons P x xs (All-head P x (xs ++ ys) all) (first_part P xs ys (All-tail P x (xs ++ ys) all))

second_part : (P : RunEnd → Type 0) (xs ys : List RunEnd) → All P (xs ++ ys) → All P ys
second_part P [] ys all = all
second_part P (x ∷ xs) ys all = second_part P xs ys (All-tail P x (xs ++ ys) all)

end_holds : (P : RunEnd → Type 0) (e : TwoEnds) (steps : List PairStep) (answers : List Answer) → All P (e.first.driver ∷ firsts_after e steps answers) →
    P (end_of_both e steps answers).first.driver
end_holds P e [] answers all = All-head P e.first.driver [] all
end_holds P e (step ∷ steps) [] all = All-head P e.first.driver [] all
end_holds P e (step ∷ steps) (answer ∷ answers) all =
    end_holds P (after_both e step answer) steps answers (All-tail P e.first.driver (firsts_after e (step ∷ steps) (answer ∷ answers)) all)

opening_ends : (opening : Opening) → IsEnd opening (opening_end opening.settings opening.policy opening.peers)
opening_ends opening = record {
  readings = [];
  answers = [];
  are = tt;
  is = refl;
  rises = subst AreRising (sym (opening_is opening.settings opening.policy opening.peers)) (opened_rises opening.settings opening.policy opening.peers);
  well = opening_well opening.settings opening.policy opening.peers;
}

-- images of that session and stream are of the stream
-- ---- all that the first sends

-- the newest registry is what the events left
record IsWorldEnd (opening : Opening) (e : WorldEnd) : Type 0 where
  opened_is : e.past.opened ≡ opened opening.settings opening.policy opening.peers
  newest : IsNewest e

after_either : (P : WorldEnd → Type 0) (e : WorldEnd) (what : Moved) (answer : Answer) → P e → P what.after → P (after_by e what answer)
after_either P e what NoMemory same moves = same
after_either P e what answer same moves = moves

abbrev IsPastOf : Past → WorldEnd → Type 0
IsPastOf past e = e.past.opened ≡ past.opened

opened_cond : (e : WorldEnd) (b : Bool) (what : Moved) → IsPastOf e.past what.after → IsPastOf e.past (cond b (bad e) what).after
opened_cond e true what is = refl
opened_cond e false what is = is

opened_by : (e : WorldEnd) (actor : Actor) (view : Option ℕ) (step : Step) → IsPastOf e.past (moved_as e actor view step).after
opened_by e Conductor None step = refl
opened_by e Conductor (Some k) step = refl
opened_by e Sender view step = opened_cond e (is_out (newest_of e.past) (seat_of Sender e.seats) (view_or (newest_of e.past) view)) _ refl
opened_by e Receiver view step = opened_cond e (is_out (newest_of e.past) (seat_of Receiver e.seats) (view_or (newest_of e.past) view)) _ refl
opened_by e (Client id) view step = opened_cond e (is_out (newest_of e.past) (seat_of (Client id) e.seats) (view_or (newest_of e.past) view)) _ refl

world_end_after : (opening : Opening) (e : WorldEnd) (reading : Reading) (answer : Answer) → IsWorldEnd opening e → IsWorldEnd opening (after e reading answer)
world_end_after opening e reading answer end =
    after_either (IsWorldEnd opening) e (moved_as e (actor_of reading.step) reading.view reading.step) answer end
    (record {
      opened_is = opened_by e (actor_of reading.step) reading.view reading.step ∙ end.opened_is;
      newest = (goes_as e (actor_of reading.step) reading.view reading.step refl).newest end.newest;
    })

world_end_opening : (opening : Opening) → IsWorldEnd opening (world_opening opening.settings opening.policy opening.peers)
unfolding world_opening
world_end_opening opening = record { opened_is = refl; newest = opening_is opening.settings opening.policy opening.peers }

-- ---- worlds in which no event was taken yet

world_ends : (opening : Opening) (e : WorldEnd) (readings : List Reading) (answers : List Answer) → IsWorldEnd opening e →
    IsWorldEnd opening (world_end_of e readings answers)
world_ends opening e [] answers end = end
world_ends opening e (reading ∷ readings) [] end = end
world_ends opening e (reading ∷ readings) (answer ∷ answers) end =
    world_ends opening (after e reading answer) readings answers (world_end_after opening e reading answer end)

fresh_end : (opening : Opening) (e : WorldEnd) → IsFresh opening e → IsWorldEnd opening e
fresh_end opening e fresh =
    subst (IsWorldEnd opening) (sym fresh.is)
    (world_ends opening (world_opening opening.settings opening.policy opening.peers) fresh.readings fresh.answers (world_end_opening opening))

no_events : (events : List (Event × Inputs)) → length events ≡ 0 → events ≡ []
no_events [] none = refl
no_events (event ∷ events) none = absurd (cc none)

no_logs : (logs : List WholeLog) → map made_for logs ≡ [] → logs ≡ []
no_logs [] none = refl
no_logs (log ∷ logs) none = absurd (cc none)

fresh_registry : (opening : Opening) (e : WorldEnd) → IsFresh opening e → e.driver.registry ≡ opened opening.settings opening.policy opening.peers
fresh_registry opening e fresh =
    let end = fresh_end opening e fresh in
    end.newest ∙ ap₂ state_of end.opened_is (no_events e.past.taken fresh.none)

fresh_follows : (opening : Opening) (e : WorldEnd) → AreSettings opening.settings → IsFresh opening e → Follows e.driver
fresh_follows opening e sound fresh =
    let run = is_drivers_run opening.settings opening.policy opening.peers fresh.readings fresh.answers fresh.are in
    subst (λ (x : WorldEnd). Follows x.driver) (sym fresh.is)
    (subst Follows (sym run.ends) (ends_follow opening.settings opening.policy opening.peers run.readings run.given sound run.are))

opened_rows : (opening : Opening) (s : State) → s ≡ opened opening.settings opening.policy opening.peers → s.streams.sources ≡ []
unfolding opened
opened_rows opening s is = ap (λ (x : State). x.streams.sources) is

fresh_logs : (opening : Opening) (e : WorldEnd) → AreSettings opening.settings → IsFresh opening e → e.driver.logs ≡ []
fresh_logs opening e sound fresh =
    no_logs e.driver.logs
    ((fresh_follows opening e sound fresh).logs.made
    ∙ ap (map (made_as e.driver.registry.settings)) (opened_rows opening e.driver.registry (fresh_registry opening e fresh)))

-- its driver is as it was opened
fresh_driver : (opening : Opening) (e : WorldEnd) → AreSettings opening.settings → IsFresh opening e →
    e.driver ≡ opening_end opening.settings opening.policy opening.peers
unfolding opening_end
fresh_driver opening e sound fresh =
    ap₂ (λ (s : State) (logs : List WholeLog). let end : RunEnd = record { registry = s; logs = logs } in end) (fresh_registry opening e fresh)
    (fresh_logs opening e sound fresh)

fresh_pair : (first second : Opening) (e : TwoEnds) → AreSettings first.settings → AreSettings second.settings → AreFresh first second e →
    drivers_of e ≡ opening_pair first second
fresh_pair first second e sound settings fresh =
    ap₂ (λ (d : RunEnd) (other : RunEnd). let pair : PairEnd = record { first = d; second = other; sent = e.sent } in pair)
    (fresh_driver first e.first sound fresh.first) (fresh_driver second e.second settings fresh.second)
    ∙ ap (λ (sent : List Datagram). let pair : PairEnd = record {
      first = opening_end first.settings first.policy first.peers;
      second = opening_end second.settings second.policy second.peers;
      sent = sent;
    } in pair) fresh.sent

-- the first of the two
second_world : (opening : Opening) (e : TwoEnds) (answer : Answer) (o : Option Reading) → IsWorldEnd opening e.first → IsWorldEnd opening (after_second e o answer).first
second_world opening e answer None end = end
second_world opening e answer (Some reading) end = end

both_world : (opening : Opening) (e : TwoEnds) (step : PairStep) (answer : Answer) → IsWorldEnd opening e.first → IsWorldEnd opening (after_both e step answer).first
both_world opening e (A reading) answer end = world_end_after opening e.first reading answer end
both_world opening e (B reading) answer end = second_world opening e answer (step_of_second e (B reading)) end
both_world opening e (Deliver sent now view) answer end = second_world opening e answer (step_of_second e (Deliver sent now view)) end

-- whichever registry its actor looks at
taken_parts : (k : ℕ) (events : List (Event × Inputs)) → events ≡ take k events ++ drop k events
taken_parts k events = sym (take-append-drop k events)

asked_older : (opening : Opening) (i : Ident) (all : List Frame) (e : WorldEnd) (k : ℕ) (b : Bool) → Follows e.driver → All (IsOverUdp i all) e.driver.logs →
    IsWorldEnd opening e → IsAsked i all (read_by e.driver (cond b None (Some (registry_at e.past k)))) e.driver
asked_older opening i all e k true follows over end =
    asked opening i all e.past.taken [] e.driver.registry e.driver follows over
    (end.newest ∙ ap (λ (s : State). state_of s e.past.taken) end.opened_is) refl
asked_older opening i all e k false follows over end =
    asked opening i all (take k e.past.taken) (drop k e.past.taken) (registry_at e.past k) e.driver follows over
    (ap (λ (s : State). state_of s (take k e.past.taken)) end.opened_is)
    (end.newest ∙ ap (state_of e.past.opened) (taken_parts k e.past.taken) ∙ state_of_both e.past.opened (take k e.past.taken) (drop k e.past.taken))

asked_seen : (opening : Opening) (i : Ident) (all : List Frame) (e : WorldEnd) (o : Option State) → Follows e.driver → All (IsOverUdp i all) e.driver.logs →
    IsWorldEnd opening e → IsSeen e.past o → IsAsked i all (read_by e.driver o) e.driver
asked_seen opening i all e o follows over end (the_newest is) =
    subst (λ (x : Option State). IsAsked i all (read_by e.driver x) e.driver) (sym is) (asked_older opening i all e 0 true follows over end)
asked_seen opening i all e o follows over end (an_older k is) =
    subst (λ (x : Option State). IsAsked i all (read_by e.driver x) e.driver) (sym is)
    (asked_older opening i all e k (k == newest_of e.past) follows over end)

step_good : (opening : Opening) (i : Ident) (all : List Frame) (e : TwoEnds) (step : PairStep) (answer : Answer) → AreSettings opening.settings →
    IsEnd opening e.first.driver → IsWorldEnd opening e.first → All (IsOverUdp i all) e.first.driver.logs → IsAnswerToBoth e step answer →
    SendsGood i all step answer
step_good opening i all e (A reading) answer sound end world over answered =
    went_sends i all e.first reading answer (world_went e.first reading answer answered)
    (λ r seen told.
    step_sends i all e.first.driver r answer told end.well over
    (asked_seen opening i all e.first r.older (end_follows opening e.first.driver sound end) over world seen))
step_good opening i all e (B reading) answer sound end world over answered = tt
step_good opening i all e (Deliver sent now view) answer sound end world over answered = tt

abbrev OverAll : Ident → List Frame → RunEnd → Type 0
OverAll i all e = All (IsOverUdp i all) e.logs

steps_good : (opening : Opening) (i : Ident) (all : List Frame) (e : TwoEnds) (steps : List PairStep) (answers : List Answer) → AreSettings opening.settings →
    IsEnd opening e.first.driver → IsWorldEnd opening e.first → All (OverAll i all) (e.first.driver ∷ firsts_after e steps answers) →
    AreAnswersOfBoth e steps answers → AreSentGood i all steps answers
steps_good opening i all e [] answers sound end world over are = tt
steps_good opening i all e (step ∷ steps) [] sound end world over are = tt
steps_good opening i all e (step ∷ steps) (answer ∷ answers) sound end world over are =
    let rest : List RunEnd = firsts_after e (step ∷ steps) (answer ∷ answers) in (
      step_good opening i all e step answer sound end world (All-head (OverAll i all) e.first.driver rest over) are.0,
      steps_good opening i all (after_both e step answer) steps answers sound
          (next_end opening e.first.driver (after_both e step answer).first.driver end (world_next e step answer are.0))
          (both_world opening e step answer world) (All-tail (OverAll i all) e.first.driver rest over) are.1,
    )

record IsEndOfBoth (opening : Opening) (e : TwoEnds) : Type 0 where
  end : IsEnd opening e.first.driver
  world : IsWorldEnd opening e.first

ends_of_both : (opening : Opening) (e : TwoEnds) (steps : List PairStep) (answers : List Answer) → AreAnswersOfBoth e steps answers → IsEndOfBoth opening e →
    IsEndOfBoth opening (end_of_both e steps answers)
ends_of_both opening e [] answers are is = is
ends_of_both opening e (step ∷ steps) [] are is = is
ends_of_both opening e (step ∷ steps) (answer ∷ answers) are is =
    ends_of_both opening (after_both e step answer) steps answers are.1
    (record {
      end = next_end opening e.first.driver (after_both e step answer).first.driver is.end (world_next e step answer are.0);
      world = both_world opening e step answer is.world;
    })

-- ---- the promise

reads_there : (i : Ident) (all : List Frame) (opening : Opening) (source subscription : ℕ) (e : TwoEnds) (steps : List PairStep) (answers : List Answer) →
    0 < i.term_length → IsLine i.term_length i.start (line_of i i.start all) → AreSettings opening.settings → Holds i all opening (drivers_of e) →
    AreSentGood i all steps answers → AreAnswersOfBoth e steps answers → AtEach (HasPair i source subscription) e steps answers →
    AtEach (ReadsThere i source subscription) e steps answers
reads_there i all opening source subscription e [] answers some is sound holds sends are read =
    reads_of i source subscription e.second.driver (named_second i all opening (drivers_of e) sound holds)
    (pair_read i source subscription e.second.driver (reached_follows i all opening e.second.driver sound holds.reached) read)
reads_there i all opening source subscription e (step ∷ steps) [] some is sound holds sends are read =
    reads_of i source subscription e.second.driver (named_second i all opening (drivers_of e) sound holds)
    (pair_read i source subscription e.second.driver (reached_follows i all opening e.second.driver sound holds.reached) read)
reads_there i all opening source subscription e (step ∷ steps) (answer ∷ answers) some is sound holds sends are read = (
  reads_of i source subscription e.second.driver (named_second i all opening (drivers_of e) sound holds)
      (pair_read i source subscription e.second.driver (reached_follows i all opening e.second.driver sound holds.reached) read.0),
  reads_there i all opening source subscription (after_both e step answer) steps answers some is sound
      (both_held i all opening e step answer some is sound holds sends.0 are.0) sends.1 are.1 read.1,
)

pub publication_run : SecondGivesARunOfThePublication
publication_run first second start before earlier steps answers publication source subscription last sound fit settings fresh were are seen' sole read =
    let e : TwoEnds = end_of_both start before earlier in
    let i : Ident = last.ident in
    let all : List Frame = last.frames in
    let befores : List RunEnd = firsts_after start before earlier in
    let afters : List RunEnd = firsts_after e steps answers in
    let P : RunEnd → Type 0 = OverAll i all in
    let end = subst (IsEnd first) (sym (fresh_driver first start.first sound fresh.first)) (opening_ends first) in
    let holds : Holds i all second (drivers_of start) =
    subst (Holds i all second) (sym (fresh_pair first second start sound settings fresh)) (opening_holds i all first second) in
    let last_next : AreNext e.first.driver afters =
    subst (AreNext e.first.driver) (append-nil afters) (worlds_next e steps answers [] are (none_next (end_of_both e steps answers).first.driver)) in
    let next : AreNext start.first.driver (befores ++ afters) = worlds_next start before earlier afters were last_next in
    let fine = last_sound first publication start.first.driver (befores ++ afters) last (last_seen publication (befores ++ afters)) sound fit end next refl seen' in
    let is : IsAllOf i all publication (start.first.driver ∷ befores ++ afters) =
    (λ other found. (let same : last ≡ other = cc (sym seen' ∙ found) in
    (ap (λ (w : Whole). w.ident) (sym same), ap (λ (w : Whole). w.frames) (sym same)))) in
    let only = ends_only first i all publication start.first.driver (befores ++ afters) sound fit end next is sole in
    let only_before = first_part P (start.first.driver ∷ befores) afters only in
    let only_after = All-cons P e.first.driver afters (end_holds P start before earlier only_before) (second_part P (start.first.driver ∷ befores) afters only) in
    let at_start : IsEndOfBoth first start = record { end = end; world = fresh_end first start.first fresh.first } in
    let at_end = ends_of_both first start before earlier were at_start in
    let sent_before = steps_good first i all start before earlier sound end at_start.world only_before were in
    let sent_after = steps_good first i all e steps answers sound at_end.end at_end.world only_after are in
    let low = fine.0.sizes.term_low in
    let some : 0 < i.term_length = omega (arith, low) in
    let line = line_is i i.start all fine.1.run in
    world_sends i all second start before earlier steps answers source subscription some fine.1.run settings holds were sent_before are sent_after
    (reads_there i all second source subscription e steps answers some line settings
    (run_held i all second start before earlier some line settings holds sent_before were) sent_after are read)

-- ---- what both worlds are answered

parts_answered : (e : TwoEnds) (steps more : List PairStep) (answers given : List Answer) → length steps ≡ length answers →
    AreAnswersOfBoth e (steps ++ more) (answers ++ given) →
    AreAnswersOfBoth e steps answers × AreAnswersOfBoth (end_of_both e steps answers) more given
parts_answered e [] more [] given same are = (tt, are)
parts_answered e [] more (answer ∷ answers) given same are = absurd (cc same)
parts_answered e (step ∷ steps) more [] given same are = absurd (cc same)
parts_answered e (step ∷ steps) more (answer ∷ answers) given same are =
    let rest = parts_answered (after_both e step answer) steps more answers given (cc same) are.1 in ((are.0, rest.0), rest.1)

pub run_gives : RunGivesARunOfThePublication
run_gives first second held start before earlier steps answers more others publication source subscription last sound fit settings fresh stands answered same
    same' seen' sole read =
    let both = parts_answered start before (steps ++ more) earlier (answers ++ others) same (answered.on start stands) in
    let there = parts_answered (end_of_both start before earlier) steps more answers others same' both.1 in
    publication_run first second start before earlier steps answers publication source subscription last sound fit settings fresh both.0 there.0 seen' sole read
