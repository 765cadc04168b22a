-- What holds of two drivers holds of two worlds.
use Rattle.std.proofs.Common.{◌≡◌, max, ℕ, ◌<◌, Bool, true, false, cond, List, [], ◌∷◌, ◌++◌, Option, Some, None, refl, sym, ap, ◌∙◌, subst, append_assoc}
use Rattle.std.specs.List.{All}
use Rattle.std.proofs.lemmas.List.{append-nil}
use Rattle.std.proofs.lemmas.List.Elements.{All-nil}
use Rattle.channel_uri.specs.declared.address.Address.{Address}
use Rattle.driver_core.specs.Soundness.{AreSettings}
use Rattle.driver_core.specs.State.{State}
use Rattle.log_steps.specs.declared.answer.Answer.{Answer}
use Rattle.log_steps.specs.declared.answer.Answer.TheVariants.{BadStep, NoMemory}
use Rattle.driver_steps.specs.declared.step.Step.{Step}
use Rattle.driver_steps.specs.declared.step.Step.TheVariants.{Conductor as Conducts, Packet, Offer as Offers, Poll as Polls, Image, List as Lists, Send, Value}
use Rattle.driver_steps.specs.Ends.{RunEnd as DriverEnd, IsAnswerOf as IsDriverAnswer, after_by as driver_after, moved_by}
use Rattle.driver_steps.specs.Runs.{Reading as DriverReading, IsAnswerTo, left_by, read_by}
use Rattle.driver_world.specs.declared.actor.Actor.{Actor}
use Rattle.driver_world.specs.declared.actor.Actor.TheVariants.{Client, Conductor, Receiver, Sender}
use Rattle.driver_world.specs.declared.reading.Reading.{Reading}
use Rattle.driver_world.specs.Ends.{RunEnd, Moved, IsAnswer, IsAnswerOf, after, after_by, bad, looked, looked_at, moved, moved_as, opening_end}
use Rattle.driver_world.specs.Views.{Past, actor_of, at_moment, is_out, newest_of, older_at, seat_of, view_or}
use Rattle.driver_world.proofs.AnswerLemmas.{by_answer}
use Rattle.image_log.specs.Frame.{Frame as Kept}
use Rattle.log_pairs.specs.Polling.{Fetched}
use Rattle.two_drivers.specs.Line.{IsLine, IsRunOf, IsRunTo, line_of}
use Rattle.two_drivers.proofs.ReadingLemmas.{line_is}
use Rattle.two_drivers.proofs.RunLemmas.{lines_run}
use Rattle.term_log.specs.declared.ident.Ident.{Ident}
use Rattle.term_log.specs.Frames.{Frame, IsRun as AreSound}
use Rattle.two_drivers.specs.Drivers.{Opening, PairEnd, is_quiet, numbered}
use Rattle.two_drivers.specs.Given.{IsGood, IsGoodStep}
use Rattle.two_drivers.specs.Polling.{IsRun, Reads, polled_by}
use Rattle.two_drivers.specs.Sent.{Datagram, sent_by}
use Rattle.two_drivers.specs.declared.pair_step.PairStep.{PairStep}
use Rattle.two_drivers.specs.declared.pair_step.PairStep.TheVariants.{A, B, Deliver}
use Rattle.two_drivers.specs.Worlds.{AreAnswersOfBoth, AtEach, IsAnswerOfSecond, IsAnswerToBoth, OnlyPublication, ReadsThere, SecondWorldGivesARun, TwoEnds, after_both, after_second, coming, end_of_both, opening_both, polled_of, polled_of_all, step_of_second}
use Rattle.two_drivers.proofs.DriversLemmas.{Behind, Holds, bad_polled, first_behind, held_first, held_second, numbered_good, opening_holds, quiet_good, second_behind}
use Rattle.two_drivers.proofs.SentLemmas.{AllGood, WellLog, step_sent, step_well}
use Rattle.two_drivers.proofs.PollingLemmas.{none_given, none_polled, put_goes}

-- ---- a step of a world is one of its driver, or none

-- the same step, at a moment that may be later
pub data IsLike (a b : Step) : Type 0 where
  same : b ≡ a → IsLike a b
  later : (moment : ℕ) → b ≡ at_moment moment a → IsLike a b

-- it sends and gives nothing
pub record IsSilentAnswer (answer : Answer) : Type 0 where
  pub sent : sent_by answer ≡ []
  pub gives : (source subscription : ℕ) (step : Step) → polled_by source subscription step answer ≡ []

-- the newest registry, or one of its past
pub data IsSeen (past : Past) (o : Option State) : Type 0 where
  the_newest : o ≡ None → IsSeen past o
  an_older : (k : ℕ) → o ≡ older_at past k → IsSeen past o

pub data Went (e : RunEnd) (reading : Reading) (answer : Answer) : Type 0 where
  stayed : (after e reading answer).driver ≡ e.driver → IsSilentAnswer answer → Went e reading answer
  went : (r : DriverReading) → IsLike reading.step r.step → IsSeen e.past r.older → IsAnswerTo e.driver r answer → (after e reading answer).driver ≡ left_by e.driver r answer → Went e reading answer

-- what is moved is nothing, or what the driver moves
data OfDriver (e : RunEnd) (step : Step) (what : Moved) : Type 0 where
  nothing : what ≡ bad e → OfDriver e step what
  moves : (r : DriverReading) → IsLike step r.step → IsSeen e.past r.older → what.answer ≡ (moved_by (read_by e.driver r.older) e.driver r.step).answer →
      what.after.driver ≡ (moved_by (read_by e.driver r.older) e.driver r.step).after → OfDriver e step what

of_cond : (e : RunEnd) (step : Step) (b : Bool) (what : Moved) → OfDriver e step what → OfDriver e step (cond b (bad e) what)
of_cond e step true what of = nothing refl
of_cond e step false what of = of

of_looked : (e : RunEnd) (actor : Actor) (k : ℕ) (step : Step) → OfDriver e step (looked_at e actor k step)
of_looked e actor k step =
    of_cond e step (is_out (newest_of e.past) (seat_of actor e.seats) k) (looked e actor k (at_moment (seat_of actor e.seats).moment step))
    (moves (record { older = older_at e.past k; step = at_moment (seat_of actor e.seats).moment step }) (later (seat_of actor e.seats).moment refl)
    (an_older k refl) refl refl)

of_moved : (e : RunEnd) (actor : Actor) (view : Option ℕ) (step : Step) → OfDriver e step (moved_as e actor view step)
of_moved e Conductor None step = moves (record { older = None; step = step }) (same refl) (the_newest refl) refl refl
of_moved e Conductor (Some k) step = nothing refl
of_moved e Sender view step = of_looked e Sender (view_or (newest_of e.past) view) step
of_moved e Receiver view step = of_looked e Receiver (view_or (newest_of e.past) view) step
of_moved e (Client id) view step = of_looked e (Client id) (view_or (newest_of e.past) view) step

none_silent : IsSilentAnswer NoMemory
none_silent = record { sent = refl; gives = none_polled }

bad_silent : IsSilentAnswer BadStep
bad_silent = record { sent = refl; gives = bad_polled }

went_nowhere : (e : RunEnd) (answer : Answer) → IsAnswerOf (bad e) answer → ((after_by e (bad e) answer).driver ≡ e.driver) × IsSilentAnswer answer
went_nowhere e answer is =
    by_answer (λ a. IsAnswerOf (bad e) a → ((after_by e (bad e) a).driver ≡ e.driver) × IsSilentAnswer a)
    (λ is'. (refl, none_silent))
    (λ one other is'. (
      ap (λ (end : RunEnd). end.driver) (other.left e (bad e)),
      subst IsSilentAnswer (sym (other.worlds (bad e) is')) bad_silent,
    ))
    answer is

went_on : (e : RunEnd) (what : Moved) (r : DriverReading) (answer : Answer) → what.answer ≡ (moved_by (read_by e.driver r.older) e.driver r.step).answer →
    what.after.driver ≡ (moved_by (read_by e.driver r.older) e.driver r.step).after → IsAnswerOf what answer →
    IsAnswerTo e.driver r answer × ((after_by e what answer).driver ≡ left_by e.driver r answer)
went_on e what r answer told leaves is =
    by_answer (λ a. IsAnswerOf what a → IsDriverAnswer (moved_by (read_by e.driver r.older) e.driver r.step) a
    × ((after_by e what a).driver ≡ driver_after e.driver (moved_by (read_by e.driver r.older) e.driver r.step) a))
    (λ is'. (tt, refl))
    (λ one other is'. (
      other.for_driver (moved_by (read_by e.driver r.older) e.driver r.step) (other.worlds what is' ∙ told),
      ap (λ (end : RunEnd). end.driver) (other.left e what) ∙ leaves ∙ sym (other.driver_left e.driver (moved_by (read_by e.driver r.older) e.driver r.step)),
    ))
    answer is

went_by : (e : RunEnd) (reading : Reading) (answer : Answer) → OfDriver e reading.step (moved e reading) → IsAnswer e reading answer → Went e reading answer
went_by e reading answer (nothing none) is =
    let x = went_nowhere e answer (subst (λ (what : Moved). IsAnswerOf what answer) none is) in
    stayed (ap (λ (what : Moved). (after_by e what answer).driver) none ∙ x.0) x.1
went_by e reading answer (moves r like seen told leaves) is =
    let x = went_on e (moved e reading) r answer told leaves is in
    went r like seen x.0 x.1

pub world_went : (e : RunEnd) (reading : Reading) (answer : Answer) → IsAnswer e reading answer → Went e reading answer
world_went e reading answer is = went_by e reading answer (of_moved e (actor_of reading.step) reading.view reading.step) is

-- ---- a later moment changes neither what comes nor what is polled

good_later : (i : Ident) (line : List Kept) (moment : ℕ) (step : Step) → IsGoodStep i line step → IsGoodStep i line (at_moment moment step)
good_later i line moment (Conducts event) good = good
good_later i line moment (Packet now local from bytes) good = good
good_later i line moment (Offers now client registration message) good = tt
good_later i line moment (Polls now client subscription source limit) good = tt
good_later i line moment (Send now source) good = tt
good_later i line moment (Image now source) good = tt
good_later i line moment (Lists now client) good = tt
good_later i line moment (Value now client number) good = tt

polled_any : (source subscription now other client number log limit : ℕ) (answer : Answer) →
    polled_by source subscription (Polls now client number log limit) answer ≡ polled_by source subscription (Polls other client number log limit) answer
polled_any source subscription now other client number log limit answer = by_answer
    (λ a. polled_by source subscription (Polls now client number log limit) a ≡ polled_by source subscription (Polls other client number log limit) a)
    refl (λ one is. refl) answer

polled_later : (source subscription moment : ℕ) (step : Step) (answer : Answer) →
    polled_by source subscription (at_moment moment step) answer ≡ polled_by source subscription step answer
polled_later source subscription moment (Conducts event) answer = refl
polled_later source subscription moment (Packet now local from bytes) answer = refl
polled_later source subscription moment (Offers now client registration message) answer = refl
polled_later source subscription moment (Polls now client number log limit) answer =
    polled_any source subscription (max now moment) now client number log limit answer
polled_later source subscription moment (Send now number) answer = refl
polled_later source subscription moment (Image now number) answer = refl
polled_later source subscription moment (Lists now client) answer = refl
polled_later source subscription moment (Value now client number) answer = refl

like_good : (i : Ident) (line : List Kept) (a b : Step) → IsLike a b → IsGoodStep i line a → IsGoodStep i line b
like_good i line a b (same is) good = subst (IsGoodStep i line) (sym is) good
like_good i line a b (later moment is) good = subst (IsGoodStep i line) (sym is) (good_later i line moment a good)

like_polled : (source subscription : ℕ) (a b : Step) (answer : Answer) → IsLike a b →
    polled_by source subscription a answer ≡ polled_by source subscription b answer
like_polled source subscription a b answer (same is) = ap (λ (s : Step). polled_by source subscription s answer) (sym is)
like_polled source subscription a b answer (later moment is) =
    sym (polled_later source subscription moment a answer) ∙ ap (λ (s : Step). polled_by source subscription s answer) (sym is)

-- ---- both

abbrev pub drivers_of : TwoEnds → PairEnd
drivers_of e = record { first = e.first.driver; second = e.second.driver; sent = e.sent }

-- where neither driver is another one now
still_behind : (i : Ident) (all : List Frame) (opening : Opening) (source subscription : ℕ) (so_far gives : List Fetched) (e end : PairEnd) →
    gives ≡ [] → end ≡ e → Holds i all opening e → (re : Reads i source subscription e.second) → IsRunTo (line_of i i.start all) re.at so_far →
    Behind i all opening source subscription (so_far ++ gives) end
still_behind i all opening source subscription so_far gives e end none same' holds re run =
    subst (Behind i all opening source subscription (so_far ++ gives)) (sym same')
    (record { holds = holds; goes = put_goes i (line_of i i.start all) source subscription so_far gives e.second e.second re none refl run })

first_went : (i : Ident) (all : List Frame) (opening : Opening) (source subscription : ℕ) (so_far : List Fetched) (e : TwoEnds) (reading : Reading)
    (answer : Answer) → Holds i all opening (drivers_of e) → AllGood i all (sent_by answer) →
    (re : Reads i source subscription e.second.driver) → IsRunTo (line_of i i.start all) re.at so_far → Went e.first reading answer →
    Behind i all opening source subscription (so_far ++ []) (drivers_of (after_both e (A reading) answer))
first_went i all opening source subscription so_far e reading answer holds sends re run (stayed same' silent) =
    still_behind i all opening source subscription so_far [] (drivers_of e) (drivers_of (after_both e (A reading) answer)) refl
    (ap (λ (d : DriverEnd). let p : PairEnd = record { first = d; second = e.second.driver; sent = e.sent ++ sent_by answer } in p) same'
    ∙ ap (λ (sent : List Datagram). let p : PairEnd = record { first = e.first.driver; second = e.second.driver; sent = sent } in p)
    (ap (λ (more : List Datagram). e.sent ++ more) silent.sent ∙ append-nil e.sent))
    holds re run
first_went i all opening source subscription so_far e reading answer holds sends re run (went r like seen told leaves) =
    subst (Behind i all opening source subscription (so_far ++ []))
    (ap (λ (d : DriverEnd). let p : PairEnd = record { first = d; second = e.second.driver; sent = e.sent ++ sent_by answer } in p) (sym leaves))
    (first_behind i all opening source subscription so_far (drivers_of e) r answer holds sends re run)

second_went : (i : Ident) (all : List Frame) (opening : Opening) (source subscription : ℕ) (so_far gives : List Fetched) (e : TwoEnds) (reading : Reading)
    (answer : Answer) → 0 < i.term_length → IsLine i.term_length i.start (line_of i i.start all) → AreSettings opening.settings →
    Holds i all opening (drivers_of e) → (re : Reads i source subscription e.second.driver) → IsRunTo (line_of i i.start all) re.at so_far →
    IsGoodStep i (line_of i i.start all) reading.step → gives ≡ polled_by source subscription reading.step answer → Went e.second reading answer →
    Behind i all opening source subscription (so_far ++ gives) (drivers_of (record e { second = after e.second reading answer }))
second_went i all opening source subscription so_far gives e reading answer some is sound holds re run good given (stayed same' silent) =
    still_behind i all opening source subscription so_far gives (drivers_of e) (drivers_of (record e { second = after e.second reading answer }))
    (given ∙ silent.gives source subscription reading.step)
    (ap (λ (d : DriverEnd). let p : PairEnd = record { first = e.first.driver; second = d; sent = e.sent } in p) same') holds re run
second_went i all opening source subscription so_far gives e reading answer some is sound holds re run good given (went r like seen told leaves) =
    subst (Behind i all opening source subscription (so_far ++ gives))
    (ap (λ (d : DriverEnd). let p : PairEnd = record { first = e.first.driver; second = d; sent = e.sent } in p) (sym leaves))
    (second_behind i all opening source subscription so_far gives (drivers_of e) answer (Some r) some is sound holds re run told
    (λ one found.
    (let same' : r ≡ one = cc found in
    subst (λ (x : DriverReading). IsGoodStep i (line_of i i.start all) x.step × (gives ≡ polled_by source subscription x.step answer)) same'
    (like_good i (line_of i i.start all) reading.step r.step like good, given ∙ like_polled source subscription reading.step r.step answer like)))
    (λ none. absurd (cc none)))

-- ---- what the second's step is

pub record IsFine (i : Ident) (all : List Frame) (source subscription : ℕ) (step : PairStep) (answer : Answer) (reading : Reading) : Type 0 where
  pub good : IsGoodStep i (line_of i i.start all) reading.step
  pub gives : polled_of source subscription step answer ≡ polled_by source subscription reading.step answer

own_fine : (i : Ident) (all : List Frame) (source subscription : ℕ) (own reading : Reading) (answer : Answer) (b : Bool) →
    is_quiet own.step ≡ b → cond b (Some own) None ≡ Some reading → IsFine i all source subscription (B own) answer reading
own_fine i all source subscription own reading answer true quiet is =
    let same' : own ≡ reading = cc is in
    subst (IsFine i all source subscription (B own) answer) same'
    (record { good = quiet_good i (line_of i i.start all) own.step quiet; gives = refl })
own_fine i all source subscription own reading answer false quiet is = absurd (cc is)

came_fine : (i : Ident) (all : List Frame) (source subscription sent now : ℕ) (view : Option ℕ) (from : Address) (answer : Answer)
    (reading : Reading) (o : Option Datagram) → ((datagram : Datagram) → o ≡ Some datagram → IsGood i (line_of i i.start all) datagram.bytes) →
    coming from now view o ≡ Some reading → IsFine i all source subscription (Deliver sent now view) answer reading
came_fine i all source subscription sent now view from answer reading None good is = absurd (cc is)
came_fine i all source subscription sent now view from answer reading (Some datagram) good is =
    let step : Step = Packet now datagram.to from datagram.bytes in
    let same' : record { view = view; step = step } ≡ reading = cc is in
    subst (IsFine i all source subscription (Deliver sent now view) answer) same' (record { good = good datagram refl; gives = refl })

pub fine_second : (i : Ident) (all : List Frame) (opening : Opening) (source subscription : ℕ) (e : TwoEnds) (step : PairStep) (answer : Answer)
    (reading : Reading) → Holds i all opening (drivers_of e) → step_of_second e step ≡ Some reading → IsFine i all source subscription step answer reading
fine_second i all opening source subscription e (A own) answer reading holds is = absurd (cc is)
fine_second i all opening source subscription e (B own) answer reading holds is =
    own_fine i all source subscription own reading answer (is_quiet own.step) refl is
fine_second i all opening source subscription e (Deliver sent now view) answer reading holds is =
    came_fine i all source subscription sent now view e.first.driver.registry.settings.send_address answer reading (numbered sent e.sent)
    (λ datagram found. numbered_good i all sent e.sent datagram holds.good found) is

none_polled_of : (source subscription : ℕ) (e : TwoEnds) (step : PairStep) (answer : Answer) → IsAnswerOfSecond e (step_of_second e step) answer →
    step_of_second e step ≡ None → polled_of source subscription step answer ≡ []
none_polled_of source subscription e (A reading) answer answered none = refl
none_polled_of source subscription e (Deliver sent now view) answer answered none = refl
none_polled_of source subscription e (B reading) answer answered none =
    let bad' : answer ≡ BadStep = subst (λ (o : Option Reading). IsAnswerOfSecond e o answer) none answered in
    subst (λ (a : Answer). polled_by source subscription reading.step a ≡ []) (sym bad') (bad_polled source subscription reading.step)

second_by : (i : Ident) (all : List Frame) (opening : Opening) (source subscription : ℕ) (so_far : List Fetched) (e : TwoEnds) (step : PairStep)
    (answer : Answer) (o : Option Reading) → step_of_second e step ≡ o → 0 < i.term_length → IsLine i.term_length i.start (line_of i i.start all) →
    AreSettings opening.settings → Holds i all opening (drivers_of e) → (re : Reads i source subscription e.second.driver) →
    IsRunTo (line_of i i.start all) re.at so_far → IsAnswerOfSecond e o answer →
    Behind i all opening source subscription (so_far ++ polled_of source subscription step answer) (drivers_of (after_second e o answer))
second_by i all opening source subscription so_far e step answer None found some is sound holds re run answered =
    still_behind i all opening source subscription so_far (polled_of source subscription step answer) (drivers_of e) (drivers_of e)
    (none_polled_of source subscription e step answer (subst (λ (o : Option Reading). IsAnswerOfSecond e o answer) (sym found) answered) found) refl holds re run
second_by i all opening source subscription so_far e step answer (Some reading) found some is sound holds re run answered =
    let fine = fine_second i all opening source subscription e step answer reading holds found in
    second_went i all opening source subscription so_far (polled_of source subscription step answer) e reading answer some is sound holds re run fine.good
    fine.gives (world_went e.second reading answer answered)

-- what the first sends by a step is good
abbrev pub SendsGood : Ident → List Frame → PairStep → Answer → Type 0
SendsGood i all (A reading) answer = AllGood i all (sent_by answer)
SendsGood i all step answer = Unit {0}

abbrev pub AreSentGood : Ident → List Frame → List PairStep → List Answer → Type 0
AreSentGood i all [] answers = Unit {0}
AreSentGood i all (step ∷ steps) [] = Unit {0}
AreSentGood i all (step ∷ steps) (answer ∷ answers) = SendsGood i all step answer × AreSentGood i all steps answers

both_behind : (i : Ident) (all : List Frame) (opening : Opening) (source subscription : ℕ) (so_far : List Fetched) (e : TwoEnds) (step : PairStep)
    (answer : Answer) → 0 < i.term_length → IsLine i.term_length i.start (line_of i i.start all) → AreSettings opening.settings →
    Holds i all opening (drivers_of e) → SendsGood i all step answer → (re : Reads i source subscription e.second.driver) →
    IsRunTo (line_of i i.start all) re.at so_far → IsAnswerToBoth e step answer →
    Behind i all opening source subscription (so_far ++ polled_of source subscription step answer) (drivers_of (after_both e step answer))
both_behind i all opening source subscription so_far e (A reading) answer some is sound holds sends re run answered =
    first_went i all opening source subscription so_far e reading answer holds sends re run (world_went e.first reading answer answered)
both_behind i all opening source subscription so_far e (B reading) answer some is sound holds sends re run answered =
    second_by i all opening source subscription so_far e (B reading) answer (step_of_second e (B reading)) refl some is sound holds re run
    answered
both_behind i all opening source subscription so_far e (Deliver sent now view) answer some is sound holds sends re run answered =
    second_by i all opening source subscription so_far e (Deliver sent now view) answer (step_of_second e (Deliver sent now view)) refl some is sound holds re run
    answered

-- ---- before the pair comes

first_held : (i : Ident) (all : List Frame) (opening : Opening) (e : TwoEnds) (reading : Reading) (answer : Answer) → Holds i all opening (drivers_of e) →
    AllGood i all (sent_by answer) → Went e.first reading answer → Holds i all opening (drivers_of (after_both e (A reading) answer))
first_held i all opening e reading answer holds sends (stayed same' silent) =
    subst (Holds i all opening)
    (sym (ap (λ (d : DriverEnd). let p : PairEnd = record { first = d; second = e.second.driver; sent = e.sent ++ sent_by answer } in p) same'
    ∙ ap (λ (sent : List Datagram). let p : PairEnd = record { first = e.first.driver; second = e.second.driver; sent = sent } in p)
    (ap (λ (more : List Datagram). e.sent ++ more) silent.sent ∙ append-nil e.sent)))
    holds
first_held i all opening e reading answer holds sends (went r like seen told leaves) =
    subst (Holds i all opening)
    (ap (λ (d : DriverEnd). let p : PairEnd = record { first = d; second = e.second.driver; sent = e.sent ++ sent_by answer } in p) (sym leaves))
    (held_first i all opening (drivers_of e) r answer holds sends)

second_held : (i : Ident) (all : List Frame) (opening : Opening) (e : TwoEnds) (reading : Reading) (answer : Answer) → 0 < i.term_length →
    IsLine i.term_length i.start (line_of i i.start all) → AreSettings opening.settings → Holds i all opening (drivers_of e) →
    IsGoodStep i (line_of i i.start all) reading.step → Went e.second reading answer →
    Holds i all opening (drivers_of (record e { second = after e.second reading answer }))
second_held i all opening e reading answer some is sound holds good (stayed same' silent) =
    subst (Holds i all opening)
    (sym (ap (λ (d : DriverEnd). let p : PairEnd = record { first = e.first.driver; second = d; sent = e.sent } in p) same')) holds
second_held i all opening e reading answer some is sound holds good (went r like seen told leaves) =
    subst (Holds i all opening)
    (ap (λ (d : DriverEnd). let p : PairEnd = record { first = e.first.driver; second = d; sent = e.sent } in p) (sym leaves))
    (held_second i all opening (drivers_of e) answer (Some r) some is sound holds told
    (λ one found.
    (let same' : r ≡ one = cc found in
    subst (λ (x : DriverReading). IsGoodStep i (line_of i i.start all) x.step) same'
    (like_good i (line_of i i.start all) reading.step r.step like good))))

held_by : (i : Ident) (all : List Frame) (opening : Opening) (e : TwoEnds) (step : PairStep) (answer : Answer) (o : Option Reading) →
    step_of_second e step ≡ o → 0 < i.term_length → IsLine i.term_length i.start (line_of i i.start all) → AreSettings opening.settings →
    Holds i all opening (drivers_of e) → IsAnswerOfSecond e o answer → Holds i all opening (drivers_of (after_second e o answer))
held_by i all opening e step answer None found some is sound holds answered = holds
held_by i all opening e step answer (Some reading) found some is sound holds answered =
    second_held i all opening e reading answer some is sound holds (fine_second i all opening 0 0 e step answer reading holds found).good
    (world_went e.second reading answer answered)

pub both_held : (i : Ident) (all : List Frame) (opening : Opening) (e : TwoEnds) (step : PairStep) (answer : Answer) → 0 < i.term_length →
    IsLine i.term_length i.start (line_of i i.start all) → AreSettings opening.settings → Holds i all opening (drivers_of e) →
    SendsGood i all step answer → IsAnswerToBoth e step answer → Holds i all opening (drivers_of (after_both e step answer))
both_held i all opening e (A reading) answer some is sound holds sends answered =
    first_held i all opening e reading answer holds sends (world_went e.first reading answer answered)
both_held i all opening e (B reading) answer some is sound holds sends answered =
    held_by i all opening e (B reading) answer (step_of_second e (B reading)) refl some is sound holds answered
both_held i all opening e (Deliver sent now view) answer some is sound holds sends answered =
    held_by i all opening e (Deliver sent now view) answer (step_of_second e (Deliver sent now view)) refl some is sound holds answered

pub run_held : (i : Ident) (all : List Frame) (opening : Opening) (e : TwoEnds) (steps : List PairStep) (answers : List Answer) → 0 < i.term_length →
    IsLine i.term_length i.start (line_of i i.start all) → AreSettings opening.settings → Holds i all opening (drivers_of e) →
    AreSentGood i all steps answers → AreAnswersOfBoth e steps answers → Holds i all opening (drivers_of (end_of_both e steps answers))
run_held i all opening e [] answers some is sound holds sends are = holds
run_held i all opening e (step ∷ steps) [] some is sound holds sends are = holds
run_held i all opening e (step ∷ steps) (answer ∷ answers) some is sound holds sends are =
    run_held i all opening (after_both e step answer) steps answers some is sound
    (both_held i all opening e step answer some is sound holds sends.0 are.0) sends.1 are.1

-- ---- while it is there

abbrev reads_first : (i : Ident) (source subscription : ℕ) (e : TwoEnds) (steps : List PairStep) (answers : List Answer) →
    AtEach (ReadsThere i source subscription) e steps answers → Reads i source subscription e.second.driver
reads_first i source subscription e [] answers there = there
reads_first i source subscription e (step ∷ steps) [] there = there
reads_first i source subscription e (step ∷ steps) (answer ∷ answers) there = there.0

world_run : (i : Ident) (all : List Frame) (opening : Opening) (source subscription : ℕ) (so_far : List Fetched) (e : TwoEnds) (steps : List PairStep)
    (answers : List Answer) → 0 < i.term_length → IsLine i.term_length i.start (line_of i i.start all) → AreSettings opening.settings →
    Holds i all opening (drivers_of e) → AreSentGood i all steps answers → AreAnswersOfBoth e steps answers →
    (there : AtEach (ReadsThere i source subscription) e steps answers) →
    IsRunTo (line_of i i.start all) (reads_first i source subscription e steps answers there).at so_far →
    IsRun (line_of i i.start all) (so_far ++ polled_of_all source subscription steps answers)
world_run i all opening source subscription so_far e [] answers some is sound holds sends are there run =
    record { at = there.at; is = subst (λ (xs : List Fetched). IsRunTo (line_of i i.start all) there.at xs) (sym (append-nil so_far)) run }
world_run i all opening source subscription so_far e (step ∷ steps) [] some is sound holds sends are there run = absurd are
world_run i all opening source subscription so_far e (step ∷ steps) (answer ∷ answers) some is sound holds sends are there run =
    let behind = both_behind i all opening source subscription so_far e step answer some is sound holds sends.0 there.0 run are.0 in
    let gives : List Fetched = polled_of source subscription step answer in
    subst (IsRun (line_of i i.start all)) (append_assoc so_far gives (polled_of_all source subscription steps answers))
    (world_run i all opening source subscription (so_far ++ gives) (after_both e step answer) steps answers some is sound behind.holds sends.1 are.1 there.1
    (behind.goes (reads_first i source subscription (after_both e step answer) steps answers there.1)))

pub both_opened : (i : Ident) (all : List Frame) (first second : Opening) → Holds i all second (drivers_of (opening_both first second))
unfolding opening_end
both_opened i all first second = opening_holds i all first second

-- where all that the first sends is good
pub world_sends : (i : Ident) (all : List Frame) (second : Opening) (start : TwoEnds) (before : List PairStep) (earlier : List Answer)
    (steps : List PairStep) (answers : List Answer) (source subscription : ℕ) → 0 < i.term_length → AreSound i i.start all →
    AreSettings second.settings → Holds i all second (drivers_of start) → AreAnswersOfBoth start before earlier → AreSentGood i all before earlier →
    AreAnswersOfBoth (end_of_both start before earlier) steps answers → AreSentGood i all steps answers →
    AtEach (ReadsThere i source subscription) (end_of_both start before earlier) steps answers →
    IsRunOf i all (polled_of_all source subscription steps answers)
world_sends i all second start before earlier steps answers source subscription some sound settings holds were was are sends there =
    let line : List Kept = line_of i i.start all in
    let is = line_is i i.start all sound in
    let e : TwoEnds = end_of_both start before earlier in
    let run = world_run i all second source subscription [] e steps answers some is settings
    (run_held i all second start before earlier some is settings holds was were) sends are there
    (none_given line (reads_first i source subscription e steps answers there).at) in
    lines_run i all run.at (polled_of_all source subscription steps answers) run.is

-- the first's logs stay sound
went_well : (e : RunEnd) (reading : Reading) (answer : Answer) → All WellLog e.driver.logs → Went e reading answer →
    All WellLog (after e reading answer).driver.logs
went_well e reading answer well (stayed same' silent) = subst (λ (d : DriverEnd). All WellLog d.logs) (sym same') well
went_well e reading answer well (went r like seen told leaves) =
    subst (λ (d : DriverEnd). All WellLog d.logs) (sym leaves) (step_well e.driver r answer well)

second_first : (P : DriverEnd → Type 0) (e : TwoEnds) (answer : Answer) (o : Option Reading) → P e.first.driver → P (after_second e o answer).first.driver
second_first P e answer None holds = holds
second_first P e answer (Some reading) holds = holds

both_well : (e : TwoEnds) (step : PairStep) (answer : Answer) → All WellLog e.first.driver.logs → IsAnswerToBoth e step answer →
    All WellLog (after_both e step answer).first.driver.logs
both_well e (A reading) answer well answered = went_well e.first reading answer well (world_went e.first reading answer answered)
both_well e (B reading) answer well answered =
    second_first (λ d. All WellLog d.logs) e answer (step_of_second e (B reading)) well
both_well e (Deliver sent now view) answer well answered =
    second_first (λ d. All WellLog d.logs) e answer (step_of_second e (Deliver sent now view)) well

pub went_sends : (i : Ident) (all : List Frame) (e : RunEnd) (reading : Reading) (answer : Answer) → Went e reading answer →
    ((r : DriverReading) → IsSeen e.past r.older → IsAnswerTo e.driver r answer → AllGood i all (sent_by answer)) → AllGood i all (sent_by answer)
went_sends i all e reading answer (stayed same' silent) sends = subst (AllGood i all) (sym silent.sent) (All-nil (λ (d : Datagram). IsGood i (line_of i i.start all) d.bytes))
went_sends i all e reading answer (went r like seen told leaves) sends = sends r seen told

only_sends : (i : Ident) (all : List Frame) (e : TwoEnds) (step : PairStep) (answer : Answer) → All WellLog e.first.driver.logs →
    OnlyPublication i all e → IsAnswerToBoth e step answer → SendsGood i all step answer
only_sends i all e (A reading) answer well only answered =
    went_sends i all e.first reading answer (world_went e.first reading answer answered)
    (λ r seen told. step_sent i all e.first.driver r answer told well only)
only_sends i all e (B reading) answer well only answered = tt
only_sends i all e (Deliver sent now view) answer well only answered = tt

only_sent : (i : Ident) (all : List Frame) (e : TwoEnds) (steps : List PairStep) (answers : List Answer) → All WellLog e.first.driver.logs →
    AtEach (OnlyPublication i all) e steps answers → AreAnswersOfBoth e steps answers → AreSentGood i all steps answers
only_sent i all e [] answers well only are = tt
only_sent i all e (step ∷ steps) [] well only are = tt
only_sent i all e (step ∷ steps) (answer ∷ answers) well only are = (
  only_sends i all e step answer well only.0 are.0,
  only_sent i all (after_both e step answer) steps answers (both_well e step answer well are.0) only.1 are.1,
)

run_well : (e : TwoEnds) (steps : List PairStep) (answers : List Answer) → All WellLog e.first.driver.logs → AreAnswersOfBoth e steps answers →
    All WellLog (end_of_both e steps answers).first.driver.logs
run_well e [] answers well are = well
run_well e (step ∷ steps) [] well are = well
run_well e (step ∷ steps) (answer ∷ answers) well are = run_well (after_both e step answer) steps answers (both_well e step answer well are.0) are.1

pub world_gives : SecondWorldGivesARun
world_gives i all first second before earlier steps answers source subscription some sound settings were was are only there =
    let start : TwoEnds = opening_both first second in
    let e : TwoEnds = end_of_both start before earlier in
    let well : All WellLog start.first.driver.logs = (both_opened i all first second).well in
    world_sends i all second start before earlier steps answers source subscription some sound settings (both_opened i all first second) were
    (only_sent i all start before earlier well was were) are
    (only_sent i all e steps answers (run_well start before earlier well were) only are) there
