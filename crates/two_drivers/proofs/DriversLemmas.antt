-- What the polls of one driver give of the other's publication is a contiguous run of its frames.
use Rattle.std.proofs.Common.{◌≡◌, ℕ, zero, suc, ◌<◌, Bool, true, false, cond, List, [], ◌∷◌, ◌++◌, Option, Some, None, refl, sym, ap, ◌∙◌, subst, append_assoc}
use Rattle.std.specs.List.{All}
use Rattle.std.proofs.lemmas.List.{append-nil}
use Rattle.std.proofs.lemmas.List.Elements.{All-nil, All-head, All-tail, All-append}
use Rattle.channel_uri.specs.declared.address.Address.{Address}
use Rattle.driver_core.specs.declared.state.event.Event.{Event}
use Rattle.driver_core.specs.declared.state.event.Event.TheVariants.{Attach, Command, Reload, Setup as SetUp, Tick}
use Rattle.driver_core.specs.Soundness.{AreSettings}
use Rattle.driver_core.specs.State.{State}
use Rattle.log_steps.specs.declared.answer.Answer.{Answer}
use Rattle.log_steps.specs.declared.answer.Answer.TheVariants.{BadStep}
use Rattle.driver_steps.specs.declared.step.Step.{Step}
use Rattle.driver_steps.specs.declared.step.Step.TheVariants.{Conductor, Packet, Offer as Offers, Poll as Polls, Image, List as Lists, Send, Value}
use Rattle.driver_steps.specs.Ends.{RunEnd, opening_end}
use Rattle.driver_steps.specs.Runs.{Reading, AreAnswers, IsAnswerTo, end_of, left_by}
use Rattle.driver_steps.proofs.FollowLemmas.{Follows, ends_follow}
use Rattle.image_log.specs.Frame.{Frame as Kept}
use Rattle.log_pairs.specs.Polling.{Fetched}
use Rattle.two_drivers.specs.Line.{IsLine, IsRunTo, line_of}
use Rattle.two_drivers.proofs.ReadingLemmas.{line_is}
use Rattle.two_drivers.proofs.RunLemmas.{lines_run}
use Rattle.term_log.specs.declared.ident.Ident.{Ident}
use Rattle.term_log.specs.Frames.{Frame}
use Rattle.two_drivers.specs.Drivers.{ArePairAnswers, IsOnlyPublication, IsPairAnswer, IsSecondAnswer, IsThere, Opening, PairEnd, DriversStep, SecondGivesARun, delivered, delivery, given_by, given_in, is_quiet, numbered, of_first, of_second, opening_pair, pair_after, pair_end, second_after, second_step}
use Rattle.two_drivers.specs.Given.{AreGood, IsGood, IsGoodStep, MirrorsLog}
use Rattle.two_drivers.specs.Polling.{IsRun, Reads, polled_by}
use Rattle.two_drivers.specs.Sent.{Datagram, IsOnlyLog, sent_by}
use Rattle.two_drivers.proofs.GivenLemmas.{answers_push, end_push, opening_mirrors, step_mirror}
use Rattle.two_drivers.proofs.PollingLemmas.{none_given, put_goes, step_goes}
use Rattle.two_drivers.proofs.SentLemmas.{AllGood, WellLog, opening_well, step_sent, step_well}

-- ---- what holds of both along a run

-- the second is at the end of a run, and was given good datagrams alone
pub record IsReached (i : Ident) (all : List Frame) (opening : Opening) (e : RunEnd) : Type 0 where
  pub readings : List Reading
  pub answers : List Answer
  pub are : AreAnswers (opening_end opening.settings opening.policy opening.peers) readings answers
  pub good : AreGood i (line_of i i.start all) readings
  pub is : e ≡ end_of (opening_end opening.settings opening.policy opening.peers) readings answers

good_push : (i : Ident) (line : List Kept) (readings : List Reading) (reading : Reading) → AreGood i line readings → IsGoodStep i line reading.step →
    AreGood i line (readings ++ reading ∷ [])
good_push i line [] reading good one = (one, tt)
good_push i line (first ∷ readings) reading good one = (good.0, good_push i line readings reading good.1 one)

reached_more : (i : Ident) (all : List Frame) (opening : Opening) (e : RunEnd) (reading : Reading) (answer : Answer) → IsReached i all opening e →
    IsGoodStep i (line_of i i.start all) reading.step → IsAnswerTo e reading answer → IsReached i all opening (left_by e reading answer)
reached_more i all opening e reading answer reached one answered =
    let first : RunEnd = opening_end opening.settings opening.policy opening.peers in
    record {
      readings = reached.readings ++ reading ∷ [];
      answers = reached.answers ++ answer ∷ [];
      are = answers_push first reached.readings reached.answers reading answer reached.are
          (subst (λ (x : RunEnd). IsAnswerTo x reading answer) reached.is answered);
      good = good_push i (line_of i i.start all) reached.readings reading reached.good one;
      is = ap (λ (x : RunEnd). left_by x reading answer) reached.is
          ∙ sym (end_push first reached.readings reached.answers reading answer reached.are);
    }

pub reached_follows : (i : Ident) (all : List Frame) (opening : Opening) (e : RunEnd) → AreSettings opening.settings → IsReached i all opening e → Follows e
reached_follows i all opening e sound reached =
    subst Follows (sym reached.is)
    (ends_follow opening.settings opening.policy opening.peers reached.readings reached.answers sound reached.are)

-- all logs of the first are sound, all that it sent is good, and the second's logs of the stream have the publication's frames
pub record Holds (i : Ident) (all : List Frame) (opening : Opening) (e : PairEnd) : Type 0 where
  pub well : All WellLog e.first.logs
  pub good : AllGood i all e.sent
  pub mirrors : All (MirrorsLog i (line_of i i.start all)) e.second.logs
  pub reached : IsReached i all opening e.second

-- ---- what the second is given

quiet_event : (i : Ident) (line : List Kept) (event : Event) → is_quiet (Conductor event) ≡ true → IsGoodStep i line (Conductor event)
quiet_event i line (SetUp now local from fields) quiet = absurd (cc quiet)
quiet_event i line (Attach now principal) quiet = tt
quiet_event i line (Command now client bytes) quiet = tt
quiet_event i line (Reload now policy) quiet = tt
quiet_event i line (Tick now) quiet = tt

pub quiet_good : (i : Ident) (line : List Kept) (step : Step) → is_quiet step ≡ true → IsGoodStep i line step
quiet_good i line (Conductor event) quiet = quiet_event i line event quiet
quiet_good i line (Packet now local from bytes) quiet = absurd (cc quiet)
quiet_good i line (Offers now client registration message) quiet = tt
quiet_good i line (Polls now client subscription source limit) quiet = tt
quiet_good i line (Send now source) quiet = tt
quiet_good i line (Image now source) quiet = tt
quiet_good i line (Lists now client) quiet = tt
quiet_good i line (Value now client number) quiet = tt

pub numbered_good : (i : Ident) (all : List Frame) (n : ℕ) (sent : List Datagram) (datagram : Datagram) → AllGood i all sent →
    numbered n sent ≡ Some datagram → IsGood i (line_of i i.start all) datagram.bytes
numbered_good i all n [] datagram good is = absurd (cc is)
numbered_good i all zero (one ∷ sent) datagram good is =
    let same : one ≡ datagram = cc is in
    subst (λ (d : Datagram). IsGood i (line_of i i.start all) d.bytes) same
    (All-head (λ (d : Datagram). IsGood i (line_of i i.start all) d.bytes) one sent good)
numbered_good i all (suc n) (one ∷ sent) datagram good is =
    numbered_good i all n sent datagram (All-tail (λ (d : Datagram). IsGood i (line_of i i.start all) d.bytes) one sent good) is

-- what the second's step is, if it takes one: good, and a poll only where the step is its own
record IsFine (i : Ident) (all : List Frame) (source subscription : ℕ) (step : DriversStep) (answer : Answer) (reading : Reading) : Type 0 where
  good : IsGoodStep i (line_of i i.start all) reading.step
  gives : given_by source subscription step answer ≡ polled_by source subscription reading.step answer

own_fine : (i : Ident) (all : List Frame) (source subscription : ℕ) (own reading : Reading) (answer : Answer) (b : Bool) →
    is_quiet own.step ≡ b → cond b (Some own) None ≡ Some reading → IsFine i all source subscription (of_second own) answer reading
own_fine i all source subscription own reading answer true quiet is =
    let same : own ≡ reading = cc is in
    subst (IsFine i all source subscription (of_second own) answer) same
    (record { good = quiet_good i (line_of i i.start all) own.step quiet; gives = refl })
own_fine i all source subscription own reading answer false quiet is = absurd (cc is)

came_fine : (i : Ident) (all : List Frame) (source subscription sent now : ℕ) (older : Option State) (from : Address) (answer : Answer)
    (reading : Reading) (o : Option Datagram) → ((datagram : Datagram) → o ≡ Some datagram → IsGood i (line_of i i.start all) datagram.bytes) →
    delivered from now older o ≡ Some reading → IsFine i all source subscription (delivery sent now older) answer reading
came_fine i all source subscription sent now older from answer reading None good is = absurd (cc is)
came_fine i all source subscription sent now older from answer reading (Some datagram) good is =
    let step : Step = Packet now datagram.to from datagram.bytes in
    let same : record { older = older; step = step } ≡ reading = cc is in
    subst (IsFine i all source subscription (delivery sent now older) answer) same
    (record { good = good datagram refl; gives = refl })

second_fine : (i : Ident) (all : List Frame) (opening : Opening) (source subscription : ℕ) (e : PairEnd) (step : DriversStep) (answer : Answer)
    (reading : Reading) → Holds i all opening e → second_step e step ≡ Some reading → IsFine i all source subscription step answer reading
second_fine i all opening source subscription e (of_first own) answer reading holds is = absurd (cc is)
second_fine i all opening source subscription e (of_second own) answer reading holds is =
    own_fine i all source subscription own reading answer (is_quiet own.step) refl is
second_fine i all opening source subscription e (delivery sent now older) answer reading holds is =
    came_fine i all source subscription sent now older e.first.registry.settings.send_address answer reading (numbered sent e.sent)
    (λ datagram found. numbered_good i all sent e.sent datagram holds.good found) is

-- ---- a step

-- what holds behind it, and what was given by then
pub record Behind (i : Ident) (all : List Frame) (opening : Opening) (source subscription : ℕ) (so_far : List Fetched) (end : PairEnd) : Type 0 where
  pub holds : Holds i all opening end
  pub goes : (re : Reads i source subscription end.second) → IsRunTo (line_of i i.start all) re.at so_far

pub first_behind : (i : Ident) (all : List Frame) (opening : Opening) (source subscription : ℕ) (so_far : List Fetched) (e : PairEnd) (reading : Reading)
    (answer : Answer) → Holds i all opening e → AllGood i all (sent_by answer) → (re : Reads i source subscription e.second) →
    IsRunTo (line_of i i.start all) re.at so_far →
    Behind i all opening source subscription (so_far ++ []) (pair_after e (of_first reading) answer)
first_behind i all opening source subscription so_far e reading answer holds sends re run = record {
  holds = record {
    well = step_well e.first reading answer holds.well;
    good = All-append (λ (d : Datagram). IsGood i (line_of i i.start all) d.bytes) e.sent (sent_by answer) holds.good sends;
    mirrors = holds.mirrors;
    reached = holds.reached;
  };
  goes = put_goes i (line_of i i.start all) source subscription so_far [] e.second e.second re refl refl run;
}

pub second_behind : (i : Ident) (all : List Frame) (opening : Opening) (source subscription : ℕ) (so_far gives : List Fetched) (e : PairEnd)
    (answer : Answer) (o : Option Reading) → 0 < i.term_length → IsLine i.term_length i.start (line_of i i.start all) →
    AreSettings opening.settings → Holds i all opening e → (re : Reads i source subscription e.second) →
    IsRunTo (line_of i i.start all) re.at so_far → IsSecondAnswer e o answer →
    ((reading : Reading) → o ≡ Some reading →
    IsGoodStep i (line_of i i.start all) reading.step × (gives ≡ polled_by source subscription reading.step answer)) → (o ≡ None → gives ≡ []) →
    Behind i all opening source subscription (so_far ++ gives) (second_after e o answer)
second_behind i all opening source subscription so_far gives e answer None some is sound holds re run answered fine none = record {
  holds = holds;
  goes = put_goes i (line_of i i.start all) source subscription so_far gives e.second e.second re (none refl) refl run;
}
second_behind i all opening source subscription so_far gives e answer (Some reading) some is sound holds re run answered fine none =
    let line : List Kept = line_of i i.start all in
    let one = fine reading refl in
    record {
      holds = record {
        well = holds.well;
        good = holds.good;
        mirrors = step_mirror i i.start line some is e.second reading answer (reached_follows i all opening e.second sound holds.reached) one.0 holds.mirrors;
        reached = reached_more i all opening e.second reading answer holds.reached one.0 answered;
      };
      goes = subst (λ (xs : List Fetched). (re' : Reads i source subscription (left_by e.second reading answer)) → IsRunTo line re'.at (so_far ++ xs))
          (sym one.1) (step_goes i i.start line e.second reading answer source subscription so_far is holds.mirrors re run answered);
    }

pub bad_polled : (source subscription : ℕ) (step : Step) → polled_by source subscription step BadStep ≡ []
bad_polled source subscription (Conductor event) = refl
bad_polled source subscription (Packet now local from bytes) = refl
bad_polled source subscription (Offers now client registration message) = refl
bad_polled source subscription (Polls now client number log limit) = refl
bad_polled source subscription (Send now number) = refl
bad_polled source subscription (Image now number) = refl
bad_polled source subscription (Lists now client) = refl
bad_polled source subscription (Value now client number) = refl

-- where the second takes no step, nothing is given: what it is answered is no poll's answer
none_given_by : (source subscription : ℕ) (e : PairEnd) (step : DriversStep) (answer : Answer) → IsSecondAnswer e (second_step e step) answer →
    second_step e step ≡ None → given_by source subscription step answer ≡ []
none_given_by source subscription e (of_first reading) answer answered none = refl
none_given_by source subscription e (delivery sent now older) answer answered none = refl
none_given_by source subscription e (of_second reading) answer answered none =
    let bad : answer ≡ BadStep =
    subst (λ (o : Option Reading). IsSecondAnswer e o answer) none answered in
    subst (λ (a : Answer). polled_by source subscription reading.step a ≡ []) (sym bad) (bad_polled source subscription reading.step)

step_behind : (i : Ident) (all : List Frame) (opening : Opening) (source subscription : ℕ) (so_far : List Fetched) (e : PairEnd) (step : DriversStep)
    (answer : Answer) → 0 < i.term_length → IsLine i.term_length i.start (line_of i i.start all) → AreSettings opening.settings →
    Holds i all opening e → All (IsOnlyLog i all) e.first.logs → (re : Reads i source subscription e.second) →
    IsRunTo (line_of i i.start all) re.at so_far → IsPairAnswer e step answer →
    Behind i all opening source subscription (so_far ++ given_by source subscription step answer) (pair_after e step answer)
step_behind i all opening source subscription so_far e (of_first reading) answer some is sound holds only re run answered =
    first_behind i all opening source subscription so_far e reading answer holds (step_sent i all e.first reading answer answered holds.well only) re run
step_behind i all opening source subscription so_far e (of_second reading) answer some is sound holds only re run answered =
    second_behind i all opening source subscription so_far _ e answer (second_step e (of_second reading)) some is sound holds re run answered
    (λ one found. (let fine = second_fine i all opening source subscription e (of_second reading) answer one holds found in (fine.good, fine.gives)))
    (none_given_by source subscription e (of_second reading) answer answered)
step_behind i all opening source subscription so_far e (delivery sent now older) answer some is sound holds only re run answered =
    second_behind i all opening source subscription so_far _ e answer (second_step e (delivery sent now older)) some is sound holds re run answered
    (λ one found. (let fine = second_fine i all opening source subscription e (delivery sent now older) answer one holds found in (fine.good, fine.gives)))
    (λ none. refl)

-- ---- runs before the pair comes

pub held_first : (i : Ident) (all : List Frame) (opening : Opening) (e : PairEnd) (reading : Reading) (answer : Answer) → Holds i all opening e →
    AllGood i all (sent_by answer) → Holds i all opening (pair_after e (of_first reading) answer)
held_first i all opening e reading answer holds sends = record {
  well = step_well e.first reading answer holds.well;
  good = All-append (λ (d : Datagram). IsGood i (line_of i i.start all) d.bytes) e.sent (sent_by answer) holds.good sends;
  mirrors = holds.mirrors;
  reached = holds.reached;
}

pub held_second : (i : Ident) (all : List Frame) (opening : Opening) (e : PairEnd) (answer : Answer) (o : Option Reading) → 0 < i.term_length →
    IsLine i.term_length i.start (line_of i i.start all) → AreSettings opening.settings → Holds i all opening e → IsSecondAnswer e o answer →
    ((reading : Reading) → o ≡ Some reading → IsGoodStep i (line_of i i.start all) reading.step) → Holds i all opening (second_after e o answer)
held_second i all opening e answer None some is sound holds answered fine = holds
held_second i all opening e answer (Some reading) some is sound holds answered fine = record {
  well = holds.well;
  good = holds.good;
  mirrors = step_mirror i i.start (line_of i i.start all) some is e.second reading answer (reached_follows i all opening e.second sound holds.reached)
      (fine reading refl) holds.mirrors;
  reached = reached_more i all opening e.second reading answer holds.reached (fine reading refl) answered;
}

pub held_step : (i : Ident) (all : List Frame) (opening : Opening) (e : PairEnd) (step : DriversStep) (answer : Answer) → 0 < i.term_length →
    IsLine i.term_length i.start (line_of i i.start all) → AreSettings opening.settings → Holds i all opening e →
    All (IsOnlyLog i all) e.first.logs → IsPairAnswer e step answer → Holds i all opening (pair_after e step answer)
held_step i all opening e (of_first reading) answer some is sound holds only answered =
    held_first i all opening e reading answer holds (step_sent i all e.first reading answer answered holds.well only)
held_step i all opening e (of_second reading) answer some is sound holds only answered =
    held_second i all opening e answer (second_step e (of_second reading)) some is sound holds answered
    (λ one found. (second_fine i all opening 0 0 e (of_second reading) answer one holds found).good)
held_step i all opening e (delivery sent now older) answer some is sound holds only answered =
    held_second i all opening e answer (second_step e (delivery sent now older)) some is sound holds answered
    (λ one found. (second_fine i all opening 0 0 e (delivery sent now older) answer one holds found).good)

pub held_run : (i : Ident) (all : List Frame) (opening : Opening) (e : PairEnd) (steps : List DriversStep) (answers : List Answer) → 0 < i.term_length →
    IsLine i.term_length i.start (line_of i i.start all) → AreSettings opening.settings → Holds i all opening e →
    IsOnlyPublication i all e steps answers → ArePairAnswers e steps answers → Holds i all opening (pair_end e steps answers)
held_run i all opening e [] answers some is sound holds only are = holds
held_run i all opening e (step ∷ steps) [] some is sound holds only are = holds
held_run i all opening e (step ∷ steps) (answer ∷ answers) some is sound holds only are =
    held_run i all opening (pair_after e step answer) steps answers some is sound
    (held_step i all opening e step answer some is sound holds only.0 are.0) only.1 are.1

-- ---- runs while it is there

abbrev there_first : (i : Ident) (source subscription : ℕ) (e : PairEnd) (steps : List DriversStep) (answers : List Answer) →
    IsThere i source subscription e steps answers → Reads i source subscription e.second
there_first i source subscription e [] answers there = there
there_first i source subscription e (step ∷ steps) [] there = there
there_first i source subscription e (step ∷ steps) (answer ∷ answers) there = there.0

given_run : (i : Ident) (all : List Frame) (opening : Opening) (source subscription : ℕ) (so_far : List Fetched) (e : PairEnd) (steps : List DriversStep)
    (answers : List Answer) → 0 < i.term_length → IsLine i.term_length i.start (line_of i i.start all) → AreSettings opening.settings →
    Holds i all opening e → IsOnlyPublication i all e steps answers → ArePairAnswers e steps answers →
    (there : IsThere i source subscription e steps answers) →
    IsRunTo (line_of i i.start all) (there_first i source subscription e steps answers there).at so_far →
    IsRun (line_of i i.start all) (so_far ++ given_in source subscription steps answers)
given_run i all opening source subscription so_far e [] answers some is sound holds only are there run =
    record { at = there.at; is = subst (λ (xs : List Fetched). IsRunTo (line_of i i.start all) there.at xs) (sym (append-nil so_far)) run }
given_run i all opening source subscription so_far e (step ∷ steps) [] some is sound holds only are there run = absurd are
given_run i all opening source subscription so_far e (step ∷ steps) (answer ∷ answers) some is sound holds only are there run =
    let behind = step_behind i all opening source subscription so_far e step answer some is sound holds only.0 there.0 run are.0 in
    let gives : List Fetched = given_by source subscription step answer in
    subst (IsRun (line_of i i.start all)) (append_assoc so_far gives (given_in source subscription steps answers))
    (given_run i all opening source subscription (so_far ++ gives) (pair_after e step answer) steps answers some is sound behind.holds only.1 are.1 there.1
    (behind.goes (there_first i source subscription (pair_after e step answer) steps answers there.1)))

pub opening_holds : (i : Ident) (all : List Frame) (first second : Opening) → Holds i all second (opening_pair first second)
opening_holds i all first second = record {
  well = opening_well first.settings first.policy first.peers;
  good = All-nil (λ (d : Datagram). IsGood i (line_of i i.start all) d.bytes);
  mirrors = opening_mirrors i (line_of i i.start all) second.settings second.policy second.peers;
  reached = record { readings = []; answers = []; are = tt; good = tt; is = refl };
}

pub second_gives : SecondGivesARun
second_gives i all first second before earlier steps answers source subscription some sound settings were was are only there =
    let line : List Kept = line_of i i.start all in
    let is = line_is i i.start all sound in
    let e : PairEnd = pair_end (opening_pair first second) before earlier in
    let run = given_run i all second source subscription [] e steps answers some is settings
    (held_run i all second (opening_pair first second) before earlier some is settings (opening_holds i all first second) was were) only are there
    (none_given line (there_first i source subscription e steps answers there).at) in
    lines_run i all run.at (given_in source subscription steps answers) run.is
