-- The promise, of images that have the publication's session and stream.
use Rattle.std.proofs.Common.{ℕ, ◌<◌, List, [], ◌∷◌, sym, subst}
use Rattle.std.specs.List.{All}
use Rattle.driver_core.specs.Soundness.{AreSettings}
use Rattle.log_steps.specs.declared.answer.Answer.{Answer}
use Rattle.driver_steps.specs.Ends.{RunEnd}
use Rattle.log_steps.specs.Moves.{WholeLog}
use Rattle.driver_steps.proofs.LiveLemmas.{found_log}
use Rattle.two_drivers.specs.Line.{IsLine, line_of}
use Rattle.two_drivers.proofs.ReadingLemmas.{line_is}
use Rattle.term_log.specs.declared.ident.Ident.{Ident}
use Rattle.term_log.specs.Frames.{Frame}
use Rattle.two_drivers.specs.Streams.{IsNamed, IsRead, IsReadIn, PollsGiveARunOfThePublication}
use Rattle.two_drivers.proofs.StreamLemmas.{images_named}
use Rattle.two_drivers.specs.Drivers.{ArePairAnswers, IsOnlyPublication, IsThere, Opening, PairEnd, DriversStep, opening_pair, pair_after, pair_end}
use Rattle.two_drivers.specs.Polling.{Reads}
use Rattle.two_drivers.proofs.DriversLemmas.{Holds, held_run, held_step, opening_holds, second_gives}

-- what the second's logs are named then
pub named_second : (i : Ident) (all : List Frame) (opening : Opening) (e : PairEnd) → AreSettings opening.settings → Holds i all opening e →
    All (λ (log : WholeLog). IsNamed i log.whole) e.second.logs
named_second i all opening e sound holds =
    subst (λ (x : RunEnd). All (λ (log : WholeLog). IsNamed i log.whole) x.logs) (sym holds.reached.is)
    (images_named i (line_of i i.start all) opening.settings opening.policy opening.peers holds.reached.readings holds.reached.answers sound
    holds.reached.good holds.reached.are)

pub reads_of : (i : Ident) (source subscription : ℕ) (e : RunEnd) → All (λ (log : WholeLog). IsNamed i log.whole) e.logs →
    IsRead i source subscription e → Reads i source subscription e
reads_of i source subscription e named is =
    let one = found_log (λ (log : WholeLog). IsNamed i log.whole) source is.log e.logs named is.live in
    record {
      log = is.log;
      r = is.r;
      at = is.at;
      live = is.live;
      whole_is = is.whole_is;
      ident_is = subst (IsNamed i) is.whole_is one.holds is.session is.stream;
      stands = is.stands;
    }

there_of : (i : Ident) (all : List Frame) (opening : Opening) (source subscription : ℕ) (e : PairEnd) (steps : List DriversStep) (answers : List Answer) →
    0 < i.term_length → IsLine i.term_length i.start (line_of i i.start all) → AreSettings opening.settings → Holds i all opening e →
    IsOnlyPublication i all e steps answers → ArePairAnswers e steps answers → IsReadIn i source subscription e steps answers →
    IsThere i source subscription e steps answers
there_of i all opening source subscription e [] answers some is sound holds only are read =
    reads_of i source subscription e.second (named_second i all opening e sound holds) read
there_of i all opening source subscription e (step ∷ steps) [] some is sound holds only are read =
    reads_of i source subscription e.second (named_second i all opening e sound holds) read
there_of i all opening source subscription e (step ∷ steps) (answer ∷ answers) some is sound holds only are read = (
  reads_of i source subscription e.second (named_second i all opening e sound holds) read.0,
  there_of i all opening source subscription (pair_after e step answer) steps answers some is sound
      (held_step i all opening e step answer some is sound holds only.0 are.0) only.1 are.1 read.1,
)

pub promise : PollsGiveARunOfThePublication
promise i all first second before earlier steps answers source subscription some sound settings were was are only read =
    let is = line_is i i.start all sound in
    let e : PairEnd = pair_end (opening_pair first second) before earlier in
    let holds = held_run i all second (opening_pair first second) before earlier some is settings (opening_holds i all first second) was were in
    second_gives i all first second before earlier steps answers source subscription some sound settings were was are only
    (there_of i all second source subscription e steps answers some is settings holds only are read)
