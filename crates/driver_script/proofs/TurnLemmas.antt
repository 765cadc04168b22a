-- The run of a script is put together of its statements.
-- ---- writing
-- a text and then a front of more is a front of both
use Rattle.std.proofs.Common.{◌≡◌, ℕ, true, false, List, [], ◌∷◌, ◌++◌, Option, Some, None, Result, Ok, Err, IfOk, IfErr, IfSome, OnErr, refl, sym, ap, subst, ◌∙◌, append_assoc, append-nil}
use Rattle.std.specs.Io.KnownBytes.{Appends}
use Rattle.log_steps.specs.declared.answer.Answer.{Answer}
use Rattle.log_steps.specs.declared.answer.Answer.TheVariants.{BadStep}
use Rattle.driver_world.specs.declared.actor.Actor.{Actor}
use Rattle.driver_world.specs.declared.reading.Reading.{Reading}
use Rattle.driver_world.specs.Audits.{kept_for}
use Rattle.driver_world.specs.Ends.{RunEnd, IsAnswer, after, opening_end}
use Rattle.driver_world.specs.Standing.{Held, StandsForEnd, Serves}
use Rattle.driver_script.specs.declared.script.Ended.{Ended}
use Rattle.driver_script.specs.declared.script.Ended.TheVariants.{Done, BadLine}
use Rattle.driver_script.specs.declared.fault.RunFault.{RunFault}
use Rattle.driver_script.specs.declared.script.Head.{Head}
use Rattle.driver_script.specs.declared.script.Preface.{Preface}
use Rattle.driver_script.specs.declared.script.Head.TheVariants as head
use Rattle.script_lines.specs.declared.statements.Said.{Said}
use Rattle.script_lines.specs.declared.statements.Said.TheVariants.{Policy, Does, Audit}
use Rattle.script_lines.specs.declared.statements.Statement.{Statement}
use Rattle.driver_script.specs.Output.{AppendsFront}
use Rattle.policy_core.specs.RuleList.{Rules}
use Rattle.policy_text.specs.declared.fault.PolicyFault.{PolicyFault}
use Rattle.policy_text.specs.Document.{policy_of}
use Rattle.policy_text.specs.Fault.{Fails}
use Rattle.policy_text.specs.Names.{Known}
use Rattle.driver_script.specs.Script.{Opening, Ends, Refuses, Opens, no_preface, opening_of, Takes, deed_of, put_in_force, IsOpeningText, Writes, is_bad_step, answer_text, audit_text, told_text, ended_text}
use Rattle.driver_script.specs.Turns.{Turns, Goes, Steps, StopsAt, TakesStep, GivesUp, GivesUpStep, IsHead, FollowsHead, BeginsHead, WritesScript, BeginsScript, WritesFront, WritesWhole, SoFar, told_of_fault}
use Rattle.driver_script.proofs.OutputLemmas.{appends_more}
use Rattle.driver_script.proofs.StatementLemmas.{front_more, front_of_more, front_longer, writes_none, told_of, bad_is, turns_step, turns_shown, turns_refused, IsOutOfOrder, writes_bad, writes_bad_step, some_text}

-- ---- a world in the middle of a run

-- a statement that turns a world into another, and whose text was written
goes_by : (names : Known) (old new : Held) (statement : Statement) (front : List ℕ) (before after' : Option (List ℕ)) →
    ((e : RunEnd) → StandsForEnd old e → (next : RunEnd) × StandsForEnd new next × Turns names e next statement front) →
    Appends before after' front → Goes names old new statement before after'
goes_by names old new statement front before after' turns appended = record { front = front; appended = appended; on = turns }

-- a statement whose text was written in part, or not at all
gives_up_by : (names : Known) (old new : Held) (statement : Statement) (front : List ℕ) (before after' : Option (List ℕ)) →
    ((e : RunEnd) → StandsForEnd old e → (next : RunEnd) × StandsForEnd new next × Turns names e next statement front) →
    AppendsFront before after' front → GivesUp names old statement before after'
gives_up_by names old new statement front before after' turns begun =
    record {
      on = λ rest. record {
        on = λ e stands.
            let (next, stands', turn) = turns e stands in
            let (ended, text, written) = some_text names next rest in (
              ended,
              front ++ text,
              turn.on rest ended text written,
              front_longer before after' front text begun,
            );
      };
    }

-- a step that a world took
turns_of : (names : Known) (old new : Held) (line : ℕ) (said : Said) (reading : Reading) (answer : Answer) →
    deed_of names said ≡ Takes reading → is_bad_step answer ≡ false → Serves old new reading answer → (e : RunEnd) → StandsForEnd old e →
    (next : RunEnd) × StandsForEnd new next × Turns names e next (record { line = line; said = said }) (answer_text answer)
turns_of names old new line said reading answer is good served e stands =
    let s = served.on e stands in
    (after e reading answer, s.1, turns_step names e line said reading answer is (told_of e reading answer good s.0))

-- the decisions of an actor that a world shows
shown_of : (names : Known) (held : Held) (line : ℕ) (actor : Actor) (e : RunEnd) → StandsForEnd held e →
    (next : RunEnd) × StandsForEnd held next
    × Turns names e next (record { line = line; said = Audit actor }) (audit_text (kept_for actor held.audits))
shown_of names held line actor e stands =
    (e, stands, turns_shown names e line actor (kept_for actor held.audits) (ap (kept_for actor) stands.audits))

pub so_far_none : (names : Known) (held : Held) (statements : List Statement) (written : Option (List ℕ)) → Appends written written [] →
    SoFar names held statements held statements written written
so_far_none names held statements written nothing =
    record { front = []; appended = nothing; on = λ e stands. (e, stands, λ ended text w. w) }

pub so_far_more : (names : Known) (start : Held) (all : List Statement) (middle new : Held) (statement : Statement) (rest : List Statement)
    (before between after' : Option (List ℕ)) →
    SoFar names start all middle (statement ∷ rest) before between → Goes names middle new statement between after' →
    SoFar names start all new rest before after'
so_far_more names start all middle new statement rest before between after' so_far goes =
    record {
      front = so_far.front ++ goes.front;
      appended = appends_more before between after' so_far.front goes.front so_far.appended goes.appended;
      on = λ e stands.
          let (next, stands', on) = so_far.on e stands in
          let (last, stands'', turns) = goes.on next stands' in (
            last,
            stands'',
            λ ended text w.
                rw (append_assoc so_far.front goes.front text) (on ended (goes.front ++ text) (turns.on rest ended text w)),
          );
    }

pub so_far_done : (names : Known) (start : Held) (all : List Statement) (held : Held) (before after' : Option (List ℕ)) →
    SoFar names start all held [] before after' → WritesWhole names start all Done before after'
so_far_done names start all held before after' so_far =
    record {
      on = λ e stands.
          let (next, stands', on) = so_far.on e stands in
          (so_far.front ++ [], on Done [] (writes_none names next), rw append-nil so_far.appended);
    }

pub so_far_stops : (names : Known) (start : Held) (all : List Statement) (held : Held) (statement : Statement) (rest : List Statement) (ended : Ended)
    (before between after' : Option (List ℕ)) →
    SoFar names start all held (statement ∷ rest) before between → StopsAt names held statement ended between after' →
    WritesWhole names start all ended before after'
so_far_stops names start all held statement rest ended before between after' so_far stops =
    record {
      on = λ e stands.
          let (next, stands', on) = so_far.on e stands in (
            so_far.front ++ stops.text,
            on ended stops.text (stops.on next stands' rest),
            appends_more before between after' so_far.front stops.text so_far.appended stops.appended,
          );
    }

pub so_far_gives_up : (names : Known) (start : Held) (all : List Statement) (held : Held) (statement : Statement) (rest : List Statement)
    (before between after' : Option (List ℕ)) →
    SoFar names start all held (statement ∷ rest) before between → GivesUp names held statement between after' →
    WritesFront names start all before after'
so_far_gives_up names start all held statement rest before between after' so_far gives_up =
    record {
      on = λ e stands.
          let (next, stands', on) = so_far.on e stands in
          let (ended, text, written, begun) = (gives_up.on rest).on next stands' in (
            ended,
            so_far.front ++ text,
            on ended text written,
            front_more before between after' so_far.front text so_far.appended begun,
          );
    }

-- the run gave up between two statements
pub so_far_front : (names : Known) (start : Held) (all : List Statement) (held : Held) (left : List Statement) (before after' : Option (List ℕ)) →
    SoFar names start all held left before after' → WritesFront names start all before after'
so_far_front names start all held left before after' so_far =
    record {
      on = λ e stands.
          let (next, stands', on) = so_far.on e stands in
          let (ended, text, written) = some_text names next left in (
            ended,
            so_far.front ++ text,
            on ended text written,
            front_of_more before after' so_far.front text so_far.appended,
          );
    }

-- what writing an answer came to, as what the step came to
pub step_goes : (r : Result (Option Ended) RunFault) (old new : Held) (line : ℕ) (reading : Reading) (answer : Answer) (before after' : Option (List ℕ)) →
    Serves old new reading answer → is_bad_step answer ≡ false →
    IfOk r (λ ended. (ended ≡ None) × Appends before after' (answer_text answer)) →
    IfOk r (λ ended. Steps old new line reading ended before after')
step_goes (Ok ended) old new line reading answer before after' served good taken =
    rw taken.0 (record {
      on = λ names said is.
          goes_by names old new (record { line = line; said = said }) (answer_text answer) before after'
          (turns_of names old new line said reading answer is good served) taken.1;
    })
step_goes (Err fault) old new line reading answer before after' served good taken = tt

pub step_gives_up : (r : Result (Option Ended) RunFault) (old new : Held) (line : ℕ) (reading : Reading) (answer : Answer) (before after' : Option (List ℕ)) →
    Serves old new reading answer → is_bad_step answer ≡ false → OnErr r (AppendsFront before after' (answer_text answer)) →
    OnErr r (GivesUpStep old line reading before after')
step_gives_up (Ok ended) old new line reading answer before after' served good begun = tt
step_gives_up (Err fault) old new line reading answer before after' served good begun =
    record {
      on = λ names said is.
          gives_up_by names old new (record { line = line; said = said }) (answer_text answer) before after'
          (turns_of names old new line said reading answer is good served) begun;
    }

-- a step that is bad, and whose line was written, or a front of it
bad_on : (old new : Held) (reading : Reading) (answer : Answer) → Serves old new reading answer → is_bad_step answer ≡ true →
    (e : RunEnd) → StandsForEnd old e → IsAnswer e reading BadStep
bad_on old new reading answer served bad e stands =
    let P : Answer → Type 0 = λ those. IsAnswer e reading those in
    subst P (bad_is answer bad) (served.on e stands).0

pub step_stops : (r : Result (Option Ended) RunFault) (old new : Held) (line : ℕ) (reading : Reading) (answer : Answer) (before after' : Option (List ℕ)) →
    Serves old new reading answer → is_bad_step answer ≡ true →
    IfOk r (λ ended. (ended ≡ Some (BadLine line)) × Appends before after' (ended_text (BadLine line))) →
    IfOk r (λ ended. Steps old new line reading ended before after')
step_stops (Ok ended) old new line reading answer before after' served bad taken =
    rw taken.0 (record {
      on = λ names said is. record {
        text = ended_text (BadLine line);
        appended = taken.1;
        on = λ e stands rest. writes_bad_step names e line said reading rest is (bad_on old new reading answer served bad e stands);
      };
    })
step_stops (Err fault) old new line reading answer before after' served bad taken = tt

pub step_stops_short : (r : Result (Option Ended) RunFault) (old new : Held) (line : ℕ) (reading : Reading) (answer : Answer) (before after' : Option (List ℕ)) →
    Serves old new reading answer → is_bad_step answer ≡ true → OnErr r (AppendsFront before after' (ended_text (BadLine line))) →
    OnErr r (GivesUpStep old line reading before after')
step_stops_short (Ok ended) old new line reading answer before after' served bad begun = tt
step_stops_short (Err fault) old new line reading answer before after' served bad begun =
    record {
      on = λ names said is. record {
        on = λ rest. record {
          on = λ e stands. (
            BadLine line,
            ended_text (BadLine line),
            writes_bad_step names e line said reading rest is (bad_on old new reading answer served bad e stands),
            begun,
          );
        };
      };
    }

-- a policy that is put in force is a step
pub policy_goes : (r : Result (Option Ended) RunFault) (names : Known) (old new : Held) (line : ℕ) (text : List ℕ) (policy : Rules) (before after' : Option (List ℕ)) →
    policy_of names text ≡ Ok policy → IfOk r (λ ended. Steps old new line (put_in_force policy) ended before after') →
    IfOk r (λ ended. TakesStep names old new (record { line = line; said = Policy text }) ended before after')
policy_goes (Ok ended) names old new line text policy before after' is steps = steps.on names (Policy text) (rw is refl)
policy_goes (Err fault) names old new line text policy before after' is steps = tt

pub policy_gives_up : (r : Result (Option Ended) RunFault) (names : Known) (old : Held) (line : ℕ) (text : List ℕ) (policy : Rules) (before after' : Option (List ℕ)) →
    policy_of names text ≡ Ok policy → OnErr r (GivesUpStep old line (put_in_force policy) before after') →
    OnErr r (GivesUp names old (record { line = line; said = Policy text }) before after')
policy_gives_up (Ok ended) names old line text policy before after' is gives_up = tt
policy_gives_up (Err fault) names old line text policy before after' is gives_up = gives_up.on names (Policy text) (rw is refl)

-- one that is refused is none
pub refusal_goes : (r : Result (Option Ended) RunFault) (names : Known) (held : Held) (line : ℕ) (text : List ℕ) (fault : PolicyFault) (before after' : Option (List ℕ)) →
    Fails fault (policy_of names text) → IfOk r (λ ended. (ended ≡ None) × Appends before after' (told_text (told_of_fault fault))) →
    IfOk r (λ ended. TakesStep names held held (record { line = line; said = Policy text }) ended before after')
refusal_goes (Ok ended) names held line text fault before after' is taken =
    rw taken.0
    (goes_by names held held (record { line = line; said = Policy text }) (told_text (told_of_fault fault)) before after'
    (λ e stands. (e, stands, turns_refused names e line text fault is)) taken.1)
refusal_goes (Err error) names held line text fault before after' is taken = tt

pub refusal_gives_up : (r : Result (Option Ended) RunFault) (names : Known) (held : Held) (line : ℕ) (text : List ℕ) (fault : PolicyFault) (before after' : Option (List ℕ)) →
    Fails fault (policy_of names text) → OnErr r (AppendsFront before after' (told_text (told_of_fault fault))) →
    OnErr r (GivesUp names held (record { line = line; said = Policy text }) before after')
refusal_gives_up (Ok ended) names held line text fault before after' is begun = tt
refusal_gives_up (Err error) names held line text fault before after' is begun =
    gives_up_by names held held (record { line = line; said = Policy text }) (told_text (told_of_fault fault)) before after'
    (λ e stands. (e, stands, turns_refused names e line text fault is)) begun

-- a statement that is bad where it stands, and whose line was written, or a front of it
pub stops_bad : (names : Known) (held : Held) (line : ℕ) (said : Said) (before after' : Option (List ℕ)) → IsOutOfOrder said →
    Appends before after' (ended_text (BadLine line)) →
    StopsAt names held (record { line = line; said = said }) (BadLine line) before after'
stops_bad names held line said before after' out appended =
    record { text = ended_text (BadLine line); appended = appended; on = λ e stands rest. writes_bad names e line said rest out }

pub gives_up_bad : (names : Known) (held : Held) (line : ℕ) (said : Said) (before after' : Option (List ℕ)) → IsOutOfOrder said →
    AppendsFront before after' (ended_text (BadLine line)) →
    GivesUp names held (record { line = line; said = said }) before after'
gives_up_bad names held line said before after' out begun =
    record {
      on = λ rest. record {
        on = λ e stands.
            (BadLine line, ended_text (BadLine line), writes_bad names e line said rest out, begun);
      };
    }

-- nothing was written
pub appends_nothing : (written : Option (List ℕ)) → Appends written written []
appends_nothing None = tt
appends_nothing (Some xs) = sym (append-nil xs)

-- what holds holds of an error too
pub on_err : {T E P : Type 0} (r : Result T E) → P → OnErr r P
on_err (Ok x) p = tt
on_err (Err e) p = p

pub if_err : {T E : Type 0} (P : E → Type 0) (r : Result T E) → ((e : E) → P e) → IfErr r P
if_err P (Ok x) all = tt
if_err P (Err e) all = all e

pub if_some : {A : Type 0} (P : A → Type 0) (o : Option A) → ((x : A) → P x) → IfSome o P
if_some P None all = tt
if_some P (Some x) all = all x

pub statement_bad : (names : Known) (held : Held) (statement : Statement) (said : Said) (before after' : Option (List ℕ)) →
    statement.said ≡ said → IsOutOfOrder said → AppendsFront before after' (ended_text (BadLine statement.line)) →
    GivesUp names held statement before after'
statement_bad names held statement said before after' is out begun =
    let P : Said → Type 0 = λ those. GivesUp names held (record { line = statement.line; said = those }) before after' in
    subst P (sym is) (gives_up_bad names held statement.line said before after' out begun)

-- what taking a statement came to
pub step_taken : (r : Result (Option Ended) RunFault) (names : Known) (old new : Held) (statement : Statement) (reading : Reading) (before after' : Option (List ℕ)) →
    statement.said ≡ Does reading → IfOk r (λ ended. Steps old new statement.line reading ended before after') →
    IfOk r (λ ended. TakesStep names old new statement ended before after')
step_taken (Ok ended) names old new statement reading before after' is taken =
    let P : Said → Type 0 = λ said. TakesStep names old new (record { line = statement.line; said = said }) ended before after' in
    subst P (sym is) (taken.on names (Does reading) refl)
step_taken (Err fault) names old new statement reading before after' is taken = tt

pub step_given_up : (r : Result (Option Ended) RunFault) (names : Known) (held : Held) (statement : Statement) (reading : Reading) (before after' : Option (List ℕ)) →
    statement.said ≡ Does reading → OnErr r (GivesUpStep held statement.line reading before after') → OnErr r (GivesUp names held statement before after')
step_given_up (Ok ended) names held statement reading before after' is gives_up = tt
step_given_up (Err fault) names held statement reading before after' is gives_up =
    let P : Said → Type 0 = λ said. GivesUp names held (record { line = statement.line; said = said }) before after' in
    subst P (sym is) (gives_up.on names (Does reading) refl)

pub audit_taken : (r : Result (Option Ended) RunFault) (names : Known) (held : Held) (statement : Statement) (actor : Actor) (before after' : Option (List ℕ)) →
    statement.said ≡ Audit actor →
    IfOk r (λ ended. (ended ≡ None) × Appends before after' (audit_text (kept_for actor held.audits))) →
    IfOk r (λ ended. TakesStep names held held statement ended before after')
audit_taken (Ok ended) names held statement actor before after' is taken =
    let P : Said → Type 0 = λ said. Goes names held held (record { line = statement.line; said = said }) before after' in
    rw taken.0
    (subst P (sym is)
    (goes_by names held held (record { line = statement.line; said = Audit actor }) (audit_text (kept_for actor held.audits)) before after'
    (shown_of names held statement.line actor) taken.1))
audit_taken (Err fault) names held statement actor before after' is taken = tt

pub audit_given_up : (r : Result (Option Ended) RunFault) (names : Known) (held : Held) (statement : Statement) (actor : Actor) (before after' : Option (List ℕ)) →
    statement.said ≡ Audit actor → OnErr r (AppendsFront before after' (audit_text (kept_for actor held.audits))) →
    OnErr r (GivesUp names held statement before after')
audit_given_up (Ok ended) names held statement actor before after' is begun = tt
audit_given_up (Err fault) names held statement actor before after' is begun =
    let P : Said → Type 0 = λ said. GivesUp names held (record { line = statement.line; said = said }) before after' in
    subst P (sym is)
    (gives_up_by names held held (record { line = statement.line; said = Audit actor }) (audit_text (kept_for actor held.audits)) before after'
    (shown_of names held statement.line actor) begun)

pub policy_taken : (r : Result (Option Ended) RunFault) (names : Known) (old new : Held) (statement : Statement) (text found : List ℕ) (before after' : Option (List ℕ)) →
    found ≡ text → statement.said ≡ Policy text →
    IfOk r (λ ended. TakesStep names old new (record { line = statement.line; said = Policy found }) ended before after') →
    IfOk r (λ ended. TakesStep names old new statement ended before after')
policy_taken (Ok ended) names old new statement text found before after' same is taken =
    let P : Said → Type 0 = λ said. TakesStep names old new (record { line = statement.line; said = said }) ended before after' in
    subst P (ap Policy same ∙ sym is) taken
policy_taken (Err fault) names old new statement text found before after' same is taken = tt

pub policy_given_up : (r : Result (Option Ended) RunFault) (names : Known) (held : Held) (statement : Statement) (text found : List ℕ) (before after' : Option (List ℕ)) →
    found ≡ text → statement.said ≡ Policy text →
    OnErr r (GivesUp names held (record { line = statement.line; said = Policy found }) before after') →
    OnErr r (GivesUp names held statement before after')
policy_given_up (Ok ended) names held statement text found before after' same is gives_up = tt
policy_given_up (Err fault) names held statement text found before after' same is gives_up =
    let P : Said → Type 0 = λ said. GivesUp names held (record { line = statement.line; said = said }) before after' in
    subst P (ap Policy same ∙ sym is) gives_up

pub bad_taken : (r : Result (Option Ended) RunFault) (names : Known) (held : Held) (statement : Statement) (said : Said) (before after' : Option (List ℕ)) →
    statement.said ≡ said → IsOutOfOrder said →
    IfOk r (λ ended. (ended ≡ Some (BadLine statement.line)) × Appends before after' (ended_text (BadLine statement.line))) →
    IfOk r (λ ended. TakesStep names held held statement ended before after')
bad_taken (Ok ended) names held statement said before after' is out taken =
    let P : Said → Type 0 = λ those. StopsAt names held (record { line = statement.line; said = those }) (BadLine statement.line) before after' in
    rw taken.0 (subst P (sym is) (stops_bad names held statement.line said before after' out taken.1))
bad_taken (Err fault) names held statement said before after' is out taken = tt

pub bad_given_up : (r : Result (Option Ended) RunFault) (names : Known) (held : Held) (statement : Statement) (said : Said) (before after' : Option (List ℕ)) →
    statement.said ≡ said → IsOutOfOrder said → OnErr r (AppendsFront before after' (ended_text (BadLine statement.line))) →
    OnErr r (GivesUp names held statement before after')
bad_given_up (Ok ended) names held statement said before after' is out begun = tt
bad_given_up (Err fault) names held statement said before after' is out begun =
    statement_bad names held statement said before after' is out begun

-- the statements that are left, as they were found to be
pub so_far_at : (names : Known) (start : Held) (all : List Statement) (held : Held) (left found : List Statement) (before after' : Option (List ℕ)) →
    left ≡ found → SoFar names start all held left before after' → SoFar names start all held found before after'
so_far_at names start all held left found before after' is so_far =
    let P : List Statement → Type 0 = λ rest. SoFar names start all held rest before after' in
    subst P is so_far

-- ---- a whole script

-- some text is that of the script
some_opening_text : (o : Opening) → (ended : Ended) × (text : List ℕ) × IsOpeningText o ended text
some_opening_text Ends = (Done, [], (refl, refl))
some_opening_text (Refuses line) = (BadLine line, ended_text (BadLine line), (refl, refl))
some_opening_text (Opens names settings policy peers rest) = some_text names (opening_end settings policy peers) rest

-- nothing was written
pub begins_any : (statements : List Statement) (written : Option (List ℕ)) → BeginsScript statements written written
begins_any statements written =
    let (ended, text, is) = some_opening_text (opening_of no_preface statements) in
    record { ended = ended; text = text; is = is; appended = ([], text, refl, appends_nothing written) }

-- the head refused a line
head_refused : (o : Opening) (names : Known) (left : List Statement) (line : ℕ) → IsHead o names left (head.Refused line) →
    IsOpeningText o (BadLine line) (ended_text (BadLine line))
head_refused Ends names left line is = cc
head_refused (Refuses number) names left line is =
    let same : line ≡ number = cc in
    (ap BadLine same, ap (λ n. ended_text (BadLine n)) same)
head_refused (Opens given settings policy peers rest) names left line is = absurd is.2

-- the script ended within the head
head_ended : (o : Opening) (names : Known) (left : List Statement) → IsHead o names left head.Ended → IsOpeningText o Done []
head_ended Ends names left is = (refl, refl)
head_ended (Refuses line) names left is = cc
head_ended (Opens given settings policy peers rest) names left is = absurd is.2

-- the head opened a world
head_whole : (o : Opening) (names : Known) (left : List Statement) (world : Held) (ended : Ended) (before after' : Option (List ℕ)) →
    IsHead o names left (head.Opened world) → WritesWhole names world left ended before after' →
    (text : List ℕ) × IsOpeningText o ended text × Appends before after' text
head_whole Ends names left world ended before after' is whole = cc
head_whole (Refuses line) names left world ended before after' is whole = cc
head_whole (Opens given settings policy peers rest) names left world ended before after' is whole =
    let (text, written, appended) = whole.on (opening_end settings policy peers) is.2 in
    let P : List Statement → Type 0 = λ those. Writes names (opening_end settings policy peers) those ended text in
    let Q : Known → Type 0 = λ those. Writes those (opening_end settings policy peers) rest ended text in
    (text, subst Q (sym is.0) (subst P (sym is.1) written), appended)

head_front : (o : Opening) (names : Known) (left : List Statement) (world : Held) (before after' : Option (List ℕ)) →
    IsHead o names left (head.Opened world) → WritesFront names world left before after' →
    (ended : Ended) × (text : List ℕ) × IsOpeningText o ended text × AppendsFront before after' text
head_front Ends names left world before after' is front = cc
head_front (Refuses line) names left world before after' is front = cc
head_front (Opens given settings policy peers rest) names left world before after' is front =
    let (ended, text, written, begun) = front.on (opening_end settings policy peers) is.2 in
    let P : List Statement → Type 0 = λ those. Writes names (opening_end settings policy peers) those ended text in
    let Q : Known → Type 0 = λ those. Writes those (opening_end settings policy peers) rest ended text in
    (ended, text, subst Q (sym is.0) (subst P (sym is.1) written), begun)

-- what follows the head makes the text of the script
whole_followed : (statements : List Statement) (names : Known) (left : List Statement) (h : Head) (ended : Ended) (before after' : Option (List ℕ)) →
    IsHead (opening_of no_preface statements) names left h → FollowsHead names left h ended before after' →
    WritesScript statements ended before after'
whole_followed statements names left head.Ended ended before after' is (done, same) =
    rw (done, same) (record {
      text = [];
      is = head_ended (opening_of no_preface statements) names left is;
      appended = appends_nothing before;
    })
whole_followed statements names left (head.Refused line) ended before after' is (bad, written) =
    rw bad (record {
      text = ended_text (BadLine line);
      is = head_refused (opening_of no_preface statements) names left line is;
      appended = written;
    })
whole_followed statements names left (head.Opened world) ended before after' is whole =
    let (text, written, appended) = head_whole (opening_of no_preface statements) names left world ended before after' is whole in
    record { text = text; is = written; appended = appended }

front_followed : (statements : List Statement) (names : Known) (left : List Statement) (h : Head) (before after' : Option (List ℕ)) →
    IsHead (opening_of no_preface statements) names left h → BeginsHead names left h before after' →
    BeginsScript statements before after'
front_followed statements names left head.Ended before after' is none = absurd none
front_followed statements names left (head.Refused line) before after' is begun =
    record {
      ended = BadLine line;
      text = ended_text (BadLine line);
      is = head_refused (opening_of no_preface statements) names left line is;
      appended = begun;
    }
front_followed statements names left (head.Opened world) before after' is front =
    let (ended, text, written, begun) = head_front (opening_of no_preface statements) names left world before after' is front in
    record { ended = ended; text = text; is = written; appended = begun }

pub writes_followed : (r : Result Ended RunFault) (statements : List Statement) (names : Known) (left : List Statement) (h : Head)
    (before after' : Option (List ℕ)) →
    IsHead (opening_of no_preface statements) names left h →
    IfOk r (λ ended. FollowsHead names left h ended before after') → IfOk r (λ ended. WritesScript statements ended before after')
writes_followed (Ok ended) statements names left h before after' is whole =
    whole_followed statements names left h ended before after' is whole
writes_followed (Err fault) statements names left h before after' is whole = tt

pub begins_followed : (r : Result Ended RunFault) (statements : List Statement) (names : Known) (left : List Statement) (h : Head)
    (before after' : Option (List ℕ)) →
    IsHead (opening_of no_preface statements) names left h →
    OnErr r (BeginsHead names left h before after') → OnErr r (BeginsScript statements before after')
begins_followed (Ok ended) statements names left h before after' is front = tt
begins_followed (Err fault) statements names left h before after' is front =
    front_followed statements names left h before after' is front

-- the head of the statements that are those of the script, from no names on
pub head_at : (given : Preface) (statements found : List Statement) (names : Known) (left : List Statement) (h : Head) →
    given ≡ no_preface → statements ≡ found →
    IsHead (opening_of given statements) names left h → IsHead (opening_of no_preface found) names left h
head_at given statements found names left h none same head =
    let N : Preface → Type 0 = λ those. IsHead (opening_of those statements) names left h in
    let P : List Statement → Type 0 = λ those. IsHead (opening_of no_preface those) names left h in
    subst P same (subst N none head)
