-- What is written of one statement, whatever comes behind it.
use Rattle.std.proofs.Common.{◌≡◌, ℕ, true, false, List, [], ◌∷◌, ◌++◌, Option, Result, Ok, Err, refl, sym, subst, append_assoc, append-nil}
use Rattle.std.specs.Io.KnownBytes.{Appends}
use Rattle.std.specs.List.{flat_map}
use Rattle.log_steps.specs.declared.answer.Answer.{Answer}
use Rattle.log_steps.specs.declared.answer.Answer.TheVariants.{BadStep, NoMemory}
use Rattle.audit_ring.specs.Audit.{Kept}
use Rattle.driver_world.specs.declared.actor.Actor.{Actor}
use Rattle.driver_world.specs.declared.reading.Reading.{Reading}
use Rattle.driver_world.specs.Audits.{kept_all, kept_for}
use Rattle.driver_world.specs.Ends.{RunEnd, IsAnswer, after}
use Rattle.driver_script.specs.declared.script.Ended.{Ended}
use Rattle.driver_script.specs.declared.script.Ended.TheVariants.{Done, BadLine}
use Rattle.script_lines.specs.declared.statements.Said.{Said}
use Rattle.script_lines.specs.declared.statements.Said.TheVariants.{Principal, Peer, Set, Policy, Does, Audit, Bad}
use Rattle.script_lines.specs.declared.statements.Statement.{Statement}
use Rattle.driver_script.specs.Output.{AppendsFront}
use Rattle.policy_core.specs.RuleList.{Rules}
use Rattle.policy_text.specs.declared.fault.PolicyFault.{PolicyFault}
use Rattle.policy_text.specs.declared.fault.PolicyFault.TheVariants as text
use Rattle.policy_text.specs.Document.{policy_of}
use Rattle.policy_text.specs.Fault.{Fails}
use Rattle.policy_text.specs.Names.{Known}
use Rattle.driver_script.specs.Script.{Deed, Takes, deed_by, deed_of, Told, Answered, Shown, IsDone, IsRunning, IsToldBy, Writes, is_bad_step, answer_text, audit_text, told_text, ended_text}
use Rattle.driver_script.specs.Turns.{Turns, told_of_fault}
use Rattle.driver_script.proofs.OutputLemmas.{appends_more}

-- ---- writing

-- a text and then a front of more is a front of both
pub front_more : (start middle end : Option (List ℕ)) (front more : List ℕ) →
    Appends start middle front → AppendsFront middle end more → AppendsFront start end (front ++ more)
front_more start middle end front more first (some, rest, is, next) =
    (front ++ some, rest, rw is (sym (append_assoc front some rest)), appends_more start middle end front some first next)

-- a whole text is a front of it
pub front_whole : (start end : Option (List ℕ)) (text : List ℕ) → Appends start end text → AppendsFront start end text
front_whole start end text whole = (text, [], sym (append-nil text), whole)

-- what is written is also a front of something longer
pub front_of_more : (start end : Option (List ℕ)) (front more : List ℕ) → Appends start end front → AppendsFront start end (front ++ more)
front_of_more start end front more written = (front, more, refl, written)

pub front_longer : (start end : Option (List ℕ)) (text more : List ℕ) → AppendsFront start end text → AppendsFront start end (text ++ more)
front_longer start end text more (some, rest, is, written) =
    (some, rest ++ more, rw is (append_assoc some rest more), written)

-- ---- one statement

-- the end of the script
pub writes_none : (names : Known) (e : RunEnd) → Writes names e [] Done []
writes_none names e = record { told = []; run = (refl, refl); text_is = refl }

-- a statement with what it is told
turns_told : (names : Known) (e next : RunEnd) (statement : Statement) (told : Told) →
    ((later : RunEnd → List Told → Type 0) (others : List Told) (ended : Ended) → later next others →
    IsDone e statement.line (deed_of names statement.said) later (told ∷ others) ended) →
    Turns names e next statement (told_text told)
turns_told names e next statement told done =
    record {
      on = λ rest ended text written.
          record {
            told = told ∷ written.told;
            run = done (λ after more. IsRunning names after rest more ended) written.told ended written.run;
            text_is = rw written.text_is (sym (append_assoc (told_text told) (flat_map told_text written.told) (ended_text ended)));
          };
    }

-- an answer is told, unless the step is bad
pub told_of : (e : RunEnd) (reading : Reading) (answer : Answer) → is_bad_step answer ≡ false → IsAnswer e reading answer →
    IsToldBy e reading answer
told_of e reading BadStep good is = absurd (cc)
told_of e reading answer good is = is

pub bad_is : (answer : Answer) → is_bad_step answer ≡ true → answer ≡ BadStep
bad_is BadStep bad = refl
bad_is answer bad = absurd (cc)

-- a step with its answer
done_step : (e : RunEnd) (line : ℕ) (deed : Deed) (reading : Reading) (answer : Answer) → deed ≡ Takes reading →
    IsToldBy e reading answer → (later : RunEnd → List Told → Type 0) (others : List Told) (ended : Ended) →
    later (after e reading answer) others → IsDone e line deed later (Answered answer ∷ others) ended
done_step e line deed reading answer is answered later others ended rest =
    let P : Deed → Type 0 = λ those. IsDone e line those later (Answered answer ∷ others) ended in
    subst P (sym is) (answered, rest)

pub turns_step : (names : Known) (e : RunEnd) (line : ℕ) (said : Said) (reading : Reading) (answer : Answer) →
    deed_of names said ≡ Takes reading → IsToldBy e reading answer →
    Turns names e (after e reading answer) (record { line = line; said = said }) (answer_text answer)
turns_step names e line said reading answer is answered =
    turns_told names e (after e reading answer) (record { line = line; said = said }) (Answered answer)
    (done_step e line (deed_of names said) reading answer is answered)

-- the decisions of an actor, which are shown
pub turns_shown : (names : Known) (e : RunEnd) (line : ℕ) (actor : Actor) (kept : Kept) → kept ≡ kept_for actor (kept_all e.decided) →
    Turns names e e (record { line = line; said = Audit actor }) (audit_text kept)
turns_shown names e line actor kept is =
    turns_told names e e (record { line = line; said = Audit actor }) (Shown kept) (λ later others ended rest. (is, rest))

-- the text of a policy that is refused, or finds no memory: nothing is changed
done_refused : (e : RunEnd) (line : ℕ) (fault : PolicyFault) (meaning : Result Rules PolicyFault) → Fails fault meaning →
    (later : RunEnd → List Told → Type 0) (others : List Told) (ended : Ended) →
    later e others → IsDone e line (deed_by meaning) later (told_of_fault fault ∷ others) ended
done_refused e line text.NoMemory (Ok policy) is later others ended rest = (tt, rest)
done_refused e line text.NoMemory (Err fault) is later others ended rest = (tt, rest)
done_refused e line text.NotToml meaning is later others ended rest = rw is (refl, rest)
done_refused e line text.BadVersion meaning is later others ended rest = rw is (refl, rest)
done_refused e line (text.BadField rule field) meaning is later others ended rest = rw is (refl, rest)
done_refused e line text.TooManyRules meaning is later others ended rest = rw is (refl, rest)
done_refused e line (text.UnknownPrincipal rule) meaning is later others ended rest = rw is (refl, rest)
done_refused e line (text.UnknownAct rule) meaning is later others ended rest = rw is (refl, rest)
done_refused e line (text.BadRange rule) meaning is later others ended rest = rw is (refl, rest)

pub turns_refused : (names : Known) (e : RunEnd) (line : ℕ) (text : List ℕ) (fault : PolicyFault) → Fails fault (policy_of names text) →
    Turns names e e (record { line = line; said = Policy text }) (told_text (told_of_fault fault))
turns_refused names e line text fault is =
    turns_told names e e (record { line = line; said = Policy text }) (told_of_fault fault)
    (done_refused e line fault (policy_of names text) is)

-- a statement that is bad where it stands
abbrev pub IsOutOfOrder : Said → Type 0
IsOutOfOrder (Does reading) = ⊥
IsOutOfOrder (Audit actor) = ⊥
IsOutOfOrder (Principal name number) = Unit {0}
IsOutOfOrder (Peer peer) = Unit {0}
IsOutOfOrder (Set key value) = Unit {0}
IsOutOfOrder (Policy text) = ⊥
IsOutOfOrder Bad = Unit {0}

pub writes_bad : (names : Known) (e : RunEnd) (line : ℕ) (said : Said) (rest : List Statement) → IsOutOfOrder said →
    Writes names e (record { line = line; said = said } ∷ rest) (BadLine line) (ended_text (BadLine line))
writes_bad names e line (Does reading) rest out = absurd out
writes_bad names e line (Audit actor) rest out = absurd out
writes_bad names e line (Principal name number) rest out = record { told = []; run = (refl, refl); text_is = refl }
writes_bad names e line (Peer peer) rest out = record { told = []; run = (refl, refl); text_is = refl }
writes_bad names e line (Set key value) rest out = record { told = []; run = (refl, refl); text_is = refl }
writes_bad names e line (Policy text) rest out = absurd out
writes_bad names e line Bad rest out = record { told = []; run = (refl, refl); text_is = refl }

-- a step that is bad where it stands
pub writes_bad_step : (names : Known) (e : RunEnd) (line : ℕ) (said : Said) (reading : Reading) (rest : List Statement) →
    deed_of names said ≡ Takes reading → IsAnswer e reading BadStep →
    Writes names e (record { line = line; said = said } ∷ rest) (BadLine line) (ended_text (BadLine line))
writes_bad_step names e line said reading rest is bad =
    let P : Deed → Type 0 = λ those. IsDone e line those (λ next more. IsRunning names next rest more (BadLine line)) [] (BadLine line) in
    record { told = []; run = subst P (sym is) (bad, refl); text_is = refl }

-- what has no memory is told so, and leaves all as it was
done_without : (e : RunEnd) (line : ℕ) (meaning : Result Rules PolicyFault) (later : RunEnd → List Told → Type 0) (others : List Told)
    (ended : Ended) → later e others → IsDone e line (deed_by meaning) later (Answered NoMemory ∷ others) ended
done_without e line (Ok policy) later others ended rest = (tt, rest)
done_without e line (Err fault) later others ended rest = (tt, rest)

some_text_by : (names : Known) (e : RunEnd) (line : ℕ) (said : Said) (rest : List Statement) →
    ((ended : Ended) × (text : List ℕ) × Writes names e rest ended text) →
    (ended : Ended) × (text : List ℕ) × Writes names e (record { line = line; said = said } ∷ rest) ended text
some_text_by names e line (Does reading) rest (ended, text, written) = (
  ended,
  answer_text NoMemory ++ text,
  (turns_step names e line (Does reading) reading NoMemory refl tt).on rest ended text written,
)
some_text_by names e line (Audit actor) rest (ended, text, written) = (
  ended,
  audit_text (kept_for actor (kept_all e.decided)) ++ text,
  (turns_shown names e line actor (kept_for actor (kept_all e.decided)) refl).on rest ended text written,
)
some_text_by names e line (Principal name number) rest later =
    (BadLine line, ended_text (BadLine line), writes_bad names e line (Principal name number) rest tt)
some_text_by names e line (Peer peer) rest later =
    (BadLine line, ended_text (BadLine line), writes_bad names e line (Peer peer) rest tt)
some_text_by names e line (Set key value) rest later =
    (BadLine line, ended_text (BadLine line), writes_bad names e line (Set key value) rest tt)
some_text_by names e line (Policy toml) rest (ended, text, written) = (
  ended,
  answer_text NoMemory ++ text,
  (turns_told names e e (record { line = line; said = Policy toml }) (Answered NoMemory) (done_without e line (policy_of names toml))).on
      rest ended text written,
)
some_text_by names e line Bad rest later =
    (BadLine line, ended_text (BadLine line), writes_bad names e line Bad rest tt)

-- from any point on there is a text that is written: that of steps which are all refused memory
pub some_text : (names : Known) (e : RunEnd) (statements : List Statement) →
    (ended : Ended) × (text : List ℕ) × Writes names e statements ended text
some_text names e [] = (Done, [], writes_none names e)
some_text names e (statement ∷ rest) = some_text_by names e statement.line statement.said rest (some_text names e rest)
