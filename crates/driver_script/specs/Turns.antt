-- The run of a script, statement by statement: what has been written so far goes before whatever is written from there on.
use Rattle.std.specs.Prelude.{◌≡◌, ℕ, List, ◌∷◌, ◌++◌, Option, Some, None}
use Rattle.std.specs.Io.KnownBytes.{Appends}
use Rattle.log_steps.specs.declared.answer.Answer.TheVariants.{NoMemory}
use Rattle.driver_core.specs.declared.state.peer.Peer.{Peer}
use Rattle.driver_core.specs.declared.state.settings.Settings.{Settings}
use Rattle.driver_world.specs.declared.reading.Reading.{Reading}
use Rattle.driver_world.specs.Ends.{RunEnd, opening_end}
use Rattle.driver_world.specs.Standing.{Held, StandsForEnd}
use Rattle.policy_core.specs.RuleList.{Rules}
use Rattle.policy_text.specs.declared.fault.PolicyFault.{PolicyFault}
use Rattle.policy_text.specs.declared.fault.PolicyFault.TheVariants as text
use Rattle.policy_text.specs.Names.{Known}
use Rattle.driver_script.specs.declared.script.Ended.{Ended}
use Rattle.driver_script.specs.declared.script.Ended.TheVariants.{Done, BadLine}
use Rattle.driver_script.specs.declared.script.Head.{Head}
use Rattle.driver_script.specs.declared.script.Head.TheVariants as head
use Rattle.driver_script.specs.declared.script.Preface.{Preface}
use Rattle.driver_script.specs.declared.fault.RunFault.{RunFault}
use Rattle.driver_script.specs.declared.fault.RunFault.TheVariants as fault
use Rattle.script_lines.specs.declared.statements.Said.{Said}
use Rattle.script_lines.specs.declared.statements.Statement.{Statement}
use Rattle.driver_script.specs.Output.{AppendsFront}
use Rattle.driver_script.specs.Script.{Opening, Ends, Refuses, Opens, opening_of, Takes, deed_of, Told, Answered, Refused, Writes, IsScriptText, ended_text}

-- ---- the head

-- the world stands at the opening with these settings and peers, under that policy
abbrev pub IsWorldOf : Settings → Rules → List Peer → Head → Type 0
IsWorldOf settings policy peers (head.Opened world) = StandsForEnd world (opening_end settings policy peers)
IsWorldOf settings policy peers (head.Refused line) = ⊥
IsWorldOf settings policy peers head.Ended = ⊥

-- the head is what the statements open; these names are given, and these statements are left
abbrev pub IsHead : Opening → Known → List Statement → Head → Type 0
IsHead Ends names left h = h ≡ head.Ended
IsHead (Refuses line) names left h = h ≡ head.Refused line
IsHead (Opens given settings policy peers rest) names left h =
    (given ≡ names) × (rest ≡ left) × IsWorldOf settings policy peers h

-- one statement of the head: it adds to the names, the peers or the settings, or it decides the head
pub record AddsOne (old new : Preface) (statement : Statement) : Type 0 where
  pub on : (rest : List Statement) → opening_of old (statement ∷ rest) ≡ opening_of new rest

pub record DecidesHead (old new : Preface) (statement : Statement) (h : Head) : Type 0 where
  pub on : (rest : List Statement) → IsHead (opening_of old (statement ∷ rest)) new.names rest h

abbrev pub TakesHead : Preface → Preface → Statement → Option Head → Type 0
TakesHead old new statement None = AddsOne old new statement
TakesHead old new statement (Some h) = DecidesHead old new statement h

-- ---- the steps

-- what is answered to a policy's text that is refused, or finds no memory
abbrev pub told_of_fault : PolicyFault → Told
told_of_fault text.NoMemory = Answered NoMemory
told_of_fault fault = Refused fault

-- a statement was taken, and the text that it is answered goes before what the others write from there on
pub record Turns (names : Known) (e next : RunEnd) (statement : Statement) (front : List ℕ) : Type 0 where
  pub on : (rest : List Statement) (ended : Ended) (text : List ℕ) →
      Writes names next rest ended text → Writes names e (statement ∷ rest) ended (front ++ text)

-- the same of a world, with what reached the writer
pub record Goes (names : Known) (old new : Held) (statement : Statement) (before after : Option (List ℕ)) : Type 0 where
  pub front : List ℕ
  pub appended : Appends before after front
  pub on : (e : RunEnd) → StandsForEnd old e → (next : RunEnd) × StandsForEnd new next × Turns names e next statement front

-- the statement is bad here, and its text ends the run
pub record StopsAt (names : Known) (held : Held) (statement : Statement) (ended : Ended) (before after : Option (List ℕ)) : Type 0 where
  pub text : List ℕ
  pub appended : Appends before after text
  pub on : (e : RunEnd) → StandsForEnd held e → (rest : List Statement) → Writes names e (statement ∷ rest) ended text

abbrev pub TakesStep : Known → Held → Held → Statement → Option Ended → Option (List ℕ) → Option (List ℕ) → Type 0
TakesStep names old new statement None before after = Goes names old new statement before after
TakesStep names old new statement (Some ended) before after = StopsAt names old statement ended before after

-- the same of a step at that line, whatever statement it is
pub record Steps (old new : Held) (line : ℕ) (reading : Reading) (ended : Option Ended) (before after : Option (List ℕ)) : Type 0 where
  pub on : (names : Known) (said : Said) → deed_of names said ≡ Takes reading →
      TakesStep names old new (record { line = line; said = said }) ended before after

-- a front of a text that the statements write from there on was written
pub record WritesFront (names : Known) (held : Held) (statements : List Statement) (before after : Option (List ℕ)) : Type 0 where
  pub on : (e : RunEnd) → StandsForEnd held e →
      (ended : Ended) × (text : List ℕ) × Writes names e statements ended text × AppendsFront before after text

pub record GivesUp (names : Known) (held : Held) (statement : Statement) (before after : Option (List ℕ)) : Type 0 where
  pub on : (rest : List Statement) → WritesFront names held (statement ∷ rest) before after

pub record GivesUpStep (held : Held) (line : ℕ) (reading : Reading) (before after : Option (List ℕ)) : Type 0 where
  pub on : (names : Known) (said : Said) → deed_of names said ≡ Takes reading →
      GivesUp names held (record { line = line; said = said }) before after

-- the text that the statements write from there on was written
pub record WritesWhole (names : Known) (held : Held) (statements : List Statement) (ended : Ended) (before after : Option (List ℕ)) : Type 0 where
  pub on : (e : RunEnd) → StandsForEnd held e → (text : List ℕ) × Writes names e statements ended text × Appends before after text

-- in the middle of a run: what was written goes before what the others write
pub record SoFar (names : Known) (start : Held) (all : List Statement) (held : Held) (left : List Statement) (before after : Option (List ℕ)) : Type 0 where
  pub front : List ℕ
  pub appended : Appends before after front
  pub on : (e : RunEnd) → StandsForEnd start e → (next : RunEnd) × StandsForEnd held next
      × ((ended : Ended) (text : List ℕ) → Writes names next left ended text → Writes names e all ended (front ++ text))

-- ---- a whole script

-- what was written where the head came to that, and these statements are left: nothing, that its line is bad, or the text
-- of the statements
abbrev pub FollowsHead : Known → List Statement → Head → Ended → Option (List ℕ) → Option (List ℕ) → Type 0
FollowsHead names left head.Ended ended before after = (ended ≡ Done) × (after ≡ before)
FollowsHead names left (head.Refused line) ended before after = (ended ≡ BadLine line) × Appends before after (ended_text (BadLine line))
FollowsHead names left (head.Opened world) ended before after = WritesWhole names world left ended before after

-- a front of that was written, where it gave up
abbrev pub BeginsHead : Known → List Statement → Head → Option (List ℕ) → Option (List ℕ) → Type 0
BeginsHead names left head.Ended before after = ⊥
BeginsHead names left (head.Refused line) before after = AppendsFront before after (ended_text (BadLine line))
BeginsHead names left (head.Opened world) before after = WritesFront names world left before after

-- the text of the script was written, and nothing else
pub record WritesScript (statements : List Statement) (ended : Ended) (before after : Option (List ℕ)) : Type 0 where
  pub text : List ℕ
  pub is : IsScriptText statements ended text
  pub appended : Appends before after text

-- a front of a text of the script was written, and nothing else
pub record BeginsScript (statements : List Statement) (before after : Option (List ℕ)) : Type 0 where
  pub ended : Ended
  pub text : List ℕ
  pub is : IsScriptText statements ended text
  pub appended : AppendsFront before after text

-- the script was read, and the run was begun
abbrev pub IsBegun : RunFault → Type 0
IsBegun fault.Read = ⊥
IsBegun fault.TooLong = ⊥
IsBegun fault.Write = Unit {0}
IsBegun fault.NoMemory = Unit {0}

-- the script was not read
abbrev pub IsUnread : RunFault → Type 0
IsUnread fault.Read = Unit {0}
IsUnread fault.TooLong = Unit {0}
IsUnread fault.Write = ⊥
IsUnread fault.NoMemory = ⊥
