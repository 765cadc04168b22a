-- Logs that are held stand for the logs of an end, one for one.
use Rattle.std.proofs.Common.{rules, ◌≡◌, ℕ, ◌==◌, Bool, true, false, List, [], ◌∷◌, map, Option, Some, None, if◌then◌else◌, refl, ap, ap₂, ◌∙◌, arith}
use Rattle.std.proofs.lemmas.List.Elements.{All-nil}
use Rattle.driver_core.specs.declared.state.peer.Peer.{Peer}
use Rattle.driver_core.specs.declared.state.settings.Settings.{Settings}
use Rattle.driver_core.specs.Soundness.{AreSettings}
use Rattle.driver_core.specs.State.{State, opened}
use Rattle.log_steps.specs.declared.answer.Answer.{Answer}
use Rattle.driver_steps.specs.Ends.{RunEnd, log_at, with_log, moved_on}
use Rattle.log_steps.specs.Held.{HeldLog, LiesAsBefore}
use Rattle.driver_steps.specs.OpenLogs.{HeldLogs, held_at, with_held, GivesHeld, MovesHeld}
use Rattle.log_steps.specs.Memory.{is_listed}
use Rattle.log_steps.specs.Moves.{WholeLog, Move, StandsForLog}
use Rattle.policy_core.specs.RuleList.{Rules}
use Rattle.driver_steps.specs.Standing.{Match, StandAll, row_held, row_on}

-- ---- the first log of a source

abbrev pub StandAt : Option HeldLog → Option WholeLog → Type 0
StandAt None None = Unit {0}
StandAt None (Some log) = ⊥
StandAt (Some held) None = ⊥
StandAt (Some held) (Some log) = StandsForLog held log

at_cond : (b c : Bool) (first : HeldLog) (log : WholeLog) (held : Option HeldLog) (there : Option WholeLog) → b ≡ c →
    StandsForLog first log → StandAt held there →
    StandAt (if b then Some first else held) (if c then Some log else there)
at_cond true c first log held there same one others = rw (← same) one
at_cond false c first log held there same one others = rw (← same) others

pub stand_at : (held : List HeldLog) (logs : List WholeLog) (source : ℕ) → StandAll held logs →
    StandAt (held_at held source) (log_at logs source)
stand_at [] [] source stand = tt
stand_at [] (log ∷ logs) source stand = absurd stand
stand_at (first ∷ held) [] source stand = absurd stand
stand_at (first ∷ held) (log ∷ logs) source stand =
    at_cond (first.source == source) (log.source == source) first log (held_at held source) (log_at logs source)
    (ap (λ (of : ℕ). of == source) stand.0.source_is) stand.0 (stand_at held logs source stand.1)

with_cond : (b c : Bool) (first new : HeldLog) (log after : WholeLog) (held held' : List HeldLog) (logs logs' : List WholeLog) →
    b ≡ c → StandsForLog first log → StandAll held logs → StandsForLog new after → StandAll held' logs' →
    StandAll (if b then new ∷ held else first ∷ held') (if c then after ∷ logs else log ∷ logs')
with_cond true c first new log after held held' logs logs' same one all moved others = rw (← same) (moved, all)
with_cond false c first new log after held held' logs logs' same one all moved others = rw (← same) (one, others)

-- both lists with that log changed
pub stand_with : (held : List HeldLog) (logs : List WholeLog) (source : ℕ) (new : HeldLog) (after : WholeLog) →
    StandAll held logs → StandsForLog new after → StandAll (with_held held source new) (with_log logs source after)
stand_with [] [] source new after stand moved = tt
stand_with [] (log ∷ logs) source new after stand moved = absurd stand
stand_with (first ∷ held) [] source new after stand moved = absurd stand
stand_with (first ∷ held) (log ∷ logs) source new after stand moved =
    with_cond (first.source == source) (log.source == source) first new log after held (with_held held source new) logs (with_log logs source after)
    (ap (λ (of : ℕ). of == source) stand.0.source_is) stand.0 stand.1 moved (stand_with held logs source new after stand.1 moved)

-- a move of the first log of a source is that move of the end
abbrev pub MovesEnd : RunEnd → HeldLogs → Answer → RunEnd → Answer → Type 0
MovesEnd e new given after answer = (given ≡ answer) × StandAll new.logs after.logs × (after.registry ≡ e.registry)

moves_found : (e : RunEnd) (source : ℕ) (move : WholeLog → Move) (absent given : Answer) (old new : HeldLogs) (found : Option HeldLog) (there : Option WholeLog) →
    StandAll old.logs e.logs → StandAt found there → MovesHeld source move absent old new given found →
    MovesEnd e new given (moved_on e source move absent there).after (moved_on e source move absent there).answer
moves_found e source move absent given old new None None all at moves = (moves.1, rw moves.0 all, refl)
moves_found e source move absent given old new None (Some log) all at moves = absurd at
moves_found e source move absent given old new (Some held) None all at moves = absurd at
moves_found e source move absent given old new (Some held) (Some log) all at moves =
    let done = moves.1.on log at in
    (done.0, rw moves.3 (stand_with old.logs e.logs source moves.0 (move log).after all done.1), refl)

pub moves_first : (e : RunEnd) (source : ℕ) (move : WholeLog → Move) (absent given : Answer) (old new : HeldLogs) →
    StandAll old.logs e.logs → MovesHeld source move absent old new given (held_at old.logs source) →
    MovesEnd e new given (moved_on e source move absent (log_at e.logs source)).after
    (moved_on e source move absent (log_at e.logs source)).answer
moves_first e source move absent given old new all moves =
    moves_found e source move absent given old new (held_at old.logs source) (log_at e.logs source) all
    (stand_at old.logs e.logs source all) moves

-- where the first log of a source gives fragments, the end's does
gives_found : (e : RunEnd) (source : ℕ) (move : WholeLog → Move) (absent : Answer) (found : Option HeldLog) (there : Option WholeLog) →
    StandAt found there → GivesHeld move found → is_listed (moved_on e source move absent there).answer ≡ true
gives_found e source move absent None there at gives = absurd gives
gives_found e source move absent (Some held) None at gives = absurd at
gives_found e source move absent (Some held) (Some log) at gives = gives.on log at

pub gives_first : (e : RunEnd) (source : ℕ) (move : WholeLog → Move) (absent : Answer) (old : List HeldLog) → StandAll old e.logs →
    GivesHeld move (held_at old source) → is_listed (moved_on e source move absent (log_at e.logs source)).answer ≡ true
gives_first e source move absent old all gives =
    gives_found e source move absent (held_at old source) (log_at e.logs source) (stand_at old e.logs source all) gives

-- ---- a log that lies as before is in the same row

same_row : (old new : HeldLog) → LiesAsBefore old new → row_held new ≡ row_held old
same_row old new lies = ap₂ row_on lies.plot_is lies.made_is

rows_cond : (b : Bool) (first held new : HeldLog) (others others' : List HeldLog) (rest : Option HeldLog) →
    (if b then Some first else rest) ≡ Some held → LiesAsBefore held new →
    (rest ≡ Some held → map row_held others' ≡ map row_held others) →
    map row_held (if b then new ∷ others else first ∷ others') ≡ map row_held (first ∷ others)
rows_cond true first held new others others' rest is lies same =
    let one : first ≡ held = search rules in
    rw (one, same_row held new lies) refl
rows_cond false first held new others others' rest is lies same = rw (same is) refl

with_held_rows : (logs : List HeldLog) (source : ℕ) (held new : HeldLog) → held_at logs source ≡ Some held →
    LiesAsBefore held new → map row_held (with_held logs source new) ≡ map row_held logs
with_held_rows [] source held new is lies = refl
with_held_rows (first ∷ others) source held new is lies =
    rows_cond (first.source == source) first held new others (with_held others source new) (held_at others source) is lies
    (λ there. with_held_rows others source held new there lies)

rows_found : (source : ℕ) (move : WholeLog → Move) (absent given : Answer) (old new : HeldLogs) (found : Option HeldLog) →
    held_at old.logs source ≡ found → MovesHeld source move absent old new given found →
    (map row_held new.logs ≡ map row_held old.logs) × (new.pages ≡ old.pages)
rows_found source move absent given old new None is moves = (rw moves.0 refl, rw moves.0 refl)
rows_found source move absent given old new (Some held) is moves =
    (rw moves.3 (with_held_rows old.logs source held moves.0 is moves.2), rw moves.3 refl)

-- a move leaves all logs in their rows, of as many pages
moves_keep : (source : ℕ) (move : WholeLog → Move) (absent given : Answer) (old new : HeldLogs) →
    MovesHeld source move absent old new given (held_at old.logs source) →
    (map row_held new.logs ≡ map row_held old.logs) × (new.pages ≡ old.pages)
moves_keep source move absent given old new moves =
    rows_found source move absent given old new (held_at old.logs source) refl moves

-- so they stay the live ones
pub match_moved : (s : State) (source : ℕ) (move : WholeLog → Move) (absent given : Answer) (old new : HeldLogs) → Match s old →
    MovesHeld source move absent old new given (held_at old.logs source) → Match s new
match_moved s source move absent given old new matches moves =
    let kept = moves_keep source move absent given old new moves in
    record { sound = matches.sound; pages = rw kept.1 matches.pages; rows = rw kept.0 matches.rows }

-- however much room there is
pub match_roomy : (s : State) (old new : HeldLogs) → (let roomy : HeldLogs = record old { room = new.room } in new ≡ roomy) → Match s old →
    Match s new
match_roomy s old new roomy matches = record {
  sound = matches.sound;
  pages = ap (λ (h : HeldLogs). h.pages) roomy ∙ matches.pages;
  rows = ap (λ (h : HeldLogs). map row_held h.logs) roomy ∙ matches.rows;
}

-- ---- a world in which nothing happened yet

-- nothing is published, and no log is open
pub opening_match : (room : ℕ) (settings : Settings) (policy : Rules) (peers : List Peer) → AreSettings settings →
    Match (opened settings policy peers) (record { pages = settings.arena_pages; logs = []; room = room })
unfolding opened
opening_match room settings policy peers are =
    record {
      sound = record {
        defaults = are.sizes;
        sizes = All-nil _;
        numbered = search rules;
        begins = All-nil _;
        laid_out = record { within = All-nil _; apart = λ i j d low high. absurd (omega (arith, high)) };
        subscriptions = search rules;
      };
      pages = refl;
      rows = refl;
    }
