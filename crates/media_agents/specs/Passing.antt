-- The turns of an agent, as they are counted for its gate. Own rules.
use Rattle.std.specs.Prelude.{ℕ, ◌+◌, ◌-◌, ◌*◌, ◌^◌, ◌==◌, Bool, if◌then◌else◌, min, nat_le}
use Rattle.media_agents.specs.declared.gate.Agent.{Agent}
use Rattle.media_agents.specs.declared.gate.Agent.TheVariants.{Conductor}
use Rattle.media_agents.specs.declared.gate.Rest.{Rest}
use Rattle.media_agents.specs.declared.gate.Rest.TheVariants.{Nothing, Spin, Yield, Sleep}
use Rattle.media_agents.specs.declared.gate.Turn.{Turn}

-- a number counts one more, and stays at the greatest
abbrev pub one_more : ℕ → ℕ
one_more n = min (n + 1) (2 ^ 64 - 1)

-- the turn after that one, in which there was something to do, or not, and something to look after, or not
abbrev pub next_turn : Bool → Bool → Turn → Turn
next_turn worked watches turn = record {
  number = one_more turn.number;
  idle = if worked then 0 else one_more turn.idle;
  watches = watches;
}

-- for how long an agent sleeps at most before a turn, in nanoseconds: the conductor ten milliseconds, which is its tick; another
-- one that has something to look after a millisecond for 200 idle turns, and then fifty; else a hundred
abbrev pub longest_pause : Agent → Turn → ℕ
longest_pause Conductor turn = 10000000
longest_pause agent turn = if turn.watches then (if nat_le turn.idle 200 then 1000000 else 50000000) else 100000000

-- for how long an agent sleeps after so many idle turns, in nanoseconds: a microsecond after 61, and twice as long after each
-- further one, up to the longest
abbrev pub pause_after : ℕ → ℕ → ℕ
pause_after idle longest = min (1000 * 2 ^ min (idle - 61) 17) longest

-- how an agent rests before a turn: it spins for 10 idle ones, yields for 50, and then sleeps
abbrev pub rest_before : Agent → Turn → Rest
rest_before agent turn =
    if turn.idle == 0
    then Nothing
    else (if nat_le turn.idle 10 then Spin else (if nat_le turn.idle 60 then Yield else Sleep (pause_after turn.idle (longest_pause agent turn))))
