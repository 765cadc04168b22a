-- What holds of all ticks of a Nakker, whichever gaps they have, at whatever moments.
use Rattle.std.specs.Prelude.{◌≡◌, ℕ, ◌+◌, nat_lt, max, List, [], ◌∷◌, ◌++◌, Option, Some, None, if◌then◌else◌}
use Rattle.retransmit_gate.specs.declared.nakker.Nak.{Nak}
use Rattle.retransmit_gate.specs.Nakker.{Watch, watching, nak_of, after_tick}

-- a tick: its moment, and the position and the length of the gap that there is then
pub record Tick : Type 0 where
  pub now : ℕ
  pub gap : Option (ℕ × ℕ)

-- the NAK of a tick, and what is known after it
abbrev pub nak_at : Watch → Tick → Option Nak
nak_at watch tick = nak_of watch tick.now tick.gap

abbrev pub ticked : Watch → Tick → Watch
ticked watch tick = after_tick watch tick.now tick.gap

-- what is known after these ticks
abbrev pub after_ticks : Watch → List Tick → Watch
after_ticks watch [] = watch
after_ticks watch (tick ∷ ticks) = after_ticks (ticked watch tick) ticks

-- after the first ticks of all
abbrev pub watch_of : ℕ → ℕ → List Tick → Watch
watch_of delay repeat ticks = after_ticks (watching delay repeat) ticks

-- the moment that the last of these ticks counts as: the greatest
abbrev pub latest_of : List Tick → ℕ
latest_of [] = 0
latest_of (tick ∷ ticks) = max tick.now (latest_of ticks)

-- the gap of a tick is at that position
abbrev pub IsAt : ℕ → Option (ℕ × ℕ) → Type 0
IsAt position None = ⊥
IsAt position (Some gap) = gap.0 ≡ position

-- a gap at that position is a new one: the last tick, if there was one, had none there
abbrev pub IsNew : ℕ → List Tick → Type 0
IsNew position [] = Unit {0}
IsNew position (tick ∷ []) = IsAt position tick.gap → ⊥
IsNew position (tick ∷ (next ∷ ticks)) = IsNew position (next ∷ ticks)

-- each of these ticks has the gap at that position, and gives no NAK
abbrev pub AreQuiet : ℕ → Watch → List Tick → Type 0
AreQuiet position watch [] = Unit {0}
AreQuiet position watch (tick ∷ ticks) = IsAt position tick.gap × (nak_at watch tick ≡ None) × AreQuiet position (ticked watch tick) ticks

-- the gap at that position was first seen at that moment, has been there at each tick since, and was not asked for
pub record IsSeen (delay repeat : ℕ) (ticks : List Tick) (position seen : ℕ) : Type 0 where
  pub before : List Tick
  pub first : Tick
  pub later : List Tick
  pub is : ticks ≡ before ++ first ∷ later
  pub new : IsNew position before
  pub quiet : AreQuiet position (watch_of delay repeat before) (first ∷ later)
  pub at : seen ≡ latest_of (before ++ first ∷ [])

-- the gap at that position was last asked for at that moment, and has been there at each tick since
pub record IsAsked (delay repeat : ℕ) (ticks : List Tick) (position asked : ℕ) : Type 0 where
  pub before : List Tick
  pub last : Tick
  pub later : List Tick
  pub is : ticks ≡ before ++ last ∷ later
  pub here : IsAt position last.gap
  pub nak : Nak
  pub asks : nak_at (watch_of delay repeat before) last ≡ Some nak
  pub quiet : AreQuiet position (watch_of delay repeat (before ++ last ∷ [])) later
  pub at : asked ≡ latest_of (before ++ last ∷ [])

-- a NAK of the gap, once it is longer than that since a moment
abbrev pub nak_past : ℕ → ℕ → List Tick → ℕ → ℕ × ℕ → Option Nak
nak_past limit since ticks now gap =
    if nat_lt (since + limit) (max (latest_of ticks) now) then Some (record { position = gap.0; length = gap.1 }) else None

-- After any ticks: without a gap no NAK, nor at the tick that first has a gap; one of a gap that was not asked for, past
-- the delay since it was first seen; and of one that was, past the repeat since it was last asked for.
pub record AsksExactly (delay repeat : ℕ) (ticks : List Tick) : Type 0 where
  pub none : (now : ℕ) → nak_of (watch_of delay repeat ticks) now None ≡ None
  pub first : (now position size : ℕ) → IsNew position ticks → nak_of (watch_of delay repeat ticks) now (Some (position, size)) ≡ None
  pub waits : (now position size seen : ℕ) → IsSeen delay repeat ticks position seen
      → nak_of (watch_of delay repeat ticks) now (Some (position, size)) ≡ nak_past delay seen ticks now (position, size)
  pub repeats : (now position size asked : ℕ) → IsAsked delay repeat ticks position asked
      → nak_of (watch_of delay repeat ticks) now (Some (position, size)) ≡ nak_past repeat asked ticks now (position, size)

abbrev pub GapsAreAskedExactly : Type 0
GapsAreAskedExactly = (delay repeat : ℕ) (ticks : List Tick) → AsksExactly delay repeat ticks

-- a gap is a new one, or was seen and not asked for, or was asked for
pub data Stand (delay repeat : ℕ) (ticks : List Tick) (position : ℕ) : Type 0 where
  fresh_gap : IsNew position ticks → Stand delay repeat ticks position
  seen_gap : (seen : ℕ) → IsSeen delay repeat ticks position seen → Stand delay repeat ticks position
  asked_gap : (asked : ℕ) → IsAsked delay repeat ticks position asked → Stand delay repeat ticks position

abbrev pub GapsStandSomewhere : Type 0
GapsStandSomewhere = (delay repeat : ℕ) (ticks : List Tick) (position : ℕ) → Stand delay repeat ticks position
