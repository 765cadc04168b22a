-- Whether what was there to read was gone on with. Own rules; moments are in nanoseconds, positions in bytes of a stream.
use Rattle.std.specs.Prelude.{◌≡◌, ◌<◌, ◌≤◌, ◌+◌, ◌*◌, ◌-◌, ◌^◌, ◌++◌, min, nat_le, nat_lt, ℕ, All, Bool, true, false, List, [], ◌∷◌, Option, Some, None, if◌then◌else◌}
use Rattle.reading_progress.specs.declared.marks.Mark.{Mark}

-- a quarter was read of what was there to read
abbrev pub has_gone_on : Mark → ℕ → Bool
has_gone_on mark position = nat_le mark.unread (min ((position - mark.position) * 4) (2 ^ 64 - 1))

-- what there is to read from now on
abbrev pub mark_at : ℕ → ℕ → ℕ → Mark
mark_at now position received = record { position = position; unread = received - position; since = now }

abbrev pub kept_mark : Option Mark → ℕ → ℕ → ℕ → Mark
kept_mark None now position received = mark_at now position received
kept_mark (Some mark) now position received = if has_gone_on mark position then mark_at now position received else mark

-- Where a subscription is seen at a position, and the stream is there up to another one: nothing is there to read; or what was there
-- to read before is still remembered, as it has not gone on since; or what is there now.
abbrev pub next_mark : Option Mark → ℕ → ℕ → ℕ → Option Mark
next_mark mark now position received = if nat_le received position then None else Some (kept_mark mark now position received)

-- it had something to read for longer than that and has not gone on
abbrev pub is_stuck : Option Mark → ℕ → ℕ → Bool
is_stuck None now longest = false
is_stuck (Some mark) now longest = nat_lt longest (now - mark.since)

-- ---- many looks

-- at that moment, the position up to which a subscription had read, and that up to which the stream was there
pub record Look : Type 0 where
  pub now : ℕ
  pub position : ℕ
  pub received : ℕ

-- there was something to read
abbrev pub HasMore : Look → Type 0
HasMore look = look.position < look.received

-- what is remembered after these looks
abbrev pub mark_after : Option Mark → List Look → Option Mark
mark_after mark [] = mark
mark_after mark (look ∷ looks) = mark_after (next_mark mark look.now look.position look.received) looks

-- there was something to read at that look, and less than a quarter of what there was at the first was read since
abbrev pub StandsStill : Look → Look → Type 0
StandsStill first look = HasMore look × (has_gone_on (mark_at first.now first.position first.received) look.position ≡ false)

-- The last looks are one at which there was something to read, at that moment, and others at which it stood still since then.
pub record StoodStill (looks : List Look) (since : ℕ) : Type 0 where
  pub before : List Look
  pub first : Look
  pub later : List Look
  pub looks_are : looks ≡ before ++ first ∷ later
  pub something : HasMore first
  pub still : All (StandsStill first) later
  pub since_is : since ≡ first.now

-- whoever is found stuck after some looks stood still for so long
abbrev pub StuckStoodStill : Type 0
StuckStoodStill =
    (looks : List Look) (now longest : ℕ) → is_stuck (mark_after None looks) now longest ≡ true
    → (since : ℕ) × StoodStill looks since × (longest + since < now)

-- there was something to read, and it was where it had been at the first
abbrev pub IsWhereItWas : Look → Look → Type 0
IsWhereItWas first look = HasMore look × (look.position ≡ first.position)

-- Whatever was seen before: whoever had something to read since that look, and stayed where it was for longer than the time, is
-- stuck.
abbrev pub StandingIsStuck : Type 0
StandingIsStuck =
    (before : List Look) (first : Look) (later : List Look) (now longest : ℕ)
    → All (λ (look : Look). look.now ≤ first.now) before → HasMore first → All (IsWhereItWas first) later → longest + first.now < now
    → is_stuck (mark_after None (before ++ first ∷ later)) now longest ≡ true
