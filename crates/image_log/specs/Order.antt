-- Frames in the order of their positions.
use Rattle.std.specs.Prelude.{◌≡◌, ℕ, suc, ◌+◌, ◌%◌, ◌≤◌, ◌==◌, ◌⊎◌, Bool, true, ◌&&◌, nat_lt, nat_le, max, min, if◌then◌else◌, List, [], ◌∷◌, bytes_eq}
use Rattle.std.specs.List.{list_any}
use Rattle.image_log.specs.Frame.{Frame, end_of}

-- the frames stand in order from `low` to `end`: their ranges do not meet, and each takes 32 positions at least
abbrev pub Ordered : ℕ → ℕ → List Frame → Type 0
Ordered low end [] = Unit {0}
Ordered low end (f ∷ fs) = (low ≤ f.position) × (32 ≤ f.span) × (end_of f ≤ end) × Ordered (end_of f) end fs

-- how many of the frames begin below a position
abbrev pub rank : ℕ → List Frame → ℕ
rank p [] = 0
rank p (f ∷ fs) = if nat_lt f.position p then suc (rank p fs) else 0

-- the frame begins at p and has these bytes
abbrev pub is_same : ℕ → List ℕ → Frame → Bool
is_same p bytes f = f.position == p && bytes_eq f.bytes bytes

-- the positions from p to `end` and those of the frame have one in common: the greater of the starts is below the
-- lesser of the ends
abbrev pub meets : ℕ → ℕ → Frame → Bool
meets p end f = nat_lt (max p f.position) (min end (end_of f))

-- the end of the longest chain of frames, each of which begins where the one before ends, the first at p
abbrev pub chain : ℕ → List Frame → ℕ
chain p [] = p
chain p (f ∷ fs) = if f.position == p then chain (end_of f) fs else p

-- where the first frame that begins at p or above begins; without one, `none`
abbrev pub next_from : ℕ → ℕ → List Frame → ℕ
next_from none p [] = none
next_from none p (f ∷ fs) = if nat_lt f.position p then next_from none p fs else f.position

-- the frame begins at a position or above it
abbrev pub begins_from : ℕ → Frame → Bool
begins_from low f = nat_le low f.position

-- the frame begins at a position
abbrev pub begins_at : ℕ → Frame → Bool
begins_at p f = f.position == p

-- a position is this one, or a frame begins there
abbrev pub Begins : ℕ → List Frame → ℕ → Type 0
Begins at fs p = (p ≡ at) ⊎ (list_any (begins_at p) fs ≡ true)

-- the frame begins at one position or above it, and below another
abbrev pub begins_within : ℕ → ℕ → Frame → Bool
begins_within from to f = nat_le from f.position && nat_lt f.position to

-- no frame crosses the end of a term of this size
abbrev pub InTerms : ℕ → List Frame → Type 0
InTerms size [] = Unit {0}
InTerms size (f ∷ fs) = (f.position % size + f.span ≤ size) × InTerms size fs
