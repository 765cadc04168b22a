-- A stream that is taken up again further on than it was left, as its publisher sees it. Own rules.
use Rattle.std.specs.Prelude.{ℕ, ℤ, nat_lt, min, Option, Some, None, if◌then◌else◌}
use Rattle.stream_gaps.specs.Gaps.{gap_after}
use Rattle.stream_gaps.specs.declared.gap.Gap.{Gap}
use Rattle.stream_gaps.specs.declared.taken_up.TakenUp.{TakenUp}

-- where nobody was there, the stream was announced from where it was sent to: one that reports less goes on where it was, and
-- lost nothing
abbrev pub gap_up_to : TakenUp → Option ℕ → ℤ → ℕ → ℕ → Option Gap
gap_up_to up None session taken least = None
gap_up_to up (Some to) session taken least =
    if nat_lt (min taken least) up.from then None else gap_after session up.left (min taken to)

-- between the position at which it was left and the one at which it is taken up again
abbrev pub gap_at : TakenUp → ℤ → Option ℕ → ℕ → Option Gap
gap_at up session None least = None
gap_at up session (Some taken) least = gap_up_to up up.to session taken least

-- what is known after a look
abbrev pub looked : TakenUp → ℕ → Option ℕ → TakenUp
looked up sent None = record up { to = Some sent }
looked up sent (Some taken) = record { left = Some taken; from = sent; to = None }
