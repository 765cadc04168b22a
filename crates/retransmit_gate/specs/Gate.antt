-- Which NAKs are answered by sending frames again, over the list of all that was sent again of a log (Aeron Transport
-- Protocol Specification, loss recovery).
use Rattle.std.specs.Prelude.{ℕ, ◌+◌, ℤ, pos, Bool, not, ◌&&◌, List, [], ◌∷◌, ◌++◌, length, max, min, filter, nat_lt, nat_le, int_le, unsigned_abs, if◌then◌else◌}
use Rattle.std.specs.List.{list_any}
use Rattle.std.specs.declared.ops.Range.{Range}
use Rattle.retransmit_gate.specs.declared.answer.Answer.{Answer}
use Rattle.retransmit_gate.specs.declared.answer.Answer.TheVariants.{Resend, Lingering, Busy, OutOfWindow, Empty}
use Rattle.retransmit_gate.specs.declared.resent.Resent.{Resent}
use Rattle.retransmit_gate.specs.Moment.{is_past, later_of}

-- for how long a range lingers, the greatest moment seen, and all that was sent again, in order
pub record Resends : Type 0 where
  pub linger : ℕ
  pub latest : ℕ
  pub list : List Resent

-- nothing was sent again
abbrev pub opened : ℕ → Resends
opened linger = record { linger = linger; latest = 0; list = [] }

-- it was sent again not longer ago than the linger
abbrev pub lingers : ℕ → ℕ → Resent → Bool
lingers linger moment resent = not (is_past moment resent.moment linger)

abbrev pub lingering : ℕ → ℕ → List Resent → List Resent
lingering linger moment list = filter (lingers linger moment) list

-- the two ranges have a position in common: the greater of the starts is below the lesser of the ends
abbrev pub meets : ℕ → ℕ → Resent → Bool
meets start end resent = nat_lt (max start resent.start) (min end resent.end)

-- the range of that many positions lies within the window
abbrev pub is_within : ℕ → ℕ → Range ℕ → Bool
is_within position size window = nat_le window.start position && nat_le (position + size) window.end

-- the first that applies, where these ranges linger
abbrev pub answer_among : List Resent → ℕ → ℤ → Range ℕ → Answer
answer_among resent position size window =
    if int_le size (pos 0) then Empty
    else if not (is_within position (unsigned_abs size) window) then OutOfWindow
    else if list_any (meets position (position + unsigned_abs size)) resent then Lingering
    else if nat_le 16 (length resent) then Busy
    else Resend

-- the answer to a NAK, over all that was sent again
unfoldable pub answer_of : Resends → ℕ → ℕ → ℤ → Range ℕ → Answer
answer_of resends now position size window =
    answer_among (lingering resends.linger (later_of resends.latest now) resends.list) position size window

-- the list after the answer: the range joins it where it is sent again
abbrev pub joined : Answer → List Resent → Resent → List Resent
joined Resend list resent = list ++ resent ∷ []
joined Lingering list resent = list
joined Busy list resent = list
joined OutOfWindow list resent = list
joined Empty list resent = list

-- all that was sent again after a NAK
unfoldable pub after_nak : Resends → ℕ → ℕ → ℤ → Range ℕ → Resends
after_nak resends now position size window = record {
  linger = resends.linger;
  latest = later_of resends.latest now;
  list = joined (answer_of resends now position size window) resends.list
      (record { start = position; end = position + unsigned_abs size; moment = later_of resends.latest now });
}

-- what of it can still decide: what lingers at the greatest moment seen
unfoldable pub kept_of : Resends → Resends
kept_of resends = record {
  linger = resends.linger;
  latest = resends.latest;
  list = lingering resends.linger resends.latest resends.list;
}
