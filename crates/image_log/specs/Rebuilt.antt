-- The log of a remote stream: a map from positions to frames whose ranges do not meet (Aeron Transport Protocol
-- Specification, data recovery by receivers).
use Rattle.std.specs.Prelude.{ℕ, ◌+◌, ◌-◌, ◌/◌, ◌%◌, Bool, ◌||◌, nat_lt, nat_le, max, min, if◌then◌else◌, Option, Some, None, List, [], ◌∷◌, ◌++◌, insert, filter, map}
use Rattle.image_log.specs.Answer.{answer_among}
use Rattle.image_log.specs.Frame.{Frame, framed}
use Rattle.image_log.specs.Handed.{span_of, offset_of}
use Rattle.image_log.specs.Order.{Begins, begins_from, begins_within, chain, next_from, rank}
use Rattle.image_log.specs.Reading.{cut_to}
use Rattle.image_log.specs.declared.ident.Ident.{Ident}
use Rattle.image_log.specs.declared.insert.Insert.{Insert}
use Rattle.image_log.specs.declared.insert.Insert.TheVariants.{Taken, Repeat, Overlap, Below, Beyond}
use Rattle.image_log.specs.declared.status.LastStatus.{LastStatus}
use Rattle.log_pairs.specs.Pairs.{is_other, least_or, moved_one, rejoined_pairs}
use Rattle.log_pairs.specs.declared.pair.Pair.{Pair}

-- which stream it is of; where it joined, the base, the frames in order, the greatest position heard of, the moment at
-- which the sender was heard last, the status message sent last, and the pairs
pub record Rebuilt : Type 0 where
  pub ident : Ident
  pub join : ℕ
  pub base : ℕ
  pub frames : List Frame
  pub greatest : ℕ
  pub moment : ℕ
  pub status : Option LastStatus
  pub pairs : List Pair

-- where the term of a position begins
abbrev pub term_start : ℕ → ℕ → ℕ
term_start size p = p - p % size

-- where the term of a position ends
abbrev pub term_end : ℕ → ℕ → ℕ
term_end size p = term_start size p + size

-- no frame below this is kept: the greater of the join and the start of the base's term
abbrev pub low_of : Rebuilt → ℕ
low_of r = max r.join (term_start r.ident.term_length r.base)

-- how far above the base frames may begin
abbrev pub window_of : ℕ → ℕ
window_of size = min 131072 (size / 2)

-- the positions above this are not taken
abbrev pub reach_of : Rebuilt → ℕ
reach_of r = r.base + window_of r.ident.term_length

-- the end of the longest chain of frames
abbrev pub contiguous_of : Rebuilt → ℕ
contiguous_of r = chain (low_of r) r.frames

-- the frame begins past the window, or crosses the end of the term that its header names
abbrev pub is_beyond : Rebuilt → ℕ → List ℕ → Bool
is_beyond r p bytes = nat_le (reach_of r) p || nat_lt r.ident.term_length (offset_of bytes + span_of bytes)

-- what becomes of a frame: the first that applies
unfoldable pub insert_of : Rebuilt → ℕ → List ℕ → Insert
insert_of r p bytes =
    if nat_lt p (low_of r) then Below
    else if is_beyond r p bytes then Beyond
    else answer_among p (p + span_of bytes) bytes r.frames

-- the frames after the answer: one more where it is taken
abbrev pub frames_after : Insert → List Frame → Frame → List Frame
frames_after Taken fs f = insert fs (rank f.position fs) f
frames_after Repeat fs f = fs
frames_after Overlap fs f = fs
frames_after Below fs f = fs
frames_after Beyond fs f = fs

-- the log after the answer; whatever it is, the frame's end was heard of
unfoldable pub after_insert : Rebuilt → ℕ → List ℕ → Rebuilt
after_insert r p bytes = record r {
  frames = frames_after (insert_of r p bytes) r.frames (framed p (span_of bytes) bytes);
  greatest = max r.greatest (p + span_of bytes);
}

-- where the gap ends: at the next frame, or, without one, at the greatest position heard of, but within the window
abbrev pub gap_end : Rebuilt → ℕ
gap_end r = min (next_from r.greatest (contiguous_of r) r.frames) (reach_of r)

-- the first positions that are missing, and how many
unfoldable pub gap_of : Rebuilt → Option (ℕ × ℕ)
gap_of r = if nat_lt (contiguous_of r) (gap_end r) then Some (contiguous_of r, gap_end r - contiguous_of r) else None

-- the frames from a position up to the contiguous position or the end of the position's term, cut to so many bytes of a
-- datagram
unfoldable pub frames_of : Rebuilt → ℕ → ℕ → List Frame
frames_of r p bytes = cut_to bytes (filter (begins_within p (min (contiguous_of r) (term_end r.ident.term_length p))) r.frames)

-- a position from which on a reader goes: a frame begins there, or it is the contiguous position
abbrev pub IsStart : Rebuilt → ℕ → Type 0
IsStart r p = Begins (contiguous_of r) r.frames p

-- no frame yet
abbrev pub opened : Ident → ℕ → Rebuilt
opened ident join = record { ident = ident; join = join; base = join; frames = []; greatest = join; moment = 0; status = None; pairs = [] }

-- the log with another base, without the frames below the start of its term
abbrev pub based : Rebuilt → ℕ → Rebuilt
based r base = record r {
  base = base;
  frames = filter (begins_from (max r.join (term_start r.ident.term_length base))) r.frames;
}

-- the log with the least position of a pair as its base, which stays where there is no pair
unfoldable pub settled : Rebuilt → Rebuilt
settled r = based r (least_or r.base r.pairs)

-- with one pair more, which has read up to the contiguous position
abbrev pub joined : Rebuilt → ℕ → Rebuilt
joined r subscription = record r { pairs = r.pairs ++ record { subscription = subscription; position = contiguous_of r } ∷ [] }

-- without the pair of a subscription
abbrev pub left : Rebuilt → ℕ → Rebuilt
left r subscription = record r { pairs = filter (is_other subscription) r.pairs }

-- read by exactly these subscriptions: one that was there from where it is, a new one from the contiguous position
abbrev pub rejoined : Rebuilt → List ℕ → Rebuilt
rejoined r subscriptions = record r { pairs = rejoined_pairs (contiguous_of r) r.pairs subscriptions }

-- with the pair of a subscription moved
abbrev pub advanced : Rebuilt → ℕ → ℕ → Rebuilt
advanced r subscription position = record r { pairs = map (moved_one subscription position) r.pairs }

-- whether the sender was not heard for longer than that
abbrev pub is_silent : Rebuilt → ℕ → ℕ → Bool
is_silent r now limit = nat_lt (r.moment + limit) now
