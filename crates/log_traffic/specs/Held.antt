-- What is held of a log of either kind: where it lies, how far it reaches, and who reads it.
use Rattle.std.specs.Prelude.{◌≡◌, ℕ, Bool, false, List, [], ◌∷◌, ◌++◌, filter, Option}
use Rattle.frame_codec.specs.Frame.{Sent}
use Rattle.image_log.specs.declared.ident.Ident.{Ident as ImageIdent}
use Rattle.image_log.specs.Rebuilt.{contiguous_of, is_silent, joined as image_joined, left as image_left, settled, rejoined as image_rejoined}
use Rattle.log_arena.specs.Homes.{Home}
use Rattle.log_pairs.specs.Pairs.{is_other, position_of}
use Rattle.log_pairs.specs.declared.pair.Pair.{Pair}
use Rattle.log_traffic.specs.declared.any_log.AnyLog.{AnyLog}
use Rattle.log_traffic.specs.declared.any_log.AnyLog.TheVariants.{Term, Image}
use Rattle.log_traffic.specs.Receiving.{AreOf}
use Rattle.term_log.specs.declared.ident.Ident.{Ident}
use Rattle.term_log.specs.Whole.{rejoined_kept}

-- what a log is made for
pub data Made : Type 0 where
  for_publication : Ident → Made
  for_stream : ImageIdent → Made

abbrev pub made_held : AnyLog → Made
made_held (Term log) = for_publication log.kept.ident
made_held (Image log) = for_stream log.rebuilt.ident

-- how many bytes one of its terms is to have
abbrev pub terms_of : Made → ℕ
terms_of (for_publication ident) = ident.term_length
terms_of (for_stream ident) = ident.term_length

-- the frames of a datagram may be handed to the log: those of a remote stream are of its session and stream
abbrev pub AreFor : Made → List Sent → Type 0
AreFor (for_publication ident) frames = Unit {0}
AreFor (for_stream ident) frames = AreOf ident frames

-- where its lease is: the region, the first byte there, and how many bytes one of its three terms has
pub record Place : Type 0 where
  pub home : Home
  pub place : ℕ
  pub term_length : ℕ

abbrev pub place_held : AnyLog → Place
place_held (Term log) = record {
  home = log.kept.buffers.home;
  place = log.kept.buffers.place;
  term_length = log.kept.buffers.term_length;
}
place_held (Image log) = record {
  home = log.held.home;
  place = log.held.place;
  term_length = log.rebuilt.ident.term_length;
}

-- it lies where it lay, and is made for what it was made for
pub record Lies (old new : AnyLog) : Type 0 where
  pub place_is : place_held new ≡ place_held old
  pub made_is : made_held new ≡ made_held old

-- the position after the last frame of a publication; up to which a remote stream is whole
abbrev pub reach_held : AnyLog → ℕ
reach_held (Term log) = log.kept.tail
reach_held (Image log) = contiguous_of log.rebuilt

-- how many messages were appended to a publication's log; a remote stream's takes none
abbrev pub messages_held : AnyLog → ℕ
messages_held (Term log) = log.kept.messages
messages_held (Image log) = 0

-- nothing was heard of the sender of a remote stream for longer than that
abbrev pub is_silent_held : AnyLog → ℕ → ℕ → Bool
is_silent_held (Term log) now limit = false
is_silent_held (Image log) now limit = is_silent log.rebuilt now limit

-- who reads it, in the order in which they joined
abbrev pub pairs_held : AnyLog → List Pair
pairs_held (Term log) = log.pairs
pairs_held (Image log) = log.rebuilt.pairs

-- how far the subscription has read, if it is there
abbrev pub position_held : AnyLog → ℕ → Option ℕ
position_held log subscription = position_of (pairs_held log) subscription

-- exactly these subscriptions read from now on
abbrev pub rejoined_held : List ℕ → AnyLog → AnyLog
rejoined_held subscriptions (Term log) = Term (rejoined_kept subscriptions log)
rejoined_held subscriptions (Image log) = Image (record log { rebuilt = settled (image_rejoined log.rebuilt subscriptions) })

-- one subscription more reads, from as far as the log reaches
abbrev pub joined_held : ℕ → AnyLog → AnyLog
joined_held subscription (Term log) =
    Term (record log { pairs = log.pairs ++ record { subscription = subscription; position = log.kept.tail } ∷ [] })
joined_held subscription (Image log) = Image (record log { rebuilt = settled (image_joined log.rebuilt subscription) })

-- that subscription reads no longer
abbrev pub left_held : ℕ → AnyLog → AnyLog
left_held subscription (Term log) = Term (record log { pairs = filter (is_other subscription) log.pairs })
left_held subscription (Image log) = Image (record log { rebuilt = settled (image_left log.rebuilt subscription) })
