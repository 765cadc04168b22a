-- A log of either kind as if nothing of it were lost: what calls make of it, and which log stands for it.
use Rattle.std.specs.Prelude.{◌≡◌, ℕ, Bool, false, List, [], ◌∷◌, ◌++◌, filter, map, Option}
use Rattle.frame_codec.specs.Frame.{Sent}
use Rattle.frame_codec.specs.declared.header.TermPlace.{TermPlace}
use Rattle.image_log.specs.Polling.{polled as image_polled}
use Rattle.image_log.specs.Rebuilt.{Rebuilt, contiguous_of, is_silent, joined as image_joined, left as image_left, settled, rejoined as image_rejoined}
use Rattle.image_log.specs.declared.insert.Insert.{Insert}
use Rattle.log_pairs.specs.Pairs.{is_other, position_of}
use Rattle.log_pairs.specs.Polling.{Fetched}
use Rattle.log_pairs.specs.declared.pair.Pair.{Pair}
use Rattle.log_traffic.specs.declared.any_log.AnyLog.{AnyLog}
use Rattle.log_traffic.specs.declared.any_log.AnyLog.TheVariants.{Term, Image}
use Rattle.log_traffic.specs.Held.{Made, for_publication, for_stream}
use Rattle.log_traffic.specs.Receiving.{after_beat, after_data, words_of}
use Rattle.term_log.specs.Frames.{messages_of}
use Rattle.term_log.specs.Whole.{Whole, Stands, tail_of, rejoined as term_rejoined, polled as term_polled}

-- all frames that were ever appended to a publication's log; or what is kept of the frames that came of a remote stream
pub data AnyWhole : Type 0 where
  whole : Whole → AnyWhole
  rebuilt : Rebuilt → AnyWhole

-- a publication's log holds of all frames what has to be held; a remote stream's keeps all that is kept
abbrev pub StandsFor : AnyLog → AnyWhole → Type 0
StandsFor (Term log) (whole w) = Stands log w
StandsFor (Term log) (rebuilt r) = ⊥
StandsFor (Image log) (whole w) = ⊥
StandsFor (Image log) (rebuilt r) = log.rebuilt ≡ r

-- What is held stands for some whole log, so that whatever is said of each such log is said of one. (A remote stream's log always
-- does, for what it keeps: what holds of its frames and bytes is its layout.)
pub record HasWhole (log : AnyLog) : Type 0 where
  pub whole : AnyWhole
  pub stands : StandsFor log whole

abbrev pub made_for : AnyWhole → Made
made_for (whole w) = for_publication w.ident
made_for (rebuilt r) = for_stream r.ident

abbrev pub reach_of : AnyWhole → ℕ
reach_of (whole w) = tail_of w
reach_of (rebuilt r) = contiguous_of r

-- nothing was heard of the sender of a remote stream for longer than that
abbrev pub is_silent_in : AnyWhole → ℕ → ℕ → Bool
is_silent_in (whole w) now limit = false
is_silent_in (rebuilt r) now limit = is_silent r now limit

-- who reads, in the order in which they joined
abbrev pub pairs_in : AnyWhole → List Pair
pairs_in (whole w) = w.pairs
pairs_in (rebuilt r) = r.pairs

abbrev pub readers_in : AnyWhole → List ℕ
readers_in w = map (λ pair. pair.subscription) (pairs_in w)

abbrev pub position_in : AnyWhole → ℕ → Option ℕ
position_in w subscription = position_of (pairs_in w) subscription

-- how many messages were ever appended to a publication's log; a remote stream's takes none
abbrev pub messages_in : AnyWhole → ℕ
messages_in (whole w) = messages_of w.frames
messages_in (rebuilt r) = 0

-- one subscription more reads from now on, from as far as the log reaches
abbrev pub joined : ℕ → AnyWhole → AnyWhole
joined subscription (whole w) =
    whole (record w { pairs = w.pairs ++ record { subscription = subscription; position = tail_of w } ∷ [] })
joined subscription (rebuilt r) = rebuilt (settled (image_joined r subscription))

-- that subscription reads no longer
abbrev pub left : ℕ → AnyWhole → AnyWhole
left subscription (whole w) = whole (record w { pairs = filter (is_other subscription) w.pairs })
left subscription (rebuilt r) = rebuilt (settled (image_left r subscription))

-- exactly these subscriptions read from now on: one that was there from where it is, a new one from as far as the log
-- reaches
abbrev pub rejoined : List ℕ → AnyWhole → AnyWhole
rejoined subscriptions (whole w) = whole (term_rejoined subscriptions w)
rejoined subscriptions (rebuilt r) = rebuilt (settled (image_rejoined r subscriptions))

-- what a poll gives, and what it leaves
pub record Poll : Type 0 where
  pub fragments : List Fetched
  pub after : AnyWhole

abbrev pub polled : AnyWhole → ℕ → ℕ → Poll
polled (whole w) subscription limit = record {
  fragments = (term_polled w subscription limit).fragments;
  after = whole (term_polled w subscription limit).after;
}
polled (rebuilt r) subscription limit = record {
  fragments = (image_polled r subscription limit).fragments;
  after = rebuilt (image_polled r subscription limit).after;
}

-- what a datagram of data makes of a remote stream's log at a moment, and the word for each of its frames; a publication's
-- log takes none
abbrev pub received : ℕ → List Sent → AnyWhole → AnyWhole
received now frames (whole w) = whole w
received now frames (rebuilt r) = rebuilt (after_data r now frames)

abbrev pub words_in : List Sent → AnyWhole → List Insert
words_in frames (whole w) = []
words_in frames (rebuilt r) = words_of r frames

-- what a heartbeat makes of it
abbrev pub beaten : ℕ → TermPlace → AnyWhole → AnyWhole
beaten now place (whole w) = whole w
beaten now place (rebuilt r) = rebuilt (after_beat r now place)

-- ---- what calls do, whatever the log stands for

pub record Carries (old new : AnyLog) (f : AnyWhole → AnyWhole) : Type 0 where
  pub on : (w : AnyWhole) → StandsFor old w → StandsFor new (f w)

-- how many messages were taken
pub record Counts (log : AnyLog) (messages : ℕ) : Type 0 where
  pub on : (w : AnyWhole) → StandsFor log w → messages ≡ messages_in w

-- what a poll is to give
pub record Fetches (log : AnyLog) (subscription limit : ℕ) (fragments : List Fetched) : Type 0 where
  pub on : (w : AnyWhole) → StandsFor log w → fragments ≡ (polled w subscription limit).fragments

-- the words for the frames of a datagram
pub record Words (log : AnyLog) (frames : List Sent) (words : List Insert) : Type 0 where
  pub on : (w : AnyWhole) → StandsFor log w → words ≡ words_in frames w
