-- What becomes of an image's log by the datagrams that come of its stream (Aeron Transport Protocol Specification, data
-- recovery by receivers).
use Rattle.std.specs.Prelude.{◌≡◌, ℕ, max, List, [], ◌∷◌}
use Rattle.frame_codec.specs.declared.header.TermPlace.{TermPlace}
use Rattle.frame_codec.specs.Frame.{Sent}
use Rattle.frame_codec.specs.Sound.{IsTold}
use Rattle.image_log.specs.Handed.{position_in}
use Rattle.image_log.specs.Rebuilt.{Rebuilt, after_insert, insert_of}
use Rattle.image_log.specs.declared.ident.Ident.{Ident}
use Rattle.image_log.specs.declared.insert.Insert.{Insert}

-- a place in the log's session and stream
pub record IsIn (ident : Ident) (place : TermPlace) : Type 0 where
  pub session : place.session_id ≡ ident.session_id
  pub stream : place.stream_id ≡ ident.stream_id

-- each frame is sound, and of the log's session and stream
abbrev pub AreOf : Ident → List Sent → Type 0
AreOf ident [] = Unit {0}
AreOf ident (frame ∷ later) = IsTold frame × IsIn ident frame.header.place × AreOf ident later

-- the first frame is of the log's session and stream
abbrev pub BeginsIn : Ident → List Sent → Type 0
BeginsIn ident [] = Unit {0}
BeginsIn ident (frame ∷ later) = IsIn ident frame.header.place

-- the word for a frame that is handed in at its header's position, and the log after it
unfoldable pub word_of : Rebuilt → Sent → Insert
word_of r frame = insert_of r (position_in r.ident frame.header.place) frame.bytes

unfoldable pub after_frame : Rebuilt → Sent → Rebuilt
after_frame r frame = after_insert r (position_in r.ident frame.header.place) frame.bytes

-- the words for frames that are handed in one after the other: one a frame, in order
abbrev pub words_of : Rebuilt → List Sent → List Insert
words_of r [] = []
words_of r (frame ∷ later) = word_of r frame ∷ words_of (after_frame r frame) later

abbrev pub after_frames : Rebuilt → List Sent → Rebuilt
after_frames r [] = r
after_frames r (frame ∷ later) = after_frames (after_frame r frame) later

-- the sender was heard at a moment; the greatest one counts
abbrev pub heard_at : Rebuilt → ℕ → Rebuilt
heard_at r now = record r { moment = max r.moment now }

-- the log after a datagram of data frames and pads: the sender was heard, whatever became of the frames
unfoldable pub after_data : Rebuilt → ℕ → List Sent → Rebuilt
after_data r now frames = heard_at (after_frames r frames) now

-- the log after a heartbeat, which says where the sender is: the sender was heard, and is as far as that
unfoldable pub after_beat : Rebuilt → ℕ → TermPlace → Rebuilt
after_beat r now place = heard_at (record r { greatest = max r.greatest (position_in r.ident place) }) now
