-- A log as it lies in its lease.
use Rattle.std.specs.Prelude.{ℕ, ◌+◌, ◌*◌, List, drop, map}
use Rattle.log_pairs.specs.Layout.{IsWellFormed, Layout, Placed}
use Rattle.term_log.specs.Frames.{Frame, span}
use Rattle.term_log.specs.Kept.{Kept, offset_of}
use Rattle.term_log.specs.Log.{Log, low_of}
use Rattle.term_log.specs.Reading.{Given, all_given}
use Rattle.term_log.specs.Whole.{Stands, Whole}

abbrev pub placed : Given → Placed
placed g = record { position = g.position; span = span g.frame; bytes = g.bytes }

-- the bytes of the newest term from the tail on. (All bytes before it are those of frames, and before the first one zeros.)
abbrev pub unwritten : Kept → List ℕ
unwritten k = drop (2 * k.ident.term_length + offset_of k) k.buffers.bytes

-- with all frames that were ever appended; read from the first position that is held, up to the tail
abbrev pub layout_of : Log → List Frame → Layout
layout_of l frames = record {
  session = l.kept.ident.session;
  stream = l.kept.ident.stream;
  frames = map placed (all_given l.kept.ident l.kept.ident.start frames);
  beside = unwritten l.kept;
  pairs = l.pairs;
  low = low_of l.kept;
  high = l.kept.tail;
}

-- so it lies, whichever whole log it stands for
pub record HasLayout (l : Log) : Type 0 where
  pub on : (w : Whole) → Stands l w → IsWellFormed (layout_of l w.frames)
