-- A log as it lies in its lease.
use Rattle.std.specs.Prelude.{map}
use Rattle.image_log.specs.Frame.{Frame}
use Rattle.image_log.specs.Log.{Log}
use Rattle.image_log.specs.Rebuilt.{contiguous_of}
use Rattle.log_pairs.specs.Layout.{Layout, Placed}

abbrev pub placed : Frame → Placed
placed f = record { position = f.position; span = f.span; bytes = f.bytes }

-- read from the base on, up to the contiguous position
abbrev pub layout_of : Log → Layout
layout_of l = record {
  session = l.rebuilt.ident.session_id;
  stream = l.rebuilt.ident.stream_id;
  frames = map placed l.rebuilt.frames;
  beside = l.beside;
  pairs = l.rebuilt.pairs;
  low = l.rebuilt.base;
  high = contiguous_of l.rebuilt;
}
