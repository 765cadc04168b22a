-- What holds of logs of remote streams whose frames are a publication's.
use Rattle.std.specs.Prelude.{◌≡◌, ℕ, ◌<◌, List, ◌++◌, IfSome, Some}
use Rattle.image_log.specs.Frame.{Frame as Kept, framed}
use Rattle.image_log.specs.Handed.{span_of}
use Rattle.image_log.specs.Polling.{polled}
use Rattle.image_log.specs.Rebuilt.{Rebuilt, after_insert, opened, rejoined, settled}
use Rattle.image_log.specs.declared.ident.Ident.{Ident as StreamIdent}
use Rattle.log_pairs.specs.Pairs.{position_of}
use Rattle.log_pairs.specs.Polling.{Fetched}
use Rattle.term_log.specs.declared.ident.Ident.{Ident}
use Rattle.term_log.specs.Frames.{Frame}
use Rattle.two_drivers.specs.Line.{IsIn, IsLine, IsRunOf, IsRunTo, line_of}
use Rattle.two_drivers.specs.Mirror.{Mirrors}

-- whatever polls gave of such a log, a poll goes on with the frames after it
abbrev pub PollsGoOn : Type 0
PollsGoOn =
    (size start : ℕ) (line : List Kept) (r : Rebuilt) (subscription limit at : ℕ) (given : List Fetched) →
    IsLine size start line → Mirrors line r → position_of r.pairs subscription ≡ Some at → IsRunTo line at given →
    IfSome (position_of (polled r subscription limit).after.pairs subscription)
    (λ next. IsRunTo line next (given ++ (polled r subscription limit).fragments))

-- and it stays such a log
pub record MirrorsStay (size start : ℕ) (line : List Kept) : Type 0 where
  pub opens : (ident : StreamIdent) (join : ℕ) → Mirrors line (opened ident join)
  pub takes :
      (r : Rebuilt) (position : ℕ) (bytes : List ℕ) → IsIn line (framed position (span_of bytes) bytes) →
      r.ident.term_length ≡ size → Mirrors line r → Mirrors line (after_insert r position bytes)
  pub rejoins :
      (r : Rebuilt) (subscriptions : List ℕ) → 0 < r.ident.term_length → Mirrors line r →
      Mirrors line (settled (rejoined r subscriptions))
  pub polls :
      (r : Rebuilt) (subscription limit : ℕ) → 0 < r.ident.term_length → Mirrors line r →
      Mirrors line (polled r subscription limit).after

abbrev pub MirrorsAreKept : Type 0
MirrorsAreKept = (size start : ℕ) (line : List Kept) → IsLine size start line → MirrorsStay size start line

-- a run of what a receiver keeps is a run of the publication's frames
abbrev pub LinesAreRuns : Type 0
LinesAreRuns =
    (i : Ident) (all : List Frame) (at : ℕ) (given : List Fetched) → IsRunTo (line_of i i.start all) at given → IsRunOf i all given
