-- A log of either kind as it lies in its lease.
use Rattle.image_log.specs.Layout.{layout_of}
use Rattle.log_pairs.specs.Layout.{IsWellFormed}
use Rattle.log_traffic.specs.declared.any_log.AnyLog.{AnyLog}
use Rattle.log_traffic.specs.declared.any_log.AnyLog.TheVariants.{Term, Image}
use Rattle.term_log.specs.Layout.{HasLayout as HasTermLayout}

-- Frames that do not meet and name its session and stream, zeros beside them, and readers at frames' starts: of a publication's log
-- with all frames that were ever appended, whichever whole log it stands for; of a remote stream's with those that it keeps.
abbrev pub HasLayout : AnyLog → Type 0
HasLayout (Term log) = HasTermLayout log
HasLayout (Image log) = IsWellFormed (layout_of log)
