-- How far the log of a publication has come, and how far a receiver says that it has come with it (Aeron Transport Protocol
-- Specification, flow control by status messages).
use Rattle.std.specs.Prelude.{ℕ, Option, Some, None}
use Rattle.frame_codec.specs.declared.status_message.StatusMessage.{StatusMessage}
use Rattle.log_traffic.specs.declared.any_log.AnyLog.{AnyLog}
use Rattle.log_traffic.specs.declared.any_log.AnyLog.TheVariants.{Term, Image}
use Rattle.log_traffic.specs.declared.progress.Progress.{Progress}
use Rattle.log_traffic.specs.Hearing.{consumed}
use Rattle.term_log.specs.Log.{connected_of, limit_of}

abbrev pub progress_held : ℕ → ℕ → AnyLog → Option Progress
progress_held now timeout (Term log) = Some (record {
  position = log.kept.tail;
  limit = limit_of log;
  sent = log.sender.position;
  connected = connected_of log now timeout;
})
progress_held now timeout (Image log) = None

-- the position up to which the receiver took all
abbrev pub consumed_held : StatusMessage → AnyLog → Option ℕ
consumed_held message (Term log) = Some (consumed log.kept.ident message)
consumed_held message (Image log) = None
