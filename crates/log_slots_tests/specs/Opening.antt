-- A log that was just opened.
use Rattle.std.specs.Prelude.{ℤ}
use Rattle.log_steps.specs.Held.{HeldLog}

-- the log, and for which session and stream it is
pub record Opened : Type 0 where
  pub log : HeldLog
  pub session : ℤ
  pub stream : ℤ
