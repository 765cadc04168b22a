-- Which steps on one log may take memory. Own rules.
use Rattle.std.specs.Prelude.{◌≡◌, Bool, true, false}
use Rattle.log_steps.specs.declared.answer.Answer.{Answer}
use Rattle.log_steps.specs.declared.answer.Answer.TheVariants.{Polled, Received, Reported, Resent, Sent}
use Rattle.log_steps.specs.Held.{HeldLog}
use Rattle.log_steps.specs.Moves.{WholeLog, Move, StandsForLog}
use Rattle.log_traffic.specs.Reporting.{are_some}

-- fragments are given, which have to be copied, or a word for each frame, or datagrams
abbrev pub is_listed : Answer → Bool
is_listed (Polled fragments) = true
is_listed (Received words) = true
is_listed (Resent to datagrams) = true
is_listed (Sent bytes outlets) = true
is_listed (Reported to datagrams) = are_some datagrams
is_listed answer = false

-- ---- a poll of the log that is held, or a datagram that comes to it

-- something is given, whichever whole log it stands for
pub record Gives (move : WholeLog → Move) (held : HeldLog) : Type 0 where
  pub on : (log : WholeLog) → StandsForLog held log → is_listed (move log).answer ≡ true
