-- What status messages and NAKs do with the log of a publication, and what they are answered. Own rules.
use Rattle.std.specs.Prelude.{ℕ, List, Option, Some, None, if◌then◌else◌}
use Rattle.channel_uri.specs.declared.address.Address.{Address}
use Rattle.log_steps.specs.declared.answer.Answer.{Answer}
use Rattle.log_steps.specs.declared.answer.Answer.TheVariants.{Dropped, Elicited, Limited, Resent}
use Rattle.log_steps.specs.declared.cause.Cause.TheVariants.{Busy, Denied, Empty, Full, Lingering, OutOfWindow}
use Rattle.log_steps.specs.Moves.{Move, WholeLog, answered}
use Rattle.log_steps.specs.Receiving.{unheard}
use Rattle.frame_codec.specs.declared.nak.Nak.{Nak}
use Rattle.frame_codec.specs.declared.status_message.StatusMessage.{StatusMessage}
use Rattle.learnt_addresses.specs.declared.learning.Learning.{Learning}
use Rattle.learnt_addresses.specs.declared.learning.Learning.TheVariants as learning
use Rattle.learnt_addresses.specs.declared.learnt_address.LearntAddress.{LearntAddress}
use Rattle.learnt_addresses.specs.LearntAddresses.{forgotten, learning as learning_of, learnt}
use Rattle.log_traffic.specs.declared.asking.NakReply.{NakReply}
use Rattle.log_traffic.specs.declared.asking.NakReply.TheVariants as replies
use Rattle.log_traffic.specs.Asking.{after_status, gate_behind, nak_reply, status_answer}
use Rattle.log_traffic.specs.declared.hearing.StatusAnswer.{StatusAnswer}
use Rattle.log_traffic.specs.declared.hearing.StatusAnswer.TheVariants as heard
use Rattle.policy_core.specs.declared.decision.Decision.{Decision}

-- ---- a status message

-- an image's log hears none
abbrev pub answer_heard : Option StatusAnswer → Answer
answer_heard None = unheard
answer_heard (Some heard.Elicited) = Elicited
answer_heard (Some (heard.Limit position)) = Limited position
answer_heard (Some heard.OutOfWindow) = Dropped OutOfWindow

abbrev pub heard_move : ℕ → StatusMessage → WholeLog → Move
heard_move now message log = record {
  after = record log { whole = after_status now message log.whole };
  answer = answer_heard (status_answer message log.whole);
}

-- the addresses are what the log has learnt from now on
abbrev pub with_learnt : List LearntAddress → WholeLog → WholeLog
with_learnt addresses log = record log { recovery = record log.recovery { learnt = addresses } }

-- the address is learnt, or heard of again, and then the log hears the message; or there is no room for the address
abbrev pub learn_move : ℕ → Address → StatusMessage → WholeLog → Learning → Move
learn_move now from message log learning.Full = answered log (Dropped Full)
learn_move now from message log answer = heard_move now message (with_learnt (learnt now from log.recovery.learnt) log)

-- the decision comes first: an address that may not join is forgotten
abbrev pub join_move : ℕ → Address → Decision → StatusMessage → WholeLog → Move
join_move now from decision message log =
    if decision.verdict.allow
    then learn_move now from message log (learning_of log.recovery.learnt from)
    else answered (with_learnt (forgotten from log.recovery.learnt) log) (Dropped (Denied decision.verdict))

-- where the log learns its destinations, there is a decision on the address from which the message came
abbrev pub status_move : ℕ → Address → Option Decision → StatusMessage → WholeLog → Move
status_move now from None message log = heard_move now message log
status_move now from (Some decision) message log = join_move now from decision message log

-- ---- a NAK

-- what is sent again goes to the address that asks, and to nobody else
abbrev pub answer_asked : Address → Option NakReply → Answer
answer_asked from None = unheard
answer_asked from (Some (replies.Denied verdict)) = Dropped (Denied verdict)
answer_asked from (Some replies.Empty) = Dropped Empty
answer_asked from (Some replies.OutOfWindow) = Dropped OutOfWindow
answer_asked from (Some replies.Lingering) = Dropped Lingering
answer_asked from (Some replies.Busy) = Dropped Busy
answer_asked from (Some (replies.Resent datagrams)) = Resent from datagrams

-- the decision comes first, and then the log's gate
abbrev pub nak_move : ℕ → Address → Decision → Nak → WholeLog → Move
nak_move now from decision nak log = record {
  after = record log { recovery = record log.recovery { gate = gate_behind decision now nak log.recovery.gate log.whole } };
  answer = answer_asked from (nak_reply decision now nak log.recovery.gate log.whole);
}
