-- What a status message leaves of a log, and what it is answered, whatever the log has learnt.
use Rattle.std.proofs.Common.{ℕ, Option, Some, None}
use Rattle.std.proofs.lemmas.Bool.{cond_both}
use Rattle.channel_uri.specs.declared.address.Address.{Address}
use Rattle.log_steps.specs.declared.answer.Answer.{Answer}
use Rattle.log_steps.specs.declared.answer.Answer.TheVariants.{Dropped}
use Rattle.log_steps.specs.declared.cause.Cause.{Cause}
use Rattle.log_steps.specs.declared.cause.Cause.TheVariants.{Denied, Full as IsFull}
use Rattle.log_steps.specs.Hearing.{answer_heard, learn_move, status_move}
use Rattle.log_steps.specs.Moves.{Move, WholeLog}
use Rattle.frame_codec.specs.declared.status_message.StatusMessage.{StatusMessage}
use Rattle.learnt_addresses.specs.declared.learning.Learning.{Learning}
use Rattle.learnt_addresses.specs.declared.learning.Learning.TheVariants.{Full, Learnt, Renewed}
use Rattle.learnt_addresses.specs.LearntAddresses.{learning}
use Rattle.log_traffic.specs.Asking.{after_status, status_answer}
use Rattle.log_traffic.specs.Whole.{AnyWhole}
use Rattle.policy_core.specs.declared.decision.Decision.{Decision}

-- ---- its frames, and who reads it

learnt_whole : (P : AnyWhole → Type 0) (now : ℕ) (from : Address) (message : StatusMessage) (log : WholeLog) (answer : Learning) →
    P log.whole → P (after_status now message log.whole) → P (learn_move now from message log answer).after.whole
learnt_whole P now from message log Full stays hears = stays
learnt_whole P now from message log Learnt stays hears = hears
learnt_whole P now from message log Renewed stays hears = hears

-- what holds where it stays as it was, and where it hears the message, holds
pub status_whole : (P : AnyWhole → Type 0) (now : ℕ) (from : Address) (decision : Option Decision) (message : StatusMessage) (log : WholeLog) →
    P log.whole → P (after_status now message log.whole) → P (status_move now from decision message log).after.whole
status_whole P now from None message log stays hears = hears
status_whole P now from (Some decision) message log stays hears =
    cond_both decision.verdict.allow _ _ (λ (move : Move). P move.after.whole)
    (λ _. learnt_whole P now from message log (learning log.recovery.learnt from) stays hears) (λ _. stays)

-- ---- its number

learnt_source : (P : ℕ → Type 0) (now : ℕ) (from : Address) (message : StatusMessage) (log : WholeLog) (answer : Learning) →
    P log.source → P (learn_move now from message log answer).after.source
learnt_source P now from message log Full stays = stays
learnt_source P now from message log Learnt stays = stays
learnt_source P now from message log Renewed stays = stays

pub status_source : (P : ℕ → Type 0) (now : ℕ) (from : Address) (decision : Option Decision) (message : StatusMessage) (log : WholeLog) →
    P log.source → P (status_move now from decision message log).after.source
status_source P now from None message log stays = stays
status_source P now from (Some decision) message log stays =
    cond_both decision.verdict.allow _ _ (λ (move : Move). P move.after.source)
    (λ _. learnt_source P now from message log (learning log.recovery.learnt from) stays) (λ _. stays)

-- ---- the answer

learnt_told : (P : Answer → Type 0) (now : ℕ) (from : Address) (message : StatusMessage) (log : WholeLog) (answer : Learning) →
    ((cause : Cause) → P (Dropped cause)) → P (answer_heard (status_answer message log.whole)) →
    P (learn_move now from message log answer).answer
learnt_told P now from message log Full drops hears = drops IsFull
learnt_told P now from message log Learnt drops hears = hears
learnt_told P now from message log Renewed drops hears = hears

-- it is dropped, or heard
pub status_told : (P : Answer → Type 0) (now : ℕ) (from : Address) (decision : Option Decision) (message : StatusMessage) (log : WholeLog) →
    ((cause : Cause) → P (Dropped cause)) → P (answer_heard (status_answer message log.whole)) →
    P (status_move now from decision message log).answer
status_told P now from None message log drops hears = hears
status_told P now from (Some decision) message log drops hears =
    cond_both decision.verdict.allow _ _ (λ (move : Move). P move.answer)
    (λ _. learnt_told P now from message log (learning log.recovery.learnt from) drops hears) (λ _. drops (Denied decision.verdict))
