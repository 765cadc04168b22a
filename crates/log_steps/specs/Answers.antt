-- What steps are answered by what they come to.
use Rattle.std.specs.Prelude.{List}
use Rattle.driver_core.specs.declared.asked.listing.Listed.{Listed}
use Rattle.driver_core.specs.declared.asked.listing.Listed.TheVariants as listed
use Rattle.driver_core.specs.declared.asked.listing.Shown.{Shown}
use Rattle.driver_core.specs.declared.asked.listing.Shown.TheVariants as shown
use Rattle.driver_core.specs.declared.state.outcome.Outcome.{Outcome}
use Rattle.driver_core.specs.declared.state.outcome.Response.{Response}
use Rattle.driver_core.specs.declared.state.outcome.Response.TheVariants as response
use Rattle.driver_core.specs.declared.state.replies.Message.{Message}
use Rattle.log_steps.specs.declared.answer.Answer.{Answer}
use Rattle.log_steps.specs.declared.answer.Answer.TheVariants.{Attached, Full, Stopped, PolicyInForce, PolicyFull, Imaged, Unimaged, Replies, Counters, Value, Denied, UnknownCounter, WrongClient}
use Rattle.log_steps.specs.declared.answer.Offered.{Offered}
use Rattle.log_steps.specs.declared.answer.Offered.TheVariants as offered
use Rattle.term_log.specs.declared.offer.Offer.{Offer}
use Rattle.term_log.specs.declared.offer.Offer.TheVariants as offer

-- what an event is answered
abbrev pub answered_by : Response → List Message → Answer
answered_by response.Nothing replies = Replies replies
answered_by (response.Attached number) replies = Attached number replies
answered_by response.Full replies = Full replies
answered_by response.Stopped replies = Stopped replies
answered_by (response.PolicyInForce epoch) replies = PolicyInForce epoch replies
answered_by response.PolicyFull replies = PolicyFull replies
answered_by (response.Imaged number) replies = Imaged number replies
answered_by (response.Dropped why) replies = Unimaged why replies

unfoldable pub answer_of : Outcome → Answer
answer_of outcome = answered_by outcome.response outcome.replies

-- what looks are answered
abbrev pub answer_listed : Listed → Answer
answer_listed (listed.Counters rows) = Counters rows
answer_listed listed.WrongClient = WrongClient

abbrev pub answer_shown : Shown → Answer
answer_shown (shown.Value value) = Value value
answer_shown (shown.Denied decision) = Denied decision.verdict
answer_shown shown.UnknownCounter = UnknownCounter
answer_shown shown.WrongClient = WrongClient

-- what became of a message that went as far as to the log
abbrev pub offered_as : Offer → Offered
offered_as (offer.At position) = offered.At position
offered_as offer.TooLong = offered.TooLong
offered_as offer.MaxPosition = offered.MaxPositionExceeded
offered_as offer.BackPressured = offered.BackPressured
offered_as offer.AdminAction = offered.AdminAction
