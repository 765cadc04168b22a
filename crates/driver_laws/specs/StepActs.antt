-- What the table of acts says of steps on one log: an offer, a poll, a datagram to a destination, a status message, a NAK. Own rules.
use Rattle.std.specs.Prelude.{◌≡◌}
use Rattle.channel_uri.specs.declared.address.Address.{Address}
use Rattle.destinations.specs.declared.destination.Destination.{Destination}
use Rattle.driver_core.specs.declared.asked.send_request.Outlet.{Outlet}
use Rattle.driver_core.specs.State.{State}
use Rattle.driver_core.specs.Verdicts.{IsByPolicy, verdict_on}
use Rattle.driver_laws.specs.Acts.{asked, datagram, join, learnt_datagram, offer, poll, resend}
use Rattle.learnt_addresses.specs.declared.learnt_address.LearntAddress.{LearntAddress}
use Rattle.driver_steps.specs.Laws.{OfferRequest, PollRequest}
use Rattle.policy_core.specs.declared.verdict.Verdict.{Verdict}
use Rattle.policy_core.specs.Question.{Question}
use Rattle.stream_registry.specs.declared.row.LogRow.{LogRow}

abbrev pub offer_question : OfferRequest → Question
offer_question request = asked (offer request.client request.registration request.publication)

abbrev pub offer_verdict : State → OfferRequest → Verdict
offer_verdict s request = verdict_on s (offer_question request)

abbrev pub poll_question : PollRequest → Question
poll_question request = asked (poll request.client request.subscription)

abbrev pub poll_verdict : State → PollRequest → Verdict
poll_verdict s request = verdict_on s (poll_question request)

-- by that registry's principals of addresses
abbrev pub join_question : State → Address → LogRow → Question
join_question s from publication = asked (join s.peers from publication)

abbrev pub join_verdict : State → Address → LogRow → Verdict
join_verdict s from publication = verdict_on s (join_question s from publication)

abbrev pub resend_question : State → Address → LogRow → Question
resend_question s from publication = asked (resend s.peers from publication)

abbrev pub resend_verdict : State → Address → LogRow → Verdict
resend_verdict s from publication = verdict_on s (resend_question s from publication)

-- a datagram goes to the destination's address, where the first rule of that registry's policy that matches, or the default,
-- says that it may
pub record OutletIsDecidedBy (s : State) (publication : LogRow) (destination : Destination) (outlet : Outlet) : Type 0 where
  pub to_is : outlet.to ≡ destination.address
  pub by : IsByPolicy s (asked (datagram publication destination)) outlet.decision.verdict

-- so to an address that was learnt, by that registry's principals of addresses
pub record LearntIsDecidedBy (s : State) (publication : LogRow) (learnt : LearntAddress) (outlet : Outlet) : Type 0 where
  pub to_is : outlet.to ≡ learnt.address
  pub by : IsByPolicy s (asked (learnt_datagram s.peers learnt.address publication)) outlet.decision.verdict
