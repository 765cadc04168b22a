-- What is kept beside a log of those at the other end: to repair what was lost (Aeron Transport Protocol Specification, loss
-- recovery), and to know where they are (Aeron wiki, dynamic multi-destination-cast).
use Rattle.std.specs.Prelude.{List}
use Rattle.driver_core.specs.declared.state.settings.Settings.{Settings}
use Rattle.learnt_addresses.specs.declared.learnt_address.LearntAddress.{LearntAddress}
use Rattle.learnt_addresses.specs.LearntAddresses.{none}
use Rattle.log_traffic.specs.Receiver.{Receiving, begun}
use Rattle.retransmit_gate.specs.Gate.{Resends, opened}

-- what was sent again of a publication's log, what was reported to the publisher of an image, and the addresses that a
-- publication has learnt
pub record Recovering : Type 0 where
  pub gate : Resends
  pub receiver : Receiving
  pub learnt : List LearntAddress

-- beside a log of which nothing was sent again, to whose publisher nothing was reported, and which learnt no address
abbrev pub recovering : Settings → Recovering
recovering settings = record {
  gate = opened settings.resend_linger;
  receiver = begun settings.status_interval settings.nak_delay settings.nak_repeat;
  learnt = none;
}
