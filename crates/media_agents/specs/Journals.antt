-- What a driver keeps of its agents' steps. Own rules.
use Rattle.std.specs.Prelude.{List, [], Option, Some, None, fold, length}
use Rattle.audit_ring.specs.Audit.{KeptOf, kept_of, pushed}
use Rattle.channel_uri.specs.declared.address.Address.{Address}
use Rattle.driver_core.specs.declared.state.event.Event.{Event}
use Rattle.driver_core.specs.declared.state.outcome.Response.{Response}
use Rattle.driver_core.specs.declared.asked.send_request.Outlet.{Outlet}
use Rattle.log_steps.specs.declared.answer.Answer.{Answer}
use Rattle.log_steps.specs.declared.answer.Answer.TheVariants as answers
use Rattle.drop_tallies.specs.declared.miss.Miss.{Miss}
use Rattle.drop_tallies.specs.Tallies.{none, noted}
use Rattle.media_agents.specs.declared.journal.Dated.{Dated}
use Rattle.media_agents.specs.declared.journal.Journal.{Journal}
use Rattle.media_agents.specs.declared.journal.Stamp.{Stamp}
use Rattle.media_agents.specs.declared.stepping.Stepped.{Stepped}
use Rattle.media_agents.specs.Tallying.{after_answer, after_cut, after_event, after_report, heard_more, tally_of}
use Rattle.policy_core.specs.declared.decision.Decision.{Decision}
use Rattle.published_registry.specs.Histories.{History, registry_of}

-- the registry of a look: its number and its moment
abbrev pub stamp_of : History → Stamp
stamp_of look = record { registry = length look.entries; moment = (registry_of look).moment }

abbrev pub dated : Stamp → Decision → Dated
dated stamp decision = record { stamp = stamp; decision = decision }

-- nothing happened yet
abbrev pub blank : Journal
blank = record { tallies = none; conductor = kept_of []; sender = kept_of [] }

-- ---- what was decided is kept after what was decided before

abbrev pub audited_next : Stamp → KeptOf Dated → Decision → KeptOf Dated
audited_next stamp kept decision = pushed kept (dated stamp decision)

abbrev pub audited_if : Stamp → Option Decision → KeptOf Dated → KeptOf Dated
audited_if stamp None kept = kept
audited_if stamp (Some decision) kept = audited_next stamp kept decision

-- in the order of these decisions
abbrev pub audited_all : Stamp → List Decision → KeptOf Dated → KeptOf Dated
audited_all stamp decisions kept = fold (audited_next stamp) kept decisions

-- on each destination of a datagram
abbrev pub audited_outlet : Stamp → KeptOf Dated → Outlet → KeptOf Dated
audited_outlet stamp kept outlet = audited_next stamp kept outlet.decision

abbrev pub audited_cut : Stamp → Answer → KeptOf Dated → KeptOf Dated
audited_cut stamp (answers.Sent bytes outlets) kept = fold (audited_outlet stamp) kept outlets
audited_cut stamp answer kept = kept

-- ---- what is left of the journal

-- it happened once more, to that address or from there, by no verdict
abbrev pub after_miss : Miss → Address → Journal → Journal
after_miss miss address journal = record journal { tallies = noted (tally_of miss None address) journal.tallies }

-- a NAK came
abbrev pub after_nak : Journal → Journal
after_nak journal = record journal { tallies = heard_more journal.tallies }

-- that came of a datagram from that address
abbrev pub after_packet : Address → Stepped → Journal → Journal
after_packet from it journal = record journal {
  tallies = after_answer from it.answer journal.tallies;
  sender = audited_if it.stamp it.decision journal.sender;
}

-- the receiver had a turn with an image
abbrev pub after_turn : Stepped → Journal → Journal
after_turn it journal = record journal { tallies = after_report it.answer journal.tallies }

-- the sender had one with a publication
abbrev pub after_sending : Stepped → Journal → Journal
after_sending it journal = record journal {
  tallies = after_cut it.answer journal.tallies;
  sender = audited_cut it.stamp it.answer journal.sender;
}

-- the conductor made an entry of an event, with that response and these decisions
abbrev pub after_entry : Event → Response → List Decision → Stamp → Journal → Journal
after_entry event response decisions stamp journal = record journal {
  tallies = after_event event response journal.tallies;
  conductor = audited_all stamp decisions journal.conductor;
}
