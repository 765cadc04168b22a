use Rattle.std.proofs.Common.{sym, ◌∙◌}
use Rattle.two_drivers.specs.Standing.{held_both}
use Rattle.two_drivers.specs.Worlds.{sent_of_all}
use Rattle.two_drivers.proofs.StandingLemmas.{come_serves}
use Rattle.two_drivers.proofs.worlds.deliver.Goals as goal

pub returns-in-Some : goal.returns-in-Some
returns-in-Some c =
    come_serves (held_both c.args.first.now c.args.second.now (sent_of_all c.args.steps.now c.args.answers.now)) c.packet.new.self c.args.sent c.args.now
    c.args.view c.in-Some.datagram c.packet.result (sym c.in-Some.is ∙ c.find_sent.ensures)
    (rw (← c.settings.ensures, ← c.datagram.view_is) c.packet.ensures)
