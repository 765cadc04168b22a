use Rattle.std.proofs.lemmas.List.{append-nil}
use Rattle.two_drivers.specs.Standing.{held_both}
use Rattle.two_drivers.specs.Worlds.{sent_of_all}
use Rattle.two_drivers.proofs.StandingLemmas.{first_serves}
use Rattle.two_drivers.proofs.worlds.step_both.Goals as goal

pub returns-in-A : goal.returns-in-A
returns-in-A c =
    rw c.in-A.is
    (first_serves (held_both c.args.first.now c.args.second.now (sent_of_all c.args.steps.now c.args.answers.now)) c.step.new.self c.in-A.reading
    c.step.result c.step.ensures)

pub returns-in-B : goal.returns-in-B
returns-in-B c = rw (c.in-B.is, append-nil (sent_of_all c.args.steps.now c.args.answers.now)) (c.second_takes.ensures (sent_of_all c.args.steps.now c.args.answers.now))

pub returns-in-Deliver : goal.returns-in-Deliver
returns-in-Deliver c = rw (c.in-Deliver.is, append-nil (sent_of_all c.args.steps.now c.args.answers.now)) c.deliver.ensures
