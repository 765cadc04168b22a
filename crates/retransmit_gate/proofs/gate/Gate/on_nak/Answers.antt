-- The clauses over all that was sent again follow from those over what the gate keeps.
use Rattle.std.proofs.Common.{ap, ◌∙◌, rules}
use Rattle.retransmit_gate.specs.Gate.{answer_of, after_nak, kept_of}
use Rattle.retransmit_gate.proofs.GateLemmas.{kept_answers, kept_after, decided}
use Rattle.retransmit_gate.proofs.gate.Gate.on_nak.Goals as goal

pub returns-clause-answer : goal.returns-clause-answer
unfolding answer_of
returns-clause-answer c = search rules

pub returns-clause-after : goal.returns-clause-after
returns-clause-after c =
    rw (← c.self.view_is)
    (decided (record { linger = c.self.inside.linger; latest = c.self.inside.latest; list = c.self.inside.resent })
    c.args.now c.args.position c.args.length c.args.window c.later_of-moment.result c.decide.result c.decide.new.resent
    (search rules) (search rules) (search rules))

pub returns-clause-answer_of_all : goal.returns-clause-answer_of_all
returns-clause-answer_of_all c resends is =
    returns-clause-answer c
    ∙ ap (λ kept. answer_of kept c.args.now c.args.position c.args.length c.args.window) is
    ∙ kept_answers resends c.args.now c.args.position c.args.length c.args.window

pub returns-clause-after_all : goal.returns-clause-after_all
returns-clause-after_all c resends is =
    returns-clause-after c
    ∙ ap (λ kept. kept_of (after_nak kept c.args.now c.args.position c.args.length c.args.window)) is
    ∙ kept_after resends c.args.now c.args.position c.args.length c.args.window
