use Rattle.std.proofs.Common.{sym, ◌∙◌}
use Rattle.two_drivers.specs.Standing.{held_both}
use Rattle.two_drivers.proofs.StandingLemmas.{own_serves}
use Rattle.two_drivers.proofs.worlds.second_takes.Goals as goal

pub returns : goal.returns
returns c = λ sent.
    own_serves (held_both c.args.first.now c.args.second.now sent) c.step.new.self c.args.reading.now c.step.result
    (sym c.is_quiet.ensures ∙ c.if-not-is_quiet.false) c.step.ensures
