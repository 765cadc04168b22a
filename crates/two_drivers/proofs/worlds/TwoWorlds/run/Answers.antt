use Rattle.std.proofs.lemmas.Result.{IfOk-weaker}
use Rattle.two_drivers.proofs.StandingLemmas.{answer_both}
use Rattle.two_drivers.proofs.worlds.TwoWorlds.run.Goals as goal

pub returns : goal.returns
returns c = rw (← c.self.view_is) (IfOk-weaker c.run_both-answers.result _ _ (λ answers ran. answer_both _ _ _ answers ran) c.run_both-answers.ensures.ok)
