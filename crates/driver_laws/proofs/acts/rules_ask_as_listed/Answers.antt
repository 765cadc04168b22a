use Rattle.driver_laws.proofs.RuleLemmas.{ask_as_listed}
use Rattle.driver_laws.proofs.acts.rules_ask_as_listed.Goals as goal

pub returns : goal.returns
returns c = ask_as_listed
