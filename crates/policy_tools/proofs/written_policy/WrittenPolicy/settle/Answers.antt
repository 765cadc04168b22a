use Rattle.policy_tools.proofs.SettledLemmas.{settled_words}
use Rattle.policy_tools.proofs.written_policy.WrittenPolicy.settle.Goals as goal

pub invariant_of-self : goal.invariant_of-self
invariant_of-self c = settled_words c.self.inside.words.items c.self.inside.policy c.settle.new.self c.args.moment c.settle.ensures c.self.invariant
