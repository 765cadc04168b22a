use Rattle.policy_diff.proofs.ActLemmas.{AreChosen}
use Rattle.policy_diff.proofs.acts.acts_of_both.Given as goal

-- the acts so far are chosen
abbrev pub invariant-loop-number : goal.invariant-loop-number
invariant-loop-number l = AreChosen l.acts l.one l.other l.wanted l.number
