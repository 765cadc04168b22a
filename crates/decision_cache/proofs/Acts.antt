-- Acts that have the same number are the same.
use Rattle.std.proofs.Common.{◌≡◌, ℕ, refl, sym, ap, ◌∙◌, get_or}
use Rattle.policy_core.specs.declared.act.Act.{Act}
use Rattle.policy_core.specs.declared.act.Act.TheVariants.{Publish, PublishExclusive, Subscribe, Spy, Destination, Counter, Terminate, Offer, Image, Receive, Send, Retransmit, Join, List as ListOf}
use Rattle.policy_core.specs.Act.{act_number, every_act}

act_at : ℕ → Act
act_at number = get_or every_act number Publish

act_at_number : (act : Act) → act_at (act_number act) ≡ act
unfolding act_at
act_at_number Publish = refl
act_at_number PublishExclusive = refl
act_at_number Subscribe = refl
act_at_number Spy = refl
act_at_number Destination = refl
act_at_number Counter = refl
act_at_number Terminate = refl
act_at_number Offer = refl
act_at_number Image = refl
act_at_number Receive = refl
act_at_number Send = refl
act_at_number Retransmit = refl
act_at_number Join = refl
act_at_number ListOf = refl

pub act_identical : (a b : Act) → act_number a ≡ act_number b → a ≡ b
act_identical a b same = sym (act_at_number a) ∙ ap act_at same ∙ act_at_number b
