use Rattle.std.proofs.Common.{◌≡◌, ℤ, sym, subst, w32, to_z, of_z}
use Rattle.std.proofs.lemmas.Int.{to_z-of_z}
use Rattle.policy_core.specs.Moments.{at}
use Rattle.policy_core.specs.declared.act.Act.TheVariants.{Retransmit}
use Rattle.policy_lint.specs.declared.unmet.Lack.{Lack}
use Rattle.policy_lint.specs.Nobody.{Lacks, NobodyMay}
use Rattle.policy_lint.proofs.unmet.is_lacking.Goals as goal

pub returns-in-Resend : goal.returns-in-Resend
returns-in-Resend c = λ h.
    let whole : to_z w32 (of_z w32 c.args.stream) ≡ c.args.stream = to_z-of_z w32 c.args.stream c.ranges.stream in
    subst (λ (lack : Lack). Lacks lack (at c.args.policy.now c.args.moment) c.args.act c.args.channel.now c.args.stream) (sym c.in-Resend.is)
    (subst (λ (z : ℤ). NobodyMay (at c.args.policy.now c.args.moment) Retransmit c.args.channel.now z) whole (c.nobody_may.ensures h))
