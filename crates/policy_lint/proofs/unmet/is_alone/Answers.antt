use Rattle.std.proofs.Common.{◌≡◌, ℤ, sym, subst, w32, to_z, of_z}
use Rattle.std.proofs.lemmas.Int.{to_z-of_z}
use Rattle.policy_core.specs.Moments.{at}
use Rattle.policy_core.specs.declared.act.Act.{Act}
use Rattle.policy_core.specs.declared.act.Act.TheVariants.{Publish, PublishExclusive, Join}
use Rattle.policy_lint.specs.Nobody.{IsAlone, NobodyMay}
use Rattle.policy_lint.proofs.unmet.is_alone.Goals as goal

pub returns-in-Publish : goal.returns-in-Publish
returns-in-Publish c = λ h.
    let whole : to_z w32 (of_z w32 c.args.stream) ≡ c.args.stream = to_z-of_z w32 c.args.stream c.ranges.stream in
    subst (λ (act : Act). IsAlone (at c.args.policy.now c.args.moment) act c.args.channel.now c.args.stream) (sym c.in-Publish.is)
    (subst (λ (z : ℤ). NobodyMay (at c.args.policy.now c.args.moment) Join c.args.channel.now z) whole (c.nobody_may.ensures h))

pub returns-in-PublishExclusive : goal.returns-in-PublishExclusive
returns-in-PublishExclusive c = λ h.
    let whole : to_z w32 (of_z w32 c.args.stream) ≡ c.args.stream = to_z-of_z w32 c.args.stream c.ranges.stream in
    subst (λ (act : Act). IsAlone (at c.args.policy.now c.args.moment) act c.args.channel.now c.args.stream) (sym c.in-PublishExclusive.is)
    (subst (λ (z : ℤ). NobodyMay (at c.args.policy.now c.args.moment) Join c.args.channel.now z) whole (c.nobody_may-in-PublishExclusive.ensures h))

pub returns-then-nobody_may : goal.returns-then-nobody_may
returns-then-nobody_may c = λ h.
    let whole : to_z w32 (of_z w32 c.args.stream) ≡ c.args.stream = to_z-of_z w32 c.args.stream c.ranges.stream in
    subst (λ (act : Act). IsAlone (at c.args.policy.now c.args.moment) act c.args.channel.now c.args.stream) (sym c.in-Join.is) (
      subst (λ (z : ℤ). NobodyMay (at c.args.policy.now c.args.moment) Publish c.args.channel.now z) whole (c.nobody_may-in-Join.ensures c.if-nobody_may.true),
      subst (λ (z : ℤ). NobodyMay (at c.args.policy.now c.args.moment) PublishExclusive c.args.channel.now z) whole (c.nobody_may-then-nobody_may.ensures h),
    )
