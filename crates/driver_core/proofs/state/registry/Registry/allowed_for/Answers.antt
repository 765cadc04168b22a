use Rattle.std.proofs.Common.{◌≡◌, Bool, true, List, ◌∷◌, cond, drop, filter, suc, ◌+◌, arith, sym, ap, ◌∙◌, rules}
use Rattle.policy_core.specs.declared.verdict.Verdict.{Verdict}
use Rattle.stream_registry.specs.declared.row.Subscription.{Subscription}
use Rattle.stream_registry.specs.Pairs.{fits}
use Rattle.driver_core.specs.SettingUp.{allowed_for}
use Rattle.driver_core.specs.State.{State}
use Rattle.stream_registry.specs.Images.{image_of}
use Rattle.driver_core.proofs.SettingLemmas.{allow_is, allowed_by, allowed_now, denied_none, denied_some, fitting_alike, passing_step}
use Rattle.driver_core.proofs.state.registry.Registry.allowed_for.Goals as goal
use Rattle.driver_core.proofs.state.registry.Registry.allowed_for.Goals.{then-fits+else-verdict+then-is_none, then-fits+else-verdict+else-is_none, else-fits}

pub loop-subscription-init : goal.loop-subscription-init
loop-subscription-init c =
    let s : State = c.args.self.now in
    let image : c.image-image.result ≡ image_of s.streams 0 c.args.wanted.now 0 =
    c.image-image.ensures ∙ ap (λ (t : State). image_of t.streams 0 c.args.wanted.now 0) c.self.view_is in
    let rows : c.subscriptions-subscription-items.result.now ≡ s.streams.subscriptions =
    c.subscriptions-subscription-items.ensures.value ∙ ap (λ (t : State). t.streams.subscriptions) c.self.view_is in
    rw (image, rows) (ap (allowed_for s c.args.wanted.now) (sym (fitting_alike s c.args.wanted.now s.streams.subscriptions)))

pub returns-then-verdict : goal.returns-then-verdict
returns-then-verdict c =
    let row : Subscription = c.subscription-item.result in
    let rows : List Subscription = c.subscriptions-subscription-items.result.now in
    let behind : List Subscription = filter (fits c.image-image.result) (drop (suc c.loop-subscription.subscription-index) rows) in
    let fit : fits c.image-image.result row ≡ true = ap (fits c.image-image.result) (sym c.wish.ensures) ∙ sym c.fits.ensures ∙ c.if-fits.true in
    let allow = sym (allow_is c.args.self.now row) ∙ ap (λ (v : Verdict). v.allow) (sym c.verdict_for-verdict.ensures) ∙ c.if-verdict.true in
    c.room_for.ensures
    ∙ sym (c.loop-subscription.invariant
    ∙ ap (allowed_by c.args.self.now c.args.wanted.now c.loop-subscription.lowest)
    (passing_step (fits c.image-image.result) rows c.loop-subscription.subscription-index row c.loop-subscription-test.true c.subscription-item.is
    ∙ ap (λ (b : Bool). cond b (row ∷ behind) behind) fit)
    ∙ allowed_now c.args.self.now c.args.wanted.now c.loop-subscription.lowest row behind allow)

pub loop-subscription-preserved : goal.loop-subscription-preserved
loop-subscription-preserved c =
    let row : Subscription = c.subscription-item.result in
    let rows : List Subscription = c.subscriptions-subscription-items.result.now in
    let behind : List Subscription = filter (fits c.image-image.result) (drop (suc c.loop-subscription.subscription-index) rows) in
    let on = c.loop-subscription.invariant
    ∙ ap (allowed_by c.args.self.now c.args.wanted.now c.loop-subscription.lowest)
    (passing_step (fits c.image-image.result) rows c.loop-subscription.subscription-index row c.loop-subscription-test.true c.subscription-item.is) in
    let fit : fits c.image-image.result row ≡ c.fits.result = ap (fits c.image-image.result) (sym c.wish.ensures) ∙ sym c.fits.ensures in
    let next : c.loop-subscription.subscription-index + 1 ≡ suc c.loop-subscription.subscription-index = omega arith in
    let with : Bool → List Subscription = λ b. cond b (row ∷ behind) behind in
    elim c.if-fits.branch [
      | then-fits+else-verdict+then-is_none w ↦
          let denies = sym (allow_is c.args.self.now row) ∙ ap (λ (v : Verdict). v.allow) (sym w.verdict_for-verdict.ensures) ∙ w.if-verdict.false in
          rw (next, w.lowest-is, w.verdict_for-verdict.ensures)
          (on
          ∙ ap (λ (b : Bool). allowed_by c.args.self.now c.args.wanted.now c.loop-subscription.lowest (with b)) (fit ∙ w.if-fits.true)
          ∙ denied_none c.args.self.now c.args.wanted.now c.loop-subscription.lowest row behind (search rules) denies)
      | then-fits+else-verdict+else-is_none w ↦
          let denies = sym (allow_is c.args.self.now row) ∙ ap (λ (v : Verdict). v.allow) (sym w.verdict_for-verdict.ensures) ∙ w.if-verdict.false in
          rw (next, w.lowest-is)
          (on
          ∙ ap (λ (b : Bool). allowed_by c.args.self.now c.args.wanted.now c.loop-subscription.lowest (with b)) (fit ∙ w.if-fits.true)
          ∙ denied_some c.args.self.now c.args.wanted.now c.loop-subscription.lowest row behind (search rules) denies)
      | else-fits w ↦
          rw (next, w.lowest-is)
          (on ∙ ap (λ (b : Bool). allowed_by c.args.self.now c.args.wanted.now c.loop-subscription.lowest (with b)) (fit ∙ w.if-fits.false))
    ]
