use Rattle.std.proofs.Common.{rules, ◌≡◌, ℤ, to_z, of_z, w32, sym, subst}
use Rattle.decision_cache.specs.Entries.{AddsAtMost, IsSoundAt, key_of}
use Rattle.driver_core.specs.Cached.{IsCached, poll_question}
use Rattle.driver_core.specs.State.{State}
use Rattle.log_readers.specs.Numbering.{Rises, number_of}
use Rattle.policy_core.specs.declared.act.Act.TheVariants.{Receive}
use Rattle.policy_core.specs.declared.verdict.Verdict.{Verdict}
use Rattle.policy_core.specs.Moments.{at}
use Rattle.policy_core.specs.Question.{Question}
use Rattle.policy_core.specs.Rules.{verdict_of}
use Rattle.driver_core.proofs.CacheLemmas.{cached_more, poll_cached, poll_sound}
use Rattle.driver_core.proofs.state.registry.Registry.poll_verdict.Goals as goal

pub verdict-requires : goal.verdict-requires
verdict-requires c =
    let asked : ℤ → Question =
    λ stream. record { principal = c.args.principal; act = Receive; channel = c.args.subscription.now.channel; stream = stream } in
    let stream : to_z w32 (of_z w32 c.args.subscription.now.stream) ≡ c.args.subscription.now.stream = search rules in
    subst (λ (z : ℤ).
    IsSoundAt c.args.cache.now c.self.inside.compiled.given c.self.inside.compiled.epoch c.self.inside.compiled.as_of c.args.subscription.now.number (asked z))
    (sym stream)
    (subst (λ (s : State).
    IsSoundAt c.args.cache.now s.given s.epoch c.self.inside.compiled.as_of c.args.subscription.now.number (asked c.args.subscription.now.stream)) (sym c.self.view_is)
    (poll_sound c.args.self.now c.args.cache.now c.self.inside.compiled.as_of c.args.principal c.args.subscription.now
    c.requires.cached c.requires.subscribed))

pub returns-clause-verdict : goal.returns-clause-verdict
returns-clause-verdict c =
    let asked : ℤ → Question =
    λ stream. record { principal = c.args.principal; act = Receive; channel = c.args.subscription.now.channel; stream = stream } in
    let stream : to_z w32 (of_z w32 c.args.subscription.now.stream) ≡ c.args.subscription.now.stream = search rules in
    subst (λ (z : ℤ). c.verdict.result ≡ verdict_of c.args.self.now.policy c.args.self.now.epoch (asked z)) stream
    (subst (λ (s : State).
    c.verdict.result ≡ verdict_of s.policy s.epoch (asked (to_z w32 (of_z w32 c.args.subscription.now.stream)))) c.self.view_is
    c.verdict.ensures.verdict)

pub returns-clause-cached : goal.returns-clause-cached
returns-clause-cached c =
    let as_of : c.verdict.result ≡ verdict_of (at c.args.self.now.given c.self.inside.compiled.as_of) c.args.self.now.epoch (poll_question c.args.principal c.args.subscription.now) =
    let asked : ℤ → Question =
    λ stream. record { principal = c.args.principal; act = Receive; channel = c.args.subscription.now.channel; stream = stream } in
    let stream : to_z w32 (of_z w32 c.args.subscription.now.stream) ≡ c.args.subscription.now.stream = search rules in
    subst (λ (z : ℤ). c.verdict.result ≡ verdict_of (at c.args.self.now.given c.self.inside.compiled.as_of) c.args.self.now.epoch (asked z)) stream
    (subst (λ (s : State).
    c.verdict.result ≡ verdict_of (at s.given c.self.inside.compiled.as_of) s.epoch (asked (to_z w32 (of_z w32 c.args.subscription.now.stream)))) c.self.view_is
    c.verdict.ensures.verdict) in
    let s : State = c.args.self.now in
    let moment = c.self.inside.compiled.as_of in
    let number = c.args.subscription.now.number in
    let question = poll_question c.args.principal c.args.subscription.now in
    let numbers : Rises number_of 0 s.last_number s.streams.subscriptions = rw (← c.self.view_is) c.self.invariant.kept.order.numbers in
    let adds : AddsAtMost c.args.cache.now c.verdict.new.self (key_of s.epoch moment number question) c.verdict.result =
    subst (λ (t : State). AddsAtMost c.args.cache.now c.verdict.new.self (key_of t.epoch moment number question) c.verdict.result)
    c.self.view_is c.verdict.ensures.entries in
    cached_more s c.args.cache.now c.verdict.new.self (key_of s.epoch moment number question, c.verdict.result) c.requires.cached adds
    (subst (λ (v : Verdict). IsCached s (key_of s.epoch moment number question, v)) (sym as_of)
    (poll_cached s moment c.args.principal c.args.subscription.now numbers c.requires.subscribed))
