use Rattle.std.proofs.Common.{rules, arith, true, nat_lt, ◌≡◌, ◌-◌, ◌<◌, ℕ, ℤ, pos, List, length, get_or, Some, slice_get, to_z, of_z, w32, ap, ◌∙◌, refl, subst, Contains, inl, inr, ⊎_elim}
use Rattle.std.proofs.lemmas.Bool.Decides.{nat_tests}
use Rattle.std.proofs.lemmas.Option.{slice_get_read}
use Rattle.policy_core.specs.RuleList.{Rules}
use Rattle.channel_uri.specs.Channel.{Shape}
use Rattle.policy_core.specs.Question.{Question}
use Rattle.policy_core.specs.declared.act.Act.{Act}
use Rattle.policy_core.specs.declared.verdict.Verdict.{Verdict}
use Rattle.decision_cache.specs.declared.key.Key.{Key}
use Rattle.words_and_tables_tests.specs.Questions.{Held, question_on}
use Rattle.words_and_tables_tests.proofs.desk.Desk.ask.Goals as goal

asked : ℕ → Act → Shape → ℤ → Question
asked principal act channel stream = record { principal = principal; act = act; channel = channel; stream = stream }

same_stream : (principal : ℕ) (act : Act) (channel : Shape) (s t : ℤ) → s ≡ t → record { principal = principal; act = act; channel = channel; stream = s } ≡ asked principal act channel t
unfolding asked
same_stream principal act channel s t is = ap (asked principal act channel) is

found_at : (policies lent : List Rules) (place number : ℕ) (policy : Rules) → lent ≡ policies → place ≡ number → true ≡ nat_lt place (length lent) → policy ≡ get_or lent place policy
    → slice_get policies number ≡ Some policy
found_at policies lent place number policy is at within got =
    let inside : place < length lent = grind (arith, nat_tests) in
    subst (λ (l : List Rules). slice_get l number ≡ Some policy) is
    (subst (λ (k : ℕ). slice_get lent k ≡ Some policy) at (slice_get_read lent (length lent) place policy refl inside got))

pub verdict-requires : goal.verdict-requires
unfolding asked
verdict-requires c =
    let stream : pos c.from-2.result ≡ to_z w32 (of_z w32 c.from.result) = search rules in
    let place : c.in_ok-place.place ≡ c.args.epoch - 1 = search rules in
    let among = found_at c.self.inside.policies.items c.deref.result.now c.in_ok-place.place (c.args.epoch - 1) c.in_ok-policy.policy.now c.deref.ensures.value place
    c.in_ok-policy.ensures.lookup.0 c.in_ok-policy.ensures.lookup.1 in
    c.cached_verdicts_stay_sound.ensures.at c.self.inside.policies.items (question_on c.self.inside.channel) c.self.inside.cache c.in_ok-policy.policy.now c.args.epoch c.args.moment c.from-2.result
    (asked c.args.principal c.args.act c.self.inside.channel (to_z w32 (of_z w32 c.from.result))) c.self.invariant among
    (same_stream c.args.principal c.args.act c.self.inside.channel _ _ stream)

pub invariant_of-self : goal.invariant_of-self
unfolding asked
invariant_of-self c =
    let stream : pos c.from-2.result ≡ to_z w32 (of_z w32 c.from.result) = search rules in
    let place : c.in_ok-place.place ≡ c.args.epoch - 1 = search rules in
    let among = found_at c.self.inside.policies.items c.deref.result.now c.in_ok-place.place (c.args.epoch - 1) c.in_ok-policy.policy.now c.deref.ensures.value place
    c.in_ok-policy.ensures.lookup.0 c.in_ok-policy.ensures.lookup.1 in
    c.verdict.ensures.keeps c.self.inside.policies.items (question_on c.self.inside.channel) among
    (same_stream c.args.principal c.args.act c.self.inside.channel _ _ stream) c.self.invariant

pub returns-clause-kept : goal.returns-clause-kept
returns-clause-kept c =
    let subject : c.from-2.result ≡ c.args.subject = search rules in
    let viewed : c.self.inside.cache ≡ c.args.self.now.verdicts = ap (λ (held : Held). held.verdicts) c.self.view_is in
    λ entry there.
    ⊎_elim
    (λ was. inl (subst (λ (es : List (Key × Verdict)). Contains es entry) viewed was))
    (λ is. inr (is ∙ ap (λ (n : ℕ). (record { epoch = c.args.epoch; moment = c.args.moment; subject = n; principal = c.args.principal; act = c.args.act }, c.verdict.result)) subject))
    (c.verdict.ensures.entries entry there)
