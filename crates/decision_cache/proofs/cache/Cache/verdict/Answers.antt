use Rattle.std.proofs.Common.{◌≡◌, ◌⊎◌, ℕ, List, Option, Contains, IfSome, subst, subst₂, inl, inr, ⊎_elim}
use Rattle.policy_core.specs.Question.{question_of}
use Rattle.policy_core.specs.declared.verdict.Verdict.{Verdict}
use Rattle.decision_cache.specs.declared.key.Key.{Key}
use Rattle.decision_cache.specs.Entries.{key_of}
use Rattle.decision_cache.proofs.Keys.{found_is, got_adds, stored_adds}
use Rattle.decision_cache.proofs.Sound.{sound_kept}
use Rattle.decision_cache.proofs.cache.Cache.verdict.Goals as goal

pub returns-in-Some-clause-verdict : goal.returns-in-Some-clause-verdict
returns-in-Some-clause-verdict g c =
    let question = question_of c.args.request.now in
    c.requires c.in-Some.found (subst₂ (λ (e m : ℕ). Contains c.args.self.now (key_of e m c.args.subject question, c.in-Some.found)) c.epoch.ensures c.moment.ensures (subst (λ (r : Option Verdict). IfSome r (λ verdict. Contains c.args.self.now (key_of c.epoch.result c.moment.result c.args.subject question, verdict))) c.in-Some.is c.latest.ensures))

pub returns-in-Some-clause-entries : goal.returns-in-Some-clause-entries
returns-in-Some-clause-entries g c = λ entry there. inl there

pub returns-in-Some-clause-keeps : goal.returns-in-Some-clause-keeps
returns-in-Some-clause-keeps g c = λ policies question among same sound. sound

pub returns-in-Some-get-clause-verdict : goal.returns-in-Some-get-clause-verdict
returns-in-Some-get-clause-verdict g c =
    let question = question_of c.args.request.now in
    let viewed : c.self.inside.entries.entries ≡ c.args.self.now = c.self.view_is in
    let there = found_is c.self.inside.entries.entries (key_of c.epoch.result c.moment.result c.args.subject question) c.in-Some-get.found.now c.in-Some-get.ensures.value in
    let there' = subst (λ (es : List (Key × Verdict)). Contains es (key_of c.epoch.result c.moment.result c.args.subject question, c.in-Some-get.found.now)) viewed there in
    c.requires c.in-Some-get.found.now (subst₂ (λ (e m : ℕ). Contains c.args.self.now (key_of e m c.args.subject question, c.in-Some-get.found.now)) c.epoch.ensures c.moment.ensures there')

pub returns-in-Some-get-clause-entries : goal.returns-in-Some-get-clause-entries
returns-in-Some-get-clause-entries g c =
    let viewed : c.self.inside.entries.entries ≡ c.args.self.now = c.self.view_is in
    λ entry there.
    inl (subst (λ (es : List (Key × Verdict)). Contains es entry) viewed
    (got_adds c.self.inside.entries c.get.follows.lender-at-none (key_of c.epoch.result c.moment.result c.args.subject (question_of c.args.request.now)) c.get.follows.holds-at-none entry there))

pub returns-clause-entries : goal.returns-clause-entries
returns-clause-entries g c =
    let question = question_of c.args.request.now in
    let number = g.P.Decides.number c.args.policy.now in
    let viewed : c.self.inside.entries.entries ≡ c.args.self.now = c.self.view_is in
    λ entry there.
    let added : Contains c.get.follows.lender-at-none.entries entry ⊎ (entry ≡ (key_of number (g.P.Decides.as_of c.args.policy.now) c.args.subject question, c.verdict-verdict.result)) =
    subst₂ (λ (e m : ℕ). Contains c.get.follows.lender-at-none.entries entry ⊎ (entry ≡ (key_of e m c.args.subject question, c.verdict-verdict.result))) c.epoch.ensures c.moment.ensures
    (stored_adds c.put.result c.get.follows.lender-at-none c.put.new.self (key_of c.epoch.result c.moment.result c.args.subject question) c.verdict-verdict.result c.put.ensures.entries c.put.ensures.err entry there) in
    ⊎_elim
    (λ was. inl (subst (λ (es : List (Key × Verdict)). Contains es entry) viewed
    (got_adds c.self.inside.entries c.get.follows.lender-at-none (key_of c.epoch.result c.moment.result c.args.subject question) c.get.follows.holds-at-none entry was)))
    (λ is. inr is)
    added

pub returns-in-Some-get-clause-keeps : goal.returns-in-Some-get-clause-keeps
returns-in-Some-get-clause-keeps g c =
    λ policies question among same sound.
    sound_kept policies question c.args.self.now c.get.follows.lender-at-none.entries _ _ _ c.args.subject (question_of c.args.request.now)
    c.in-Some-get.found.now (returns-in-Some-get-clause-entries g c) (returns-in-Some-get-clause-verdict g c) among same sound

pub returns-clause-keeps : goal.returns-clause-keeps
returns-clause-keeps g c =
    λ policies question among same sound.
    sound_kept policies question c.args.self.now c.put.new.self.entries _ _ _ c.args.subject (question_of c.args.request.now)
    c.verdict-verdict.result (returns-clause-entries g c) c.verdict-verdict.ensures among same sound
