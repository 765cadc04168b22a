-- What is sound stays so.
use Rattle.std.proofs.Common.{◌≡◌, ◌-◌, ℕ, zero, suc, List, [], ◌∷◌, ◌++◌, Some, slice_get, sym, ap, ◌∙◌, subst, ⊎_elim}
use Rattle.lru.proofs.Splits.{Contains-nil}
use Rattle.policy_core.specs.RuleList.{Rules}
use Rattle.policy_core.specs.Rules.{verdict_of}
use Rattle.policy_core.specs.Moments.{at}
use Rattle.policy_core.specs.Question.{Question}
use Rattle.policy_core.specs.declared.verdict.Verdict.{Verdict}
use Rattle.decision_cache.specs.declared.key.Key.{Key}
use Rattle.decision_cache.specs.Entries.{IsSoundIn, IsSoundAt, IsAmong, IsDecided, AddsAtMost, key_of}

pub sound_none : (policies : List Rules) (question : Key → Question) → IsSoundIn policies question []
sound_none policies question = record { each = λ entry there. absurd (Contains-nil entry there) }

get_more : (policies : List Rules) (policy : Rules) (i : ℕ) (found : Rules) → slice_get policies i ≡ Some found → slice_get (policies ++ policy ∷ []) i ≡ Some found
get_more [] policy i found h = cc
get_more (p ∷ ps) policy zero found h = h
get_more (p ∷ ps) policy (suc i) found h = get_more ps policy i found h

pub sound_grown : (policies : List Rules) (policy : Rules) (question : Key → Question) (entries : List (Key × Verdict)) →
    IsSoundIn policies question entries → IsSoundIn (policies ++ policy ∷ []) question entries
sound_grown policies policy question entries sound = record {
  each = λ entry there.
      let old = sound.each entry there in
      (old.0, get_more policies policy (entry.0.epoch - 1) old.0 old.1, old.2);
}

pub sound_at : (policies : List Rules) (question : Key → Question) (entries : List (Key × Verdict)) (policy : Rules) (epoch moment subject : ℕ) (asked : Question) →
    IsSoundIn policies question entries → IsAmong policies policy epoch → question (key_of epoch moment subject asked) ≡ asked
    → IsSoundAt entries policy epoch moment subject asked
sound_at policies question entries policy epoch moment subject asked sound among same verdict there =
    let old = sound.each (key_of epoch moment subject asked, verdict) there in
    let one : old.0 ≡ policy = let e = sym old.1 ∙ among in cc in
    old.2 ∙ ap (λ (p : Rules). verdict_of (at p moment) epoch (question (key_of epoch moment subject asked))) one
    ∙ ap (λ (q : Question). verdict_of (at policy moment) epoch q) same

pub sound_kept : (policies : List Rules) (question : Key → Question) (old new : List (Key × Verdict)) (policy : Rules) (epoch moment subject : ℕ) (asked : Question) (verdict : Verdict) →
    AddsAtMost old new (key_of epoch moment subject asked) verdict → verdict ≡ verdict_of (at policy moment) epoch asked
    → IsAmong policies policy epoch → question (key_of epoch moment subject asked) ≡ asked
    → IsSoundIn policies question old → IsSoundIn policies question new
sound_kept policies question old new policy epoch moment subject asked verdict adds right among same sound = record {
  each = λ entry there.
      ⊎_elim
      (λ was. sound.each entry was)
      (λ is. subst (IsDecided policies question) (sym is)
      (policy, among, right ∙ ap (λ (q : Question). verdict_of (at policy moment) epoch q) (sym same)))
      (adds entry there);
}
