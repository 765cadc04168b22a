use Rattle.std.proofs.Common.{rules, ◌≡◌, ◌+◌, ◌-◌, ◌≤◌, ℕ, List, length, slice_index_or, subst, sym, ap, ◌∙◌, arith}
use Rattle.std.proofs.lemmas.List.{length-map}
use Rattle.policy_core.specs.Moments.{as_of}
use Rattle.policy_core.specs.declared.rule.Rule.{Rule}
use Rattle.compiled_policy.specs.Search.{AreCandidates}
use Rattle.compiled_policy.specs.declared.candidates.Candidates.{Candidates}
use Rattle.compiled_policy.proofs.MomentLemmas.{candidates_at}
use Rattle.policy_core.specs.Question.{question_of}
use Rattle.compiled_policy.specs.Class.{is_in}
use Rattle.compiled_policy.specs.Group.{is_of}
use Rattle.compiled_policy.specs.Index.{Tables}
use Rattle.compiled_policy.specs.Line.{IsPlace, is_on, on_line}
use Rattle.compiled_policy.specs.RuleSet.{IsSetOf}
use Rattle.compiled_policy.specs.declared.rule_set.RuleSet.{RuleSet}
use Rattle.compiled_policy.proofs.IndexLemmas.{candidates_of, set_at}
use Rattle.compiled_policy.proofs.LineLemmas.{interval_inside, match_is_on}
use Rattle.compiled_policy.proofs.index.Index.first_match.Goals as goal

pub first_match-requires-clause-candidates : goal.first_match-requires-clause-candidates
first_match-requires-clause-candidates c =
    let all = c.requires.index.0 in
    let moment = c.requires.index.1 in
    let few : length all ≤ 1024 =
    subst (λ (n : ℕ). n ≤ 1024) (ap (λ (l : List Rule). length l) c.requires.index.3 ∙ length-map all (as_of moment)) c.requires.few in
    let question = question_of c.args.request.now in
    let index = c.args.self.now in
    let is = c.requires.index.2 in
    let place = c.place_of-interval.result in
    let classes : c.self.inside.classes.items ≡ index.classes = ap (λ (t : Tables). t.classes) c.self.view_is in
    let groups : c.self.inside.groups.items ≡ index.groups = ap (λ (t : Tables). t.groups) c.self.view_is in
    let intervals : c.self.inside.intervals.items ≡ index.intervals = ap (λ (t : Tables). t.intervals) c.self.view_is in
    let starts : c.deref.result.now ≡ index.starts = c.deref.ensures.value ∙ ap (λ (t : Tables). t.starts) c.self.view_is in
    let value : c.on_line.result ≡ on_line c.args.request.now.stream = search rules in
    let stands : IsPlace index.starts (on_line question.stream + 1) place =
    subst (λ (l : List ℕ). IsPlace l (on_line question.stream + 1) place) starts
    (subst (λ (n : ℕ). IsPlace c.deref.result.now (n + 1) place) value c.place_of-interval.ensures) in
    let inside = interval_inside all index.starts (on_line question.stream) place is.starts stands in
    let sets : Candidates = record { group = c.index.result; class = c.index-2.result; interval = c.index-3.result } in
    subst (λ (l : List Rule). AreCandidates l question sets) (sym c.requires.index.3)
    (candidates_at all moment question sets
    (candidates_of all question sets
    (is_on index.starts (place - 1)) few
    (subst (λ (g : ℕ). IsSetOf all (is_of g) (length all) c.index.result.now) c.group_of.ensures.value
    (set_at all is_of (length all) index.groups c.group_of.result c.index.result.now is.groups (omega (arith, is.group_count, c.group_of.ensures.small))
    (subst (λ (l : List RuleSet). c.index.result.now ≡ slice_index_or l c.group_of.result c.index.result.now) groups c.index.ensures)))
    (subst (λ (k : ℕ). IsSetOf all (is_in k) (length all) c.index-2.result.now) c.class_of.ensures.value
    (set_at all is_in (length all) index.classes c.class_of.result c.index-2.result.now is.classes (omega (arith, is.class_count, c.class_of.ensures.small))
    (subst (λ (l : List RuleSet). c.index-2.result.now ≡ slice_index_or l c.class_of.result c.index-2.result.now) classes c.index-2.ensures)))
    (set_at all (is_on index.starts) (length all) index.intervals (place - 1) c.index-3.result.now is.intervals (omega (arith, is.interval_count, inside.1))
    (subst (λ (l : List RuleSet). c.index-3.result.now ≡ slice_index_or l (place - 1) c.index-3.result.now) intervals c.index-3.ensures))
    (λ at rule there h. match_is_on all index.starts question at place rule is.starts there stands h)))
