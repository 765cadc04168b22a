-- Acts of which the same is said.
use Rattle.std.proofs.Common.{◌≡◌, ℕ, ◌+◌, ◌<◌, ℤ, pos, ◌+ℤ◌, ◌≤ℤ◌, Bool, true, false, cond, ◌&&◌, ◌||◌, List, [], ◌∷◌, ◌++◌, get_or, take, sym, ap, ◌∙◌}
use Rattle.std.proofs.lemmas.Bool.{and_parts}
use Rattle.std.proofs.lemmas.Bool.Decides.{Decides-int_eq}
use Rattle.std.proofs.lemmas.List.{flat_map_more, take_more}
use Rattle.std.proofs.lemmas.List.Folds.{list_any_more}
use Rattle.std.proofs.lemmas.List.Sums.{fold_more}
use Rattle.std.specs.List.{flat_map, fold, list_any}
use Rattle.std.specs.Ordering.{int_eq}
use Rattle.std.specs.Prelude.{int_le}
use Rattle.std.specs.Str.{bytes_eq}
use Rattle.policy_core.specs.Act.{act_number, every_act}
use Rattle.policy_core.specs.Acts.{no_act_held, with_act}
use Rattle.policy_core.specs.declared.act.Act.{Act}
use Rattle.policy_core.specs.declared.act.Act.TheVariants.{Publish}
use Rattle.policy_core.specs.declared.acts.Acts.{Acts}
use Rattle.policy_core.specs.declared.rule.Rule.{Rule}
use Rattle.policy_table.specs.Lane.{Part, from_on, part_at, parts_from}
use Rattle.policy_table.specs.Rows.{acts_like, alike, are_like, group_of, groups_of, is_repeated}
use Rattle.policy_table.specs.Stretch.{Span, span_at}
use Rattle.policy_table.specs.declared.groups.Group.{Group}
use Rattle.policy_table.specs.declared.scope.Asker.{Asker}
use Rattle.policy_table.proofs.StepLemmas.{alike_step}

-- ---- two lanes

abbrev same_span : Span → Span → Bool
same_span first second = int_eq first.high second.high && bytes_eq first.places second.places

abbrev rest_of : List Rule → Asker → Act → ℤ → List Part
rest_of rules asker act high = cond (int_le (pos 2147483647) high) [] (parts_from rules asker act (high +ℤ pos 1))

abbrev both : List Rule → Asker → Act → Act → Span → Span → Bool
both rules asker one other first second =
    same_span first second && are_like (rest_of rules asker one first.high) (rest_of rules asker other second.high)

alike_first : (rules : List Rule) (asker : Asker) (one other : Act) (low : ℤ) (first second : Span) → low ≤ℤ pos 2147483647
    → first ≡ span_at rules (from_on asker one low) → second ≡ span_at rules (from_on asker other low)
    → are_like (parts_from rules asker one low) (parts_from rules asker other low) ≡ both rules asker one other first second
unfolding part_at
alike_first rules asker one other low first second order is_first is_second =
    alike_step rules asker one other low order
    ∙ sym (ap (λ (f : Span). both rules asker one other f second) is_first
    ∙ ap (λ (s : Span). both rules asker one other (span_at rules (from_on asker one low)) s) is_second)

-- what two spans say of two lanes
pub record Pair (rules : List Rule) (asker : Asker) (one other : Act) (low : ℤ) (first second : Span) (test : Bool) : Type 0 where
  pub order : low ≤ℤ pos 2147483647
  pub is_first : first ≡ span_at rules (from_on asker one low)
  pub is_second : second ≡ span_at rules (from_on asker other low)
  pub is_test : test ≡ (int_eq first.high second.high && bytes_eq first.places second.places)
  pub before : are_like (parts_from rules asker one low) (parts_from rules asker other low) ≡ alike rules asker one other

pair_whole : (rules : List Rule) (asker : Asker) (one other : Act) (low : ℤ) (first second : Span) (test : Bool)
    → Pair rules asker one other low first second test
    → (test && are_like (rest_of rules asker one first.high) (rest_of rules asker other second.high)) ≡ alike rules asker one other
pair_whole rules asker one other low first second test pair =
    ap (λ (b : Bool). b && are_like (rest_of rules asker one first.high) (rest_of rules asker other second.high)) pair.is_test
    ∙ sym (alike_first rules asker one other low first second pair.order pair.is_first pair.is_second) ∙ pair.before

pub pair_apart : (rules : List Rule) (asker : Asker) (one other : Act) (low : ℤ) (first second : Span) (test : Bool)
    → Pair rules asker one other low first second test → test ≡ false → false ≡ alike rules asker one other
pair_apart rules asker one other low first second test pair is_false =
    sym (ap (λ (b : Bool). b && are_like (rest_of rules asker one first.high) (rest_of rules asker other second.high)) is_false)
    ∙ pair_whole rules asker one other low first second test pair

same_high : (first second : Span) (test : Bool) → test ≡ (int_eq first.high second.high && bytes_eq first.places second.places) → test ≡ true
    → first.high ≡ second.high
same_high first second test is is_true = (Decides-int_eq first.high second.high).0 (and_parts _ _ (sym is ∙ is_true)).0

pair_rest : (rules : List Rule) (asker : Asker) (one other : Act) (low : ℤ) (first second : Span) (test : Bool)
    → Pair rules asker one other low first second test → test ≡ true
    → are_like (rest_of rules asker one first.high) (rest_of rules asker other first.high) ≡ alike rules asker one other
pair_rest rules asker one other low first second test pair is_true =
    ap (λ (z : ℤ). are_like (rest_of rules asker one first.high) (rest_of rules asker other z)) (same_high first second test pair.is_test is_true)
    ∙ sym (ap (λ (b : Bool). b && are_like (rest_of rules asker one first.high) (rest_of rules asker other second.high)) is_true)
    ∙ pair_whole rules asker one other low first second test pair

pub pair_ends : (rules : List Rule) (asker : Asker) (one other : Act) (low : ℤ) (first second : Span) (test : Bool)
    → Pair rules asker one other low first second test → test ≡ true → int_le (pos 2147483647) first.high ≡ true → true ≡ alike rules asker one other
pair_ends rules asker one other low first second test pair is_true last =
    sym (ap (λ (b : Bool). are_like (cond b [] (parts_from rules asker one (first.high +ℤ pos 1))) (cond b [] (parts_from rules asker other (first.high +ℤ pos 1)))) last)
    ∙ pair_rest rules asker one other low first second test pair is_true

pub pair_goes_on : (rules : List Rule) (asker : Asker) (one other : Act) (low : ℤ) (first second : Span) (test : Bool) (next : ℤ)
    → Pair rules asker one other low first second test → test ≡ true → int_le (pos 2147483647) first.high ≡ false → next ≡ first.high +ℤ pos 1
    → are_like (parts_from rules asker one next) (parts_from rules asker other next) ≡ alike rules asker one other
pair_goes_on rules asker one other low first second test next pair is_true more is =
    ap (λ (z : ℤ). are_like (parts_from rules asker one z) (parts_from rules asker other z)) is
    ∙ sym (ap (λ (b : Bool). are_like (cond b [] (parts_from rules asker one (first.high +ℤ pos 1))) (cond b [] (parts_from rules asker other (first.high +ℤ pos 1)))) more)
    ∙ pair_rest rules asker one other low first second test pair is_true

-- ---- an act before it

pub repeated_more : (rules : List Rule) (asker : Asker) (act own : Act) (before : ℕ) (old new : Bool) → before < 14 → own ≡ get_or every_act before Publish
    → old ≡ list_any (λ other. alike rules asker other act) (take before every_act) → new ≡ (old || alike rules asker own act)
    → new ≡ list_any (λ other. alike rules asker other act) (take (before + 1) every_act)
repeated_more rules asker act own before old new inside is_own is_old is_new =
    let test = λ (other : Act). alike rules asker other act in
    is_new ∙ ap (λ (a : Act). old || test a) is_own ∙ ap (λ (b : Bool). b || test (get_or every_act before Publish)) is_old
    ∙ sym (list_any_more test every_act before Publish inside)

pub repeated_is : (rules : List Rule) (asker : Asker) (act : Act) (number : ℕ) (found : Bool) → act_number act ≡ number
    → found ≡ list_any (λ other. alike rules asker other act) (take number every_act) → found ≡ is_repeated rules asker act
unfolding is_repeated
repeated_is rules asker act number found is h =
    h ∙ ap (λ (n : ℕ). list_any (λ other. alike rules asker other act) (take n every_act)) (sym is)

-- ---- the acts that are alike

abbrev pub also : List Rule → Asker → Act → Acts → Act → Acts
also rules asker act acts other = cond (alike rules asker act other) (with_act acts other) acts

pub acts_more : (rules : List Rule) (asker : Asker) (act other : Act) (number : ℕ) (old new : Acts) → number < 14
    → other ≡ get_or every_act number Publish → old ≡ fold (also rules asker act) no_act_held (take number every_act)
    → new ≡ also rules asker act old other → new ≡ fold (also rules asker act) no_act_held (take (number + 1) every_act)
acts_more rules asker act other number old new inside is_other is_old is_new =
    is_new ∙ ap (λ (acts : Acts). also rules asker act acts other) is_old
    ∙ ap (also rules asker act (fold (also rules asker act) no_act_held (take number every_act))) is_other
    ∙ sym (fold_more (also rules asker act) no_act_held every_act number Publish inside)

pub acts_whole : (rules : List Rule) (asker : Asker) (act : Act) (number : ℕ) (acts : Acts) → number ≡ 14
    → acts ≡ fold (also rules asker act) no_act_held (take number every_act) → acts ≡ acts_like rules asker act
unfolding acts_like
acts_whole rules asker act number acts is h = h ∙ ap (λ (n : ℕ). fold (also rules asker act) no_act_held (take n every_act)) is

-- ---- groups

pub group_none : (rules : List Rule) (asker : Asker) (act : Act) (repeated : Bool) → repeated ≡ is_repeated rules asker act
    → repeated ≡ true → group_of rules asker act ≡ []
unfolding group_of
group_none rules asker act repeated is is_true =
    ap (λ (b : Bool). cond b [] (record { asker = asker; act = act; acts = acts_like rules asker act } ∷ [])) (sym is ∙ is_true)

pub group_one : (rules : List Rule) (asker : Asker) (act : Act) (acts : Acts) (repeated : Bool) → repeated ≡ is_repeated rules asker act
    → repeated ≡ false → acts ≡ acts_like rules asker act → record { asker = asker; act = act; acts = acts } ∷ [] ≡ group_of rules asker act
unfolding group_of
group_one rules asker act acts repeated is is_false is_acts =
    ap (λ (a : Acts). let g : Group = record { asker = asker; act = act; acts = a } in g ∷ []) is_acts
    ∙ sym (ap (λ (b : Bool). cond b [] (record { asker = asker; act = act; acts = acts_like rules asker act } ∷ [])) (sym is ∙ is_false))

pub groups_more : (rules : List Rule) (asker : Asker) (act : Act) (number : ℕ) (first old new : List Group) → number < 14
    → act ≡ get_or every_act number Publish → old ≡ first ++ flat_map (group_of rules asker) (take number every_act)
    → new ≡ old ++ group_of rules asker act → new ≡ first ++ flat_map (group_of rules asker) (take (number + 1) every_act)
groups_more rules asker act number first old new inside is_act is_old is_new =
    is_new ∙ ap (λ (l : List Group). l ++ group_of rules asker act) is_old
    ∙ ap (λ (a : Act). (first ++ flat_map (group_of rules asker) (take number every_act)) ++ group_of rules asker a) is_act
    ∙ flat_map_more (group_of rules asker) first (take number every_act) (get_or every_act number Publish)
    ∙ ap (λ (l : List Act). first ++ flat_map (group_of rules asker) l) (sym (take_more every_act number Publish inside))

pub groups_whole : (rules : List Rule) (asker : Asker) (number : ℕ) (first groups : List Group) → number ≡ 14
    → groups ≡ first ++ flat_map (group_of rules asker) (take number every_act) → groups ≡ first ++ groups_of rules asker
unfolding groups_of
groups_whole rules asker number first groups is h =
    h ∙ ap (λ (n : ℕ). first ++ flat_map (group_of rules asker) (take n every_act)) is
