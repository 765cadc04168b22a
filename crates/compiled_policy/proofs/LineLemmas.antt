-- Streams on their line, and the intervals of rules.
use Rattle.std.proofs.Common.{◌≡◌, ℕ, suc, ◌+◌, ◌-◌, ◌<◌, ◌≤◌, ℤ, ◌&&◌, true, false, List, Some, length, get_or, slice_get, refl, sym, ◌∙◌, subst, ⊎_elim, arith}
use Rattle.std.proofs.lemmas.Bool.{and_from, cases_eq, cases_lt, le-leb, le-ltb, leb-true, lt-leb, lt-ltb}
use Rattle.std.proofs.lemmas.List.Edits.{get_or-insert_above, get_or-insert_at, get_or-insert_below, length-insert}
use Rattle.std.proofs.lemmas.Option.{slice_get_within}
use Rattle.std.specs.List.{insert}
use Rattle.std.specs.Prelude.{int_le, nat_le, nat_lt, negsuc, pos}
use Rattle.policy_core.specs.Question.{Question}
use Rattle.policy_core.specs.Rule.{matches}
use Rattle.policy_core.specs.declared.rule.Rule.{Rule}
use Rattle.compiled_policy.specs.Line.{AreStarts, Ascend, IsPlace, Starts, is_on, on_line}
use Rattle.compiled_policy.proofs.ClassLemmas.{match_speaks}

on_line_pos : (m : ℕ) → on_line (pos m) ≡ 2147483648 + m
on_line_pos m = rw (le-ltb m 0 (omega arith)) refl

on_line_neg : (m : ℕ) → on_line (negsuc m) ≡ 2147483648 - suc m
on_line_neg m = refl

-- streams stand on the line in their order
pub on_line_order : (a b : ℤ) → int_le a b ≡ true → on_line a ≤ on_line b
on_line_order (pos m) (pos n) h = let e = leb-true m n h in omega (arith, on_line_pos m, on_line_pos n)
on_line_order (pos m) (negsuc n) h = absurd (let e : false ≡ true = h in cc)
on_line_order (negsuc m) (pos n) h = omega (arith, on_line_neg m, on_line_pos n)
on_line_order (negsuc m) (negsuc n) h = let e = leb-true n m h in omega (arith, on_line_neg m, on_line_neg n)

-- the starts rise from each to any behind it
pub ascend_far : (starts : List ℕ) → Ascend starts → (i j : ℕ) → i ≤ j → j < length starts → get_or starts i 0 ≤ get_or starts j 0
ascend_far starts ascend i j low within =
    ⊎_elim
    (λ e. subst (λ (n : ℕ). get_or starts i 0 ≤ get_or starts n 0) e (omega arith))
    (λ ne. let up = ascend i j (omega arith) within in omega (arith, up))
    (cases_eq i j)

-- an interval more
pub inserted : (starts : List ℕ) (at place : ℕ) → Ascend starts → IsPlace starts at place
    → ((row : ℕ) → place ≤ row → row < length starts → at < get_or starts row 0) → Ascend (insert starts place at)
inserted starts at place ascend stands above = λ i j low within.
    let size = length-insert starts place at stands.within in
    let here = get_or-insert_at starts place at 0 stands.within in
    ⊎_elim
    (λ j_below. let a = get_or-insert_below starts place at 0 i (omega arith) stands.within in
    let b = get_or-insert_below starts place at 0 j j_below stands.within in
    let up = ascend i j low (omega (arith, stands.within)) in
    omega (arith, a, b, up))
    (λ j_from. ⊎_elim
    (λ j_here. let a = get_or-insert_below starts place at 0 i (omega arith) stands.within in
    let b : get_or (insert starts place at) j 0 ≡ at = subst (λ (n : ℕ). get_or (insert starts place at) n 0 ≡ at) (sym j_here) here in
    let up = stands.before i (omega arith) in
    omega (arith, a, b, up))
    (λ j_apart. let k : ℕ = j - 1 in
    let shift : k + 1 ≡ j = omega arith in
    let b : get_or (insert starts place at) j 0 ≡ get_or starts k 0 = subst (λ (n : ℕ). get_or (insert starts place at) n 0 ≡ get_or starts k 0) shift
    (get_or-insert_above starts place at 0 k (omega arith) stands.within) in
    ⊎_elim
    (λ i_below. let a = get_or-insert_below starts place at 0 i i_below stands.within in
    let up = ascend i k (omega arith) (omega (arith, size)) in
    omega (arith, a, b, up))
    (λ i_from. ⊎_elim
    (λ i_here. let a : get_or (insert starts place at) i 0 ≡ at = subst (λ (n : ℕ). get_or (insert starts place at) n 0 ≡ at) (sym i_here) here in
    let up = above k (omega arith) (omega (arith, size)) in
    omega (arith, a, b, up))
    (λ i_apart. let m : ℕ = i - 1 in
    let shift_i : m + 1 ≡ i = omega arith in
    let a : get_or (insert starts place at) i 0 ≡ get_or starts m 0 = subst (λ (n : ℕ). get_or (insert starts place at) n 0 ≡ get_or starts m 0) shift_i
    (get_or-insert_above starts place at 0 m (omega arith) stands.within) in
    let up = ascend m k (omega arith) (omega (arith, size)) in
    omega (arith, a, b, up))
    (cases_eq i place))
    (cases_lt i place))
    (cases_eq j place))
    (cases_lt j place)

-- the intervals before start where they did
pub inserted_kept : (starts : List ℕ) (at place : ℕ) → place ≤ length starts → (other : ℕ) → Starts starts other → Starts (insert starts place at) other
inserted_kept starts at place within other was =
    let size = length-insert starts place at within in
    ⊎_elim
    (λ below. let low : was.0 < length (insert starts place at) = omega (arith, was.1) in
    (was.0, low, get_or-insert_below starts place at 0 was.0 below within ∙ was.2))
    (λ from. let low : was.0 + 1 < length (insert starts place at) = omega (arith, was.1) in
    (was.0 + 1, low, get_or-insert_above starts place at 0 was.0 from within ∙ was.2))
    (cases_lt was.0 place)

-- the rows whose interval a rule's range holds are those between the places of its ends
pub is_on_rows : (starts : List ℕ) (rule : Rule) (from to row : ℕ) → IsPlace starts (on_line rule.low) from
    → IsPlace starts (on_line rule.high + 1) to → row < length starts → (nat_le from row && nat_lt row to) ≡ is_on starts row rule
is_on_rows starts rule from to row low high within =
    ⊎_elim
    (λ before. let under = low.before row before in rw (lt-leb from row before, lt-leb (on_line rule.low) (get_or starts row 0) under) refl)
    (λ behind. let over = low.behind row behind within in
    ⊎_elim
    (λ inside. let under = high.before row inside in
    rw (le-leb from row behind, lt-ltb row to inside, le-leb (on_line rule.low) (get_or starts row 0) over, le-leb (get_or starts row 0) (on_line rule.high) (omega (arith, under))) refl)
    (λ past. let above = high.behind row past within in
    rw (le-leb from row behind, le-ltb row to past, le-leb (on_line rule.low) (get_or starts row 0) over, lt-leb (get_or starts row 0) (on_line rule.high) (omega (arith, above))) refl)
    (cases_lt row to))
    (cases_lt row from)

-- the interval of a stream, of which one at least is there
pub interval_inside : (rules : List Rule) (starts : List ℕ) (at place : ℕ) → AreStarts rules (length rules) starts
    → IsPlace starts (at + 1) place → (0 < place) × (place - 1 < length starts)
interval_inside rules starts at place are stands =
    let line = are.line in
    let some : 0 < place = ⊎_elim
    (λ e. let over = stands.behind line.0 (omega arith) line.1 in absurd (omega (arith, over, line.2)))
    (λ ne. omega arith)
    (cases_eq place 0) in
    (some, omega (arith, stands.within))

-- a rule that matches holds the interval of the stream
pub match_is_on : (rules : List Rule) (starts : List ℕ) (question : Question) (index place : ℕ) (rule : Rule) → AreStarts rules (length rules) starts
    → slice_get rules index ≡ Some rule → IsPlace starts (on_line question.stream + 1) place
    → matches rule question ≡ true → is_on starts (place - 1) rule ≡ true
match_is_on rules starts question index place rule are there stands h =
    let before = slice_get_within rules index rule there in
    let speaks = match_speaks rule question h in
    let lower = on_line_order rule.low question.stream speaks.low in
    let upper = on_line_order question.stream rule.high speaks.high in
    let inside = interval_inside rules starts (on_line question.stream) place are stands in
    let under = stands.before (place - 1) (omega (arith, inside.0)) in
    let start = are.low index rule before there in
    let first : start.0 < place = ⊎_elim (λ l. l) (λ behind. let over = stands.behind start.0 behind start.1 in absurd (omega (arith, over, start.2, lower))) (cases_lt start.0 place) in
    let up = ascend_far starts are.ascend start.0 (place - 1) (omega arith) inside.1 in
    and_from _ _
    (le-leb (on_line rule.low) (get_or starts (place - 1) 0) (omega (arith, up, start.2)))
    (le-leb (get_or starts (place - 1) 0) (on_line rule.high) (omega (arith, under, upper)))

-- one that was found is behind those below it
pub found_place : (starts : List ℕ) (at place : ℕ) → Ascend starts → place < length starts → get_or starts place 0 ≡ at → IsPlace starts at place
found_place starts at place ascend within is = record {
  within = omega arith;
  before = λ row low. let up = ascend row place low within in omega (arith, up, is);
  behind = λ row high inside. let up = ascend_far starts ascend place row high inside in omega (arith, up, is);
}

-- the line alone
pub starts_first : (rules : List Rule) (starts : List ℕ) → Ascend starts → length starts ≤ 1 → Starts starts 0 → AreStarts rules 0 starts
starts_first rules starts ascend few line = record {
  ascend = ascend;
  few = omega (arith, few);
  line = line;
  low = λ place rule before there. absurd (omega arith);
  high = λ place rule before there. absurd (omega arith);
}

-- the ends of the next rule's range
pub starts_more : (rules : List Rule) (place : ℕ) (old new : List ℕ) (rule : Rule) → AreStarts rules place old
    → slice_get rules place ≡ Some rule → Ascend new → length new ≤ length old + 2 → ((other : ℕ) → Starts old other → Starts new other)
    → Starts new (on_line rule.low) → Starts new (on_line rule.high + 1) → AreStarts rules (place + 1) new
starts_more rules place old new rule are stands ascend few kept low high =
    let few_before = are.few in
    record {
      ascend = ascend;
      few = omega (arith, few, few_before);
      line = kept 0 are.line;
      low = λ at other before there.
          ⊎_elim
          (λ e. let there' = rw e at there in let same : rule ≡ other = cc in subst (λ (r : Rule). Starts new (on_line r.low)) same low)
          (λ ne. kept (on_line other.low) (are.low at other (omega arith) there))
          (cases_eq at place);
      high = λ at other before there.
          ⊎_elim
          (λ e. let there' = rw e at there in let same : rule ≡ other = cc in subst (λ (r : Rule). Starts new (on_line r.high + 1)) same high)
          (λ ne. kept (on_line other.high + 1) (are.high at other (omega arith) there))
          (cases_eq at place);
    }
