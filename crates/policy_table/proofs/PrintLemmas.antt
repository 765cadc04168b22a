-- Rows that are counted, and written as lines.
use Rattle.std.proofs.Common.{◌≡◌, ℕ, ℤ, ◌+◌, ◌<◌, ◌≤◌, List, [], ◌∷◌, ◌++◌, length, get_or, map, take, min, refl, sym, ap, ◌∙◌, subst, append_assoc, length-append, arith}
use Rattle.std.proofs.lemmas.List.{append-nil, drop_all, flat_map_more, length-map, map-append, take-map, take_all, take_more}
use Rattle.policy_core.specs.declared.rule.Rule.{Rule}
use Rattle.policy_table.specs.Rows.{AddsLine, AddsLines, AreLines, Entry, Row, all_groups, capped, entries_in, entries_left, entry_rows, groups_of, rows_in}
use Rattle.policy_table.specs.declared.groups.Group.{Group}
use Rattle.policy_table.specs.Table.{askers_of}
use Rattle.policy_table.specs.declared.scope.Asker.{Asker}
use Rattle.policy_table.specs.declared.scope.Asker.TheVariants.{One, Others}

-- the row of a rule of a part
abbrev pub row_in : Entry → ℕ → Row
row_in entry place = record {
  asker = entry.group.asker;
  acts = entry.group.acts;
  low = entry.part.scope.low;
  high = entry.part.scope.high;
  place = place;
}

-- ---- lines

lines_append : (xs ys : List Row) (a b : List ℕ) → AreLines xs a → AreLines ys b → AreLines (xs ++ ys) (a ++ b)
lines_append [] ys a b none more = subst (λ (t : List ℕ). AreLines ys (t ++ b)) (sym none) more
lines_append (x ∷ xs) ys a b lines more =
    (lines.0, lines.1 ++ b, ap (λ (t : List ℕ). t ++ b) lines.2 ∙ append_assoc lines.0 lines.1 b, lines.3, lines_append xs ys lines.1 b lines.4 more)

pub lines_none : (text : List ℕ) → AddsLines [] text text
lines_none text = record { lines = []; are_lines = refl; whole = sym (append-nil text) }

pub lines_more : (rows : List Row) (row : Row) (old middle new : List ℕ) → AddsLines rows old middle → AddsLine row.place middle new
    → AddsLines (rows ++ row ∷ []) old new
lines_more rows row old middle new before line = record {
  lines = before.lines ++ line.line;
  are_lines = lines_append rows (row ∷ []) before.lines line.line before.are_lines (line.line, [], sym (append-nil line.line), line.is_line, refl);
  whole = line.whole ∙ ap (λ (t : List ℕ). t ++ line.line) before.whole ∙ append_assoc old before.lines line.line;
}

pub lines_then : (rows more : List Row) (old new : List ℕ) → AreLines rows old → AddsLines more old new → AreLines (rows ++ more) new
lines_then rows more old new before adds =
    subst (λ (t : List ℕ). AreLines (rows ++ more) t) (sym adds.whole) (lines_append rows more old adds.lines before adds.are_lines)

-- ---- rows

pub rows_then : (entries rest : List Entry) (entry : Entry) (all rows : List Row) → entries ≡ entry ∷ rest → all ≡ rows ++ rows_in entries
    → all ≡ (rows ++ entry_rows entry) ++ rows_in rest
rows_then entries rest entry all rows is before =
    before ∙ ap (λ (l : List Entry). rows ++ rows_in l) is ∙ sym (append_assoc rows (entry_rows entry) (rows_in rest))

pub count_then : (entries rest : List Entry) (entry : Entry) (done total : ℕ) → entries ≡ entry ∷ rest → done + length (rows_in entries) ≡ total
    → (done + length entry.part.places) + length (rows_in rest) ≡ total
count_then entries rest entry done total is before =
    let one = length-append (entry_rows entry) (rows_in rest) in
    let same : length (entry_rows entry) ≡ length entry.part.places = length-map entry.part.places _ in
    let whole : length (rows_in entries) ≡ length (entry_rows entry ++ rows_in rest) = ap (λ (l : List Entry). length (rows_in l)) is in
    omega (arith, one, same, whole, before)

capped_below : (most done more : ℕ) → min (min done most + more) most ≡ min (done + more) most
capped_below most done more = omega arith

pub capped_then : (done more count : ℕ) → count ≡ capped done → capped (count + more) ≡ capped (done + more)
capped_then done more count is = ap (λ (n : ℕ). capped (n + more)) is ∙ capped_below 18446744073709551615 done more

-- ---- what is left

pub entries_less : (entries rest : List Entry) (entry : Entry) → entries ≡ entry ∷ rest → length rest + 1 ≡ length entries
entries_less entries rest entry is = let e : length entries ≡ length (entry ∷ rest) = ap length is in omega (arith, e)

-- ---- groups of askers

pub groups_then : (rules : List Rule) (askers : List Asker) (asker : Asker) (old new : List Group) → old ≡ all_groups rules askers
    → new ≡ old ++ groups_of rules asker → new ≡ all_groups rules (askers ++ asker ∷ [])
groups_then rules askers asker old new is_old is_new =
    is_new ∙ ap (λ (l : List Group). l ++ groups_of rules asker) is_old ∙ flat_map_more (groups_of rules) [] askers asker

-- ---- the same, of rules and groups that are lent

pub entries_moved : (rules own : List Rule) (groups lent : List Group) (index next : ℕ) (low after : ℤ) (entry : Entry) → own ≡ rules → lent ≡ groups
    → entries_left own lent index low ≡ entry ∷ entries_left own lent next after
    → entries_left rules groups index low ≡ entry ∷ entries_left rules groups next after
entries_moved rules own groups lent index next low after entry same_rules same_groups is =
    subst (λ (r : List Rule). entries_left r groups index low ≡ entry ∷ entries_left r groups next after) same_rules
    (subst (λ (g : List Group). entries_left own g index low ≡ entry ∷ entries_left own g next after) same_groups is)

none_left : (rules : List Rule) (groups : List Group) (index : ℕ) (low : ℤ) → length groups ≤ index → entries_left rules groups index low ≡ []
none_left rules groups index low past = ap (λ (l : List Group). entries_in rules l low) (drop_all index groups past)

pub count_ends : (rules : List Rule) (groups : List Group) (index : ℕ) (low : ℤ) (done total count : ℕ) → length groups ≤ index
    → done + length (rows_in (entries_left rules groups index low)) ≡ total → count ≡ capped done → count ≡ capped total
count_ends rules groups index low done total count past all is =
    let none : length (rows_in (entries_left rules groups index low)) ≡ 0 = ap (λ (l : List Entry). length (rows_in l)) (none_left rules groups index low past) in
    let same : done ≡ total = omega (arith, none, all) in
    is ∙ ap capped same

pub rows_end : (rules : List Rule) (groups : List Group) (index : ℕ) (low : ℤ) (all rows : List Row) → length groups ≤ index
    → all ≡ rows ++ rows_in (entries_left rules groups index low) → rows ≡ all
rows_end rules groups index low all rows past is =
    sym (is ∙ ap (λ (l : List Entry). rows ++ rows_in l) (none_left rules groups index low past) ∙ append-nil rows)

pub named_then : (rules : List Rule) (named : List ℕ) (at number d : ℕ) (old new : List Group) → at < length named → number ≡ get_or named at d
    → old ≡ all_groups rules (map One (take at named)) → new ≡ old ++ groups_of rules (One number)
    → new ≡ all_groups rules (map One (take (at + 1) named))
named_then rules named at number d old new inside is is_old is_new =
    groups_then rules (map One (take at named)) (One number) old new is_old is_new
    ∙ ap (all_groups rules) (sym (
    ap (map One) (take_more named at d inside) ∙ map-append One (take at named) (get_or named at d ∷ [])
    ∙ ap (λ (n : ℕ). map One (take at named) ++ One n ∷ []) (sym is)))

pub all_then : (rules : List Rule) (named : List ℕ) (at : ℕ) (old new : List Group) → length named ≤ at
    → old ≡ all_groups rules (map One (take at named)) → new ≡ old ++ groups_of rules Others → new ≡ all_groups rules (askers_of named)
all_then rules named at old new past is_old is_new =
    groups_then rules (map One (take at named)) Others old new is_old is_new
    ∙ ap (λ (l : List ℕ). all_groups rules (map One l ++ Others ∷ [])) (take_all at named past)

-- ---- one more rule of a part

rows_more : (entry : Entry) (at place : ℕ) → at < length entry.part.places → place ≡ get_or entry.part.places at 0
    → take (at + 1) (entry_rows entry) ≡ take at (entry_rows entry) ++ row_in entry place ∷ []
rows_more entry at place inside is =
    take-map (row_in entry) (at + 1) entry.part.places
    ∙ ap (map (row_in entry)) (take_more entry.part.places at 0 inside)
    ∙ map-append (row_in entry) (take at entry.part.places) (get_or entry.part.places at 0 ∷ [])
    ∙ ap (λ (n : ℕ). map (row_in entry) (take at entry.part.places) ++ row_in entry n ∷ []) (sym is)
    ∙ ap (λ (l : List Row). l ++ row_in entry place ∷ []) (sym (take-map (row_in entry) at entry.part.places))

pub part_lines : (entry : Entry) (at place : ℕ) (old middle new : List ℕ) → at < length entry.part.places → place ≡ get_or entry.part.places at 0
    → AddsLines (take at (entry_rows entry)) old middle → AddsLine place middle new → AddsLines (take (at + 1) (entry_rows entry)) old new
part_lines entry at place old middle new inside is before line =
    subst (λ (l : List Row). AddsLines l old new) (sym (rows_more entry at place inside is))
    (lines_more (take at (entry_rows entry)) (row_in entry place) old middle new before line)

pub part_rows : (entry : Entry) (at place : ℕ) (old middle new : List Row) → at < length entry.part.places → place ≡ get_or entry.part.places at 0
    → middle ≡ old ++ take at (entry_rows entry) → new ≡ middle ++ row_in entry place ∷ [] → new ≡ old ++ take (at + 1) (entry_rows entry)
part_rows entry at place old middle new inside is before one =
    one ∙ ap (λ (l : List Row). l ++ row_in entry place ∷ []) before ∙ append_assoc old (take at (entry_rows entry)) (row_in entry place ∷ [])
    ∙ ap (λ (l : List Row). old ++ l) (sym (rows_more entry at place inside is))
