-- The next part of what is left of groups.
use Rattle.std.proofs.Common.{◌≡◌, ℕ, suc, ◌+◌, ◌<◌, ℤ, pos, negsuc, ◌+ℤ◌, ◌≤ℤ◌, Bool, true, false, cond, List, [], ◌∷◌, ◌++◌, length, get_or, drop, map, sym, ap, ◌∙◌, add-one, drop-cons}
use Rattle.std.specs.Prelude.{int_le}
use Rattle.policy_core.specs.declared.act.Act.{Act}
use Rattle.policy_core.specs.declared.rule.Rule.{Rule}
use Rattle.policy_table.specs.Lane.{Part, from_on, is_last, part_at, parts_from}
use Rattle.policy_table.specs.Rows.{Entry, are_like, entries_in, entries_left, entries_of}
use Rattle.policy_table.specs.declared.groups.Group.{Group}
use Rattle.policy_table.specs.declared.scope.Asker.{Asker}
use Rattle.policy_table.specs.Stretch.{Span, span_at}
use Rattle.policy_table.proofs.LaneLemmas.{found_part, is_end, next_parts}

-- ---- one group

pub last_of_group : (rules : List Rule) (group : Group) (low : ℤ) → low ≤ℤ pos 2147483647
    → is_last (part_at rules (from_on group.asker group.act low)) ≡ true
    → entries_of rules group low ≡ record { group = group; part = part_at rules (from_on group.asker group.act low) } ∷ []
unfolding entries_of
last_of_group rules group low order is_true =
    let part = part_at rules (from_on group.asker group.act low) in
    let f = λ (p : Part). let e : Entry = record { group = group; part = p } in e in
    ap (map f) (next_parts rules group.asker group.act low order)
    ∙ ap (λ (b : Bool). f part ∷ map f (cond b [] (parts_from rules group.asker group.act (part.scope.high +ℤ pos 1)))) is_true

pub more_of_group : (rules : List Rule) (group : Group) (low : ℤ) → low ≤ℤ pos 2147483647
    → is_last (part_at rules (from_on group.asker group.act low)) ≡ false
    → entries_of rules group low
    ≡ record { group = group; part = part_at rules (from_on group.asker group.act low) }
    ∷ entries_of rules group ((part_at rules (from_on group.asker group.act low)).scope.high +ℤ pos 1)
unfolding entries_of
more_of_group rules group low order is_false =
    let part = part_at rules (from_on group.asker group.act low) in
    let f = λ (p : Part). let e : Entry = record { group = group; part = p } in e in
    ap (map f) (next_parts rules group.asker group.act low order)
    ∙ ap (λ (b : Bool). f part ∷ map f (cond b [] (parts_from rules group.asker group.act (part.scope.high +ℤ pos 1)))) is_false

-- ---- groups

here : (groups : List Group) (index : ℕ) (d group : Group) → index < length groups → get_or groups index d ≡ group
    → drop index groups ≡ group ∷ drop (index + 1) groups
here groups index d group inside is =
    drop-cons groups index d inside ∙ ap (λ (g : Group). g ∷ drop (suc index) groups) is
    ∙ ap (λ (n : ℕ). group ∷ drop n groups) (sym (add-one index))

left_at : (rules : List Rule) (groups : List Group) (index : ℕ) (d group : Group) (low : ℤ) → index < length groups → get_or groups index d ≡ group
    → entries_left rules groups index low ≡ entries_of rules group low ++ entries_left rules groups (index + 1) (negsuc 2147483647)
left_at rules groups index d group low inside is =
    ap (λ (l : List Group). entries_in rules l low) (here groups index d group inside is)

pub step_last : (rules : List Rule) (groups : List Group) (index : ℕ) (d group : Group) (low : ℤ) → index < length groups → get_or groups index d ≡ group
    → low ≤ℤ pos 2147483647 → is_last (part_at rules (from_on group.asker group.act low)) ≡ true
    → entries_left rules groups index low
    ≡ record { group = group; part = part_at rules (from_on group.asker group.act low) } ∷ entries_left rules groups (index + 1) (negsuc 2147483647)
step_last rules groups index d group low inside is order is_true =
    left_at rules groups index d group low inside is
    ∙ ap (λ (l : List Entry). l ++ entries_left rules groups (index + 1) (negsuc 2147483647)) (last_of_group rules group low order is_true)

pub step_on : (rules : List Rule) (groups : List Group) (index : ℕ) (d group : Group) (low : ℤ) → index < length groups → get_or groups index d ≡ group
    → low ≤ℤ pos 2147483647 → is_last (part_at rules (from_on group.asker group.act low)) ≡ false
    → entries_left rules groups index low
    ≡ record { group = group; part = part_at rules (from_on group.asker group.act low) }
    ∷ entries_left rules groups index ((part_at rules (from_on group.asker group.act low)).scope.high +ℤ pos 1)
step_on rules groups index d group low inside is order is_false =
    let next = (part_at rules (from_on group.asker group.act low)).scope.high +ℤ pos 1 in
    left_at rules groups index d group low inside is
    ∙ ap (λ (l : List Entry). l ++ entries_left rules groups (index + 1) (negsuc 2147483647)) (more_of_group rules group low order is_false)
    ∙ ap (λ (l : List Entry). record { group = group; part = part_at rules (from_on group.asker group.act low) } ∷ l) (sym (left_at rules groups index d group next inside is))

-- ---- a step

-- a span that was found at a place
pub record At (rules : List Rule) (groups : List Group) (index : ℕ) (d group : Group) (low own : ℤ) (span : Span) : Type 0 where
  pub inside : index < length groups
  pub is : get_or groups index d ≡ group
  pub order : low ≤ℤ pos 2147483647
  pub same : own ≡ low
  pub found : span ≡ span_at rules (from_on group.asker group.act low)

at_part : (rules : List Rule) (groups : List Group) (index : ℕ) (d group : Group) (low own : ℤ) (span : Span) → At rules groups index d group low own span
    → part_at rules (from_on group.asker group.act low)
    ≡ record { scope = record { asker = group.asker; act = group.act; low = own; high = span.high }; places = span.places }
at_part rules groups index d group low own span at =
    found_part rules group.asker group.act low span at.found
    ∙ ap (λ (z : ℤ). let p : Part = record { scope = record { asker = group.asker; act = group.act; low = z; high = span.high }; places = span.places } in p) (sym at.same)

pub step_ends : (rules : List Rule) (groups : List Group) (index : ℕ) (d group : Group) (low own : ℤ) (span : Span) → At rules groups index d group low own span
    → span.high ≡ pos 2147483647
    → entries_left rules groups index low
    ≡ record { group = group; part = record { scope = record { asker = group.asker; act = group.act; low = own; high = span.high }; places = span.places } }
    ∷ entries_left rules groups (index + 1) (negsuc 2147483647)
step_ends rules groups index d group low own span at end =
    let part = at_part rules groups index d group low own span at in
    step_last rules groups index d group low at.inside at.is at.order (ap is_last part ∙ is_end span.high end)
    ∙ ap (λ (p : Part). let e : Entry = record { group = group; part = p } in e ∷ entries_left rules groups (index + 1) (negsuc 2147483647)) part

pub step_goes : (rules : List Rule) (groups : List Group) (index : ℕ) (d group : Group) (low own : ℤ) (span : Span) (next : ℤ)
    → At rules groups index d group low own span → int_le (pos 2147483647) span.high ≡ false → next ≡ span.high +ℤ pos 1
    → entries_left rules groups index low
    ≡ record { group = group; part = record { scope = record { asker = group.asker; act = group.act; low = own; high = span.high }; places = span.places } }
    ∷ entries_left rules groups index next
step_goes rules groups index d group low own span next at more step =
    let part = at_part rules groups index d group low own span at in
    step_on rules groups index d group low at.inside at.is at.order (ap is_last part ∙ more)
    ∙ ap (λ (p : Part). let e : Entry = record { group = group; part = p } in e ∷ entries_left rules groups index (p.scope.high +ℤ pos 1)) part
    ∙ ap (λ (z : ℤ).
    let e : Entry = record { group = group; part = record { scope = record { asker = group.asker; act = group.act; low = own; high = span.high }; places = span.places } } in
    e ∷ entries_left rules groups index z) (sym step)

-- ---- two lanes

pub alike_step : (rules : List Rule) (asker : Asker) (one other : Act) (low : ℤ) → low ≤ℤ pos 2147483647
    → are_like (parts_from rules asker one low) (parts_from rules asker other low)
    ≡ are_like
    (part_at rules (from_on asker one low)
    ∷ cond (is_last (part_at rules (from_on asker one low))) [] (parts_from rules asker one ((part_at rules (from_on asker one low)).scope.high +ℤ pos 1)))
    (part_at rules (from_on asker other low)
    ∷ cond (is_last (part_at rules (from_on asker other low))) [] (parts_from rules asker other ((part_at rules (from_on asker other low)).scope.high +ℤ pos 1)))
alike_step rules asker one other low order =
    ap (λ (l : List Part). are_like l (parts_from rules asker other low)) (next_parts rules asker one low order)
    ∙ ap (are_like
    (part_at rules (from_on asker one low)
    ∷ cond (is_last (part_at rules (from_on asker one low))) [] (parts_from rules asker one ((part_at rules (from_on asker one low)).scope.high +ℤ pos 1))))
    (next_parts rules asker other low order)
