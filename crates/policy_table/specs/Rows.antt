-- The rows of a table, and in which order they stand. Acts of which the same is said share theirs.
use Rattle.std.specs.Prelude.{◌≡◌, ℕ, ◌+◌, ℤ, negsuc, Bool, true, false, ◌&&◌, List, [], ◌∷◌, ◌++◌, codes, drop, if◌then◌else◌, map, min, take}
use Rattle.std.specs.Fmt.{decimal}
use Rattle.std.specs.List.{flat_map, fold, list_any}
use Rattle.std.specs.Ordering.{int_eq}
use Rattle.std.specs.Str.{bytes_eq}
use Rattle.policy_core.specs.Act.{act_number, every_act}
use Rattle.policy_core.specs.Acts.{no_act_held, with_act}
use Rattle.policy_core.specs.declared.act.Act.{Act}
use Rattle.policy_core.specs.declared.acts.Acts.{Acts}
use Rattle.policy_core.specs.declared.rule.Rule.{Rule}
use Rattle.policy_table.specs.Lane.{Part, lane, parts_from}
use Rattle.policy_table.specs.declared.groups.Group.{Group}
use Rattle.policy_table.specs.declared.scope.Asker.{Asker}
use Rattle.policy_table.specs.declared.steps.Step.{Step}

-- ---- acts of which the same is said

-- the same rules decide, up to the same stream
abbrev pub is_like : Part → Part → Bool
is_like one other = int_eq one.scope.high other.scope.high && bytes_eq one.places other.places

abbrev pub are_like : List Part → List Part → Bool
are_like [] [] = true
are_like [] (other ∷ others) = false
are_like (one ∷ ones) [] = false
are_like (one ∷ ones) (other ∷ others) = is_like one other && are_like ones others

-- of both acts the same is said
unfoldable pub alike : List Rule → Asker → Act → Act → Bool
alike rules asker one other = are_like (lane rules asker one) (lane rules asker other)

-- the same is said of an act before it
unfoldable pub is_repeated : List Rule → Asker → Act → Bool
is_repeated rules asker act = list_any (λ before. alike rules asker before act) (take (act_number act) every_act)

-- the acts of which the same is said as of this one
unfoldable pub acts_like : List Rule → Asker → Act → Acts
acts_like rules asker act = fold (λ acts other. if alike rules asker act other then with_act acts other else acts) no_act_held every_act

-- the first act stands for all of which the same is said
unfoldable pub group_of : List Rule → Asker → Act → List Group
group_of rules asker act =
    if is_repeated rules asker act then [] else record { asker = asker; act = act; acts = acts_like rules asker act } ∷ []

unfoldable pub groups_of : List Rule → Asker → List Group
groups_of rules asker = flat_map (group_of rules asker) every_act

-- those of all askers, one after the other
abbrev pub all_groups : List Rule → List Asker → List Group
all_groups rules askers = flat_map (groups_of rules) askers

-- ---- rows

-- requests of an asker, and the place of a rule that decides those of them whose channel its pattern covers, where that of no
-- row above does for the same requests
pub record Row : Type 0 where
  pub asker : Asker
  pub acts : Acts
  pub low : ℤ
  pub high : ℤ
  pub place : ℕ

-- a part, with the acts that share its rows
pub record Entry : Type 0 where
  pub group : Group
  pub part : Part

-- a row for each of the rules
abbrev pub entry_rows : Entry → List Row
entry_rows entry = map (λ place. record {
  asker = entry.group.asker;
  acts = entry.group.acts;
  low = entry.part.scope.low;
  high = entry.part.scope.high;
  place = place;
}) entry.part.places

-- the entries of a group, from a stream on
unfoldable pub entries_of : List Rule → Group → ℤ → List Entry
entries_of rules group low = map (λ part. record { group = group; part = part }) (parts_from rules group.asker group.act low)

-- those of groups; of the first one from a stream on
abbrev pub entries_in : List Rule → List Group → ℤ → List Entry
entries_in rules [] low = []
entries_in rules (group ∷ groups) low = entries_of rules group low ++ entries_in rules groups (negsuc 2147483647)

-- those that are left at a stream of the group at this index
abbrev pub entries_left : List Rule → List Group → ℕ → ℤ → List Entry
entries_left rules groups index low = entries_in rules (drop index groups) low

abbrev pub rows_in : List Entry → List Row
rows_in entries = flat_map entry_rows entries

-- what a step comes to
abbrev pub entry_of : Step → Entry
entry_of step = record {
  group = step.group;
  part = record {
    scope = record { asker = step.group.asker; act = step.group.act; low = step.low; high = step.stretch.high };
    places = step.stretch.rules.items;
  };
}

-- all rows of groups
abbrev pub rows_of : List Rule → List Group → List Row
rows_of rules groups = rows_in (entries_in rules groups (negsuc 2147483647))

-- the number that 64 bits hold; the greatest for all that are beyond
abbrev pub capped : ℕ → ℕ
capped count = min count 18446744073709551615

-- ---- lines

-- a row's line ends with the number of its rule, counted from 1
pub record IsLine (place : ℕ) (line : List ℕ) : Type 0 where
  pub front : List ℕ
  pub whole : line ≡ front ++ (codes "rule " ++ (decimal (place + 1) ++ codes "\n"))

-- the text is a line for each row
abbrev pub AreLines : List Row → List ℕ → Type 0
AreLines [] text = text ≡ []
AreLines (row ∷ rows) text =
    (line : List ℕ) × (rest : List ℕ) × (text ≡ line ++ rest) × IsLine row.place line × AreLines rows rest

-- a line is added
pub record AddsLine (place : ℕ) (old new : List ℕ) : Type 0 where
  pub line : List ℕ
  pub is_line : IsLine place line
  pub whole : new ≡ old ++ line

-- lines are added, one for each row
pub record AddsLines (rows : List Row) (old new : List ℕ) : Type 0 where
  pub lines : List ℕ
  pub are_lines : AreLines rows lines
  pub whole : new ≡ old ++ lines
