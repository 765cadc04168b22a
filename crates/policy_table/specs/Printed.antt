-- A table that is printed: its rows are those of a policy, counted, and each page has the next ones.
use Rattle.std.specs.Prelude.{◌≡◌, ◌⊎◌, ℕ, ◌≤◌, List, [], ◌∷◌, ◌++◌, length}
use Rattle.policy_table.specs.Rows.{AreLines, Row, all_groups, capped, entries_left, rows_in, rows_of}
use Rattle.policy_table.specs.Scope.{AddsNamed, is_named}
use Rattle.policy_table.specs.Table.{IsTable, IsTableOf, all_parts, askers_of}
use Rattle.policy_table.specs.declared.entries.TableRow.{TableRow}
use Rattle.policy_table.specs.declared.groups.Group.{Group}
use Rattle.policy_table.specs.declared.scope.Asker.TheVariants.{One}
use Rattle.policy_table.specs.declared.steps.Place.{Place}
use Rattle.policy_table.specs.declared.steps.Step.{Step}
use Rattle.policy_table.specs.declared.table.Page.{Page}
use Rattle.policy_table.specs.declared.table.Table.{Table}
use Rattle.policy_tools.specs.WrittenPolicy.{Sourced}

-- it has these groups, and their rows are counted
pub record IsCounted (own : Sourced) (shared : List Group) (table : Table) : Type 0 where
  pub source : table.source ≡ own
  pub groups : table.groups.items ≡ shared
  pub count : table.rows ≡ capped (length (rows_of own.policy.rules shared))

-- its rows are those of the principals that a rule names and of all others, whose requests its parts are
pub record IsWhole (source : Sourced) (table : Table) : Type 0 where
  pub named : List ℕ
  pub is_named : AddsNamed [] named (is_named source.policy.rules)
  pub parts : IsTable source.policy (all_parts source.policy.rules (askers_of named))
  pub counted : IsCounted source (all_groups source.policy.rules (askers_of named)) table

-- its rows are those of one principal
pub record IsOfOne (source : Sourced) (principal : ℕ) (table : Table) : Type 0 where
  pub parts : IsTableOf source.policy principal (all_parts source.policy.rules (One principal ∷ []))
  pub counted : IsCounted source (all_groups source.policy.rules (One principal ∷ [])) table

-- the rows that come after a place
abbrev pub rows_after : Table → Place → List Row
rows_after table place = rows_in (entries_left table.source.policy.rules table.groups.items place.group place.low)

-- the text is a line for each of the next rows, and the place is behind them; it is full, or no row is left
pub record IsPage (table : Table) (from : Place) (page : Page) : Type 0 where
  pub rows : List Row
  pub lines : AreLines rows page.text
  pub next : rows_after table from ≡ rows ++ rows_after table page.next
  pub full : (65536 ≤ length page.text) ⊎ (length table.groups.items ≤ page.next.group)

-- ---- rows at once

abbrev pub row_at : Step → ℕ → Row
row_at step place = record {
  asker = step.group.asker;
  acts = step.group.acts;
  low = step.low;
  high = step.stretch.high;
  place = place;
}

abbrev pub row_of : TableRow → Row
row_of row = record { asker = row.asker; acts = row.acts; low = row.low; high = row.high; place = row.place }
