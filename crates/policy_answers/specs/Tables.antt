-- The table of the policy in a file, at a moment: it has at most a million rows, and a longer one is refused with its count.
use Rattle.std.specs.Prelude.{◌≡◌, ℕ, ◌<◌, ◌≤◌, Bool, true, List, Result, Ok, Err, Some}
use Rattle.policy_core.specs.Moments.{at}
use Rattle.policy_core.specs.RuleList.{Rules}
use Rattle.policy_query.specs.Document.{policy_in}
use Rattle.policy_query.specs.declared.document.Document.{Document}
use Rattle.policy_table.specs.Printed.{IsOfOne}
use Rattle.policy_table.specs.declared.table.Table.{Table}
use Rattle.policy_text.specs.Names.{Known, number_of}
use Rattle.policy_tools.specs.WrittenPolicy.{Sourced}
use Rattle.policy_answers.specs.Fault.{Fails}
use Rattle.policy_answers.specs.declared.answer.Answer.{Answer}
use Rattle.policy_answers.specs.declared.fault.AskFault.{AskFault}
use Rattle.policy_answers.specs.declared.fault.AskFault.TheVariants as faults

-- the policy that a document is, at a moment
abbrev pub policy_then : Known → Document → ℕ → Rules → Type 0
policy_then names document moment policy = (read : Rules) × (policy_in names document ≡ Ok read) × (policy ≡ at read moment)

-- the rows are those of the principal of that name
abbrev pub IsOfOneNamed : Known → List ℕ → Sourced → Table → Type 0
IsOfOneNamed names principal source table = (number : ℕ) × (number_of principal names ≡ Some number) × IsOfOne source number table

-- it is a table of that policy, counted
pub record IsTableThen (IsOf : Sourced → Table → Type 0) (IsThen : Rules → Type 0) (table : Table) : Type 0 where
  pub source : Sourced
  pub policy : IsThen source.policy
  pub is_table : IsOf source table

-- with more than a million rows
pub record IsLong (IsOf : Sourced → Table → Type 0) (IsThen : Rules → Type 0) (count : ℕ) : Type 0 where
  pub table : Table
  pub is_table : IsTableThen IsOf IsThen table
  pub counted : count ≡ table.rows
  pub many : 1000000 < count

-- a table with at most a million rows is given; a longer one is refused with its count; else the meaning is the fault
abbrev pub GivesTable : (Sourced → Table → Type 0) → Result Table AskFault → Result Bool AskFault → (Rules → Type 0) → Type 0
GivesTable IsOf (Ok table) meaning IsThen = (meaning ≡ Ok true) × IsTableThen IsOf IsThen table × (table.rows ≤ 1000000)
GivesTable IsOf (Err (faults.ManyRows count)) meaning IsThen = IsLong IsOf IsThen count.0
GivesTable IsOf (Err fault) meaning IsThen = Fails fault meaning

-- the same of an answer on one line
abbrev pub GivesTableLine : (Sourced → Table → Type 0) → Result Answer AskFault → Result Bool AskFault → (Rules → Type 0) → Type 0
GivesTableLine IsOf (Ok answer) meaning IsThen = (answer.is_well ≡ true) × (meaning ≡ Ok true)
GivesTableLine IsOf (Err (faults.ManyRows count)) meaning IsThen = IsLong IsOf IsThen count.0
GivesTableLine IsOf (Err fault) meaning IsThen = Fails fault meaning
