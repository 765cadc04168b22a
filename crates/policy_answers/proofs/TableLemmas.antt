-- A table that is short enough is given, and a longer one is refused with its count.
use Rattle.std.proofs.Common.{◌≡◌, ◌<◌, ◌≤◌, Bool, true, IfErr, IfOk, refl, subst, sym}
use Rattle.std.specs.Prelude.{Result, Ok, Err}
use Rattle.policy_core.specs.RuleList.{Rules}
use Rattle.policy_table.specs.declared.table.Table.{Table}
use Rattle.policy_tools.specs.WrittenPolicy.{Sourced}
use Rattle.policy_answers.specs.Tables.{GivesTable, IsTableThen}
use Rattle.policy_answers.specs.declared.fault.AskFault.{AskFault}
use Rattle.policy_answers.specs.declared.fault.AskFault.TheVariants as faults

pub gives_table : {IsOf : Sourced → Table → Type 0} {IsThen : Rules → Type 0} (meaning : Result Bool AskFault) (table : Table) →
    meaning ≡ Ok true → IsTableThen IsOf IsThen table → (result : Result Table AskFault) →
    IfOk result (λ same. (same ≡ table) × (table.rows ≤ 1000000)) →
    IfErr result (λ fault. (fault ≡ faults.ManyRows (record { 0 = table.rows })) × (1000000 < table.rows)) →
    GivesTable IsOf result meaning IsThen
gives_table {IsOf} {IsThen} meaning table well is (Ok same) (same_is, few) long =
    (well, subst (λ (t : Table). IsTableThen IsOf IsThen t) (sym same_is) is, subst (λ (t : Table). t.rows ≤ 1000000) (sym same_is) few)
gives_table {IsOf} {IsThen} meaning table well is (Err fault) short (fault_is, many) =
    subst (λ (f : AskFault). GivesTable IsOf (Err f) meaning IsThen) (sym fault_is) (record { table = table; is_table = is; counted = refl; many = many })
