use Rattle.std.proofs.Common.{◌≡◌, Some, true, ap, ap₂, sym, ◌∙◌}
use Rattle.std.specs.Prelude.{Ok}
use Rattle.policy_query.specs.Document.{policy_in}
use Rattle.policy_text.specs.Names.{number_of}
use Rattle.policy_answers.proofs.TableLemmas.{gives_table}
use Rattle.policy_answers.specs.Asked.{sound}
use Rattle.policy_answers.specs.Fault.{◌>>=◌, known}
use Rattle.policy_answers.specs.declared.fault.AskFault.TheVariants as faults
use Rattle.policy_answers.proofs.listing.table_of_one.Goals as goal

pub returns : goal.returns
returns c =
    let read_is : policy_in c.args.directory.now c.args.policy.now ≡ Ok c.in_ok-source.source.policy =
    ap (λ names. policy_in names c.args.policy.now) (sym c.names.ensures) ∙ c.in_ok-source.ensures.exact in
    let number_is : number_of c.args.principal.now c.args.directory.now ≡ Some c.in_ok-number.number =
    sym c.number_of.ensures ∙ c.in_ok-number.ensures.ok_part in
    gives_table _ _ (ap₂ (λ r n. sound r >>= λ policy. known faults.UnknownPrincipal n >>= λ number. Ok true) read_is number_is)
    (record {
      source = c.settle.new.self;
      policy = (c.in_ok-source.source.policy, read_is, c.settle.ensures);
      is_table = (c.in_ok-number.number, number_is, c.in_ok-of_one.ensures);
    })
    c.short_enough.result c.short_enough.ensures.short c.short_enough.ensures.long
