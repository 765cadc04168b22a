use Rattle.std.proofs.Common.{◌≡◌, true, ap, sym, ◌∙◌}
use Rattle.std.specs.Prelude.{Ok}
use Rattle.policy_query.specs.Document.{policy_in}
use Rattle.policy_answers.proofs.TableLemmas.{gives_table}
use Rattle.policy_answers.specs.Asked.{sound}
use Rattle.policy_answers.specs.Fault.{◌>>=◌}
use Rattle.policy_answers.proofs.listing.table_of_all.Goals as goal

pub returns : goal.returns
returns c =
    let read_is : policy_in c.args.directory.now c.args.policy.now ≡ Ok c.in_ok-source.source.policy =
    ap (λ names. policy_in names c.args.policy.now) (sym c.names.ensures) ∙ c.in_ok-source.ensures.exact in
    gives_table _ _ (ap (λ r. sound r >>= λ policy. Ok true) read_is)
    (record {
      source = c.settle.new.self;
      policy = (c.in_ok-source.source.policy, read_is, c.settle.ensures);
      is_table = c.in_ok-of_all.ensures;
    })
    c.short_enough.result c.short_enough.ensures.short c.short_enough.ensures.long
