use Rattle.std.proofs.Common.{rules}
use Rattle.driver_core.proofs.AttachLemmas.{attach_kept}
use Rattle.driver_core.proofs.state.registry.Registry.outcome_of_attach.Goals as goal

-- no pair goes or comes
pub returns : goal.returns
returns c =
    rw (attach_kept c.args.self.now c.args.now c.args.principal c.args.inputs.now c.tell_attach.result c.tell_attach.ensures.owned
    (c.tell_attach.ensures.exact c.args.now c.args.principal)) (search rules)
