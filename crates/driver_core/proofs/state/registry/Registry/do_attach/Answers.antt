use Rattle.compiled_policy.specs.Numbered.{standing}
use Rattle.std.proofs.Common.{◌≡◌, rules}
use Rattle.client_registry.specs.Clients.{admitted}
use Rattle.driver_core.proofs.KeptLemmas.{tended_admitted}
use Rattle.driver_core.proofs.state.registry.Registry.do_attach.Goals.{in-Ok, in-Err}
use Rattle.driver_core.proofs.state.registry.Registry.do_attach.Goals as goal

pub invariant_of-self : goal.invariant_of-self
invariant_of-self c =
    elim c.match-admit.branch [
      | in-Ok w ↦
          let is : c.admit.new.self ≡ admitted c.self.inside.clients c.args.principal c.self.inside.moment = search rules in
          rw is
          (tended_admitted c.self.inside.streams c.self.inside.clients (standing c.self.inside.compiled) c.self.inside.compiled.epoch c.self.inside.last_number c.self.inside.readers c.self.inside.all_read
          c.args.principal c.self.inside.moment c.self.invariant)
      | in-Err w ↦
          let is : c.admit.new.self ≡ c.self.inside.clients = search rules in
          rw is c.self.invariant
    ]
