use Rattle.compiled_policy.specs.Numbered.{standing}
use Rattle.std.proofs.Common.{◌≡◌, rules}
use Rattle.stream_registry.specs.Leaving.{unregistered}
use Rattle.driver_core.proofs.StillReadLemmas.{tended_unregistered}
use Rattle.driver_core.proofs.state.registry.Registry.do_remove_publication.Goals.{in-Ok, in-Err}
use Rattle.driver_core.proofs.state.registry.Registry.do_remove_publication.Goals as goal

pub invariant_of-self : goal.invariant_of-self
invariant_of-self c =
    elim c.match-remove_publication.branch [
      | in-Ok w ↦
          let is : c.remove_publication.new.self ≡ unregistered c.self.inside.streams c.args.client.number c.args.fields.registration c.self.inside.moment = search rules in
          rw is
          (tended_unregistered c.self.inside.streams c.self.inside.clients.rows (standing c.self.inside.compiled) c.self.inside.compiled.epoch c.self.inside.last_number
          c.args.client.number c.args.fields.registration c.self.inside.moment c.self.inside.readers c.self.inside.all_read c.self.invariant)
      | in-Err w ↦
          let is : c.remove_publication.new.self ≡ c.self.inside.streams = search rules in
          rw is c.self.invariant
    ]
