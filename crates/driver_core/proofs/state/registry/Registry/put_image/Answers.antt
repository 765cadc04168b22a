use Rattle.compiled_policy.specs.Numbered.{standing}
use Rattle.std.proofs.Common.{◌≡◌, ◌+◌, rules}
use Rattle.log_readers.specs.Readers.{all_readers}
use Rattle.stream_registry.specs.Images.{imaged}
use Rattle.driver_core.proofs.KeptLemmas.{kept_imaged, unknown}
use Rattle.driver_core.proofs.state.registry.Registry.put_image.Goals as goal

pub invariant_of-self : goal.invariant_of-self
invariant_of-self c =
    let number : c.next_number-number.result ≡ c.self.inside.last_number + 1 = search rules in
    let rows : c.add_image-2.new.self ≡ imaged c.self.inside.streams (c.self.inside.last_number + 1) c.args.wanted.now c.args.place = search rules in
    let after : c.add_image.new.self ≡ all_readers (imaged c.self.inside.streams (c.self.inside.last_number + 1) c.args.wanted.now c.args.place) c.self.inside.clients.rows (standing c.self.inside.compiled) c.self.inside.compiled.epoch = search rules in
    rw (number, rows)
    (unknown (kept_imaged c.self.inside.streams c.self.inside.clients.rows (standing c.self.inside.compiled) c.self.inside.compiled.epoch c.self.inside.last_number
    c.args.wanted.now c.args.place c.self.inside.readers c.add_image.new.self c.self.invariant.kept after))
