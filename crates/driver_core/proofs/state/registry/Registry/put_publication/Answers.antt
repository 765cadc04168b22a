use Rattle.compiled_policy.specs.Numbered.{standing}
use Rattle.std.proofs.Common.{◌≡◌, ◌+◌, rules}
use Rattle.log_readers.specs.Readers.{all_readers}
use Rattle.stream_registry.specs.Adding.{added}
use Rattle.driver_core.proofs.StillReadLemmas.{tended_added}
use Rattle.driver_core.proofs.state.registry.Registry.put_publication.Goals as goal

pub invariant_of-self : goal.invariant_of-self
invariant_of-self c =
    let number : c.next_number-number.result ≡ c.self.inside.last_number + 1 = search rules in
    let rows : c.add_publication-2.new.self ≡ added c.self.inside.streams (c.self.inside.last_number + 1) c.args.client c.args.wanted.now c.place_of_added-place.result c.args.adding = search rules in
    let after : c.add_publication.new.self ≡ all_readers (added c.self.inside.streams (c.self.inside.last_number + 1) c.args.client c.args.wanted.now c.place_of_added-place.result c.args.adding) c.self.inside.clients.rows (standing c.self.inside.compiled) c.self.inside.compiled.epoch = search rules in
    rw (number, rows, c.are_read_still-self-inside.ensures)
    (tended_added c.self.inside.streams c.self.inside.clients.rows (standing c.self.inside.compiled) c.self.inside.compiled.epoch c.self.inside.last_number
    c.args.client c.args.wanted.now c.place_of_added-place.result c.args.adding c.self.inside.readers c.add_publication.new.self c.self.inside.all_read
    c.self.invariant after)
