use Rattle.compiled_policy.specs.Numbered.{standing}
use Rattle.std.proofs.Common.{◌≡◌, rules}
use Rattle.driver_core.proofs.KeptLemmas.{kept_length, kept_without_images, unknown}
use Rattle.driver_core.proofs.state.registry.Registry.drop_unread_ones.Goals as goal

pub unread-numbers-requires : goal.unread-numbers-requires
unread-numbers-requires c =
    kept_length c.self.inside.streams c.self.inside.clients.rows (standing c.self.inside.compiled) c.self.inside.compiled.epoch c.self.inside.last_number
    c.self.inside.readers c.self.invariant.kept

pub remove_images-requires : goal.remove_images-requires
remove_images-requires c =
    kept_length c.self.inside.streams c.self.inside.clients.rows (standing c.self.inside.compiled) c.self.inside.compiled.epoch c.self.inside.last_number
    c.self.inside.readers c.self.invariant.kept

pub invariant_of-self : goal.invariant_of-self
invariant_of-self c =
    let after = c.remove_images.ensures.kept c.self.inside.clients.rows (standing c.self.inside.compiled) c.self.inside.compiled.epoch c.self.invariant.kept.exact in
    let same : c.as_slice-2.result.now ≡ c.as_slice.result.now = search rules in
    rw (c.remove_images-2.ensures, same)
    (unknown (kept_without_images c.self.inside.streams c.self.inside.clients.rows (standing c.self.inside.compiled) c.self.inside.compiled.epoch
    c.self.inside.last_number _ c.self.inside.readers c.remove_images.new.self c.self.invariant.kept after))
