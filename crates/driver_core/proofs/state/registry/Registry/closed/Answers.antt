use Rattle.compiled_policy.specs.Numbered.{standing}
use Rattle.std.proofs.Common.{◌≡◌, [], rules, sym}
use Rattle.driver_core.specs.Pairs.{pairs_of}
use Rattle.stream_registry.specs.Pairs.{pairs_of as pairs_in}
use Rattle.driver_core.proofs.ClosedLemmas.{closed_is, none_closed}
use Rattle.driver_core.proofs.KeptLemmas.{kept_length}
use Rattle.driver_core.proofs.state.registry.Registry.closed.Goals as goal

pub closed-requires : goal.closed-requires
closed-requires c =
    kept_length c.self.inside.streams c.self.inside.clients.rows (standing c.self.inside.compiled) c.self.inside.compiled.epoch c.self.inside.last_number
    c.self.inside.readers c.self.invariant.kept

pub returns : goal.returns
unfolding pairs_of
returns c change is gone come =
    rw (← closed_is c.args.self.now change c.args.outcome.now is gone come, ← c.self.view_is, ← c.as_slice.ensures, ← c.as_slice-2.ensures, ← c.as_slice-3.ensures)
    (c.closed.ensures c.self.inside.clients.rows (standing c.self.inside.compiled) c.self.inside.compiled.epoch 0
    c.self.inside.last_number c.self.invariant.kept.order.sources c.self.invariant.kept.exact)

-- each image has a pair, no log closes and no pair goes
pub returns-then-is_empty-2 : goal.returns-then-is_empty-2
unfolding pairs_of
returns-then-is_empty-2 c change is gone come =
    let closes : c.args.outcome.now.closes ≡ [] = search rules in
    let goes : c.args.outcome.now.gone ≡ [] = search rules in
    rw (c.new.ensures, ← closed_is c.args.self.now change c.args.outcome.now is gone come, closes, goes, ← c.self.view_is)
    (sym (none_closed (pairs_in c.self.inside.streams c.self.inside.clients.rows (standing c.self.inside.compiled) c.self.inside.compiled.epoch)
    c.args.outcome.now.come c.self.inside.streams.sources (c.self.invariant.read c.if-self.true).all))
