use Rattle.std.proofs.Common.{rules}
use Rattle.driver_world.proofs.OpeningLemmas.{opening_stands}
use Rattle.driver_world.proofs.world.World.new.Goals as goal

pub returns : goal.returns
returns c =
    opening_stands c.args.settings c.args.policy c.args.peers.now _ _ _ _ c.in_ok-driver-2.opened (search rules) (search rules) (search rules) c.new-3.ensures c.new-4.ensures
