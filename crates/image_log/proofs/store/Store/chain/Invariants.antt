use Rattle.std.proofs.Common.{◌≡◌, drop}
use Rattle.image_log.specs.Order.{chain}
use Rattle.image_log.proofs.store.Store.chain.Given as goal

-- the chain goes on from the frame at i
abbrev pub invariant-loop-i : goal.invariant-loop-i
invariant-loop-i l = chain l.end (drop l.i l.self.frames) ≡ chain l.from (drop l.index l.self.frames)
