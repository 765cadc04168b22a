use Rattle.std.proofs.Common.{◌-◌, sym, ◌∙◌, arith}
use Rattle.image_log.proofs.Orders.{rank-le}
use Rattle.image_log.proofs.Tests.{is_lt}
use Rattle.image_log.specs.Order.{rank}
use Rattle.image_log.proofs.store.Store.rank.Goals as goal
use Rattle.image_log.proofs.store.Store.rank.Goals.{then-high-eq0-via-then-high-eq0, then-high-eq0-via-else-high-eq0+then-is_below}

pub returns-then-high-eq0 : goal.returns-then-high-eq0
returns-then-high-eq0 c =
    let most = rank-le c.args.position c.args.self.now.frames in
    elim c.then-high-eq0.branch [
      | then-high-eq0-via-then-high-eq0 w ↦ omega (arith, most, c.len-high.ensures, w.if-high-eq0.true)
      | then-high-eq0-via-else-high-eq0+then-is_below w ↦ (let below = is_lt (c.len-high.result - 1) (rank c.args.position c.args.self.now.frames) (sym w.is_below.ensures ∙ w.if-is_below.true) in omega (arith, most, c.len-high.ensures, w.if-high-eq0.false, below))
    ]
