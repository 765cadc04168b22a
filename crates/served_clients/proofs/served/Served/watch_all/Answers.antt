use Rattle.served_clients.specs.Acts.{sitting}
use Rattle.served_clients.proofs.ActLemmas.{tends_both}
use Rattle.served_clients.proofs.served.Served.watch_all.Goals as goal

pub returns-in-None : goal.returns-in-None
returns-in-None g c =
    let old = sitting c.args.self.now.client c.args.self.now.kept.items in
    let mid = sitting c.loop.self.client c.loop.self.kept.items in
    let new = sitting c.watch_one.new.self.client c.watch_one.new.self.kept.items in
    tends_both old mid new c.loop.invariant c.watch_one.ensures.tends

pub loop-preserved : goal.loop-preserved
loop-preserved g c =
    let old = sitting c.args.self.now.client c.args.self.now.kept.items in
    let mid = sitting c.loop.self.client c.loop.self.kept.items in
    let new = sitting c.watch_one.new.self.client c.watch_one.new.self.kept.items in
    tends_both old mid new c.loop.invariant c.watch_one.ensures.tends
