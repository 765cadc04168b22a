use Rattle.served_clients.specs.Acts.{sitting}
use Rattle.served_clients.proofs.ActLemmas.{tends_both}
use Rattle.served_clients.proofs.served.Served.keep_replies.Goals as goal

pub returns-then-not-keep_one : goal.returns-then-not-keep_one
returns-then-not-keep_one g c =
    let old = sitting c.args.self.now.client c.args.self.now.kept.items in
    let mid = sitting c.loop.self.client c.loop.self.kept.items in
    let new = sitting c.keep_one.new.self.client c.keep_one.new.self.kept.items in
    tends_both old mid new c.loop.invariant c.keep_one.ensures

pub loop-preserved : goal.loop-preserved
loop-preserved g c =
    let old = sitting c.args.self.now.client c.args.self.now.kept.items in
    let mid = sitting c.loop.self.client c.loop.self.kept.items in
    let new = sitting c.keep_one.new.self.client c.keep_one.new.self.kept.items in
    tends_both old mid new c.loop.invariant c.keep_one.ensures
