use Rattle.served_clients.specs.Acts.{sitting}
use Rattle.served_clients.proofs.ActLemmas.{tends_both}
use Rattle.served_clients.proofs.served.Served.watch.Goals as goal

pub returns : goal.returns
returns g c =
    let old = sitting c.args.self.now.client c.args.self.now.kept.items in
    let mid = sitting c.keep_replies.new.self.client c.keep_replies.new.self.kept.items in
    let new = sitting c.watch_all.new.self.client c.watch_all.new.self.kept.items in
    tends_both old mid new c.keep_replies.ensures c.watch_all.ensures
