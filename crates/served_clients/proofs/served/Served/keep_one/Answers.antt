use Rattle.std.proofs.Common.{rules, ◌≡◌, ◌++◌, ◌∷◌, [], Some}
use Rattle.served_clients.proofs.ActLemmas.{tends_keeps}
use Rattle.served_clients.proofs.served.Served.keep_one.Goals as goal

pub returns-in-Some : goal.returns-in-Some
returns-in-Some g c =
    let behind : c.put_last.new.queue.items ≡ c.args.self.now.kept.items ++ c.in-Some.mail ∷ [] = search rules in
    tends_keeps c.args.self.now.client c.taken.new.self.client c.args.self.now.kept.items c.put_last.new.queue.items (Some c.in-Some.mail) c.in-Some.ensures.taken behind
