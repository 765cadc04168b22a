use Rattle.std.proofs.Common.{◌≤◌, length, sym, rules}
use Rattle.retransmit_gate.specs.Gate.{lingers, lingering}
use Rattle.retransmit_gate.proofs.GateLemmas.{all_kept}
use Rattle.retransmit_gate.proofs.resent.ResentList.forget.Goals as goal

pub returns-else-left-count : goal.returns-else-left-count
returns-else-left-count c =
    let few : length c.args.self.now ≤ length (lingering c.args.linger c.args.moment c.args.self.now) = search rules in
    sym (all_kept (lingers c.args.linger c.args.moment) c.args.self.now few)
