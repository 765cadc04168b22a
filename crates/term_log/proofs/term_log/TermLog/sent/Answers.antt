use Rattle.std.proofs.Common.{◌≡◌, ℕ, sym, ap, subst, rules}
use Rattle.term_log.specs.Log.{Log, IsSenderNear}
use Rattle.term_log.specs.Sender.{Sending}
use Rattle.term_log.proofs.Nears.{sender_moves}
use Rattle.term_log.proofs.Sends.{sent_stands}
use Rattle.term_log.proofs.term_log.TermLog.sent.Goals as goal

pub invariant_of-self : goal.invariant_of-self
invariant_of-self c =
    let s = c.self.inside in
    let i = s.appender.ident in
    let from = rw (← c.self.view_is) at c.requires.from in
    let to = rw (← c.self.view_is) at c.requires.to in
    record {
      high = c.self.invariant.high;
      near = c.self.invariant.near;
      sender_near = subst (λ (position : ℕ). IsSenderNear i.kind i.start s.appender.tail i.term_length position) (sym (ap (λ (x : Sending). x.position) c.sent.ensures))
          (sender_moves i.kind i.start s.appender.tail i.term_length s.sender.position c.args.position c.self.invariant.sender_near from to);
    }

pub returns-clause-whole : goal.returns-clause-whole
returns-clause-whole c =
    let s = c.self.inside in
    let old : Log = record { kept = s.appender; pairs = s.pairs; sender = s.sender } in
    let new : Log = record { kept = s.appender; pairs = s.pairs; sender = c.sent.new.self } in
    let exact : new ≡ record old { sender = record old.sender { position = c.args.position } } = search rules in
    rw (← c.self.view_is) (sent_stands old new c.args.position exact)
