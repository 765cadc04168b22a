use Rattle.std.proofs.Common.{◌≡◌, ℕ, ◌≤◌, ap, ◌∙◌, subst, sym}
use Rattle.image_log.specs.Log.{rebuilt_of, Log}
use Rattle.image_log.specs.Order.{Begins, chain}
use Rattle.image_log.specs.Pairs.{IsWithin}
use Rattle.image_log.specs.Rebuilt.{IsStart, Rebuilt, contiguous_of}
use Rattle.log_pairs.specs.Pairs.{ReadsUpTo, position_of}
use Rattle.log_pairs.proofs.Pairing.{at_map}
use Rattle.image_log.proofs.Pairing.{within_ahead}
use Rattle.image_log.proofs.Settled.{log_paired}
use Rattle.image_log.proofs.log.ImageLog.advance.Goals as goal

pub invariant_of-self : goal.invariant_of-self
invariant_of-self c =
    let s = c.self.inside in
    let view : Rebuilt = rebuilt_of s.ident s.join s.base s.greatest s.moment s.status s.pairs s.store in
    let at : s.contiguous ≡ contiguous_of view = c.self.invariant.chained ∙ ap (λ (k : ℕ). chain k s.store.frames) c.self.invariant.low in
    let from = subst (λ (r : Rebuilt). ReadsUpTo (position_of r.pairs c.args.subscription) c.args.position) (sym (ap (λ (l : Log). l.rebuilt) c.self.view_is)) c.requires.from in
    let to : c.args.position ≤ s.contiguous =
    subst (λ (k : ℕ). c.args.position ≤ k) (sym at) (subst (λ (r : Rebuilt). c.args.position ≤ contiguous_of r) (sym (ap (λ (l : Log). l.rebuilt) c.self.view_is)) c.requires.to) in
    let begins : Begins s.contiguous s.store.frames c.args.position =
    subst (λ (k : ℕ). Begins k s.store.frames c.args.position) (sym at)
    (subst (λ (r : Rebuilt). IsStart r c.args.position) (sym (ap (λ (l : Log). l.rebuilt) c.self.view_is)) c.requires.start) in
    let ahead = within_ahead s.base s.contiguous c.args.subscription c.args.position s.pairs c.self.invariant.paired from in
    log_paired s.ident s.join s.base s.contiguous s.pairs c.advance.new.self _ s.store c.self.invariant c.advance.ensures
    (at_map (IsWithin s.base s.contiguous) c.args.subscription c.args.position s.pairs c.self.invariant.paired (ahead, to))
    (at_map (Begins s.contiguous s.store.frames) c.args.subscription c.args.position s.pairs c.self.invariant.starts begins)
