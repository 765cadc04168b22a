use Rattle.std.proofs.Common.{List, sym, subst, arith}
use Rattle.log_arena.specs.Pages.{Region}
use Rattle.log_arena.specs.declared.lease.Lease.{Lease}
use Rattle.log_tests.specs.Leases.{AllOf}
use Rattle.log_tests.proofs.Lists.{all-push, all-remove, all-at}
use Rattle.log_tests.proofs.churning.step.Goals as goal

pub returns-then-choice-lt3 : goal.returns-then-choice-lt3
returns-then-choice-lt3 c =
    let old = c.args.leases.now.items in
    let all = subst (λ (r : Region). AllOf r.home old) (sym c.in-Ok.ensures.taken) c.requires in
    subst (λ (ls : List Lease). AllOf c.lease.new.self.home ls) (sym c.in_ok-push.ensures.items)
    (all-push c.lease.new.self.home old c.in-Ok.lease all c.in-Ok.ensures.here)

pub give-requires : goal.give-requires
give-requires c =
    all-at _ _ _ _ c.requires (omega (arith, c.args.leases.now.ok)) c.remove-lease.ensures.value

pub returns : goal.returns
returns c =
    let gone = all-remove _ _ _ c.requires in
    subst (λ (r : Region). AllOf r.home c.remove-lease.new.self.items) (sym c.give.ensures.given)
    (subst (λ (ls : List Lease). AllOf c.args.arena.now.home ls) (sym c.remove-lease.ensures.items) gone)
