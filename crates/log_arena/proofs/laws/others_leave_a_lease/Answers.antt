use Rattle.std.proofs.Common.{◌≡◌, ◌/◌, true, IfOk, OnErr, subst}
use Rattle.log_arena.specs.Pages.{Region, marked}
use Rattle.log_arena.specs.Lease.{lease_place}
use Rattle.log_arena.proofs.laws.others_leave_a_lease.Goals as goal

pub returns-clause-taken : goal.returns-clause-taken
returns-clause-taken c =
    subst (λ (r : Region). IfOk c.lease.result (λ l. c.lease.new.self ≡ record r { leased = marked true (lease_place l / 4096) (c.args.len / 4096) r.leased }))
    c.give.ensures.given c.lease.ensures.taken

pub returns-clause-err : goal.returns-clause-err
returns-clause-err c = subst (λ (r : Region). OnErr c.lease.result (c.lease.new.self ≡ r)) c.give.ensures.given c.lease.ensures.err
