use Rattle.std.proofs.Common.{rules, ◌≡◌, ℕ, ◌/◌, ◌∙◌, ◌<◌, true, false, ap₂, arith}
use Rattle.log_arena.specs.Lease.{lease_len, lease_place}
use Rattle.log_arena.specs.Pages.{HasNoPlace, IsLeastPlace, marked}
use Rattle.log_slots.proofs.Places.{least_given_back, no_least, one_least}
use Rattle.log_slots.proofs.region.Region.lease_at.Goals as goal

pub returns-in_err-lease-clause-can : goal.returns-in_err-lease-clause-can
returns-in_err-lease-clause-can g c least =
    let none : HasNoPlace c.args.self.now (c.args.len / 4096) = search rules in
    absurd (no_least c.args.page (c.args.len / 4096) c.args.self.now none least)

pub returns-then-place-page-clause-can : goal.returns-then-place-page-clause-can
returns-then-place-page-clause-can g c least =
    let there : ℕ = lease_place c.in_ok-lease.lease / 4096 in
    let here : IsLeastPlace c.args.self.now (c.args.len / 4096) there = search rules in
    let same : there ≡ c.args.page = one_least there c.args.page (c.args.len / 4096) c.args.self.now here least in
    search rules

pub returns-then-place-page-clause-none : goal.returns-then-place-page-clause-none
returns-then-place-page-clause-none g c =
    let there : ℕ = lease_place c.in_ok-lease.lease / 4096 in
    let here : IsLeastPlace c.args.self.now (c.args.len / 4096) there = search rules in
    let taken : c.lease.new.self ≡ marked true there (c.args.len / 4096) c.args.self.now = search rules in
    let long : lease_len c.in_ok-lease.lease ≡ c.args.len = search rules in
    let some : 0 < c.args.len / 4096 = omega (arith, c.requires) in
    c.give.ensures ∙ ap₂ (λ n t. marked false there (n / 4096) t) long taken
    ∙ least_given_back there (c.args.len / 4096) c.args.self.now some here
