use Rattle.std.proofs.Common.{rules, ◌≡◌, ℕ, ◌*◌, ◌/◌, ◌∙◌, ◌<◌, true, false, ap₂, refl, arith}
use Rattle.log_arena.specs.Pages.{IsLeastPlace, marked}
use Rattle.log_slots.proofs.Places.{least_given_back}
use Rattle.log_slots.proofs.opening.open_log.Goals as goal

pub returns-in-Published-Publication-clause-opens : goal.returns-in-Published-Publication-clause-opens
returns-in-Published-Publication-clause-opens g c = c.open_publication.ensures c.args.now

pub returns-in_default-clause-none : goal.returns-in_default-clause-none
returns-in_default-clause-none g c =
    let there : ℕ = c.args.row.now.place in
    let long : ℕ = 3 * c.args.row.now.measures.term_length in
    let here : IsLeastPlace c.args.region.now (long / 4096) there = search rules in
    let some : 0 < long / 4096 = omega (arith, c.requires.sizes.term_low) in
    let taken : c.lease_at.new.self ≡ marked true there (long / 4096) c.args.region.now = search rules in
    let given : c.give.new.self ≡ marked false there (long / 4096) c.lease_at.new.self = search rules in
    given ∙ ap₂ (λ n t. marked false n (long / 4096) t) (let e : there ≡ there = refl in e) taken
    ∙ least_given_back there (long / 4096) c.args.region.now some here
