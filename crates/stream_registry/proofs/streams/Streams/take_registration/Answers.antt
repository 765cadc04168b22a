use Rattle.std.proofs.Common.{◌≡◌, ◌+◌, All, List, length, filter, refl, sym, subst, ap, arith}
use Rattle.stream_registry.specs.declared.row.Registration.{Registration}
use Rattle.stream_registry.specs.Leaving.{is_another_registration}
use Rattle.stream_registry.specs.Rest.{RestsBeside}
use Rattle.stream_registry.proofs.RestLemmas.{others_rest}
use Rattle.stream_registry.proofs.streams.Streams.take_registration.Goals as goal

pub settle_beside-requires : goal.settle_beside-requires
settle_beside-requires c =
    let rows = c.self.inside.registrations in
    let kept = c.retain.ensures in
    let own = rw c.as_slice.ensures.value at (c.in-Some.ensures c.in-Some.source refl) in
    let after = c.len.ensures.value in
    let before = c.len-before.ensures.value in
    let same = ap (λ (others : List Registration). length others) kept in
    let one : length (filter (is_another_registration c.args.client c.args.number) rows) + 1 ≡ length rows =
    omega (arith, c.if-len-before.true, after, before, same) in
    subst (λ (others : List Registration). All (RestsBeside c.in-Some.source others) c.self.inside.sources) (sym kept)
    (others_rest c.args.client c.args.number c.in-Some.source rows own one c.self.inside.sources
    (c.self.invariant c.if-rested.true))
