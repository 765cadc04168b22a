use Rattle.std.proofs.Common.{refl}
use Rattle.media_driver.proofs.PassLemmas.{looked}
use Rattle.media_driver.proofs.client.Client.is_driver_ended.Goals as goal

pub invariant_of-self : goal.invariant_of-self
invariant_of-self g c =
    let kept = looked c.caches_stay_right_of_later_looks.ensures c.self.inside.pass c.take.result c.in-Some.pass c.ended-pass.result.0 g.N.DriverNaming.book c.self.inside.cache c.self.inside.number c.self.inside.said
    c.take.ensures.value c.in-Some.is c.ended-pass.ensures.known c.self.invariant.1 c.self.invariant.2 c.self.invariant.5 in
    (refl, kept.0, kept.1, c.self.invariant.3, c.self.invariant.4, kept.2)
