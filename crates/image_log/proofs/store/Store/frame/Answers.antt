use Rattle.std.proofs.Common.{◌<◌, length, ap, arith}
use Rattle.image_log.specs.Stored.{Stored}
use Rattle.image_log.proofs.Found.{counted, place_end}
use Rattle.image_log.proofs.store.Store.frame.Goals as goal

pub new-requires-clause-fits : goal.new-requires-clause-fits
new-requires-clause-fits c =
    let n = counted _ _ _ _ (ap (λ (s : Stored). s.frames) c.self.view_is) in
    let here : c.args.index < length c.self.inside.places.items = omega (arith, c.requires.index, n) in
    let end = place_end _ _ _ _ _ _ _ c.self.invariant.0.order here c.index-place.ensures in
    omega (arith, end, c.self.invariant.0.high)
