use Rattle.std.proofs.Common.{rules, ℕ, ◌+◌, ◌%◌, ◌<◌, ◌≤◌, List, length, sym, ap, subst, arith}
use Rattle.image_log.specs.Stored.{Stored}
use Rattle.image_log.proofs.Found.{counted, place_fits}
use Rattle.image_log.proofs.store.Store.bytes_of.Goals as goal

pub slice_bounds-result-end : goal.slice_bounds-result-end
slice_bounds-result-end c =
    let n = counted _ _ _ _ (ap (λ (s : Stored). s.frames) c.self.view_is) in
    let here : c.args.index < length c.self.inside.places.items = omega (arith, c.requires, n) in
    let fit = place_fits _ _ _ _ c.self.invariant.0.fits here c.index-place.ensures in
    let whole : c.index-place.result.now.position % c.len.result + c.index-place.result.now.size ≤ length c.bytes.result.now =
    subst (λ (k : ℕ). c.index-place.result.now.position % k + c.index-place.result.now.size ≤ length c.bytes.result.now) (sym c.len.ensures)
    (subst (λ (l : List ℕ). c.index-place.result.now.position % c.self.inside.lease.bytes.len + c.index-place.result.now.size ≤ length l) (sym c.bytes.ensures)
    (omega (arith, fit.0, fit.1, c.self.inside.lease.bytes.ok))) in
    first_of (omega (arith, whole), search rules)
