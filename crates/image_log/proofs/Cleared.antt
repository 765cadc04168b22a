-- The first frame goes from a lease, and its bytes are cleared.
use Rattle.std.proofs.Common.{◌≡◌, ℕ, ◌+◌, ◌%◌, ◌^◌, ◌<◌, ◌≤◌, List, ◌∷◌, length, drop, replicate, refl, sym, ap, ◌∙◌, subst, arith}
use Rattle.std.proofs.lemmas.List.{length-replicate, length-take, with_items_is}
use Rattle.std.specs.Vec.{with_items}
use Rattle.log_arena.specs.Lease.{with_bytes}
use Rattle.log_arena.specs.declared.lease.Lease.{Lease}
use Rattle.image_log.specs.Frame.{Frame}
use Rattle.image_log.specs.Kept.{content, contents, IsStore}
use Rattle.image_log.specs.Order.{Ordered}
use Rattle.image_log.specs.Stored.{IsBlank}
use Rattle.image_log.specs.Writing.{written}
use Rattle.image_log.specs.declared.place.Place.{Place}
use Rattle.image_log.proofs.Dropping.{ordered_lower}
use Rattle.image_log.proofs.Ring.{blank-drop, others_behind}
use Rattle.image_log.proofs.Writes.{length-written}

abbrev zeros : Place → List ℕ
zeros p = replicate {A = ℕ} p.size 0

-- what the lease holds without the first place, whose bytes are zeros
pub drop_all : (lease : Lease) (low room : ℕ) (out : List ℕ) (ps qs : List Place) (p : Place) → IsStore lease low ps room → ps ≡ p ∷ qs
    → lease.bytes.len ≡ length lease.bytes.items → 0 < lease.bytes.len → out ≡ written (p.position % lease.bytes.len) (zeros p) lease.bytes.items
    → ((with_items lease.bytes out).items ≡ written (p.position % lease.bytes.len) (zeros p) lease.bytes.items)
    × (contents lease.bytes.len (with_items lease.bytes out).items qs ≡ contents lease.bytes.len lease.bytes.items qs)
drop_all lease low room out ps qs p is first long some wrote =
    let n : ℕ = lease.bytes.len in
    let xs : List ℕ = lease.bytes.items in
    let here : IsStore lease low (p ∷ qs) room = subst (λ (l : List Place). IsStore lease low l room) first is in
    let count : length (zeros p) ≡ p.size = length-replicate {A = ℕ} p.size 0 in
    let fit : p.position % n + length (zeros p) ≤ length xs = omega (arith, here.fits.0, here.fits.1, count, long) in
    let kept : (with_items lease.bytes out).items ≡ written (p.position % n) (zeros p) xs =
    with_items_is lease.bytes out (ap (λ (l : List ℕ). length l) wrote ∙ length-written (p.position % n) (zeros p) xs fit ∙ sym long) ∙ wrote in
    let others = others_behind n (p.position + p.span) (low + n) (p.position % n) (zeros p) xs p.position p.span qs some refl (omega (arith, here.fits.0, count)) fit (omega arith)
    (omega (arith, here.order.0)) here.order.3 here.fits.2 in
    (kept, ap (λ (l : List ℕ). contents n l qs) kept ∙ others)

pub drop_store : (lease : Lease) (low room more : ℕ) (out : List ℕ) (ps qs : List Place) (p : Place) → IsStore lease low ps room → ps ≡ p ∷ qs
    → lease.bytes.len ≡ length lease.bytes.items → 0 < lease.bytes.len → out ≡ written (p.position % lease.bytes.len) (zeros p) lease.bytes.items → room ≤ more
    → IsStore (with_bytes lease out) low qs more
drop_store lease low room more out ps qs p is first long some wrote roomy =
    let n : ℕ = lease.bytes.len in
    let xs : List ℕ = lease.bytes.items in
    let here : IsStore lease low (p ∷ qs) room = subst (λ (l : List Place). IsStore lease low l room) first is in
    let all = drop_all lease low room out ps qs p is first long some wrote in
    let short : length (content n xs p).bytes ≤ p.size = omega (arith, length-take p.size (drop (p.position % n) xs)) in
    let blank = blank-drop n (p.position % n) p.size xs (content n xs p) (contents n xs qs) refl short (omega (arith, here.fits.0, here.fits.1, long)) here.blank in
    record {
      order = subst (λ (fs : List Frame). Ordered low (low + n) fs) (sym all.1) (ordered_lower low (p.position + p.span) (low + n) (contents n xs qs) here.order.3 (omega (arith, here.order.0)));
      fits = here.fits.2;
      blank = subst (λ (fs : List Frame). IsBlank n fs (with_items lease.bytes out).items) (sym all.1)
          (subst (λ (bs : List ℕ). IsBlank n (contents n xs qs) bs) (sym all.0) blank);
      roomy = omega (arith, is.roomy, roomy);
      high = is.high;
    }

-- no frame below a position any more
pub raised : (lease : Lease) (low up room : ℕ) (ps : List Place) → IsStore lease low ps room → low ≤ up → up + lease.bytes.len < 2 ^ 63
    → Ordered up (up + lease.bytes.len) (contents lease.bytes.len lease.bytes.items ps) → IsStore lease up ps room
raised lease low up room ps is h high order = record { order = order; fits = is.fits; blank = is.blank; roomy = is.roomy; high = high }
