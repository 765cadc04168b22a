-- What scans of the index find.
use Rattle.std.proofs.Common.{◌≡◌, ℕ, zero, suc, ◌+◌, ◌-◌, ◌/◌, ◌%◌, ◌^◌, ◌<◌, ◌≤◌, Bool, true, false, ltb, List, [], ◌∷◌, length, take, drop, get_or, replicate, refl, sym, ap, ap₂, ◌∙◌, subst, arith}
use Rattle.std.proofs.lemmas.List.{length-map}
use Rattle.std.specs.List.{list_any, insert}
use Rattle.std.proofs.lemmas.List.{length-replicate, with_items_is}
use Rattle.std.specs.Vec.{with_items}
use Rattle.log_arena.specs.Lease.{lease_bytes, lease_len, with_bytes}
use Rattle.log_arena.specs.declared.lease.Lease.{Lease}
use Rattle.image_log.specs.Frame.{Frame, framed, end_of}
use Rattle.image_log.specs.Kept.{content, contents, Fits, IsStore}
use Rattle.image_log.specs.Order.{Ordered, rank, meets, next_from}
use Rattle.image_log.specs.Stored.{frame_at, IsBlank, StandIn}
use Rattle.image_log.specs.Writing.{written}
use Rattle.image_log.specs.declared.place.Place.{Place}
use Rattle.image_log.proofs.Orders.{takes_some, ranked_before, ranked_behind, meets_some, meets_none, OnlyAt, at_none, length-put, count-within}
use Rattle.image_log.proofs.Ring.{others_stay, contents-put, fits-put, blank-put}
use Rattle.image_log.proofs.Tests.{by_test, is_lt, is_ge, meet_yes}
use Rattle.image_log.proofs.Writes.{length-written, written_here, zeros_at}

pub counted : (n : ℕ) (bs : List ℕ) (ps : List Place) (fs : List Frame) → contents n bs ps ≡ fs → length fs ≡ length ps
counted n bs ps fs e = ap (λ (l : List Frame). length l) (sym e) ∙ length-map ps (content n bs)

pub place_end : (n low end : ℕ) (bs : List ℕ) (ps : List Place) (i : ℕ) (p : Place) → Ordered low end (contents n bs ps) → i < length ps → p ≡ get_or ps i p → p.position + p.span ≤ end
place_end n low end bs [] i p o h is = absurd (omega arith)
place_end n low end bs (q ∷ ps) zero p o h is = subst (λ (x : Place). x.position + x.span ≤ end) (sym is) o.2
place_end n low end bs (q ∷ ps) (suc i) p o h is = place_end n (q.position + q.span) end bs ps i p o.3 (omega arith) is

pub place_fits : (n : ℕ) (ps : List Place) (i : ℕ) (p : Place) → Fits n ps → i < length ps → p ≡ get_or ps i p → (p.size ≤ p.span) × (p.position % n + p.span ≤ n)
place_fits n [] i p f h is = absurd (omega arith)
place_fits n (q ∷ ps) zero p f h is = subst (λ (x : Place). (x.size ≤ x.span) × (x.position % n + x.span ≤ n)) (sym is) (f.0, f.1)
place_fits n (q ∷ ps) (suc i) p f h is = place_fits n ps i p f.2 (omega arith) is

pub has_one : (p low end : ℕ) (t : Frame → Bool) (fs : List Frame) (at : ℕ) → OnlyAt p t → Ordered low end fs → at ≡ rank p fs → at < length fs → t (frame_at fs at) ≡ list_any t fs
has_one p low end t fs at only o is h =
    by_test (t (frame_at fs at))
    (λ e. e ∙ sym (meets_some t fs at h e))
    (λ e. e ∙ sym (at_none p low end t fs only o (λ _. subst (λ (n : ℕ). t (frame_at fs n) ≡ false) is e)))

pub has_none : (p low end : ℕ) (t : Frame → Bool) (fs : List Frame) (at : ℕ) → OnlyAt p t → Ordered low end fs → at ≡ rank p fs → length fs ≤ at → false ≡ list_any t fs
has_none p low end t fs at only o is h = sym (at_none p low end t fs only o (λ k. absurd (omega (arith, is, h, k))))

pub meets_before : (p e : ℕ) (fs : List Frame) (at : ℕ) → p < e → at ≡ rank p fs → 0 < at → at ≤ length fs → p < end_of (frame_at fs (at - 1)) → true ≡ list_any (meets p e) fs
meets_before p e fs at some is first within h =
    let below = ranked_before p fs (at - 1) (omega (arith, is)) in
    sym (meets_some (meets p e) fs (at - 1) (omega arith) (meet_yes p e (frame_at fs (at - 1)).position (end_of (frame_at fs (at - 1))) some (omega (arith, below, h)) (omega (arith, below)) h))

pub meets_next : (p e low end : ℕ) (fs : List Frame) (at : ℕ) → Ordered low end fs → p < e → at ≡ rank p fs → at < length fs
    → ((k : ℕ) → rank p fs ≡ suc k → end_of (frame_at fs k) ≤ p) → ltb (frame_at fs at).position e ≡ list_any (meets p e) fs
meets_next p e low end fs at o some is h before =
    let behind = ranked_behind p low end fs at o (omega (arith, is)) h in
    let takes = takes_some low end fs at o h in
    by_test (ltb (frame_at fs at).position e)
    (λ t. let first = is_lt (frame_at fs at).position e t in
    t ∙ sym (meets_some (meets p e) fs at h (meet_yes p e (frame_at fs at).position (end_of (frame_at fs at)) some (omega (arith, takes)) first (omega (arith, takes, behind)))))
    (λ t. let first = is_ge (frame_at fs at).position e t in
    t ∙ sym (meets_none p e low end fs o some before (λ _. subst (λ (n : ℕ). e ≤ (frame_at fs n).position) is first)))

pub meets_last : (p e low end : ℕ) (fs : List Frame) (at : ℕ) → Ordered low end fs → p < e → at ≡ rank p fs → length fs ≤ at
    → ((k : ℕ) → rank p fs ≡ suc k → end_of (frame_at fs k) ≤ p) → false ≡ list_any (meets p e) fs
meets_last p e low end fs at o some is h before = sym (meets_none p e low end fs o some before (λ k. absurd (omega (arith, is, h, k))))

pub next-here : (none p : ℕ) (fs : List Frame) → rank p fs < length fs → (frame_at fs (rank p fs)).position ≡ next_from none p fs
next-here none p [] h = absurd (omega arith)
next-here none p (f ∷ fs) h =
    by_test (ltb f.position p)
    (λ t. let here : rank p (f ∷ fs) ≡ suc (rank p fs) = rw t refl in rw (here, t) (next-here none p fs (omega (arith, here))))
    (λ t. let here : rank p (f ∷ fs) ≡ zero = rw t refl in rw (here, t) refl)

pub next-none : (none p : ℕ) (fs : List Frame) → length fs ≤ rank p fs → none ≡ next_from none p fs
next-none none p [] h = refl
next-none none p (f ∷ fs) h =
    by_test (ltb f.position p)
    (λ t. let here : rank p (f ∷ fs) ≡ suc (rank p fs) = rw t refl in rw t (next-none none p fs (omega (arith, here))))
    (λ t. let here : rank p (f ∷ fs) ≡ zero = rw t refl in absurd (omega (arith, here)))

take_taken : (m : ℕ) (l : List ℕ) → take (length (take m l)) l ≡ take m l
take_taken zero l = refl
take_taken (suc m) [] = refl
take_taken (suc m) (x ∷ l) = ap (λ (r : List ℕ). x ∷ r) (take_taken m l)

pub stand : (n : ℕ) (bs : List ℕ) (ps : List Place) → StandIn n (contents n bs ps) bs
stand n bs [] = tt
stand n bs (p ∷ ps) = (take_taken p.size (drop (p.position % n) bs), stand n bs ps)

-- a lease whose bytes are all zeros holds no frame
pub cleared : (lease : Lease) (low room : ℕ) (ps : List Place) → ps ≡ [] → lease_bytes lease ≡ replicate (lease_len lease) 0 → lease_len lease / 32 ≤ room → low + lease_len lease < 2 ^ 63
    → IsStore lease low ps room
unfolding IsBlank
cleared lease low room ps none is roomy high =
    subst (λ (l : List Place). IsStore lease low l room) (sym none)
    (record { order = tt; fits = tt; blank = λ i _. ap (λ (l : List ℕ). get_or l i 0) is ∙ zeros_at (lease_len lease) i; roomy = roomy; high = high })

pub put_frames : (n low at : ℕ) (ws xs : List ℕ) (ps : List Place) (p : Place) → 0 < n → length xs ≡ n → Fits n ps → at ≤ length ps → p.size ≡ length ws → length ws ≤ p.span → p.position % n + p.span ≤ n
    → Ordered low (low + n) (insert (contents n xs ps) at (framed p.position p.span ws))
    → contents n (written (p.position % n) ws xs) (insert ps at p) ≡ insert (contents n xs ps) at (framed p.position p.span ws)
put_frames n low at ws xs ps p some long f here size short whole o =
    let room : p.position % n + length ws ≤ length xs = omega (arith, long) in
    let others = others_stay n low (low + n) (p.position % n) ws xs p.position p.span ps at some refl short room (omega (arith, length-map ps (content n xs))) (omega arith) o f in
    let new : take p.size (drop (p.position % n) (written (p.position % n) ws xs)) ≡ ws =
    ap (λ (k : ℕ). take k (drop (p.position % n) (written (p.position % n) ws xs))) size ∙ written_here (p.position % n) ws xs room in
    contents-put n (written (p.position % n) ws xs) ps at p here
    ∙ ap₂ (λ (fs : List Frame) (bs : List ℕ). insert fs at (framed p.position p.span bs)) others new

-- a frame is put in for which there is a place
pub put_room : (n low at room : ℕ) (fs : List Frame) (g : Frame) → Ordered low (low + n) (insert fs at g) → at ≤ length fs → n / 32 ≤ room → length fs < room
put_room n low at room fs g o h roomy =
    let all = count-within low (low + n) (insert fs at g) o (omega arith) in
    omega (arith, all, length-put fs at g h)

-- what the lease holds with the frame written, and the place put in
pub put_all : (lease : Lease) (low at : ℕ) (ws out : List ℕ) (ps qs : List Place) (p : Place) → Fits lease.bytes.len ps → at ≤ length ps → p.size ≡ length ws → length ws ≤ p.span → p.position % lease.bytes.len + p.span ≤ lease.bytes.len
    → Ordered low (low + lease.bytes.len) (insert (contents lease.bytes.len lease.bytes.items ps) at (framed p.position p.span ws))
    → lease.bytes.len ≡ length lease.bytes.items → 0 < lease.bytes.len
    → out ≡ written (p.position % lease.bytes.len) ws lease.bytes.items → qs ≡ insert ps at p
    → ((with_items lease.bytes out).items ≡ written (p.position % lease.bytes.len) ws lease.bytes.items)
    × (contents lease.bytes.len (with_items lease.bytes out).items qs ≡ insert (contents lease.bytes.len lease.bytes.items ps) at (framed p.position p.span ws))
put_all lease low at ws out ps qs p f here size short whole o long some is put =
    let n : ℕ = lease.bytes.len in
    let room : p.position % n + length ws ≤ length lease.bytes.items = omega (arith, whole, short, long) in
    let kept : (with_items lease.bytes out).items ≡ written (p.position % n) ws lease.bytes.items =
    with_items_is lease.bytes out (ap (λ (l : List ℕ). length l) is ∙ length-written (p.position % n) ws lease.bytes.items room ∙ sym long) ∙ is in
    (kept, ap₂ (λ (l : List ℕ) (r : List Place). contents n l r) kept put ∙ put_frames n low at ws lease.bytes.items ps p some (sym long) f here size short whole o)

pub put_store : (lease : Lease) (low at room more : ℕ) (ws out : List ℕ) (ps qs : List Place) (p : Place) → IsStore lease low ps room → at ≤ length ps → p.size ≡ length ws → length ws ≤ p.span → p.position % lease.bytes.len + p.span ≤ lease.bytes.len
    → Ordered low (low + lease.bytes.len) (insert (contents lease.bytes.len lease.bytes.items ps) at (framed p.position p.span ws))
    → lease.bytes.len ≡ length lease.bytes.items → 0 < lease.bytes.len
    → out ≡ written (p.position % lease.bytes.len) ws lease.bytes.items → qs ≡ insert ps at p → room ≤ more
    → IsStore (with_bytes lease out) low qs more
put_store lease low at room more ws out ps qs p is here size short whole o long some wrote put roomy =
    let n : ℕ = lease.bytes.len in
    let all = put_all lease low at ws out ps qs p is.fits here size short whole o long some wrote put in
    let fit : p.position % n + length ws ≤ length lease.bytes.items = omega (arith, whole, short, long) in
    let blank = blank-put n (p.position % n) ws lease.bytes.items p.position p.span (contents n lease.bytes.items ps) at refl fit (omega (arith, here, length-map ps (content n lease.bytes.items))) is.blank in
    record {
      order = subst (λ (fs : List Frame). Ordered low (low + n) fs) (sym all.1) o;
      fits = subst (λ (r : List Place). Fits n r) (sym put) (fits-put n ps at p here is.fits (omega (arith, size, short)) whole);
      blank = subst (λ (fs : List Frame). IsBlank n fs (with_items lease.bytes out).items) (sym all.1)
          (subst (λ (bs : List ℕ). IsBlank n (insert (contents n lease.bytes.items ps) at (framed p.position p.span ws)) bs) (sym all.0) blank);
      roomy = omega (arith, is.roomy, roomy);
      high = is.high;
    }
