use Rattle.std.proofs.Common.{◌≡◌, ℕ, ◌+◌, ◌%◌, ◌≤◌, List, length, sym, ap, ap₂, ◌∙◌, subst, arith}
use Rattle.image_log.specs.Frame.{Frame, framed}
use Rattle.image_log.specs.Order.{Ordered}
use Rattle.image_log.specs.Stored.{Stored, held_of}
use Rattle.image_log.specs.Writing.{written}
use Rattle.image_log.specs.declared.place.Place.{Place}
use Rattle.log_arena.specs.Lease.{with_bytes}
use Rattle.image_log.proofs.Beside.{store_beside}
use Rattle.image_log.proofs.Found.{counted, put_all, put_room, put_store}
use Rattle.std.proofs.Common.{refl}
use Rattle.std.specs.List.{insert}
use Rattle.image_log.proofs.store.Store.put.Goals as goal

pub put_in-requires : goal.put_in-requires
put_in-requires c =
    let n = counted _ _ _ _ (ap (λ (s : Stored). s.frames) c.self.view_is) in
    let len = ap (λ (s : Stored). s.held.len) c.self.view_is in
    let order = subst (λ (k : ℕ). Ordered c.args.self.now.low (c.args.self.now.low + k) (insert c.args.self.now.frames c.args.at (framed c.args.position c.args.span c.args.bytes.now))) (sym len) c.requires.order in
    let more = put_room _ _ _ _ _ _ order c.requires.place c.self.invariant.0.roomy in
    (omega (arith, n, c.requires.place, c.self.inside.places.ok), omega (arith, n, more, c.self.inside.places.ok))

pub invariant_of-self : goal.invariant_of-self
invariant_of-self c =
    let n = counted _ _ _ _ (ap (λ (s : Stored). s.frames) c.self.view_is) in
    let len : ℕ = c.self.inside.lease.bytes.len in
    let xs : List ℕ = c.self.inside.lease.bytes.items in
    let ps : List Place = c.self.inside.places.items in
    let p : Place = record { position = c.args.position; span = c.args.span; size = length c.args.bytes.now } in
    let is = ap (λ (s : Stored). s.held.len) c.self.view_is in
    let order = subst (λ (s : Stored). Ordered s.low (s.low + s.held.len) (insert s.frames c.args.at (framed c.args.position c.args.span c.args.bytes.now))) (sym c.self.view_is) c.requires.order in
    let here : c.args.at ≤ length ps = omega (arith, n, c.requires.place) in
    let whole : c.args.position % len + c.args.span ≤ len = subst (λ (k : ℕ). c.args.position % k + c.args.span ≤ k) (sym is) c.requires.whole in
    let now : c.write_at.new.out ≡ written (c.args.position % len) c.args.bytes.now xs =
    c.write_at.ensures ∙ ap₂ (λ (n : ℕ) (l : List ℕ). written n c.args.bytes.now l) (c.start_in-start.ensures ∙ ap (λ (k : ℕ). c.args.position % k) c.len.ensures) c.bytes_mut.ensures.value in (
      put_store c.self.inside.lease c.self.inside.low c.args.at _ _ c.args.bytes.now c.write_at.new.out ps _ p c.self.invariant.0 here refl c.requires.size whole order
          c.self.inside.lease.bytes.ok.0 c.self.inside.lease.housed.some now c.put_in.ensures.items c.put_in.ensures.capacity,
      c.self.invariant.1,
    )

pub returns : goal.returns
returns c =
    let n = counted _ _ _ _ (ap (λ (s : Stored). s.frames) c.self.view_is) in
    let len : ℕ = c.self.inside.lease.bytes.len in
    let xs : List ℕ = c.self.inside.lease.bytes.items in
    let ps : List Place = c.self.inside.places.items in
    let p : Place = record { position = c.args.position; span = c.args.span; size = length c.args.bytes.now } in
    let is = ap (λ (s : Stored). s.held.len) c.self.view_is in
    let order = subst (λ (s : Stored). Ordered s.low (s.low + s.held.len) (insert s.frames c.args.at (framed c.args.position c.args.span c.args.bytes.now))) (sym c.self.view_is) c.requires.order in
    let here : c.args.at ≤ length ps = omega (arith, n, c.requires.place) in
    let whole : c.args.position % len + c.args.span ≤ len = subst (λ (k : ℕ). c.args.position % k + c.args.span ≤ k) (sym is) c.requires.whole in
    let now : c.write_at.new.out ≡ written (c.args.position % len) c.args.bytes.now xs =
    c.write_at.ensures ∙ ap₂ (λ (n : ℕ) (l : List ℕ). written n c.args.bytes.now l) (c.start_in-start.ensures ∙ ap (λ (k : ℕ). c.args.position % k) c.len.ensures) c.bytes_mut.ensures.value in
    let all = put_all c.self.inside.lease c.self.inside.low c.args.at c.args.bytes.now c.write_at.new.out ps _ p c.self.invariant.0.fits here refl c.requires.size whole order
    c.self.inside.lease.bytes.ok.0 c.self.inside.lease.housed.some now c.put_in.ensures.items in
    let after = put_store c.self.inside.lease c.self.inside.low c.args.at _ _ c.args.bytes.now c.write_at.new.out ps _ p c.self.invariant.0 here refl c.requires.size whole order
    c.self.inside.lease.bytes.ok.0 c.self.inside.lease.housed.some now c.put_in.ensures.items c.put_in.ensures.capacity in
    let beside = store_beside (with_bytes c.self.inside.lease c.write_at.new.out) c.self.inside.low _ _ after ∙ sym (store_beside c.self.inside.lease c.self.inside.low _ ps c.self.invariant.0) in
    rw (← c.self.view_is)
    (ap₂ (λ (fs : List Frame) (bytes : List ℕ). let s : Stored = record { held = held_of c.self.inside.lease; low = c.self.inside.low; frames = fs; beside = bytes } in s) all.1 beside)
