use Rattle.std.proofs.Common.{◌≡◌, ℕ, ◌%◌, List, drop, replicate, sym, ap, ap₂, ◌∙◌, arith}
use Rattle.image_log.specs.Frame.{Frame}
use Rattle.image_log.specs.Kept.{contents}
use Rattle.image_log.specs.Stored.{Stored, held_of}
use Rattle.image_log.specs.Writing.{written}
use Rattle.image_log.specs.declared.place.Place.{Place}
use Rattle.std.specs.VecDeque.{deque_capacity}
use Rattle.log_arena.specs.Lease.{with_bytes}
use Rattle.image_log.proofs.Beside.{store_beside}
use Rattle.image_log.proofs.Cleared.{drop_all, drop_store}
use Rattle.image_log.proofs.store.Store.drop_first.Goals as goal

pub invariant_of-self : goal.invariant_of-self
invariant_of-self c =
    let lease = c.self.inside.lease in
    let p : Place = c.in-Some.place in
    let now : c.clear_at.new.out ≡ written (p.position % lease.bytes.len) (replicate {A = ℕ} p.size 0) lease.bytes.items =
    c.clear_at.ensures ∙ ap₂ (λ (n : ℕ) (l : List ℕ). written n (replicate {A = ℕ} p.size 0) l) (c.start_in-start.ensures ∙ ap (λ (k : ℕ). p.position % k) c.len.ensures) c.bytes_mut.ensures.value in (
      drop_store lease c.self.inside.low _ _ c.clear_at.new.out c.self.inside.places.items c.pop_front.new.self.items p c.self.invariant.0 c.in-Some.ensures.items
          lease.bytes.ok.0 lease.housed.some now (omega (arith, c.pop_front.ensures.capacity)),
      c.self.invariant.1,
    )

pub returns : goal.returns
returns c =
    let lease = c.self.inside.lease in
    let p : Place = c.in-Some.place in
    let qs : List Place = c.pop_front.new.self.items in
    let now : c.clear_at.new.out ≡ written (p.position % lease.bytes.len) (replicate {A = ℕ} p.size 0) lease.bytes.items =
    c.clear_at.ensures ∙ ap₂ (λ (n : ℕ) (l : List ℕ). written n (replicate {A = ℕ} p.size 0) l) (c.start_in-start.ensures ∙ ap (λ (k : ℕ). p.position % k) c.len.ensures) c.bytes_mut.ensures.value in
    let all = drop_all lease c.self.inside.low _ c.clear_at.new.out c.self.inside.places.items qs p c.self.invariant.0 c.in-Some.ensures.items
    lease.bytes.ok.0 lease.housed.some now in
    let rest : contents lease.bytes.len lease.bytes.items qs ≡ drop 1 (contents lease.bytes.len lease.bytes.items c.self.inside.places.items) =
    sym (ap (λ (ps : List Place). drop 1 (contents lease.bytes.len lease.bytes.items ps)) c.in-Some.ensures.items) in
    let room : ℕ = deque_capacity c.self.inside.places in
    let after = drop_store lease c.self.inside.low room room c.clear_at.new.out c.self.inside.places.items qs p c.self.invariant.0 c.in-Some.ensures.items
    lease.bytes.ok.0 lease.housed.some now (omega arith) in
    let beside = store_beside (with_bytes lease c.clear_at.new.out) c.self.inside.low _ qs after ∙ sym (store_beside lease c.self.inside.low _ c.self.inside.places.items c.self.invariant.0) in
    rw (← c.self.view_is)
    (ap₂ (λ (fs : List Frame) (bytes : List ℕ). let s : Stored = record { held = held_of lease; low = c.self.inside.low; frames = fs; beside = bytes } in s) (all.1 ∙ rest) beside)
