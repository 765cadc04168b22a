use Rattle.std.proofs.Common.{ℕ, ◌%◌, List, ap, ap₂}
use Rattle.log_arena.specs.Lease.{lease_bytes, lease_len}
use Rattle.image_log.specs.Kept.{contents}
use Rattle.image_log.specs.Stored.{Stored, held_of}
use Rattle.image_log.specs.declared.place.Place.{Place}
use Rattle.image_log.proofs.Beside.{store_beside}
use Rattle.image_log.proofs.Found.{cleared}
use Rattle.image_log.proofs.store.Store.open.Goals as goal

pub invariant_of-result : goal.invariant_of-result
invariant_of-result c =
    (cleared c.args.lease c.args.low _ c.args.places.items c.requires.none c.requires.zeros c.requires.roomy c.requires.high, ap (λ (n : ℕ). c.args.low % n) c.len.ensures)

pub returns : goal.returns
returns c =
    let lease = c.args.lease in
    let ps : List Place = c.args.places.items in
    let is = cleared lease c.args.low _ ps c.requires.none c.requires.zeros c.requires.roomy c.requires.high in
    ap₂ (λ (qs : List Place) (bytes : List ℕ). let s : Stored = record { held = held_of lease; low = c.args.low; frames = contents (lease_len lease) (lease_bytes lease) qs; beside = bytes } in s)
    c.requires.none (store_beside lease c.args.low _ ps is)
