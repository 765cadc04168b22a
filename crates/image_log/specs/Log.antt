-- A log's fields, and what holds of them.
use Rattle.std.specs.Prelude.{◌≡◌, ℕ, ◌+◌, ◌*◌, ◌<◌, ◌≤◌, ◌^◌, max, List, Option, replicate}
use Rattle.image_log.specs.Handed.{AreFor}
use Rattle.image_log.specs.Order.{InTerms, Ordered, chain}
use Rattle.image_log.specs.Pairs.{AreStarts, AreWithin}
use Rattle.image_log.specs.Rebuilt.{Rebuilt, term_start}
use Rattle.image_log.specs.Stored.{Held, Stored}
use Rattle.image_log.specs.declared.ident.Ident.{Ident}
use Rattle.image_log.specs.declared.status.LastStatus.{LastStatus}
use Rattle.log_pairs.specs.declared.pair.Pair.{Pair}

-- the lease of an open log, the map of its frames, and the lease's bytes beside the frames, of which those of a frame count as 0
pub record Log : Type 0 where
  pub held : Held
  pub rebuilt : Rebuilt
  pub beside : List ℕ

-- in a lease that has zeros beside the frames
abbrev pub log_in : Held → Rebuilt → Log
log_in held rebuilt = record { held = held; rebuilt = rebuilt; beside = replicate held.len 0 }

abbrev pub rebuilt_of : Ident → ℕ → ℕ → ℕ → ℕ → Option LastStatus → List Pair → Stored → Rebuilt
rebuilt_of ident join base greatest moment status pairs store = record {
  ident = ident;
  join = join;
  base = base;
  frames = store.frames;
  greatest = greatest;
  moment = moment;
  status = status;
  pairs = pairs;
}

abbrev pub log_of : Ident → ℕ → ℕ → ℕ → ℕ → Option LastStatus → List Pair → Stored → Log
log_of ident join base greatest moment status pairs store =
    record { held = store.held; rebuilt = rebuilt_of ident join base greatest moment status pairs store; beside = store.beside }

pub record IsLog (ident : Ident) (join base contiguous : ℕ) (pairs : List Pair) (store : Stored) : Type 0 where
  pub terms : (65536 ≤ ident.term_length) × (ident.term_length ≤ 16777216)
  pub room : store.held.len ≡ 3 * ident.term_length
  pub low : store.low ≡ max join (term_start ident.term_length base)
  pub joined : join ≤ base
  pub based : base ≤ contiguous
  pub chained : contiguous ≡ chain store.low store.frames
  pub order : Ordered store.low (store.low + store.held.len) store.frames
  pub high : store.low + store.held.len < 2 ^ 62
  pub whole : InTerms ident.term_length store.frames
  pub ends : Ordered store.low (2 ^ 58) store.frames
  pub far : contiguous ≤ 2 ^ 58
  pub paired : AreWithin base contiguous pairs
  pub starts : AreStarts contiguous store.frames pairs
  pub named : AreFor ident store.frames
