-- How a log lies in its lease.
use Rattle.std.proofs.Common.{◌≡◌, ℕ, ◌+◌, ◌≤◌, ◌==◌, ◌||◌, inl, inr, Bool, List, [], ◌∷◌, Option, map, refl, sym, ap, subst, ◌∙◌, arith}
use Rattle.std.specs.List.{All, list_any}
use Rattle.image_log.specs.Frame.{Frame, end_of}
use Rattle.image_log.specs.Handed.{AreFor}
use Rattle.image_log.specs.Layout.{layout_of, placed}
use Rattle.image_log.specs.Log.{IsLog, log_of}
use Rattle.image_log.specs.Order.{Begins, Ordered, begins_at, chain}
use Rattle.image_log.specs.Pairs.{IsWithin}
use Rattle.image_log.specs.Stored.{Stored}
use Rattle.image_log.specs.declared.ident.Ident.{Ident}
use Rattle.image_log.specs.declared.status.LastStatus.{LastStatus}
use Rattle.log_pairs.specs.Layout.{Apart, AreNamed, IsReading, IsWellFormed, starts_at}
use Rattle.log_pairs.specs.Pairs.{AreAt}
use Rattle.log_pairs.specs.declared.pair.Pair.{Pair}
use Rattle.log_pairs.proofs.Pairing.{at_both}

apart : (from low end : ℕ) (fs : List Frame) → from ≤ low → Ordered low end fs → Apart from (map placed fs)
apart from low end [] below o = tt
apart from low end (f ∷ fs) below o = (omega (arith, o.0), omega (arith, o.1), apart (end_of f) (end_of f) end fs (omega arith) o.3)

named : (ident : Ident) (fs : List Frame) → AreFor ident fs → AreNamed ident.session_id ident.stream_id (map placed fs)
named ident [] are = tt
named ident (f ∷ fs) are = (are.0.session, are.0.stream, named ident fs are.2)

starts : (q : ℕ) (fs : List Frame) → list_any (begins_at q) fs ≡ list_any (starts_at q) (map placed fs)
starts q [] = refl
starts q (f ∷ fs) = ap (λ (b : Bool). (f.position == q) || b) (starts q fs)

reading : (base c q : ℕ) (fs : List Frame) → IsWithin base c q → Begins c fs q → IsReading base c (map placed fs) q
reading base c q fs within begins = record {
  above = within.0;
  below = within.1;
  start = elim begins [ inl e ↦ inl e | inr some ↦ inr (sym (starts q fs) ∙ some) ];
}

pub well_formed : (ident : Ident) (join base c greatest moment : ℕ) (status : Option LastStatus) (pairs : List Pair) (store : Stored)
    → IsLog ident join base c pairs store → All (λ (byte : ℕ). byte ≡ 0) store.beside
    → IsWellFormed (layout_of (log_of ident join base greatest moment status pairs store))
well_formed ident join base c greatest moment status pairs store is zeros =
    let fs : List Frame = store.frames in
    record {
      apart = apart 0 store.low (store.low + store.held.len) fs (omega arith) is.order;
      named = named ident fs is.named;
      zeros = zeros;
      reading = subst (λ (k : ℕ). AreAt (IsReading base k (map placed fs)) pairs) (is.chained ∙ ap (λ (k : ℕ). chain k fs) is.low)
          (at_both (IsWithin base c) (Begins c fs) (IsReading base c (map placed fs)) (λ q within begins. reading base c q fs within begins) pairs is.paired is.starts);
    }
