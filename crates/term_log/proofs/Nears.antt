-- Positions stay within a term of the tail.
use Rattle.std.proofs.Common.{◌≡◌, ℕ, zero, suc, ◌+◌, ◌*◌, ◌-◌, ◌/◌, ◌%◌, ◌<◌, ◌≤◌, List, [], ◌∷◌, Option, None, Some, length, get_or, min, sym, ap, ◌∙◌, subst, arith}
use Rattle.term_log.specs.declared.ident.Ident.{Ident}
use Rattle.term_log.specs.declared.ident.LogKind.{LogKind}
use Rattle.term_log.specs.declared.ident.LogKind.TheVariants.{Ipc, Udp}
use Rattle.log_pairs.specs.Pairs.{position_of, least_of, ReadsUpTo}
use Rattle.log_pairs.specs.declared.pair.Pair.{Pair}
use Rattle.log_pairs.proofs.Pairing.{at_below, at_found, least_le}
use Rattle.term_log.specs.Frames.{Frame, total}
use Rattle.term_log.specs.Ident.{greatest_position}
use Rattle.term_log.specs.Kept.{Kept, after_frames}
use Rattle.term_log.specs.Pairs.{IsNear, AreNear}
use Rattle.std.specs.Prelude.{IfSome, max}
use Rattle.std.proofs.lemmas.Nat.{div-add-mod', mul-le}
use Rattle.term_log.specs.Log.{Log, IsLog, IsSenderNear, limit_among, limit_of}
use Rattle.term_log.proofs.Appending.{tail_after, ident_after}

-- a position before the tail to which a pair may move
pub near_ahead : (start tail term subscription position : ℕ) (pairs : List Pair) → AreNear start tail term pairs
    → ReadsUpTo (position_of pairs subscription) position → position ≤ tail → IsNear start tail term position
near_ahead start tail term subscription position pairs near reads before =
    let b = at_below (IsNear start tail term) subscription position pairs near reads in
    (omega (arith, b.is.0, b.below), before, omega (arith, b.is.2, b.below))

near_grows : (start tail term first half x : ℕ) (pairs : List Pair) → AreNear start tail term pairs → tail < least_of first pairs + half
    → 2 * half ≤ term → 2 * x ≤ term → AreNear start (tail + x) term pairs
near_grows start tail term first half x [] near below halves grown = tt
near_grows start tail term first half x (p ∷ pairs) near below halves grown =
    let least = least_le (min first p.position) pairs in
    let head = near.0 in
    ((near.0.0, omega (arith, near.0.1), omega arith), near_grows start tail term (min first p.position) half x pairs near.1 below halves grown)

-- the tail moves on by no more than half a term, from below the limit
grows : (kind : LogKind) (start tail term sender x : ℕ) (pairs : List Pair) → AreNear start tail term pairs → IsSenderNear kind start tail term sender
    → tail < limit_among kind tail (term / 2) sender pairs → 2 * x ≤ term
    → AreNear start (tail + x) term pairs × IsSenderNear kind start (tail + x) term sender
grows Ipc start tail term sender x [] near is below grown = (tt, (is.0, omega (arith, is.1)))
grows Ipc start tail term sender x (p ∷ pairs) near is below grown =
    let least = least_le p.position pairs in
    let first : IsNear start (tail + x) term p.position = (near.0.0, omega (arith, near.0.1), omega arith) in
    ((first, near_grows start tail term p.position (term / 2) x pairs near.1 below (omega arith) grown), (is.0, omega (arith, is.1)))
grows Udp start tail term sender x pairs near is below grown =
    let least = least_le sender pairs in
    (near_grows start tail term sender (term / 2) x pairs near below (omega arith) grown, (is.0, omega (arith, is.1), omega arith))

pub log_grows : (l : Log) (after : Kept) (fs : List Frame) → IsLog l.kept l.pairs l.sender.position → after ≡ after_frames l.kept fs
    → l.kept.tail + total fs ≤ greatest_position l.kept.ident → 2 * total fs ≤ l.kept.ident.term_length → l.kept.tail < limit_of l
    → IsLog after l.pairs l.sender.position
unfolding limit_of
log_grows l after fs is grown_is high half below =
    let i : Ident = l.kept.ident in
    let ident : after.ident ≡ i = ap (λ (x : Kept). x.ident) grown_is ∙ ident_after l.kept fs in
    let tail : after.tail ≡ l.kept.tail + total fs = ap (λ (x : Kept). x.tail) grown_is ∙ tail_after l.kept fs in
    let near = grows i.kind i.start l.kept.tail i.term_length l.sender.position (total fs) l.pairs is.near is.sender_near below half in
    let greatest : greatest_position after.ident ≡ greatest_position i = ap greatest_position ident in
    record {
      high = omega arith;
      near = subst (λ (t : ℕ). AreNear after.ident.start t after.ident.term_length l.pairs) (sym tail)
          (subst (λ (j : Ident). AreNear j.start (l.kept.tail + total fs) j.term_length l.pairs) (sym ident) near.0);
      sender_near = subst (λ (t : ℕ). IsSenderNear after.ident.kind after.ident.start t after.ident.term_length l.sender.position) (sym tail)
          (subst (λ (j : Ident). IsSenderNear j.kind j.start (l.kept.tail + total fs) j.term_length l.sender.position) (sym ident) near.1);
    }

pub sender_within : (kind : LogKind) (start tail term sender : ℕ) → IsSenderNear kind start tail term sender → (start ≤ sender) × (sender ≤ tail)
sender_within Ipc start tail term sender is = is
sender_within Udp start tail term sender is = (is.0, is.1)

pub sender_moves : (kind : LogKind) (start tail term sender position : ℕ) → IsSenderNear kind start tail term sender → sender ≤ position → position ≤ tail
    → IsSenderNear kind start tail term position
sender_moves Ipc start tail term sender position is ahead before = (omega (arith, is.0), before)
sender_moves Udp start tail term sender position is ahead before = (omega (arith, is.0), before, omega (arith, is.2))

-- a log that begins
pub sender_begins : (kind : LogKind) (start term : ℕ) → IsSenderNear kind start start term start
sender_begins Ipc start term = (omega arith, omega arith)
sender_begins Udp start term = (omega arith, omega arith, omega arith)

near_first : (start tail term : ℕ) (pairs : List Pair) (d : Pair) → AreNear start tail term pairs → 1 ≤ length pairs → (get_or pairs 0 d).position ≤ tail
near_first start tail term [] d near some = absurd (omega arith)
near_first start tail term (p ∷ pairs) d near some = near.0.1

-- the least position is not behind the tail
pub first_least : (start tail term r : ℕ) (pairs now : List Pair) (d : Pair) → r ≡ least_of (get_or now 0 d).position pairs → now ≡ pairs
    → AreNear start tail term pairs → 1 ≤ length now → r ≤ tail
first_least start tail term r pairs now d is same near some =
    let least = least_le (get_or now 0 d).position pairs in
    let first = near_first start tail term now d (subst (λ (ps : List Pair). AreNear start tail term ps) (sym same) near) some in
    omega arith

-- what is within a term of the tail is held
pub near_held : (start tail term position : ℕ) → IsNear start tail term position → max start ((tail / term - 2) * term) ≤ position
near_held start tail term position near =
    let split = div-add-mod' tail term in
    elim (tail / term) as (λ (q : ℕ). q * term + tail % term ≡ tail → max start ((q - 2) * term) ≤ position) [
      | zero ↦ (λ s. omega (arith, near.0))
      | suc q ↦ (λ s.
          let more : suc q * term ≡ q * term + term = omega arith in
          let less : (suc q - 2) * term ≤ q * term = mul-le (suc q - 2) term q term (omega arith) (omega arith) in
          omega (arith, near.0, near.2))
    ]
    split

found_held : (start tail term : ℕ) (o : Option ℕ) → IfSome o (IsNear start tail term)
    → IfSome o (λ position. (max start ((tail / term - 2) * term) ≤ position) × (position ≤ tail))
found_held start tail term None near = tt
found_held start tail term (Some at) near = (near_held start tail term at near, near.1)

pub pair_held : (start tail term subscription : ℕ) (pairs : List Pair) → AreNear start tail term pairs
    → IfSome (position_of pairs subscription) (λ position. (max start ((tail / term - 2) * term) ≤ position) × (position ≤ tail))
pair_held start tail term subscription pairs near =
    found_held start tail term (position_of pairs subscription) (at_found (IsNear start tail term) subscription pairs near)
