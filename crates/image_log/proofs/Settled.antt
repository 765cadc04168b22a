-- A log whose base moves up.
use Rattle.std.proofs.Common.{◌≡◌, ℕ, ◌+◌, ◌%◌, ◌^◌, ◌<◌, ◌≤◌, max, List, sym, ◌∙◌, subst, arith}
use Rattle.std.specs.Prelude.{filter}
use Rattle.image_log.specs.Log.{IsLog}
use Rattle.image_log.specs.Order.{begins_from}
use Rattle.image_log.specs.Pairs.{AreStarts, AreWithin}
use Rattle.image_log.specs.Rebuilt.{term_start}
use Rattle.image_log.specs.Stored.{Stored}
use Rattle.image_log.specs.declared.ident.Ident.{Ident}
use Rattle.log_pairs.specs.Pairs.{least_or}
use Rattle.log_pairs.specs.declared.pair.Pair.{Pair}
use Rattle.image_log.proofs.Dropping.{chain-from, ends_there, in_terms_from, ordered_from, term_up}
use Rattle.image_log.proofs.Naming.{for_filter}
use Rattle.image_log.proofs.Pairing.{least_within}
use Rattle.image_log.proofs.Starts.{begins_kept, starts_by}

-- the new base, and where frames are kept from
pub up_to : (ident : Ident) (join base c l : ℕ) (pairs : List Pair) (store : Stored) → IsLog ident join base c pairs store
    → l ≡ max (term_start ident.term_length (least_or base pairs)) join
    → (store.low ≤ l) × (l ≤ least_or base pairs) × (least_or base pairs ≤ c) × (join ≤ least_or base pairs) × (l ≤ 2 ^ 58)
up_to ident join base c l pairs store is at =
    let t : ℕ = ident.term_length in
    let least = least_within base c pairs is.paired is.based in
    let up = term_up t base (least_or base pairs) (omega (arith, is.terms)) least.0 in
    (omega (arith, is.low, at, up), omega (arith, at, is.joined, least.0), least.1, omega (arith, is.joined, least.0), omega (arith, at, is.joined, least.0, least.1, is.far))

pub log_settled : (ident : Ident) (join base c l : ℕ) (pairs : List Pair) (store new : Stored) → IsLog ident join base c pairs store
    → l ≡ max (term_start ident.term_length (least_or base pairs)) join
    → new ≡ record store { low = l; frames = filter (begins_from l) store.frames }
    → IsLog ident join (least_or base pairs) c pairs new
log_settled ident join base c l pairs store new is at dropped =
    let t : ℕ = ident.term_length in
    let b : ℕ = least_or base pairs in
    let some : 0 < t = omega (arith, is.terms) in
    let up = up_to ident join base c l pairs store is at in
    let least = least_within base c pairs is.paired is.based in
    let ends : (p s : ℕ) → join ≤ p → p % t + s ≤ t → p < l → p + s ≤ l = λ p s above fit below.
    (let there = ends_there t p s b some fit (omega (arith, at, above, below)) in omega (arith, at, there)) in
    let goes = chain-from t join l store.low (store.low + store.held.len) store.frames is.order is.whole ends (omega (arith, is.low)) up.0 (omega (arith, is.chained, up.1, up.2)) in
    subst (λ (x : Stored). IsLog ident join b c pairs x) (sym dropped)
    (record {
      terms = is.terms;
      room = is.room;
      low = omega (arith, at);
      joined = up.3;
      based = up.2;
      chained = is.chained ∙ goes;
      order = ordered_from l store.low (store.low + store.held.len) (l + store.held.len) store.frames is.order (omega (arith, up.0));
      high = omega (arith, is.room, is.terms, up.4);
      whole = in_terms_from t l store.frames is.whole;
      ends = ordered_from l store.low (2 ^ 58) (2 ^ 58) store.frames is.ends (omega arith);
      far = is.far;
      paired = least.2;
      starts = starts_by c c b c store.frames (filter (begins_from l) store.frames) pairs
          (λ q above at_q. begins_kept c l q store.frames (omega (arith, up.1, above)) at_q) least.2 is.starts;
      named = for_filter ident (begins_from l) store.frames is.named;
    })

-- the log with other pairs
pub log_paired : (ident : Ident) (join base c : ℕ) (pairs now others : List Pair) (store : Stored) → IsLog ident join base c pairs store → now ≡ others → AreWithin base c others → AreStarts c store.frames others
    → IsLog ident join base c now store
log_paired ident join base c pairs now others store is same within starts =
    subst (λ (ps : List Pair). IsLog ident join base c ps store) (sym same)
    (record {
      terms = is.terms;
      room = is.room;
      low = is.low;
      joined = is.joined;
      based = is.based;
      chained = is.chained;
      order = is.order;
      high = is.high;
      whole = is.whole;
      ends = is.ends;
      far = is.far;
      paired = within;
      starts = starts;
      named = is.named;
    })
