-- What is known of a frame that is taken.
use Rattle.std.proofs.Common.{◌≡◌, ℕ, ◌+◌, ◌-◌, ◌*◌, ◌/◌, ◌%◌, ◌^◌, ◌<◌, ◌≤◌, inl, inr, ◌≢◌, Bool, true, false, ◌||◌, cond, ltb, leb, max, min, List, length, drop, refl, sym, ap, ◌∙◌, Some, None, subst, arith}
use Rattle.std.proofs.Math.Nat.{mul-le-mul_left, mul-add-mod_self_left, mod-eq_of_lt}
use Rattle.std.specs.List.{list_any, insert}
use Rattle.frame_codec.specs.Position.{terms_before, position_of}
use Rattle.image_log.specs.Handed.{IsFor, span_of, offset_of}
use Rattle.image_log.specs.Answer.{answer_among}
use Rattle.image_log.specs.Frame.{Frame, framed}
use Rattle.image_log.specs.Log.{IsLog}
use Rattle.image_log.specs.Order.{Ordered, chain, is_same, meets, rank}
use Rattle.image_log.specs.Stored.{Stored}
use Rattle.image_log.specs.Rebuilt.{Rebuilt, after_insert, contiguous_of, frames_after, gap_end, gap_of, insert_of, low_of, reach_of}
use Rattle.image_log.specs.declared.ident.Ident.{Ident}
use Rattle.image_log.specs.declared.insert.Insert.{Insert}
use Rattle.image_log.specs.declared.insert.Insert.TheVariants.{Taken, Repeat, Overlap, Below, Beyond}
use Rattle.image_log.specs.Pairs.{IsWithin}
use Rattle.log_pairs.specs.declared.pair.Pair.{Pair}
use Rattle.image_log.proofs.Dropping.{chain-within, in_terms_put}
use Rattle.image_log.proofs.Naming.{for_put}
use Rattle.image_log.proofs.Orders.{chain-here, chain-le, chain-other, put_ordered, rank-le}
use Rattle.log_pairs.proofs.Pairing.{at_weaker}
use Rattle.image_log.proofs.Starts.{begins_here, begins_more, starts_by}
use Rattle.image_log.proofs.Tests.{gt_no, is_ge, le_no, le_yes, lt_no, lt_yes}

abbrev first_of_five : Bool → Bool → Bool → Bool → Bool → Insert
first_of_five a b e c d = cond a Below (cond (b || e) Beyond (cond c Repeat (cond d Overlap Taken)))

of_taken : (a b e c d : Bool) → first_of_five a b e c d ≡ Taken → (a ≡ false) × (b ≡ false) × (e ≡ false) × (d ≡ false)
of_taken true b e c d h = absurd (cc)
of_taken false true e c d h = absurd (cc)
of_taken false false true c d h = absurd (cc)
of_taken false false false true d h = absurd (cc)
of_taken false false false false true h = absurd (cc)
of_taken false false false false false h = (refl, refl, refl, refl)

pub taken : (r : Rebuilt) (p : ℕ) (bytes : List ℕ) → insert_of r p bytes ≡ Taken
    → (low_of r ≤ p) × (p < reach_of r) × (offset_of bytes + span_of bytes ≤ r.ident.term_length) × (list_any (meets p (p + span_of bytes)) r.frames ≡ false)
unfolding insert_of
taken r p bytes h =
    let all = of_taken (ltb p (low_of r)) (leb (reach_of r) p) (ltb r.ident.term_length (offset_of bytes + span_of bytes)) (list_any (is_same p bytes) r.frames) (list_any (meets p (p + span_of bytes)) r.frames) h in
    (is_ge p (low_of r) all.0, le_no (reach_of r) p all.1, is_ge r.ident.term_length (offset_of bytes + span_of bytes) all.2, all.3)

pub span_fits : (ident : Ident) (p : ℕ) (bytes : List ℕ) → IsFor ident p bytes → (32 ≤ span_of bytes) × (length bytes ≤ span_of bytes) × (span_of bytes < 2 ^ 32)
unfolding span_of
span_fits ident p bytes h =
    elim h.sound.layout [
      | inl d ↦ (omega (arith, d.1, h.sound.header), omega (arith, d.1), omega (arith, h.sound.short))
      | inr d ↦ (omega (arith, d.2, d.3), omega (arith, d.1, d.2, d.3), omega (arith, h.sound.short))
    ]

pub position_fits : (ident : Ident) (p : ℕ) (bytes : List ℕ) → IsFor ident p bytes → ident.term_length ≤ 16777216 → p < 2 ^ 57
unfolding position_of
position_fits ident p bytes h small =
    let k : ℕ = terms_before ident.initial_term_id (Rattle.frame_codec.specs.Fields.signed_at 20 bytes) in
    let wraps : k < 4294967296 = omega arith in
    let more : k * ident.term_length ≤ k * 16777216 = mul-le-mul_left k small in
    omega (arith, h.at, h.sound.offset, wraps, more)

-- a place in a term is whole in a ring of three
whole_in_three : (k t o s : ℕ) → 0 < t → 0 < s → o + s ≤ t → (k * t + o) % (3 * t) + s ≤ 3 * t
whole_in_three k t o s some takes fit =
    let b : ℕ = k % 3 in
    let parts : k * t + o ≡ 3 * t * (k / 3) + (b * t + o) =
    (let q : k ≡ 3 * (k / 3) + b = omega arith in
    ap (λ (n : ℕ). n * t + o) q ∙ (omega arith)) in
    let two : t * b ≤ t * 2 = mul-le-mul_left t (omega arith) in
    let below : b * t + o < 3 * t = omega (arith, two) in
    let left : (k * t + o) % (3 * t) ≡ b * t + o =
    ap (λ (n : ℕ). n % (3 * t)) parts ∙ mul-add-mod_self_left (3 * t) (k / 3) (b * t + o) ∙ mod-eq_of_lt below in
    omega (arith, left, two)

pub place_whole : (ident : Ident) (p : ℕ) (bytes : List ℕ) → IsFor ident p bytes → 0 < ident.term_length → offset_of bytes + span_of bytes ≤ ident.term_length → 0 < span_of bytes
    → p % (3 * ident.term_length) + span_of bytes ≤ 3 * ident.term_length
unfolding position_of offset_of
place_whole ident p bytes h some fit takes =
    let k : ℕ = terms_before ident.initial_term_id (Rattle.frame_codec.specs.Fields.signed_at 20 bytes) in
    subst (λ (n : ℕ). n % (3 * ident.term_length) + span_of bytes ≤ 3 * ident.term_length) (sym h.at)
    (whole_in_three k ident.term_length (Rattle.frame_codec.specs.Fields.number_at 8 bytes) (span_of bytes) some takes fit)

by_tests : (a b e : Bool) (x : Insert) → a ≡ false → b ≡ false → e ≡ false → x ≡ cond a Below (cond (b || e) Beyond x)
by_tests true b e x h k l = absurd (cc)
by_tests false true e x h k l = absurd (cc)
by_tests false false true x h k l = absurd (cc)
by_tests false false false x h k l = refl

by_past : (a b e : Bool) (x : Insert) → a ≡ false → b ≡ true → Beyond ≡ cond a Below (cond (b || e) Beyond x)
by_past true b e x h k = absurd (cc)
by_past false true e x h k = refl
by_past false false e x h k = absurd (cc)

by_crossing : (a b e : Bool) (x : Insert) → a ≡ false → e ≡ true → Beyond ≡ cond a Below (cond (b || e) Beyond x)
by_crossing true b e x h k = absurd (cc)
by_crossing false true e x h k = refl
by_crossing false false true x h k = refl
by_crossing false false false x h k = absurd (cc)

-- and whole in its term
whole_in_one : (k t o s : ℕ) → 0 < s → o + s ≤ t → (k * t + o) % t + s ≤ t
whole_in_one k t o s takes fit =
    let parts : k * t + o ≡ t * k + o = omega arith in
    let left : (k * t + o) % t ≡ o = ap (λ (n : ℕ). n % t) parts ∙ mul-add-mod_self_left t k o ∙ mod-eq_of_lt (omega arith) in
    omega (arith, left)

pub in_term : (ident : Ident) (p : ℕ) (bytes : List ℕ) → IsFor ident p bytes → offset_of bytes + span_of bytes ≤ ident.term_length → 0 < span_of bytes
    → p % ident.term_length + span_of bytes ≤ ident.term_length
unfolding position_of offset_of
in_term ident p bytes h fit takes =
    let k : ℕ = terms_before ident.initial_term_id (Rattle.frame_codec.specs.Fields.signed_at 20 bytes) in
    subst (λ (n : ℕ). n % ident.term_length + span_of bytes ≤ ident.term_length) (sym h.at)
    (whole_in_one k ident.term_length (Rattle.frame_codec.specs.Fields.number_at 8 bytes) (span_of bytes) takes fit)

pub is_below : (r : Rebuilt) (p : ℕ) (bytes : List ℕ) → p < low_of r → Below ≡ insert_of r p bytes
unfolding insert_of
is_below r p bytes h = rw (lt_yes p (low_of r) h) refl

pub is_past : (r : Rebuilt) (p : ℕ) (bytes : List ℕ) → low_of r ≤ p → reach_of r ≤ p → Beyond ≡ insert_of r p bytes
unfolding insert_of
is_past r p bytes h k =
    by_past (ltb p (low_of r)) (leb (reach_of r) p) (ltb r.ident.term_length (offset_of bytes + span_of bytes)) (answer_among p (p + span_of bytes) bytes r.frames) (lt_no p (low_of r) h) (le_yes (reach_of r) p k)

pub is_crossing : (r : Rebuilt) (p : ℕ) (bytes : List ℕ) → low_of r ≤ p → r.ident.term_length < offset_of bytes + span_of bytes → Beyond ≡ insert_of r p bytes
unfolding insert_of
is_crossing r p bytes h k =
    by_crossing (ltb p (low_of r)) (leb (reach_of r) p) (ltb r.ident.term_length (offset_of bytes + span_of bytes)) (answer_among p (p + span_of bytes) bytes r.frames) (lt_no p (low_of r) h) (lt_yes r.ident.term_length (offset_of bytes + span_of bytes) k)

pub is_among : (r : Rebuilt) (p : ℕ) (bytes : List ℕ) → low_of r ≤ p → p < reach_of r → offset_of bytes + span_of bytes ≤ r.ident.term_length
    → answer_among p (p + span_of bytes) bytes r.frames ≡ insert_of r p bytes
unfolding insert_of
is_among r p bytes h k l =
    by_tests (ltb p (low_of r)) (leb (reach_of r) p) (ltb r.ident.term_length (offset_of bytes + span_of bytes)) (answer_among p (p + span_of bytes) bytes r.frames)
    (lt_no p (low_of r) h) (gt_no (reach_of r) p k) (lt_no r.ident.term_length (offset_of bytes + span_of bytes) l)

pub gap_some : (r : Rebuilt) → contiguous_of r < gap_end r → Some (contiguous_of r, gap_end r - contiguous_of r) ≡ gap_of r
unfolding gap_of
gap_some r h = rw (lt_yes (contiguous_of r) (gap_end r) h) refl

pub gap_none : (r : Rebuilt) → gap_end r ≤ contiguous_of r → None ≡ gap_of r
unfolding gap_of
gap_none r h = rw (lt_no (contiguous_of r) (gap_end r) h) refl

-- the log after a frame that is taken, and after another
pub after_taken : (r : Rebuilt) (p : ℕ) (bytes : List ℕ) → insert_of r p bytes ≡ Taken
    → record r { frames = insert r.frames (rank p r.frames) (framed p (span_of bytes) bytes); greatest = max r.greatest (p + span_of bytes) } ≡ after_insert r p bytes
unfolding after_insert
after_taken r p bytes h =
    sym (ap (λ (a : Insert). let x : Rebuilt = record r { frames = frames_after a r.frames (framed p (span_of bytes) bytes); greatest = max r.greatest (p + span_of bytes) } in x) h)

frames_stay : (a : Insert) (fs : List Frame) (f : Frame) → (a ≡ Taken → ⊥) → fs ≡ frames_after a fs f
frames_stay Taken fs f h = absurd (h refl)
frames_stay Repeat fs f h = refl
frames_stay Overlap fs f h = refl
frames_stay Below fs f h = refl
frames_stay Beyond fs f h = refl

pub after_other : (r : Rebuilt) (p : ℕ) (bytes : List ℕ) → (insert_of r p bytes ≡ Taken → ⊥) → record r { greatest = max r.greatest (p + span_of bytes) } ≡ after_insert r p bytes
unfolding after_insert
after_other r p bytes h =
    ap (λ (fs : List Frame). let x : Rebuilt = record r { frames = fs; greatest = max r.greatest (p + span_of bytes) } in x)
    (frames_stay (insert_of r p bytes) r.frames (framed p (span_of bytes) bytes) h)

-- a frame within the window ends in the ring
pub within_room : (join base t p s off : ℕ) → 65536 ≤ t → p < base + min 131072 (t / 2) → off + s ≤ t → p + s ≤ max join (base - base % t) + 3 * t
within_room join base t p s off big near fit = omega arith

-- a log that takes a frame where its chain ends, and elsewhere
pub log_here : (ident : Ident) (join base c p s at end : ℕ) (bytes : List ℕ) (pairs : List Pair) (store new : Stored) → IsLog ident join base c pairs store → IsFor ident p bytes → s ≡ span_of bytes
    → at ≡ rank p store.frames
    → new ≡ record store { frames = insert store.frames at (framed p s bytes) } → Ordered store.low (store.low + store.held.len) (insert store.frames at (framed p s bytes))
    → 32 ≤ s → p ≡ c → end ≡ chain p (drop at new.frames)
    → p % ident.term_length + s ≤ ident.term_length → p + s ≤ 2 ^ 58 → list_any (meets p (p + s)) store.frames ≡ false → store.low ≤ p
    → IsLog ident join base end pairs new
log_here ident join base c p s at end bytes pairs store new is of spans ranked put order takes here ends whole high apart above =
    let after : Stored = record store { frames = insert store.frames at (framed p s bytes) } in
    let e : end ≡ chain p (drop at (insert store.frames at (framed p s bytes))) = ends ∙ ap (λ (x : Stored). chain p (drop at x.frames)) put in
    let far = chain-le p (drop at (insert store.frames at (framed p s bytes))) in
    let on = chain-here p s store.low (store.low + store.held.len) bytes store.frames is.order takes (here ∙ is.chained) in
    let moved : chain p (drop at (insert store.frames at (framed p s bytes))) ≡ chain store.low (insert store.frames at (framed p s bytes)) =
    subst (λ (k : ℕ). chain p (drop k (insert store.frames k (framed p s bytes))) ≡ chain store.low (insert store.frames k (framed p s bytes))) (sym ranked) (sym on) in
    let kept : Ordered store.low (2 ^ 58) (insert store.frames at (framed p s bytes)) =
    subst (λ (k : ℕ). Ordered store.low (2 ^ 58) (insert store.frames k (framed p s bytes))) (sym ranked)
    (put_ordered p s store.low (2 ^ 58) bytes store.frames is.ends above takes high apart) in
    let within = chain-within store.low (2 ^ 58) (insert store.frames at (framed p s bytes)) kept (omega (arith, above, here, is.far)) in
    let up : c ≤ end = omega (arith, e, far, here) in
    subst (λ (x : Stored). IsLog ident join base end pairs x) (sym put)
    (record {
      terms = is.terms;
      room = is.room;
      low = is.low;
      joined = is.joined;
      based = omega (arith, is.based, up);
      chained = e ∙ moved;
      order = order;
      high = is.high;
      whole = in_terms_put ident.term_length p s at bytes store.frames is.whole whole;
      ends = kept;
      far = omega (arith, e, moved, within);
      paired = at_weaker (IsWithin base c) (IsWithin base end) (λ q near. (near.0, omega (arith, near.1, up))) pairs is.paired;
      starts = starts_by c end base c store.frames (insert store.frames at (framed p s bytes)) pairs
          (λ q _ b. begins_here c end p s at q bytes store.frames (omega (arith, ranked, rank-le p store.frames)) here b) is.paired is.starts;
      named = for_put ident p s at bytes store.frames is.named of spans;
    })

pub log_elsewhere : (ident : Ident) (join base c p s at : ℕ) (bytes : List ℕ) (pairs : List Pair) (store new : Stored) → IsLog ident join base c pairs store → IsFor ident p bytes → s ≡ span_of bytes
    → at ≡ rank p store.frames
    → new ≡ record store { frames = insert store.frames at (framed p s bytes) } → Ordered store.low (store.low + store.held.len) (insert store.frames at (framed p s bytes))
    → 32 ≤ s → store.low ≤ p → list_any (meets p (p + s)) store.frames ≡ false → (p ≡ c → ⊥)
    → p % ident.term_length + s ≤ ident.term_length → p + s ≤ 2 ^ 58
    → IsLog ident join base c pairs new
log_elsewhere ident join base c p s at bytes pairs store new is of spans ranked put order takes above apart other whole high =
    let off : p ≢ chain store.low store.frames = λ e. other (e ∙ sym is.chained) in
    let on = chain-other p s store.low (store.low + store.held.len) bytes store.frames is.order above takes apart off in
    let moved : chain store.low store.frames ≡ chain store.low (insert store.frames at (framed p s bytes)) =
    subst (λ (k : ℕ). chain store.low store.frames ≡ chain store.low (insert store.frames k (framed p s bytes))) (sym ranked) (sym on) in
    let kept : Ordered store.low (2 ^ 58) (insert store.frames at (framed p s bytes)) =
    subst (λ (k : ℕ). Ordered store.low (2 ^ 58) (insert store.frames k (framed p s bytes))) (sym ranked)
    (put_ordered p s store.low (2 ^ 58) bytes store.frames is.ends above takes high apart) in
    subst (λ (x : Stored). IsLog ident join base c pairs x) (sym put)
    (record {
      terms = is.terms;
      room = is.room;
      low = is.low;
      joined = is.joined;
      based = is.based;
      chained = is.chained ∙ moved;
      order = order;
      high = is.high;
      whole = in_terms_put ident.term_length p s at bytes store.frames is.whole whole;
      ends = kept;
      far = is.far;
      paired = is.paired;
      starts = starts_by c c base c store.frames (insert store.frames at (framed p s bytes)) pairs
          (λ q _ b. begins_more c at q (framed p s bytes) store.frames b) is.paired is.starts;
      named = for_put ident p s at bytes store.frames is.named of spans;
    })
