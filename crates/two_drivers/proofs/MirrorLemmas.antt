-- A log whose frames are a line's stays one, whatever comes to it.
use Rattle.std.proofs.Common.{◌≡◌, ℕ, ◌+◌, ◌-◌, ◌*◌, ◌%◌, ◌<◌, ◌≤◌, ◌≢◌, max, Bool, true, false, List, [], ◌∷◌, ◌++◌, map, take, drop, Option, Some, None, refl, sym, ap, ◌∙◌, subst, arith, inl, inr}
use Rattle.std.specs.List.{list_any, insert}
use Rattle.std.specs.Prelude.{IfSome, filter}
use Rattle.std.proofs.lemmas.List.Elements.{All-append, All-cons, All-drop, All-filter, All-nil, All-take}
use Rattle.image_log.specs.Frame.{Frame as Kept, framed, end_of}
use Rattle.image_log.specs.Handed.{span_of}
use Rattle.image_log.specs.Order.{Begins, InTerms, Ordered, begins_from, chain, meets, rank}
use Rattle.image_log.specs.Pairs.{AreStarts, AreWithin, IsWithin}
use Rattle.image_log.specs.Polling.{Poll, passes, polled, polled_frame, whole_from}
use Rattle.image_log.specs.Rebuilt.{Rebuilt, after_insert, contiguous_of, frames_after, insert_of, opened, rejoined, settled, term_start}
use Rattle.image_log.specs.declared.ident.Ident.{Ident as StreamIdent}
use Rattle.image_log.specs.declared.insert.Insert.{Insert}
use Rattle.image_log.specs.declared.insert.Insert.TheVariants.{Taken, Repeat, Overlap, Below, Beyond}
use Rattle.image_log.proofs.Dropping.{chain-from, ends_there, in_terms_from, in_terms_put, ordered_from, ordered_more, term_up}
use Rattle.image_log.proofs.Orders.{chain-here, chain-le, chain-other, put_ordered, rank-le}
use Rattle.image_log.proofs.Pairing.{least_within}
use Rattle.image_log.proofs.Polls.{poll_ends, polled_none, polled_some}
use Rattle.image_log.proofs.Starts.{begins_here, begins_kept, begins_more, starts_by}
use Rattle.image_log.proofs.Taken.{taken}
use Rattle.image_log.proofs.Tests.{by_test, is_eq, is_ne}
use Rattle.log_pairs.specs.Pairs.{least_or, position_of, rejoined_pairs}
use Rattle.log_pairs.specs.Polling.{behind, passed}
use Rattle.log_pairs.specs.declared.pair.Pair.{Pair}
use Rattle.log_pairs.proofs.Pairing.{at_found, at_map, at_rejoined, at_weaker}
use Rattle.two_drivers.specs.Line.{IsIn, IsLine}
use Rattle.two_drivers.specs.LineLaws.{MirrorsAreKept}
use Rattle.two_drivers.specs.Mirror.{InOrder, Mirrors, low_at}

-- ---- a log that begins

opens_in_order : (size join : ℕ) → InOrder size join join [] []
opens_in_order size join = record {
  end = 0;
  order = tt;
  whole = tt;
  joined = omega arith;
  based = omega arith;
  paired = tt;
  starts = tt;
}

pub opens : (line : List Kept) (ident : StreamIdent) (join : ℕ) → Mirrors line (opened ident join)
opens line ident join =
    record { frames = All-nil (IsIn line); order = opens_in_order ident.term_length join }

-- ---- a base that moves up

settles : (size join base : ℕ) (frames : List Kept) (pairs : List Pair) → 0 < size → InOrder size join base frames pairs →
    InOrder size join (least_or base pairs) (filter (begins_from (low_at size join (least_or base pairs))) frames) pairs
settles size join base frames pairs some is =
    let b : ℕ = least_or base pairs in
    let low : ℕ = low_at size join base in
    let l : ℕ = low_at size join b in
    let c : ℕ = chain low frames in
    let least = least_within base c pairs is.paired is.based in
    let up = term_up size base b some least.0 in
    let above : low ≤ l = omega (arith, up) in
    let under : l ≤ b = omega (arith, is.joined, least.0) in
    let ends : (p s : ℕ) → join ≤ p → p % size + s ≤ size → p < l → p + s ≤ l = λ p s from fit below.
    (let there = ends_there size p s b some fit (omega (arith, from, below)) in omega (arith, there)) in
    let goes : c ≡ chain l (filter (begins_from l) frames) =
    chain-from size join l low is.end frames is.order is.whole ends (omega arith) above (omega (arith, under, least.1)) in
    record {
      end = is.end;
      order = ordered_from l low is.end is.end frames is.order (omega arith);
      whole = in_terms_from size l frames is.whole;
      joined = omega (arith, is.joined, least.0);
      based = omega (arith, least.1, goes);
      paired = subst (λ (n : ℕ). AreWithin b n pairs) goes least.2;
      starts = subst (λ (n : ℕ). AreStarts n (filter (begins_from l) frames) pairs) goes
          (starts_by c c b c frames (filter (begins_from l) frames) pairs
          (λ q from at. begins_kept c l q frames (omega (arith, under, from)) at) least.2 is.starts);
    }

settled_mirrors : (line : List Kept) (r : Rebuilt) → 0 < r.ident.term_length → Mirrors line r → Mirrors line (settled r)
unfolding settled
settled_mirrors line r some is = record {
  frames = All-filter (begins_from _) (IsIn line) r.frames is.frames;
  order = settles r.ident.term_length r.join r.base r.frames r.pairs some is.order;
}

-- ---- others read

with_pairs : (size join base : ℕ) (frames : List Kept) (pairs others : List Pair) → InOrder size join base frames pairs →
    AreWithin base (chain (low_at size join base) frames) others → AreStarts (chain (low_at size join base) frames) frames others →
    InOrder size join base frames others
with_pairs size join base frames pairs others is within starts = record {
  end = is.end;
  order = is.order;
  whole = is.whole;
  joined = is.joined;
  based = is.based;
  paired = within;
  starts = starts;
}

pub rejoins : (line : List Kept) (r : Rebuilt) (subscriptions : List ℕ) → 0 < r.ident.term_length → Mirrors line r →
    Mirrors line (settled (rejoined r subscriptions))
rejoins line r subscriptions some is =
    let c : ℕ = contiguous_of r in
    settled_mirrors line (rejoined r subscriptions) some
    (record {
      frames = is.frames;
      order = with_pairs r.ident.term_length r.join r.base r.frames r.pairs (rejoined_pairs c r.pairs subscriptions) is.order
          (at_rejoined (IsWithin r.base c) c r.pairs subscriptions is.order.paired (is.order.based, omega arith))
          (at_rejoined (Begins c r.frames) c r.pairs subscriptions is.order.starts (inl refl));
    })

-- ---- a poll

stands_at : (P : ℕ → Type 0) (o : Option ℕ) (at : ℕ) → o ≡ Some at → IfSome o P → P at
stands_at P o at is holds = subst (λ (x : Option ℕ). IfSome x P) is holds

passes_mirrors : (line : List Kept) (r : Rebuilt) (subscription limit at : ℕ) → position_of r.pairs subscription ≡ Some at →
    0 < r.ident.term_length → Mirrors line r →
    Mirrors line (passes r subscription at (passed limit (map polled_frame (whole_from r at)))).after
passes_mirrors line r subscription limit at stood some is =
    let c : ℕ = contiguous_of r in
    let order = is.order in
    let within = stands_at (IsWithin r.base c) (position_of r.pairs subscription) at stood
    (at_found (IsWithin r.base c) subscription r.pairs order.paired) in
    let begins = stands_at (Begins c r.frames) (position_of r.pairs subscription) at stood
    (at_found (Begins c r.frames) subscription r.pairs order.starts) in
    let q : ℕ = behind at (passed limit (map polled_frame (whole_from r at))) in
    let ends = poll_ends at c _ order.end limit r.frames order.order refl within.1 begins in
    settled_mirrors line (Rattle.image_log.specs.Rebuilt.advanced r subscription q) some
    (record {
      frames = is.frames;
      order = with_pairs r.ident.term_length r.join r.base r.frames r.pairs _ order
          (at_map (IsWithin r.base c) subscription q r.pairs order.paired (omega (arith, within.0, ends.0), ends.1))
          (at_map (Begins c r.frames) subscription q r.pairs order.starts ends.2);
    })

polls_by : (line : List Kept) (r : Rebuilt) (subscription limit : ℕ) (o : Option ℕ) → position_of r.pairs subscription ≡ o →
    0 < r.ident.term_length → Mirrors line r → Mirrors line (polled r subscription limit).after
polls_by line r subscription limit None stood some is =
    subst (λ (p : Poll). Mirrors line p.after) (sym (polled_none r subscription limit stood)) is
polls_by line r subscription limit (Some at) stood some is =
    subst (λ (p : Poll). Mirrors line p.after) (sym (polled_some r subscription limit at stood))
    (passes_mirrors line r subscription limit at stood some is)

pub polls : (line : List Kept) (r : Rebuilt) (subscription limit : ℕ) → 0 < r.ident.term_length → Mirrors line r →
    Mirrors line (polled r subscription limit).after
polls line r subscription limit some is =
    polls_by line r subscription limit (position_of r.pairs subscription) refl some is

-- ---- a frame

-- one of the line takes 32 positions at least, and does not cross the end of a term
pub record IsWhole (size : ℕ) (f : Kept) : Type 0 where
  pub takes : 32 ≤ f.span
  pub fits : f.position % size + f.span ≤ size

whole_in : (size position : ℕ) (before after : List Kept) (f : Kept) → IsLine size position (before ++ f ∷ after) → IsWhole size f
whole_in size position [] after f line = record { takes = line.1; fits = line.2 }
whole_in size position (g ∷ before) after f line = whole_in size (end_of g) before after f line.3

pub in_whole : (size position : ℕ) (line : List Kept) (f : Kept) → IsLine size position line → IsIn line f → IsWhole size f
in_whole size position line f is there =
    whole_in size position there.before there.after f (subst (IsLine size position) there.is is)

put_in_order : (size join base p s : ℕ) (bytes : List ℕ) (frames : List Kept) (pairs : List Pair) →
    InOrder size join base frames pairs → IsWhole size (framed p s bytes) → low_at size join base ≤ p →
    list_any (meets p (p + s)) frames ≡ false → InOrder size join base (insert frames (rank p frames) (framed p s bytes)) pairs
put_in_order size join base p s bytes frames pairs is whole above apart =
    let low : ℕ = low_at size join base in
    let c : ℕ = chain low frames in
    let at : ℕ = rank p frames in
    let new : List Kept = insert frames at (framed p s bytes) in
    let end : ℕ = max is.end (p + s) in
    let takes : 32 ≤ s = whole.takes in
    let order : Ordered low end new =
    put_ordered p s low end bytes frames (ordered_more low is.end end frames is.order (omega arith)) above takes (omega arith) apart in
    let within : InTerms size new = in_terms_put size p s at bytes frames is.whole whole.fits in
    by_test (Rattle.std.proofs.Common.eqb p c)
    (λ e.
    let here : p ≡ c = is_eq p c e in
    let goes = chain-here p s low is.end bytes frames is.order takes here in
    let far = chain-le p (drop at new) in
    let up : c ≤ chain low new = omega (arith, here, goes, far) in
    record {
      end = end;
      order = order;
      whole = within;
      joined = is.joined;
      based = omega (arith, is.based, up);
      paired = at_weaker (IsWithin base c) (IsWithin base (chain low new)) (λ q near. (near.0, omega (arith, near.1, up))) pairs is.paired;
      starts = starts_by c (chain low new) base c frames new pairs
          (λ q from b. begins_here c (chain low new) p s at q bytes frames (rank-le p frames) here b) is.paired is.starts;
    })
    (λ e.
    let off : p ≢ c = is_ne p c e in
    let stays : chain low new ≡ c = chain-other p s low is.end bytes frames is.order above takes apart off in
    record {
      end = end;
      order = order;
      whole = within;
      joined = is.joined;
      based = omega (arith, is.based, stays);
      paired = subst (λ (n : ℕ). AreWithin base n pairs) (sym stays) is.paired;
      starts = subst (λ (n : ℕ). AreStarts n new pairs) (sym stays)
          (starts_by c c base c frames new pairs (λ q from b. begins_more c at q (framed p s bytes) frames b) is.paired is.starts);
    })

after_mirrors : (size start : ℕ) (line : List Kept) (r : Rebuilt) (p : ℕ) (bytes : List ℕ) (word : Insert) → insert_of r p bytes ≡ word →
    IsLine size start line → IsIn line (framed p (span_of bytes) bytes) → r.ident.term_length ≡ size → Mirrors line r →
    Mirrors line (record r { frames = frames_after word r.frames (framed p (span_of bytes) bytes); greatest = max r.greatest (p + span_of bytes) })
after_mirrors size start line r p bytes Taken same is there sized mirrors =
    let facts = taken r p bytes same in
    let whole = in_whole size start line (framed p (span_of bytes) bytes) is there in
    let at : ℕ = rank p r.frames in
    record {
      frames = All-append (IsIn line) (take at r.frames) (framed p (span_of bytes) bytes ∷ drop at r.frames)
          (All-take (IsIn line) at r.frames mirrors.frames)
          (All-cons (IsIn line) (framed p (span_of bytes) bytes) (drop at r.frames) there (All-drop (IsIn line) at r.frames mirrors.frames));
      order = put_in_order r.ident.term_length r.join r.base p (span_of bytes) bytes r.frames r.pairs mirrors.order
          (subst (λ (n : ℕ). IsWhole n (framed p (span_of bytes) bytes)) (sym sized) whole) facts.0 facts.3;
    }
after_mirrors size start line r p bytes Repeat same is there sized mirrors = record { frames = mirrors.frames; order = mirrors.order }
after_mirrors size start line r p bytes Overlap same is there sized mirrors = record { frames = mirrors.frames; order = mirrors.order }
after_mirrors size start line r p bytes Below same is there sized mirrors = record { frames = mirrors.frames; order = mirrors.order }
after_mirrors size start line r p bytes Beyond same is there sized mirrors = record { frames = mirrors.frames; order = mirrors.order }

pub takes_in : (size start : ℕ) (line : List Kept) (r : Rebuilt) (p : ℕ) (bytes : List ℕ) → IsLine size start line →
    IsIn line (framed p (span_of bytes) bytes) → r.ident.term_length ≡ size → Mirrors line r → Mirrors line (after_insert r p bytes)
unfolding after_insert
takes_in size start line r p bytes is there sized mirrors =
    after_mirrors size start line r p bytes (insert_of r p bytes) refl is there sized mirrors

pub mirrors_kept : MirrorsAreKept
mirrors_kept size start line is = record {
  opens = opens line;
  takes = λ r position bytes there sized mirrors. takes_in size start line r position bytes is there sized mirrors;
  rejoins = rejoins line;
  polls = polls line;
}
