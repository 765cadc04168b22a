-- Frames in order: where one is put in, what it meets, and how far the chain of frames goes.
use Rattle.std.proofs.Common.{◌≡◌, ℕ, zero, suc, ◌+◌, ◌*◌, ◌<◌, ◌≤◌, ◌≢◌, Bool, true, false, cond, ltb, eqb, List, [], ◌∷◌, length, drop, refl, sym, ap, ◌∙◌, subst, arith}
use Rattle.std.specs.List.{list_any, insert}
use Rattle.image_log.specs.Frame.{Frame, framed, end_of}
use Rattle.image_log.specs.Order.{Ordered, rank, is_same, meets, chain}
use Rattle.image_log.specs.Stored.{frame_at}
use Rattle.image_log.proofs.Tests.{by_test, lt_yes, lt_no, is_lt, is_ge, eq_no, is_eq, meet_behind, meet_before, apart_before, apart_behind, or_first, or_second, or_of}

-- no frame begins below the first
pub starts_above : (low end : ℕ) (fs : List Frame) (k : ℕ) → Ordered low end fs → k < length fs → low ≤ (frame_at fs k).position
starts_above low end [] k o h = absurd (omega arith)
starts_above low end (f ∷ fs) zero o h = o.0
starts_above low end (f ∷ fs) (suc k) o h = let rest = starts_above (end_of f) end fs k o.3 (omega arith) in omega (arith, rest, o.0)

pub rank-le : (p : ℕ) (fs : List Frame) → rank p fs ≤ length fs
rank-le p [] = omega arith
rank-le p (f ∷ fs) = by_test (ltb f.position p) (λ e. rw e (let rest = rank-le p fs in omega arith)) (λ e. rw e (omega arith))

-- the ranges of frames from `low` on meet none that ends there
pub meets_none_above : (p e low end : ℕ) (fs : List Frame) → Ordered low end fs → e ≤ low → list_any (meets p e) fs ≡ false
meets_none_above p e low end [] o h = refl
meets_none_above p e low end (f ∷ fs) o h =
    or_of (meets p e f) (list_any (meets p e) fs) (meet_behind p e f.position (end_of f) (omega (arith, o.0)))
    (meets_none_above p e (end_of f) end fs o.3 (omega (arith, o.0)))

-- of frames in order, of which those of `fs` stand behind f: f ends at p or below where the last of them that begins below p does
first_ends : (p end n : ℕ) (f : Frame) (fs : List Frame) → Ordered (end_of f) end fs → rank p fs ≡ n
    → ((k : ℕ) → suc n ≡ suc k → end_of (frame_at (f ∷ fs) k) ≤ p) → end_of f ≤ p
first_ends p end zero f fs o r before = before zero refl
first_ends p end (suc n) f fs o r before =
    let last = before (suc n) refl in
    let within = rank-le p fs in
    let above = starts_above (end_of f) end fs n o (omega (arith, r, within)) in
    omega (arith, above, last)

-- where neither the frame before p nor the one behind it is met, none is
pub meets_none : (p e low end : ℕ) (fs : List Frame) → Ordered low end fs → p < e
    → ((k : ℕ) → rank p fs ≡ suc k → end_of (frame_at fs k) ≤ p)
    → (rank p fs < length fs → e ≤ (frame_at fs (rank p fs)).position)
    → list_any (meets p e) fs ≡ false
meets_none p e low end [] o some before behind = refl
meets_none p e low end (f ∷ fs) o some before behind =
    by_test (ltb f.position p)
    (λ t.
    let here : rank p (f ∷ fs) ≡ suc (rank p fs) = rw t refl in
    let rest = meets_none p e (end_of f) end fs o.3 some (λ k r. before (suc k) (here ∙ ap (λ n. suc n) r))
    (λ h. subst (λ (n : ℕ). e ≤ (frame_at (f ∷ fs) n).position) here (behind (subst (λ (n : ℕ). n < length (f ∷ fs)) (sym here) (omega (arith, h))))) in
    let left : end_of f ≤ p = first_ends p end (rank p fs) f fs o.3 refl (λ k r. before k (here ∙ r)) in
    or_of (meets p e f) (list_any (meets p e) fs) (meet_before p e f.position (end_of f) left) rest)
    (λ t.
    let here : rank p (f ∷ fs) ≡ zero = rw t refl in
    let right : e ≤ f.position = subst (λ (n : ℕ). e ≤ (frame_at (f ∷ fs) n).position) here (behind (subst (λ (n : ℕ). n < length (f ∷ fs)) (sym here) (omega arith))) in
    or_of (meets p e f) (list_any (meets p e) fs) (meet_behind p e f.position (end_of f) right)
    (meets_none_above p e (end_of f) end fs o.3 (omega (arith, right))))

-- a frame of the list that is met
pub meets_some : (t : Frame → Bool) (fs : List Frame) (k : ℕ) → k < length fs → t (frame_at fs k) ≡ true → list_any t fs ≡ true
meets_some t [] k h m = absurd (omega arith)
meets_some t (f ∷ fs) zero h m = rw m refl
meets_some t (f ∷ fs) (suc k) h m = by_test (t f) (λ e. rw e refl) (λ e. rw e (meets_some t fs k (omega arith) m))

-- a frame takes a position at least
pub takes_some : (low end : ℕ) (fs : List Frame) (k : ℕ) → Ordered low end fs → k < length fs → 32 ≤ (frame_at fs k).span
takes_some low end [] k o h = absurd (omega arith)
takes_some low end (f ∷ fs) zero o h = o.1
takes_some low end (f ∷ fs) (suc k) o h = takes_some (end_of f) end fs k o.3 (omega arith)

-- a frame before the rank begins below p, and one behind it does not
pub ranked_before : (p : ℕ) (fs : List Frame) (k : ℕ) → k < rank p fs → (frame_at fs k).position < p
ranked_before p [] k h = absurd (omega arith)
ranked_before p (f ∷ fs) zero h =
    by_test (ltb f.position p) (λ e. is_lt f.position p e)
    (λ e. let here : rank p (f ∷ fs) ≡ zero = rw e refl in absurd (omega (arith, here)))
ranked_before p (f ∷ fs) (suc k) h =
    by_test (ltb f.position p)
    (λ e. let here : rank p (f ∷ fs) ≡ suc (rank p fs) = rw e refl in ranked_before p fs k (omega (arith, here)))
    (λ e. let here : rank p (f ∷ fs) ≡ zero = rw e refl in absurd (omega (arith, here)))

pub ranked_behind : (p low end : ℕ) (fs : List Frame) (k : ℕ) → Ordered low end fs → rank p fs ≤ k → k < length fs → p ≤ (frame_at fs k).position
ranked_behind p low end [] k o r h = absurd (omega arith)
ranked_behind p low end (f ∷ fs) zero o r h =
    by_test (ltb f.position p)
    (λ e. let here : rank p (f ∷ fs) ≡ suc (rank p fs) = rw e refl in absurd (omega (arith, here)))
    (λ e. is_ge f.position p e)
ranked_behind p low end (f ∷ fs) (suc k) o r h =
    by_test (ltb f.position p)
    (λ e. let here : rank p (f ∷ fs) ≡ suc (rank p fs) = rw e refl in ranked_behind p (end_of f) end fs k o.3 (omega (arith, here)) (omega arith))
    (λ e. let above = starts_above (end_of f) end fs k o.3 (omega arith) in let first = is_ge f.position p e in omega (arith, above, first))

-- the frames below a position are those of the indices below its rank
pub below_rank : (p low end : ℕ) (fs : List Frame) (k : ℕ) → Ordered low end fs → k < length fs → ltb (frame_at fs k).position p ≡ ltb k (rank p fs)
below_rank p low end fs k o h =
    by_test (ltb k (rank p fs))
    (λ e. lt_yes (frame_at fs k).position p (ranked_before p fs k (is_lt k (rank p fs) e)) ∙ sym e)
    (λ e. lt_no (frame_at fs k).position p (ranked_behind p low end fs k o (is_ge k (rank p fs) e) h) ∙ sym e)

-- a test that only a frame at p passes
abbrev pub OnlyAt : ℕ → (Frame → Bool) → Type 0
OnlyAt p t = (f : Frame) → f.position ≢ p → t f ≡ false

pub only_same : (p : ℕ) (bytes : List ℕ) → OnlyAt p (is_same p bytes)
only_same p bytes = λ f ne. rw (eq_no f.position p ne) refl

-- no frame from `low` on begins below it
at_none_above : (p low end : ℕ) (t : Frame → Bool) (fs : List Frame) → OnlyAt p t → Ordered low end fs → p < low → list_any t fs ≡ false
at_none_above p low end t [] only o h = refl
at_none_above p low end t (f ∷ fs) only o h =
    let ne : f.position ≢ p = omega (arith, o.0) in
    or_of (t f) (list_any t fs) (only f ne) (at_none_above p (end_of f) end t fs only o.3 (omega (arith, o.0)))

-- where the frame at the rank does not pass the test, none does
pub at_none : (p low end : ℕ) (t : Frame → Bool) (fs : List Frame) → OnlyAt p t → Ordered low end fs
    → (rank p fs < length fs → t (frame_at fs (rank p fs)) ≡ false) → list_any t fs ≡ false
at_none p low end t [] only o h = refl
at_none p low end t (f ∷ fs) only o h =
    by_test (ltb f.position p)
    (λ e.
    let here : rank p (f ∷ fs) ≡ suc (rank p fs) = rw e refl in
    let below = is_lt f.position p e in
    let ne : f.position ≢ p = omega (arith, below) in
    let rest = at_none p (end_of f) end t fs only o.3
    (λ k. subst (λ (n : ℕ). t (frame_at (f ∷ fs) n) ≡ false) here (h (subst (λ (n : ℕ). n < length (f ∷ fs)) (sym here) (omega (arith, k))))) in
    or_of (t f) (list_any t fs) (only f ne) rest)
    (λ e.
    let here : rank p (f ∷ fs) ≡ zero = rw e refl in
    let first : t f ≡ false = subst (λ (n : ℕ). t (frame_at (f ∷ fs) n) ≡ false) here (h (subst (λ (n : ℕ). n < length (f ∷ fs)) (sym here) (omega arith))) in
    or_of (t f) (list_any t fs) first (at_none_above p (end_of f) end t fs only o.3 (let first = is_ge f.position p e in omega (arith, o.1, first))))

-- a frame that meets none is put in its place, and they stand in order
pub put_ordered : (p s low end : ℕ) (bytes : List ℕ) (fs : List Frame) → Ordered low end fs → low ≤ p → 32 ≤ s → p + s ≤ end
    → list_any (meets p (p + s)) fs ≡ false → Ordered low end (insert fs (rank p fs) (framed p s bytes))
put_ordered p s low end bytes [] o h k l m = (h, k, l, tt)
put_ordered p s low end bytes (f ∷ fs) o h k l m =
    let out = or_first (meets p (p + s) f) (list_any (meets p (p + s)) fs) m in
    let others = or_second (meets p (p + s) f) (list_any (meets p (p + s)) fs) m in
    by_test (ltb f.position p)
    (λ t.
    let here : rank p (f ∷ fs) ≡ suc (rank p fs) = rw t refl in
    let left = apart_before p (p + s) f.position (end_of f) (omega (arith, k)) (is_lt f.position p t) out in
    rw here (o.0, o.1, o.2, put_ordered p s (end_of f) end bytes fs o.3 left k l others))
    (λ t.
    let here : rank p (f ∷ fs) ≡ zero = rw t refl in
    let right = apart_behind p (p + s) f.position (end_of f) (omega (arith, k)) (omega (arith, o.1)) (is_ge f.position p t) out in
    rw here (h, k, l, (right, o.1, o.2, o.3)))

-- the chain goes on from p
pub chain-le : (p : ℕ) (fs : List Frame) → p ≤ chain p fs
chain-le p [] = omega arith
chain-le p (f ∷ fs) =
    by_test (eqb f.position p)
    (λ e. let rest = chain-le (end_of f) fs in let at = is_eq f.position p e in rw e (omega (arith, rest, at)))
    (λ e. rw e (omega arith))

-- a frame that does not begin where the chain ends leaves it as it is
pub chain-other : (p s low end : ℕ) (bytes : List ℕ) (fs : List Frame) → Ordered low end fs → low ≤ p → 32 ≤ s
    → list_any (meets p (p + s)) fs ≡ false → p ≢ chain low fs → chain low (insert fs (rank p fs) (framed p s bytes)) ≡ chain low fs
chain-other p s low end bytes [] o h k m ne = rw (eq_no p low ne) refl
chain-other p s low end bytes (f ∷ fs) o h k m ne =
    let out = or_first (meets p (p + s) f) (list_any (meets p (p + s)) fs) m in
    let others = or_second (meets p (p + s) f) (list_any (meets p (p + s)) fs) m in
    by_test (ltb f.position p)
    (λ t.
    let here : rank p (f ∷ fs) ≡ suc (rank p fs) = rw t refl in
    let left = apart_before p (p + s) f.position (end_of f) (omega (arith, k)) (is_lt f.position p t) out in
    by_test (eqb f.position low)
    (λ e. let far : p ≢ chain (end_of f) fs = subst (λ (b : Bool). p ≢ cond b (chain (end_of f) fs) low) e ne in
    rw (here, e) (chain-other p s (end_of f) end bytes fs o.3 left k others far))
    (λ e. rw (here, e) refl))
    (λ t.
    let here : rank p (f ∷ fs) ≡ zero = rw t refl in
    let behind = is_ge f.position p t in
    by_test (eqb f.position low)
    (λ e. let at = is_eq f.position low e in
    let right = apart_behind p (p + s) f.position (end_of f) (omega (arith, k)) (omega (arith, o.1)) behind out in
    absurd (omega (arith, at, right, k, h)))
    (λ e. let far : p ≢ low = subst (λ (b : Bool). p ≢ cond b (chain (end_of f) fs) low) e ne in
    rw (here, eq_no p low far, e) refl))

-- one that does continues it
pub chain-here : (p s low end : ℕ) (bytes : List ℕ) (fs : List Frame) → Ordered low end fs → 32 ≤ s → p ≡ chain low fs
    → chain low (insert fs (rank p fs) (framed p s bytes)) ≡ chain p (drop (rank p fs) (insert fs (rank p fs) (framed p s bytes)))
chain-here p s low end bytes [] o k at = ap (λ n. chain n (framed p s bytes ∷ [])) (sym at)
chain-here p s low end bytes (f ∷ fs) o k at =
    by_test (eqb f.position low)
    (λ e.
    let on : p ≡ chain (end_of f) fs = subst (λ (b : Bool). p ≡ cond b (chain (end_of f) fs) low) e at in
    let far = chain-le (end_of f) fs in
    let below : f.position < p = omega (arith, on, far, o.1) in
    let here : rank p (f ∷ fs) ≡ suc (rank p fs) = rw (lt_yes f.position p below) refl in
    rw (here, e) (chain-here p s (end_of f) end bytes fs o.3 k on))
    (λ e.
    let on : p ≡ low = subst (λ (b : Bool). p ≡ cond b (chain (end_of f) fs) low) e at in
    let here : rank p (f ∷ fs) ≡ zero = rw (lt_no f.position p (omega (arith, on, o.0))) refl in
    rw here (ap (λ n. chain n (framed p s bytes ∷ f ∷ fs)) (sym on)))

-- so many frames have room
pub count-within : (low end : ℕ) (fs : List Frame) → Ordered low end fs → low ≤ end → 32 * length fs + low ≤ end
count-within low end [] o h = omega arith
count-within low end (f ∷ fs) o h = let rest = count-within (end_of f) end fs o.3 o.2 in omega (arith, rest, o.0, o.1)

pub ends_within : (low end : ℕ) (fs : List Frame) (k : ℕ) → Ordered low end fs → k < length fs → end_of (frame_at fs k) ≤ end
ends_within low end [] k o h = absurd (omega arith)
ends_within low end (f ∷ fs) zero o h = o.2
ends_within low end (f ∷ fs) (suc k) o h = ends_within (end_of f) end fs k o.3 (omega arith)

-- a frame that was put in is one of those in order
pub put_within : (low end : ℕ) (fs : List Frame) (i : ℕ) (g : Frame) → i ≤ length fs → Ordered low end (insert fs i g) → (low ≤ g.position) × (32 ≤ g.span) × (end_of g ≤ end)
put_within low end fs zero g h o = (o.0, o.1, o.2)
put_within low end [] (suc i) g h o = absurd (omega arith)
put_within low end (f ∷ fs) (suc i) g h o =
    let rest = put_within (end_of f) end fs i g (omega arith) o.3 in
    (omega (arith, rest.0, o.0, o.1), rest.1, rest.2)

-- a test that fails at all frames, one of which was put in
pub any-put : (t : Frame → Bool) (fs : List Frame) (i : ℕ) (g : Frame) → i ≤ length fs → list_any t (insert fs i g) ≡ false → (t g ≡ false) × (list_any t fs ≡ false)
any-put t fs zero g h n = (or_first (t g) (list_any t fs) n, or_second (t g) (list_any t fs) n)
any-put t [] (suc i) g h n = absurd (omega arith)
any-put t (f ∷ fs) (suc i) g h n =
    let rest = any-put t fs i g (omega arith) (or_second (t f) (list_any t (insert fs i g)) n) in
    (rest.0, or_of (t f) (list_any t fs) (or_first (t f) (list_any t (insert fs i g)) n) rest.1)

pub length-put : (fs : List Frame) (i : ℕ) (g : Frame) → i ≤ length fs → length (insert fs i g) ≡ suc (length fs)
length-put fs zero g h = refl
length-put [] (suc i) g h = absurd (omega arith)
length-put (f ∷ fs) (suc i) g h = ap (λ n. suc n) (length-put fs i g (omega arith))
