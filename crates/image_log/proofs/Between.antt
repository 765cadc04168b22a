-- Frames that are read in order.
use Rattle.std.proofs.Common.{◌≡◌, ℕ, zero, suc, ◌+◌, ◌-◌, ◌%◌, ◌<◌, ◌≤◌, ◌⊎◌, inl, inr, true, false, Bool, cond, ◌||◌, eqb, leb, ltb, List, [], ◌∷◌, length, take, drop, refl, sym, ap, ap₂, ◌∙◌, subst, arith}
use Rattle.std.specs.List.{list_any}
use Rattle.std.specs.Prelude.{filter}
use Rattle.image_log.specs.Frame.{Frame, end_of}
use Rattle.image_log.specs.Order.{Ordered, begins_at, begins_within, chain, rank}
use Rattle.image_log.specs.Reading.{Adjoin, AreBetween, cut_to, is_pad, sent_size}
use Rattle.image_log.specs.Stored.{frame_at}
use Rattle.image_log.proofs.Orders.{chain-le}
use Rattle.image_log.proofs.Tests.{by_test, gt_no, is_eq, is_ge, is_le, is_lt, is_ne, le_yes, lt_no, lt_yes}

-- no frame begins below the first
rank-none : (p low end : ℕ) (fs : List Frame) → Ordered low end fs → p ≤ low → rank p fs ≡ 0
rank-none p low end [] o h = refl
rank-none p low end (f ∷ fs) o h = rw (lt_no f.position p (omega (arith, o.0))) refl

-- the frames that begin between two positions stand between the ranks of these
pub between-ranks : (p q low end : ℕ) (fs : List Frame) → Ordered low end fs → p ≤ q → filter (begins_within p q) fs ≡ drop (rank p fs) (take (rank q fs) fs)
between-ranks p q low end [] o h = refl
between-ranks p q low end (f ∷ fs) o h =
    let rest = between-ranks p q (end_of f) end fs o.3 h in
    by_test (ltb f.position p)
    (λ e.
    let below = is_lt f.position p e in
    rw (gt_no p f.position below, e, lt_yes f.position q (omega (arith, below, h))) rest)
    (λ e.
    let behind = is_ge f.position p e in
    let first = rank-none p (end_of f) end fs o.3 (omega (arith, behind)) in
    by_test (ltb f.position q)
    (λ t. rw (le_yes p f.position behind, e, t) (ap (λ gs. f ∷ gs) (rest ∙ ap (λ k. drop k (take (rank q fs) fs)) first)))
    (λ t.
    let past = is_ge f.position q t in
    let none = rank-none q (end_of f) end fs o.3 (omega (arith, past)) in
    rw (le_yes p f.position behind, e, t) (rest ∙ ap₂ (λ j k. drop j (take k fs)) first none)))

-- the first of the frames from one index up to another
pub first-between : (fs : List Frame) (i last : ℕ) → i < last → last ≤ length fs → drop i (take last fs) ≡ frame_at fs i ∷ drop (suc i) (take last fs)
first-between [] i last h k = absurd (omega arith)
first-between (f ∷ fs) i zero h k = absurd (omega arith)
first-between (f ∷ fs) zero (suc last) h k = refl
first-between (f ∷ fs) (suc i) (suc last) h k = first-between fs i last (omega arith) (omega arith)

pub none-between : (fs : List Frame) (i last : ℕ) → last ≤ i → drop i (take last fs) ≡ []
none-between [] zero zero h = refl
none-between [] zero (suc last) h = refl
none-between [] (suc i) zero h = refl
none-between [] (suc i) (suc last) h = refl
none-between (f ∷ fs) zero zero h = refl
none-between (f ∷ fs) zero (suc last) h = absurd (omega arith)
none-between (f ∷ fs) (suc i) zero h = refl
none-between (f ∷ fs) (suc i) (suc last) h = none-between fs i last (omega arith)

pub cut-none : (bytes : ℕ) (f : Frame) (fs : List Frame) → bytes < sent_size f → cut_to bytes (f ∷ fs) ≡ []
cut-none bytes f fs h = rw (lt_yes bytes (sent_size f) h) refl

pub cut-pad : (bytes : ℕ) (f : Frame) (fs : List Frame) → sent_size f ≤ bytes → is_pad f ≡ true → cut_to bytes (f ∷ fs) ≡ f ∷ []
cut-pad bytes f fs h t = rw (lt_no bytes (sent_size f) h, t) refl

pub cut-more : (bytes : ℕ) (f : Frame) (fs : List Frame) → sent_size f ≤ bytes → is_pad f ≡ false → cut_to bytes (f ∷ fs) ≡ f ∷ cut_to (bytes - sent_size f) fs
cut-more bytes f fs h t = rw (lt_no bytes (sent_size f) h, t) refl

-- a position is in its term
pub before-end : (t p : ℕ) → 0 < t → p ≤ p - p % t + t
before-end t p some = omega arith

-- no frame begins between two positions where none can
pub none-from : (p q low end : ℕ) (fs : List Frame) → Ordered low end fs → q ≤ low → filter (begins_within p q) fs ≡ []
none-from p q low end [] o h = refl
none-from p q low end (f ∷ fs) o h =
    let rest = none-from p q (end_of f) end fs o.3 (omega (arith, o.0, h)) in
    let past = lt_no f.position q (omega (arith, o.0, h)) in
    by_test (leb p f.position) (λ e. rw (e, past) rest) (λ e. rw e rest)

pub none-after : (p q : ℕ) (fs : List Frame) → q ≤ p → filter (begins_within p q) fs ≡ []
none-after p q [] h = refl
none-after p q (f ∷ fs) h =
    let rest = none-after p q fs h in
    by_test (leb p f.position)
    (λ e. let behind = is_le p f.position e in rw (e, lt_no f.position q (omega (arith, behind, h))) rest)
    (λ e. rw e rest)

-- frames that begin within a chain end within it
pub run-between : (p q c low end : ℕ) (fs : List Frame) → Ordered low end fs → q ≤ c → c ≡ chain low fs → AreBetween p c (filter (begins_within p q) fs)
run-between p q c low end [] o h on = tt
run-between p q c low end (f ∷ fs) o h on =
    by_test (eqb f.position low)
    (λ e.
    let further : c ≡ chain (end_of f) fs = subst (λ (b : Bool). c ≡ cond b (chain (end_of f) fs) low) e on in
    let far = chain-le (end_of f) fs in
    let ends : end_of f ≤ c = omega (arith, further, far) in
    let rest = run-between p q c (end_of f) end fs o.3 h further in
    by_test (leb p f.position)
    (λ t. by_test (ltb f.position q) (λ u. rw (t, u) (is_le p f.position t, ends, rest)) (λ u. rw (t, u) rest))
    (λ t. rw t rest))
    (λ e.
    let here : c ≡ low = subst (λ (b : Bool). c ≡ cond b (chain (end_of f) fs) low) e on in
    subst (λ (gs : List Frame). AreBetween p c gs) (sym (none-from p q low end (f ∷ fs) o (omega (arith, h, here)))) tt)

-- those of a chain stand one behind the other
adjoin-first : (p q low end : ℕ) (fs : List Frame) → Ordered low end fs → p ≤ low → q ≤ chain low fs → Adjoin low (filter (begins_within p q) fs)
adjoin-first p q low end [] o h on = tt
adjoin-first p q low end (f ∷ fs) o h on =
    by_test (eqb f.position low)
    (λ e.
    let at = is_eq f.position low e in
    let further : q ≤ chain (end_of f) fs = subst (λ (b : Bool). q ≤ cond b (chain (end_of f) fs) low) e on in
    let rest = adjoin-first p q (end_of f) end fs o.3 (omega (arith, o.0, h)) further in
    by_test (ltb f.position q)
    (λ u. rw (le_yes p f.position (omega (arith, at, h)), u) (at, rest))
    (λ u.
    let past = is_ge f.position q u in
    subst (λ (gs : List Frame). Adjoin low gs) (sym (none-from p q low end (f ∷ fs) o (omega (arith, past, at)))) tt))
    (λ e.
    let here : q ≤ low = subst (λ (b : Bool). q ≤ cond b (chain (end_of f) fs) low) e on in
    subst (λ (gs : List Frame). Adjoin low gs) (sym (none-from p q low end (f ∷ fs) o here)) tt)

pub start-above : (p low end : ℕ) (fs : List Frame) → Ordered low end fs → list_any (begins_at p) fs ≡ true → low ≤ p
start-above p low end [] o h = absurd (cc)
start-above p low end (f ∷ fs) o h =
    by_test (eqb f.position p)
    (λ e. let at = is_eq f.position p e in omega (arith, at, o.0))
    (λ e.
    let some : list_any (begins_at p) fs ≡ true = subst (λ (b : Bool). (b || list_any (begins_at p) fs) ≡ true) e h in
    let rest = start-above p (end_of f) end fs o.3 some in omega (arith, rest, o.0))

-- also from the start of one of them on
adjoin-start : (p q low end : ℕ) (fs : List Frame) → Ordered low end fs → p ≤ chain low fs → q ≤ chain low fs → list_any (begins_at p) fs ≡ true → Adjoin p (filter (begins_within p q) fs)
adjoin-start p q low end [] o to on h = absurd (cc)
adjoin-start p q low end (f ∷ fs) o to on h =
    by_test (eqb f.position low)
    (λ l.
    let first = is_eq f.position low l in
    let further : q ≤ chain (end_of f) fs = subst (λ (b : Bool). q ≤ cond b (chain (end_of f) fs) low) l on in
    let within : p ≤ chain (end_of f) fs = subst (λ (b : Bool). p ≤ cond b (chain (end_of f) fs) low) l to in
    by_test (eqb f.position p)
    (λ e.
    let at = is_eq f.position p e in
    let all = adjoin-first p q low end (f ∷ fs) o (omega (arith, at, first)) on in
    subst (λ (k : ℕ). Adjoin k (filter (begins_within p q) (f ∷ fs))) (sym first ∙ at) all)
    (λ e.
    let some : list_any (begins_at p) fs ≡ true = subst (λ (b : Bool). (b || list_any (begins_at p) fs) ≡ true) e h in
    let above = start-above p (end_of f) end fs o.3 some in
    rw (gt_no p f.position (omega (arith, above, o.1))) (adjoin-start p q (end_of f) end fs o.3 within further some)))
    (λ l.
    let here : p ≤ low = subst (λ (b : Bool). p ≤ cond b (chain (end_of f) fs) low) l to in
    let off = is_ne f.position low l in
    by_test (eqb f.position p)
    (λ e. let at = is_eq f.position p e in absurd (off (omega (arith, at, here, o.0))))
    (λ e.
    let some : list_any (begins_at p) fs ≡ true = subst (λ (b : Bool). (b || list_any (begins_at p) fs) ≡ true) e h in
    let above = start-above p (end_of f) end fs o.3 some in
    absurd (omega (arith, above, here, o.0, o.1))))

pub adjoin-from : (p q c low end : ℕ) (fs : List Frame) → Ordered low end fs → c ≡ chain low fs → p ≤ c → q ≤ c → (p ≡ c) ⊎ (list_any (begins_at p) fs ≡ true)
    → Adjoin p (filter (begins_within p q) fs)
adjoin-from p q c low end fs o on to h start =
    elim start [
      | inl at ↦ subst (λ (gs : List Frame). Adjoin p gs) (sym (none-after p q fs (omega (arith, at, h)))) tt
      | inr some ↦ adjoin-start p q low end fs o (omega (arith, on, to)) (omega (arith, on, h)) some
    ]

-- a front of them too
pub between-cut : (p c bytes : ℕ) (fs : List Frame) → AreBetween p c fs → AreBetween p c (cut_to bytes fs)
between-cut p c bytes [] are = tt
between-cut p c bytes (f ∷ fs) are =
    let rest = between-cut p c (bytes - sent_size f) fs are.2 in
    by_test (ltb bytes (sent_size f))
    (λ e. rw e tt)
    (λ e. by_test (is_pad f) (λ t. rw (e, t) (are.0, are.1, tt)) (λ t. rw (e, t) (are.0, are.1, rest)))

pub adjoin-cut : (p bytes : ℕ) (fs : List Frame) → Adjoin p fs → Adjoin p (cut_to bytes fs)
adjoin-cut p bytes [] are = tt
adjoin-cut p bytes (f ∷ fs) are =
    let rest = adjoin-cut (end_of f) (bytes - sent_size f) fs are.1 in
    by_test (ltb bytes (sent_size f))
    (λ e. rw e tt)
    (λ e. by_test (is_pad f) (λ t. rw (e, t) (are.0, tt)) (λ t. rw (e, t) (are.0, rest)))
