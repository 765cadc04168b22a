-- What a poll passes, and where it ends.
use Rattle.std.proofs.Common.{◌≡◌, ℕ, ◌-◌, ◌≤◌, inl, inr, Bool, true, false, cond, ◌||◌, eqb, List, [], ◌∷◌, None, Some, map, refl, sym, ap, ◌∙◌, subst, arith}
use Rattle.std.specs.List.{list_any}
use Rattle.std.specs.Prelude.{filter, Result, Ok, Err, IfOk, OnOk}
use Rattle.image_log.specs.Log.{Log}
use Rattle.image_log.specs.Frame.{Frame, end_of}
use Rattle.image_log.specs.Order.{Begins, Ordered, begins_at, begins_within, chain}
use Rattle.image_log.specs.Polling.{Poll, passes, polled, polled_frame, polled_from, whole_from}
use Rattle.image_log.specs.Reading.{Adjoin}
use Rattle.image_log.specs.Rebuilt.{Rebuilt}
use Rattle.log_pairs.specs.Pairs.{position_of}
use Rattle.log_pairs.specs.Polling.{Fetched, Polled, behind, counted, passed}
use Rattle.log_pairs.proofs.Polls.{passed_zero}
use Rattle.image_log.proofs.Between.{adjoin-from, none-after, none-from, start-above}
use Rattle.image_log.proofs.Orders.{chain-le}
use Rattle.image_log.proofs.Tests.{by_test, eq_yes, gt_no, is_eq, is_ne, le_yes, lt_yes}

-- ---- what is whole from a position on ends at the contiguous position

reaches-first : (p q low end : ℕ) (fs : List Frame) → Ordered low end fs → p ≤ low → q ≡ chain low fs → behind low (map polled_frame (filter (begins_within p q) fs)) ≡ q
reaches-first p q low end [] o h on = sym on
reaches-first p q low end (f ∷ fs) o h on =
    by_test (eqb f.position low)
    (λ e.
    let at = is_eq f.position low e in
    let further : q ≡ chain (end_of f) fs = subst (λ (b : Bool). q ≡ cond b (chain (end_of f) fs) low) e on in
    let far = chain-le (end_of f) fs in
    let rest = reaches-first p q (end_of f) end fs o.3 (omega (arith, o.0, h)) further in
    rw (le_yes p f.position (omega (arith, at, h)), lt_yes f.position q (omega (arith, further, far, o.1))) rest)
    (λ e.
    let here : q ≡ low = subst (λ (b : Bool). q ≡ cond b (chain (end_of f) fs) low) e on in
    subst (λ (gs : List Frame). behind low (map polled_frame gs) ≡ q) (sym (none-from p q low end (f ∷ fs) o (omega (arith, here)))) (sym here))

reaches-start : (p q low end : ℕ) (fs : List Frame) → Ordered low end fs → q ≡ chain low fs → p ≤ q → list_any (begins_at p) fs ≡ true → behind p (map polled_frame (filter (begins_within p q) fs)) ≡ q
reaches-start p q low end [] o on to h = absurd (cc)
reaches-start p q low end (f ∷ fs) o on to h =
    by_test (eqb f.position low)
    (λ l.
    let first = is_eq f.position low l in
    let further : q ≡ chain (end_of f) fs = subst (λ (b : Bool). q ≡ cond b (chain (end_of f) fs) low) l on in
    by_test (eqb f.position p)
    (λ e.
    let at = is_eq f.position p e in
    let all = reaches-first p q low end (f ∷ fs) o (omega (arith, at, first)) on in
    subst (λ (k : ℕ). behind k (map polled_frame (filter (begins_within p q) (f ∷ fs))) ≡ q) (sym first ∙ at) all)
    (λ e.
    let some : list_any (begins_at p) fs ≡ true = subst (λ (b : Bool). (b || list_any (begins_at p) fs) ≡ true) e h in
    let above = start-above p (end_of f) end fs o.3 some in
    rw (gt_no p f.position (omega (arith, above, o.1))) (reaches-start p q (end_of f) end fs o.3 further to some)))
    (λ l.
    let here : q ≡ low = subst (λ (b : Bool). q ≡ cond b (chain (end_of f) fs) low) l on in
    let off = is_ne f.position low l in
    by_test (eqb f.position p)
    (λ e. let at = is_eq f.position p e in absurd (off (omega (arith, at, here, to, o.0))))
    (λ e.
    let some : list_any (begins_at p) fs ≡ true = subst (λ (b : Bool). (b || list_any (begins_at p) fs) ≡ true) e h in
    let above = start-above p (end_of f) end fs o.3 some in
    absurd (omega (arith, above, here, to, o.0, o.1))))

reaches : (p c low end : ℕ) (fs : List Frame) → Ordered low end fs → c ≡ chain low fs → p ≤ c → Begins c fs p → behind p (map polled_frame (filter (begins_within p c) fs)) ≡ c
reaches p c low end fs o on to start = elim start [
  | inl at ↦ subst (λ (gs : List Frame). behind p (map polled_frame gs) ≡ c) (sym (none-after p c fs (omega (arith, at)))) at
  | inr some ↦ reaches-start p c low end fs o on to some
]

-- ---- the front of it that a poll passes

behind-le : (p : ℕ) (fs : List Frame) → Adjoin p fs → p ≤ behind p (map polled_frame fs)
behind-le p [] are = omega arith
behind-le p (f ∷ fs) are = let rest = behind-le (end_of f) fs are.1 in omega (arith, rest, are.0)

any-filter : (t u : Frame → Bool) (fs : List Frame) → list_any t (filter u fs) ≡ true → list_any t fs ≡ true
any-filter t u [] h = h
any-filter t u (f ∷ fs) h =
    by_test (t f)
    (λ e. rw e refl)
    (λ e.
    let rest : list_any t (filter u fs) ≡ true = by_test (u f)
    (λ k.
    let all : list_any t (f ∷ filter u fs) ≡ true = subst (λ (b : Bool). list_any t (cond b (f ∷ filter u fs) (filter u fs)) ≡ true) k h in
    subst (λ (b : Bool). (b || list_any t (filter u fs)) ≡ true) e all)
    (λ k. subst (λ (b : Bool). list_any t (cond b (f ∷ filter u fs) (filter u fs)) ≡ true) k h) in
    rw e (any-filter t u fs rest))

abbrev pub EndsWithin : ℕ → ℕ → List Frame → ℕ → Type 0
EndsWithin p c fs q = (p ≤ q) × (q ≤ c) × Begins c fs q

passed-more : (limit : ℕ) (f : Polled) (fs : List Polled) → eqb limit 0 ≡ false → passed limit (f ∷ fs) ≡ f ∷ passed (limit - counted f) fs
passed-more limit f fs z = rw z refl

passed-ends : (p c limit : ℕ) (fs : List Frame) → Adjoin p fs → behind p (map polled_frame fs) ≡ c
    → EndsWithin p c fs (behind p (passed limit (map polled_frame fs)))
passed-ends p c limit [] are e = (omega arith, omega (arith, e), inl e)
passed-ends p c limit (f ∷ fs) are e =
    let far = behind-le p (f ∷ fs) are in
    let read : List Polled = map polled_frame fs in
    let n : ℕ = limit - counted (polled_frame f) in
    let rest = passed-ends (end_of f) c n fs are.1 e in
    by_test (eqb limit 0)
    (λ z.
    let none : EndsWithin p c (f ∷ fs) p = (omega arith, omega (arith, far, e), inr (rw (eq_yes f.position p are.0) refl)) in
    subst (λ (gs : List Polled). EndsWithin p c (f ∷ fs) (behind p gs)) (sym (passed_zero limit (polled_frame f ∷ read) (is_eq limit 0 z))) none)
    (λ z.
    let q : ℕ = behind (end_of f) (passed n read) in
    let start : Begins c (f ∷ fs) q = elim rest.2 [
      | inl at ↦ inl at
      | inr some ↦ inr (by_test (eqb f.position q) (λ b. rw b refl) (λ b. rw b some))
    ] in
    let up = rest.0 in
    let place = are.0 in
    let more : EndsWithin p c (f ∷ fs) q = (omega (arith, up, place), rest.1, start) in
    subst (λ (gs : List Polled). EndsWithin p c (f ∷ fs) (behind p gs)) (sym (passed-more limit (polled_frame f) read z)) more)

pub poll_ends : (p c low end limit : ℕ) (fs : List Frame) → Ordered low end fs → c ≡ chain low fs → p ≤ c → Begins c fs p
    → EndsWithin p c fs (behind p (passed limit (map polled_frame (filter (begins_within p c) fs))))
poll_ends p c low end limit fs o on to start =
    let run : List Frame = filter (begins_within p c) fs in
    let ends = passed-ends p c limit run (adjoin-from p c c low end fs o on to (omega arith) start) (reaches p c low end fs o on to start) in (
      ends.0,
      ends.1,
      elim ends.2 [
        | inl at ↦ inl at
        | inr some ↦ inr (any-filter (begins_at (behind p (passed limit (map polled_frame run)))) (begins_within p c) fs some)
      ],
    )

-- ---- by whether the subscription reads

pub polled_some : (r : Rebuilt) (subscription limit at : ℕ) → position_of r.pairs subscription ≡ Some at
    → polled r subscription limit ≡ passes r subscription at (passed limit (map polled_frame (whole_from r at)))
unfolding polled
polled_some r subscription limit at e = ap (polled_from r subscription limit) e

abbrev nothing : Rebuilt → Poll
nothing r = record { fragments = []; after = r }

pub polled_none : (r : Rebuilt) (subscription limit : ℕ) → position_of r.pairs subscription ≡ None → polled r subscription limit ≡ nothing r
unfolding polled
polled_none r subscription limit e = ap (polled_from r subscription limit) e

-- without a pair there is nothing to give, and nothing is passed
pub new_gives : {E : Type 0} (r : Rebuilt) (subscription limit : ℕ) (given : Result (List Fetched) E) → position_of r.pairs subscription ≡ None
    → IfOk given (λ copies. copies ≡ []) → IfOk given (λ copies. copies ≡ (polled r subscription limit).fragments)
new_gives r subscription limit (Ok copies) is new = new ∙ ap (λ (p : Poll). p.fragments) (sym (polled_none r subscription limit is))
new_gives r subscription limit (Err fault) is new = tt

pub new_passes : {E : Type 0} (l : Log) (subscription limit : ℕ) (given : Result (List Fetched) E) → position_of l.rebuilt.pairs subscription ≡ None
    → OnOk given (l ≡ record l { rebuilt = (polled l.rebuilt subscription limit).after })
new_passes l subscription limit (Ok copies) is =
    ap (λ (p : Poll). let x : Log = record l { rebuilt = p.after } in x) (sym (polled_none l.rebuilt subscription limit is))
new_passes l subscription limit (Err fault) is = tt
