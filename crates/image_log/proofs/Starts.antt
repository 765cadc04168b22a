-- Pairs stand where frames begin.
use Rattle.std.proofs.Common.{◌≡◌, ℕ, zero, suc, ◌≤◌, inl, inr, Bool, true, ◌||◌, eqb, leb, List, [], ◌∷◌, length, refl, sym, ◌∙◌, subst, arith}
use Rattle.std.specs.List.{list_any, insert}
use Rattle.std.specs.Prelude.{filter}
use Rattle.image_log.specs.Frame.{Frame, framed}
use Rattle.image_log.specs.Order.{Begins, begins_at, begins_from}
use Rattle.image_log.specs.Pairs.{AreStarts, AreWithin, IsWithin}
use Rattle.log_pairs.specs.declared.pair.Pair.{Pair}
use Rattle.log_pairs.proofs.Pairing.{at_both}
use Rattle.image_log.proofs.Tests.{by_test, eq_yes, is_eq, le_yes}

-- ---- frames that come and go

any_here : (t : Frame → Bool) (fs : List Frame) (i : ℕ) (g : Frame) → i ≤ length fs → t g ≡ true → list_any t (insert fs i g) ≡ true
any_here t fs zero g h e = rw e refl
any_here t [] (suc i) g h e = absurd (omega arith)
any_here t (f ∷ fs) (suc i) g h e = by_test (t f) (λ b. rw b refl) (λ b. rw b (any_here t fs i g (omega arith) e))

any_more : (t : Frame → Bool) (fs : List Frame) (i : ℕ) (g : Frame) → list_any t fs ≡ true → list_any t (insert fs i g) ≡ true
any_more t fs zero g h = by_test (t g) (λ b. rw b refl) (λ b. rw b h)
any_more t [] (suc i) g h = absurd (cc)
any_more t (f ∷ fs) (suc i) g h =
    by_test (t f) (λ b. rw b refl) (λ b. rw b (any_more t fs i g (subst (λ (x : Bool). (x || list_any t fs) ≡ true) b h)))

-- a frame that begins at the position itself, put in
pub begins_here : (c end p s i q : ℕ) (bytes : List ℕ) (fs : List Frame) → i ≤ length fs → p ≡ c → Begins c fs q → Begins end (insert fs i (framed p s bytes)) q
begins_here c end p s i q bytes fs within here b = elim b [
  | inl e ↦ inr (any_here (begins_at q) fs i (framed p s bytes) within (eq_yes p q (here ∙ sym e)))
  | inr some ↦ inr (any_more (begins_at q) fs i (framed p s bytes) some)
]

pub begins_more : (c i q : ℕ) (g : Frame) (fs : List Frame) → Begins c fs q → Begins c (insert fs i g) q
begins_more c i q g fs b = elim b [ inl e ↦ inl e | inr some ↦ inr (any_more (begins_at q) fs i g some) ]

any_kept : (q l : ℕ) (fs : List Frame) → l ≤ q → list_any (begins_at q) fs ≡ true → list_any (begins_at q) (filter (begins_from l) fs) ≡ true
any_kept q l [] h a = absurd (cc)
any_kept q l (f ∷ fs) h a =
    by_test (eqb f.position q)
    (λ e. let at = is_eq f.position q e in rw (le_yes l f.position (omega (arith, at, h)), e) refl)
    (λ e.
    let some : list_any (begins_at q) fs ≡ true = subst (λ (b : Bool). (b || list_any (begins_at q) fs) ≡ true) e a in
    by_test (leb l f.position) (λ t. rw (t, e) (any_kept q l fs h some)) (λ t. rw t (any_kept q l fs h some)))

-- frames below go
pub begins_kept : (c l q : ℕ) (fs : List Frame) → l ≤ q → Begins c fs q → Begins c (filter (begins_from l) fs) q
begins_kept c l q fs h b = elim b [ inl e ↦ inl e | inr some ↦ inr (any_kept q l fs h some) ]

-- ---- all pairs

pub starts_by : (c d from to : ℕ) (fs gs : List Frame) (pairs : List Pair) → ((q : ℕ) → from ≤ q → Begins c fs q → Begins d gs q)
    → AreWithin from to pairs → AreStarts c fs pairs → AreStarts d gs pairs
starts_by c d from to fs gs pairs go within are =
    at_both (IsWithin from to) (Begins c fs) (Begins d gs) (λ q near begins. go q near.0 begins) pairs within are
