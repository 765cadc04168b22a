-- Frames below a position go.
use Rattle.std.proofs.Common.{◌≡◌, ℕ, zero, suc, ◌+◌, ◌-◌, ◌*◌, ◌/◌, ◌%◌, ◌<◌, ◌≤◌, inl, inr, Bool, cond, leb, eqb, List, [], ◌∷◌, length, drop, refl, sym, ap, ap₂, subst, arith}
use Rattle.std.proofs.Math.Nat.{mul-le-mul_left}
use Rattle.std.specs.List.{insert}
use Rattle.std.specs.Prelude.{filter}
use Rattle.image_log.specs.Frame.{Frame, framed, end_of}
use Rattle.image_log.specs.Order.{InTerms, Ordered, begins_from, chain}
use Rattle.image_log.specs.Stored.{frame_at}
use Rattle.image_log.proofs.Tests.{by_test, gt_no, is_eq, is_ne, le_or, le_yes, is_le}

pub chain-within : (low end : ℕ) (fs : List Frame) → Ordered low end fs → low ≤ end → chain low fs ≤ end
chain-within low end [] o h = h
chain-within low end (f ∷ fs) o h =
    by_test (eqb f.position low) (λ e. rw e (chain-within (end_of f) end fs o.3 o.2)) (λ e. rw e h)

pub ordered_more : (low end more : ℕ) (fs : List Frame) → Ordered low end fs → end ≤ more → Ordered low more fs
ordered_more low end more [] o h = tt
ordered_more low end more (f ∷ fs) o h = (o.0, o.1, omega (arith, o.2), ordered_more (end_of f) end more fs o.3 h)

pub ordered_lower : (less low end : ℕ) (fs : List Frame) → Ordered low end fs → less ≤ low → Ordered less end fs
ordered_lower less low end [] o h = tt
ordered_lower less low end (f ∷ fs) o h = (omega (arith, o.0), o.1, o.2, o.3)

-- all frames stay where none begins below
pub kept_all : (l low end : ℕ) (fs : List Frame) → Ordered low end fs → l ≤ low → filter (begins_from l) fs ≡ fs
kept_all l low end [] o h = refl
kept_all l low end (f ∷ fs) o h = rw (le_yes l f.position (omega (arith, o.0))) (ap (λ gs. f ∷ gs) (kept_all l (end_of f) end fs o.3 (omega (arith, o.0))))

pub kept_rest : (l low end : ℕ) (fs : List Frame) → Ordered low end fs → (0 < length fs → l ≤ (frame_at fs 0).position) → filter (begins_from l) fs ≡ fs
kept_rest l low end [] o h = refl
kept_rest l low end (f ∷ fs) o h =
    let first : l ≤ f.position = h (omega arith) in
    rw (le_yes l f.position first) (ap (λ gs. f ∷ gs) (kept_all l (end_of f) end fs o.3 (omega (arith, first))))

-- the first frame, which begins below, goes
pub skip_first : (l : ℕ) (fs : List Frame) → 0 < length fs → (frame_at fs 0).position < l → filter (begins_from l) (drop 1 fs) ≡ filter (begins_from l) fs
skip_first l [] some h = absurd (omega arith)
skip_first l (f ∷ fs) some h = rw (gt_no l f.position h) refl

pub ordered_from : (l low end more : ℕ) (fs : List Frame) → Ordered low end fs → end ≤ more → Ordered l more (filter (begins_from l) fs)
ordered_from l low end more [] o h = tt
ordered_from l low end more (f ∷ fs) o h =
    by_test (leb l f.position)
    (λ e.
    let first = is_le l f.position e in
    let rest : filter (begins_from l) fs ≡ fs = kept_all l (end_of f) end fs o.3 (omega (arith, first)) in
    rw (e, rest) (first, o.1, omega (arith, o.2), ordered_more (end_of f) end more fs o.3 h))
    (λ e. rw e (ordered_from l (end_of f) end more fs o.3 h))

pub in_terms_from : (t l : ℕ) (fs : List Frame) → InTerms t fs → InTerms t (filter (begins_from l) fs)
in_terms_from t l [] i = tt
in_terms_from t l (f ∷ fs) i =
    let rest = in_terms_from t l fs i.1 in
    by_test (leb l f.position) (λ e. rw e (i.0, rest)) (λ e. rw e rest)

pub in_terms_put : (t p s at : ℕ) (bytes : List ℕ) (fs : List Frame) → InTerms t fs → p % t + s ≤ t → InTerms t (insert fs at (framed p s bytes))
in_terms_put t p s zero bytes fs i h = (h, i)
in_terms_put t p s (suc at) bytes [] i h = (h, tt)
in_terms_put t p s (suc at) bytes (f ∷ fs) i h = (i.0, in_terms_put t p s at bytes fs i.1 h)

-- the start of a later position's term is no lower
pub term_up : (t a b : ℕ) → 0 < t → a ≤ b → a - a % t ≤ b - b % t
term_up t a b some h =
    elim (le_or (a / t) (b / t)) [
      | inl le ↦ (let more : t * (a / t) ≤ t * (b / t) = mul-le-mul_left t le in omega (arith, more))
      | inr lt ↦ (let le : suc (b / t) ≤ a / t = omega arith in
          let more : t * suc (b / t) ≤ t * (a / t) = mul-le-mul_left t le in
          absurd (omega (arith, more)))
    ]

-- a frame that begins below the start of a term ends there at the latest
pub ends_there : (t p s b : ℕ) → 0 < t → p % t + s ≤ t → p < b - b % t → p + s ≤ b - b % t
ends_there t p s b some fit below =
    elim (le_or (suc (p / t)) (b / t)) [
      | inl le ↦ (let more : t * suc (p / t) ≤ t * (b / t) = mul-le-mul_left t le in omega (arith, more))
      | inr lt ↦ (let le : b / t ≤ p / t = omega arith in
          let more : t * (b / t) ≤ t * (p / t) = mul-le-mul_left t le in
          absurd (omega (arith, more)))
    ]

-- a chain that goes past a position which no frame crosses is also that of the frames from there on
pub chain-from : (t join l low end : ℕ) (fs : List Frame) → Ordered low end fs → InTerms t fs
    → ((p s : ℕ) → join ≤ p → p % t + s ≤ t → p < l → p + s ≤ l)
    → join ≤ low → low ≤ l → l ≤ chain low fs → chain low fs ≡ chain l (filter (begins_from l) fs)
chain-from t join l low end [] o i h j k m = omega (arith, k, m)
chain-from t join l low end (f ∷ fs) o i h j k m =
    by_test (eqb low l)
    (λ e.
    let at = is_eq low l e in
    ap₂ (λ (n : ℕ) (gs : List Frame). chain n gs) at (sym (kept_all l low end (f ∷ fs) o (omega (arith, at)))))
    (λ e.
    let less : low < l = (let ne = is_ne low l e in omega (arith, ne, k)) in
    by_test (eqb f.position low)
    (λ t1.
    let at = is_eq f.position low t1 in
    let past : l ≤ chain (end_of f) fs = subst (λ (b : Bool). l ≤ cond b (chain (end_of f) fs) low) t1 m in
    let ends : end_of f ≤ l = h f.position f.span (omega (arith, at, j)) i.0 (omega (arith, at, less)) in
    let rest = chain-from t join l (end_of f) end fs o.3 i.1 h (omega (arith, o.0, j)) ends past in
    rw (t1, gt_no l f.position (omega (arith, at, less))) rest)
    (λ t1.
    let past : l ≤ low = subst (λ (b : Bool). l ≤ cond b (chain (end_of f) fs) low) t1 m in
    absurd (omega (arith, past, less))))
