-- Tests of numbers, and the cases of a test.
use Rattle.std.proofs.Common.{◌≡◌, ℕ, ◌<◌, ◌≤◌, ◌≢◌, Bool, true, false, ◌||◌, ◌⊎◌, inl, inr, ltb, leb, eqb, max, min, refl, arith}
use Rattle.std.proofs.lemmas.Bool.Decides.{nat_tests}

-- by a test's answer
pub by_test : {X : Type 0} (t : Bool) → (t ≡ true → X) → (t ≡ false → X) → X
by_test true y n = y refl
by_test false y n = n refl

pub lt_yes : (a b : ℕ) → a < b → ltb a b ≡ true
lt_yes a b h = grind (arith, nat_tests)

pub lt_no : (a b : ℕ) → b ≤ a → ltb a b ≡ false
lt_no a b h = grind (arith, nat_tests)

pub is_lt : (a b : ℕ) → ltb a b ≡ true → a < b
is_lt a b h = grind (arith, nat_tests)

pub is_ge : (a b : ℕ) → ltb a b ≡ false → b ≤ a
is_ge a b h = grind (arith, nat_tests)

pub le_yes : (a b : ℕ) → a ≤ b → leb a b ≡ true
le_yes a b h = grind (arith, nat_tests)

pub gt_no : (a b : ℕ) → b < a → leb a b ≡ false
gt_no a b h = grind (arith, nat_tests)

pub is_le : (a b : ℕ) → leb a b ≡ true → a ≤ b
is_le a b h = grind (arith, nat_tests)

pub le_no : (a b : ℕ) → leb a b ≡ false → b < a
le_no a b h = grind (arith, nat_tests)

pub le_or : (a b : ℕ) → (a ≤ b) ⊎ (b < a)
le_or a b = by_test (leb a b) (λ e. inl (is_le a b e)) (λ e. inr (le_no a b e))

pub eq_yes : (a b : ℕ) → a ≡ b → eqb a b ≡ true
eq_yes a b h = grind (arith, nat_tests)

pub eq_no : (a b : ℕ) → a ≢ b → eqb a b ≡ false
eq_no a b h = grind (arith, nat_tests)

pub is_eq : (a b : ℕ) → eqb a b ≡ true → a ≡ b
is_eq a b h = grind (arith, nat_tests)

pub is_ne : (a b : ℕ) → eqb a b ≡ false → a ≢ b
is_ne a b h = grind (arith, nat_tests)

-- ranges that meet, and ranges of which one ends before the other begins
pub meet_yes : (p e a b : ℕ) → p < e → a < b → a < e → p < b → ltb (max p a) (min e b) ≡ true
meet_yes p e a b h k l m = grind (arith, nat_tests)

pub meet_behind : (p e a b : ℕ) → e ≤ a → ltb (max p a) (min e b) ≡ false
meet_behind p e a b h = grind (arith, nat_tests)

pub meet_before : (p e a b : ℕ) → b ≤ p → ltb (max p a) (min e b) ≡ false
meet_before p e a b h = grind (arith, nat_tests)

pub apart_before : (p e a b : ℕ) → p < e → a < p → ltb (max p a) (min e b) ≡ false → b ≤ p
apart_before p e a b h k l = grind (arith, nat_tests)

pub apart_behind : (p e a b : ℕ) → p < e → a < b → p ≤ a → ltb (max p a) (min e b) ≡ false → e ≤ a
apart_behind p e a b h k l m = grind (arith, nat_tests)

-- neither of two
pub or_first : (a b : Bool) → (a || b) ≡ false → a ≡ false
or_first true b h = h
or_first false b h = refl

pub or_second : (a b : Bool) → (a || b) ≡ false → b ≡ false
or_second true b h = absurd (cc)
or_second false b h = h

pub or_of : (a b : Bool) → a ≡ false → b ≡ false → (a || b) ≡ false
or_of true b h k = h
or_of false b h k = k
