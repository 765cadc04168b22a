-- A SETUP that makes an image joins at the start of a frame, below the greatest position.
use Rattle.std.proofs.Common.{◌≡◌, ℕ, ℤ, pos, negsuc, zero, suc, ◌+◌, ◌-◌, ◌*◌, ◌/◌, ◌%◌, ◌^◌, ◌<◌, ◌≤◌, ◌==◌, Bool, true, false, cond, Option, Some, None, nat_le, nat_lt, refl, subst, rules, arith, count_ones}
use Rattle.std.specs.Int.{is_power_of_two}
use Rattle.std.specs.Int.Count.{ones_step}
use Rattle.std.proofs.Math.Nat.{mul-add, two-pow-succ, mul-le-mul_right}
use Rattle.std.proofs.lemmas.Bool.{eqb-true, leb-true, ltb-true}
use Rattle.std.proofs.lemmas.Nat.{pow_pos, zero_from_ones}
use Rattle.frame_codec.specs.declared.join.Join.{Join}
use Rattle.frame_codec.specs.Join.{◌>>?◌, term_length_of, mtu_of, is_offset, is_recent, join_of, IsJoin, JoinsAreSound}
use Rattle.frame_codec.specs.Position.{position_of, terms_before}

some_is : {A : Type 0} (x y : A) (o : Option A) → o ≡ Some x → o ≡ Some y → x ≡ y
some_is x y o first second = cc

next_some : {A B : Type 0} (o : Option A) (next : A → Option B) (y : B) → o >>? next ≡ Some y → (x : A) × (o ≡ Some x) × (next x ≡ Some y)
next_some None next y e = absurd cc
next_some (Some x) next y e = (x, refl, e)

kept_if : {A : Type 0} (b : Bool) (o : Option A) (y : A) → cond b o None ≡ Some y → (b ≡ true) × (o ≡ Some y)
kept_if true o y e = (refl, e)
kept_if false o y e = absurd cc

-- ---- a power of two is whole pages, where it is one or more

halved : (n : ℕ) → count_ones n ≡ 1 → 2 ≤ n → (n % 2 ≡ 0) × (count_ones (n / 2) ≡ 1)
halved n one some = by (n % 2) refl
  where
    step : count_ones n ≡ n % 2 + count_ones (n / 2)
    step = ones_step n

    by : (digit : ℕ) → n % 2 ≡ digit → (n % 2 ≡ 0) × (count_ones (n / 2) ≡ 1)
    by zero is = (is, omega (arith, step, one, is))
    by (suc zero) is =
        let none : n / 2 ≡ 0 = zero_from_ones (n / 2) (omega (arith, step, one, is)) in
        absurd (omega (arith, none, some))
    by (suc (suc digit)) is = absurd (omega (arith, is))

doubled : (k n m : ℕ) → n % 2 ≡ 0 → n / 2 ≡ m * 2 ^ k → n ≡ m * 2 ^ suc k
doubled k n m even half = rw (two-pow-succ k, mul-add m (2 ^ k) (2 ^ k)) (omega (arith, even, half))

times_power : (k n : ℕ) → count_ones n ≡ 1 → 2 ^ k ≤ n → (m : ℕ) × (n ≡ m * 2 ^ k)
times_power zero n one low = (n, omega arith)
times_power (suc k) n one low =
    let twice : 2 ^ suc k ≡ 2 ^ k + 2 ^ k = two-pow-succ k in
    let some : 0 < 2 ^ k = pow_pos k in
    let half = halved n one (omega (arith, low, twice, some)) in
    let rest = times_power k (n / 2) half.1 (omega (arith, low, twice)) in
    (rest.0, doubled k n rest.0 half.0 rest.1)

whole_pages : (n : ℕ) → is_power_of_two n ≡ true → 65536 ≤ n → n % 4096 ≡ 0
whole_pages n power low =
    let times = times_power 12 n (eqb-true (count_ones n) 1 power) (omega (arith, low)) in
    let is : n ≡ times.0 * 4096 = times.1 in
    omega (arith, is)

-- ---- the sizes

record IsTerm (size : ℕ) : Type 0 where
  pub low : 65536 ≤ size
  pub high : size ≤ 16777216
  pub whole : size % 4096 ≡ 0

term_is : (stated : ℤ) (size : ℕ) → term_length_of stated ≡ Some size → IsTerm size
unfolding term_length_of
term_is (negsuc n) size e = absurd cc
term_is (pos n) size e =
    let low = kept_if (nat_le 65536 n) _ size e in
    let high = kept_if (nat_le n 16777216) _ size low.1 in
    let power = kept_if (is_power_of_two n) _ size high.1 in
    subst IsTerm (some_is n size _ refl power.1)
    (record { low = leb-true _ _ low.0; high = leb-true _ _ high.0; whole = whole_pages n power.0 (leb-true _ _ low.0) })

record IsMtu (size : ℕ) : Type 0 where
  pub low : 64 ≤ size
  pub high : size ≤ 65504
  pub aligned : size % 32 ≡ 0

mtu_is : (stated : ℤ) (size : ℕ) → mtu_of stated ≡ Some size → IsMtu size
unfolding mtu_of
mtu_is (negsuc n) size e = absurd cc
mtu_is (pos n) size e =
    let low = kept_if (nat_le 64 n) _ size e in
    let high = kept_if (nat_le n 65504) _ size low.1 in
    let whole = kept_if (n % 32 == 0) _ size high.1 in
    subst IsMtu (some_is n size _ refl whole.1)
    (record { low = leb-true _ _ low.0; high = leb-true _ _ high.0; aligned = eqb-true _ _ whole.0 })

-- ---- the position

words : (terms pages size : ℕ) → size ≡ pages * 32 → terms * size ≡ terms * pages * 32
words terms pages size is = rw is (search rules)

aligned_sum : (terms size offset : ℕ) → size % 32 ≡ 0 → offset % 32 ≡ 0 → (terms * size + offset) % 32 ≡ 0
aligned_sum terms size offset whole even =
    let parts : size ≡ size / 32 * 32 = omega (arith, whole) in
    let product : terms * size ≡ terms * (size / 32) * 32 = words terms (size / 32) size parts in
    omega (arith, product, even)

below_end : (terms size offset : ℕ) → terms < 2 ^ 31 → offset < size → terms * size + offset < size * 2 ^ 31
below_end terms size offset few inside =
    let low : terms * size ≤ (2 ^ 31 - 1) * size = mul-le-mul_right size (omega (arith, few)) in
    omega (arith, low, inside)

offset_is : (aligned : Bool) (offset size : ℕ) → (offset % 32 == 0) ≡ aligned → cond aligned (nat_lt offset size) false ≡ true → (offset % 32 ≡ 0) × (offset < size)
offset_is true offset size is e = (eqb-true _ _ is, ltb-true _ _ e)
offset_is false offset size is e = absurd cc

pub joins_are_sound : JoinsAreSound
unfolding join_of position_of
joins_are_sound setup join e =
    let size = next_some (term_length_of setup.term_length) _ join e in
    let mtu = next_some (mtu_of setup.mtu) _ join size.2 in
    let inside = kept_if (is_offset setup.term_offset size.0) _ join mtu.2 in
    let recent = kept_if (is_recent setup) _ join inside.1 in
    let term = term_is setup.term_length size.0 size.1 in
    let datagram = mtu_is setup.mtu mtu.0 mtu.1 in
    let offset = offset_is (setup.term_offset % 32 == 0) setup.term_offset size.0 refl inside.0 in
    let terms : ℕ = terms_before setup.initial_term_id setup.active_term_id in
    let made : Join = record { position = terms * size.0 + setup.term_offset; term_length = size.0; mtu = mtu.0 } in
    subst IsJoin (some_is made join _ refl recent.1)
    (record {
      aligned = aligned_sum terms size.0 setup.term_offset (omega (arith, term.whole)) offset.0;
      below = below_end terms size.0 setup.term_offset (ltb-true _ _ recent.0) offset.1;
      term_low = term.low;
      term_high = term.high;
      term_whole = term.whole;
      mtu_low = datagram.low;
      mtu_high = datagram.high;
      mtu_aligned = datagram.aligned;
    })
