-- What a channel states of its log's sizes is sound, and so are the sizes of each log that is made by sound defaults.
use Rattle.std.proofs.Common.{◌≡◌, ℕ, zero, suc, ◌+◌, ◌*◌, ◌/◌, ◌%◌, ◌^◌, ◌<◌, ◌≤◌, ◌==◌, true, Option, Some, None, nat_le, refl, arith, count_ones}
use Rattle.std.specs.Int.{is_power_of_two}
use Rattle.std.specs.Int.Count.{ones_step}
use Rattle.std.specs.Prelude.{unwrap_or}
use Rattle.std.proofs.Math.Nat.{mul-add, two-pow-succ}
use Rattle.std.proofs.lemmas.Bool.{cond_both, eqb-true, leb-true}
use Rattle.std.proofs.lemmas.Nat.{pow_pos, zero_from_ones}
use Rattle.driver_core.specs.Soundness.{AreSizes}
use Rattle.channel_uri.specs.Channel.{Shape}
use Rattle.channel_uri.specs.Number.{◌>>?◌}
use Rattle.channel_uri.specs.Parameters.{stated_mtu_of, stated_term_length_of}
use Rattle.channel_uri.specs.Quantity.{mtu_from, mtu_of, size_of, term_length_from, term_length_of}
use Rattle.stream_registry.specs.declared.measures.Measures.{Measures}
use Rattle.stream_registry.specs.Measures.{measures_of}

-- ---- a power of two is whole pages, where it is one or more

-- the lowest digit of a power of two is not set, but for that of 1
halved : (n : ℕ) → count_ones n ≡ 1 → 2 ≤ n → (n % 2 ≡ 0) × (count_ones (n / 2) ≡ 1)
halved n one some = by (n % 2) refl
  where
    step : count_ones n ≡ n % 2 + count_ones (n / 2)
    step = ones_step n

    by : (digit : ℕ) → n % 2 ≡ digit → (n % 2 ≡ 0) × (count_ones (n / 2) ≡ 1)
    by zero is = (is, omega (arith, step, one, is))
    by (suc zero) is =
        let none : n / 2 ≡ 0 = zero_from_ones (n / 2) (omega (arith, step, one, is)) in
        absurd (omega (arith, none, some))
    by (suc (suc digit)) is = absurd (omega (arith, is))

doubled : (k n m : ℕ) → n % 2 ≡ 0 → n / 2 ≡ m * 2 ^ k → n ≡ m * 2 ^ suc k
doubled k n m even half = rw (two-pow-succ k, mul-add m (2 ^ k) (2 ^ k)) (omega (arith, even, half))

times_power : (k n : ℕ) → count_ones n ≡ 1 → 2 ^ k ≤ n → (m : ℕ) × (n ≡ m * 2 ^ k)
times_power zero n one low = (n, omega arith)
times_power (suc k) n one low =
    let twice : 2 ^ suc k ≡ 2 ^ k + 2 ^ k = two-pow-succ k in
    let some : 0 < 2 ^ k = pow_pos k in
    let half = halved n one (omega (arith, low, twice, some)) in
    let rest = times_power k (n / 2) half.1 (omega (arith, low, twice)) in
    (rest.0, doubled k n rest.0 half.0 rest.1)

whole_pages : (n : ℕ) → is_power_of_two n ≡ true → 65536 ≤ n → n % 4096 ≡ 0
whole_pages n power low =
    let times = times_power 12 n (eqb-true (count_ones n) 1 power) (omega (arith, low)) in
    let is : n ≡ times.0 * 4096 = times.1 in
    omega (arith, is)

-- ---- what is stated

-- it holds of what is read, where something is
abbrev pub Holds : {A : Type 0} → (A → Type 0) → Option A → Type 0
Holds P None = Unit {0}
Holds P (Some x) = P x

holds_of_next : {A : Type 0} (P : ℕ → Type 0) (read : Option A) (next : A → Option ℕ) → ((x : A) → Holds P (next x)) →
    Holds P (read >>? next)
holds_of_next P None next each = tt
holds_of_next P (Some x) next each = each x

holds_or_default : (P : ℕ → Type 0) (read : Option ℕ) (default : ℕ) → Holds P read → P default →
    P (unwrap_or read default)
holds_or_default P None default stated other = other
holds_or_default P (Some n) default stated other = stated

abbrev pub IsMtu : ℕ → Type 0
IsMtu n = (64 ≤ n) × (n ≤ 65504) × (n % 32 ≡ 0)

abbrev pub IsTermLength : ℕ → Type 0
IsTermLength n = (65536 ≤ n) × (n ≤ 16777216) × (n % 4096 ≡ 0)

pub mtu_sound : (size : ℕ) → Holds IsMtu (mtu_from size)
unfolding mtu_from
mtu_sound size =
    cond_both (nat_le 64 size) _ _ (Holds IsMtu)
    (λ low.
    cond_both (nat_le size 65504) _ _ (Holds IsMtu)
    (λ high.
    cond_both (size % 32 == 0) _ _ (Holds IsMtu)
    (λ whole. (leb-true 64 size low, leb-true size 65504 high, eqb-true (size % 32) 0 whole))
    (λ e. tt))
    (λ e. tt))
    (λ e. tt)

pub term_length_sound : (size : ℕ) → Holds IsTermLength (term_length_from size)
unfolding term_length_from
term_length_sound size =
    cond_both (nat_le 65536 size) _ _ (Holds IsTermLength)
    (λ low.
    cond_both (nat_le size 16777216) _ _ (Holds IsTermLength)
    (λ high.
    cond_both (is_power_of_two size) _ _ (Holds IsTermLength)
    (λ power.
    (leb-true 65536 size low, leb-true size 16777216 high, whole_pages size power (leb-true 65536 size low)))
    (λ e. tt))
    (λ e. tt))
    (λ e. tt)

mtu_stated : (channel : Shape) → Holds IsMtu (stated_mtu_of channel)
unfolding stated_mtu_of mtu_of
mtu_stated channel = holds_of_next IsMtu _ _ (λ text. holds_of_next IsMtu (size_of text) mtu_from mtu_sound)

term_length_stated : (channel : Shape) → Holds IsTermLength (stated_term_length_of channel)
unfolding stated_term_length_of term_length_of
term_length_stated channel =
    holds_of_next IsTermLength _ _
    (λ text. holds_of_next IsTermLength (size_of text) term_length_from term_length_sound)

-- ---- a log that is made

pub sizes_of_made : (defaults : Measures) (channel : Shape) → AreSizes defaults →
    AreSizes (measures_of defaults channel)
unfolding measures_of
sizes_of_made defaults channel sound =
    let term =
    holds_or_default IsTermLength (stated_term_length_of channel) defaults.term_length (term_length_stated channel)
    (sound.term_low, sound.term_high, sound.term_whole) in
    let mtu =
    holds_or_default IsMtu (stated_mtu_of channel) defaults.mtu (mtu_stated channel)
    (sound.mtu_low, sound.mtu_high, sound.mtu_aligned)
    in
    record {
      term_low = term.0;
      term_high = term.1;
      term_whole = term.2;
      mtu_low = mtu.0;
      mtu_high = mtu.1;
      mtu_aligned = mtu.2;
    }
