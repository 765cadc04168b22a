-- A field that is read is the field that was written, and what was written is read again.
use Rattle.std.proofs.Common.{◌≡◌, ℕ, ℤ, ◌+◌, ◌%◌, ◌^◌, ◌<◌, ◌≤◌, Bool, true, false, cond, eqb, ltb, List, [], ◌++◌, length, take, drop, Option, Some, None, ok_or, Result, Ok, Err, refl, sym, ap, subst, ◌∙◌, append_assoc, arith, ◌⊎◌, inl, inr}
use Rattle.std.specs.Prelude.{FitsSigned}
use Rattle.std.specs.Int.{Width, w32, w64, cast_signed, cast_unsigned}
use Rattle.std.proofs.lemmas.Bool.{eqb-true, ltb-false, le-ltb}
use Rattle.std.proofs.lemmas.List.{drop_at, take-append-drop, length-append, get_or-drop, nil_from_length, append-nil}
use Rattle.std.proofs.lemmas.Int.{of_z-to_z, to_z-of_z}
use Rattle.std.proofs.Math.Facts.{sfits_to_z, Fits-of_z}
use Rattle.byteorder.specs.Numbers.{little_from-lt, little_number-reads_back, length-bytes_low_first}
use Rattle.service_records.specs.declared.fault.RecordFault.{RecordFault}
use Rattle.service_records.specs.declared.fault.RecordFault.TheVariants.{Malformed}
use Rattle.service_records.specs.Gives.{◌>>=◌}
use Rattle.service_records.specs.Fields.{number_in, number_at, signed_at, ended, paired, number_bytes, signed_bytes, IsBytes}
use Rattle.service_records.proofs.Numbers.{bytes_of_number}

-- ---- steps that did not fail

-- a step that did not fail, with what it gave and what came after it
pub data Steps {A B : Type 0} (r : Result A RecordFault) (f : A → Result B RecordFault) (y : B) : Type 0 where
  step : (x : A) → r ≡ Ok x → f x ≡ Ok y → Steps r f y

pub bind_ok : {A B : Type 0} (r : Result A RecordFault) (f : A → Result B RecordFault) (y : B) → (r >>= f) ≡ Ok y → Steps r f y
bind_ok (Ok x) f y e = step x refl e
bind_ok (Err d) f y e = absurd cc

pub guard_ok : {A : Type 0} (b : Bool) (d : RecordFault) (x : Result A RecordFault) (y : A) → cond b (Err d) x ≡ Ok y → (b ≡ false) × (x ≡ Ok y)
guard_ok true d x y e = absurd cc
guard_ok false d x y e = (refl, e)

pub wanted_ok : {A : Type 0} (b : Bool) (d : RecordFault) (x : Result A RecordFault) (y : A) → cond b x (Err d) ≡ Ok y → (b ≡ true) × (x ≡ Ok y)
wanted_ok true d x y e = (refl, e)
wanted_ok false d x y e = absurd cc

-- a test that went one way or the other
pub chosen : {A : Type 0} (b : Bool) (x y : Result A RecordFault) (z : A) → cond b x y ≡ Ok z → ((b ≡ true) × (x ≡ Ok z)) ⊎ ((b ≡ false) × (y ≡ Ok z))
chosen true x y z e = inl (refl, e)
chosen false x y z e = inr (refl, e)

abbrev done : {A : Type 0} → A → Result A RecordFault
done x = Ok x

pub ok_is : {A : Type 0} (x y : A) → done x ≡ done y → x ≡ y
ok_is x y e = cc

pub was_some : {A : Type 0} (o : Option A) (fault : RecordFault) (x : A) → ok_or o fault ≡ Ok x → o ≡ Some x
was_some None fault x e = absurd cc
was_some (Some y) fault x e = ap (λ z. Some z) (ok_is y x e)

-- what holds of each value that a step could give holds of the one that it gave
pub made_from : {A B : Type 0} (r : Result A RecordFault) (make : A → B) (P : B → Type 0) (y : B) → ((x : A) → r ≡ Ok x → P (make x)) → (r >>= λ x. Ok (make x)) ≡ Ok y → P y
made_from r make P y each e =
    elim (bind_ok r (λ x. Ok (make x)) y e) [
      | step x is made ↦ subst P (ok_is (make x) y made) (each x is)
    ]

-- ---- what a reader took from the front

pub record Takes (bytes front rest : List ℕ) : Type 0 where
  pub parts : bytes ≡ front ++ rest
  pub rest_fits : IsBytes rest

pub Takes-then : (a x b y c : List ℕ) → Takes a x b → Takes b y c → Takes a (x ++ y) c
Takes-then a x b y c p q = record { parts = p.parts ∙ ap (λ (t : List ℕ). x ++ t) q.parts ∙ sym (append_assoc x y c); rest_fits = q.rest_fits }

pub IsBytes-drop : (n : ℕ) (bytes : List ℕ) → IsBytes bytes → IsBytes (drop n bytes)
IsBytes-drop n bytes h i = rw get_or-drop (h (n + i))

-- ---- numbers

pub length_number_bytes : (n x : ℕ) → length (number_bytes n x) ≡ n
unfolding number_bytes
length_number_bytes n x = length-bytes_low_first 0 n x

pub length_of_body : (kind : ℕ) (fields tail : List ℕ) → length (number_bytes 4 kind ++ (fields ++ tail)) ≡ 4 + length fields + length tail
length_of_body kind fields tail = omega (arith, length-append (number_bytes 4 kind) (fields ++ tail), length-append fields tail, length_number_bytes 4 kind)

pub number_bytes_back : (n : ℕ) (bytes : List ℕ) → n ≤ length bytes → IsBytes bytes → number_bytes n (number_in n bytes) ≡ take n bytes
unfolding number_bytes number_in
number_bytes_back n bytes h fits = bytes_of_number n bytes h fits

number_below : (n : ℕ) (bytes : List ℕ) → IsBytes bytes → number_in n bytes < 256 ^ n
unfolding number_in
number_below n bytes fits = little_from-lt 0 n bytes fits

pub number_back : (n x : ℕ) (rest : List ℕ) → x < 256 ^ n → number_in n (number_bytes n x ++ rest) ≡ x
unfolding number_bytes number_in
number_back n x rest h = little_number-reads_back n x rest h

pub number_takes : (n : ℕ) (bytes : List ℕ) (x : ℕ × List ℕ) → IsBytes bytes → number_at n bytes ≡ Ok x → Takes bytes (number_bytes n x.0) x.1 × (x.0 < 256 ^ n)
number_takes n bytes x fits e =
    let g = guard_ok (ltb (length bytes) n) Malformed (Ok (number_in n bytes, drop n bytes)) x e in
    let long : n ≤ length bytes = ltb-false _ _ g.0 in
    let made : ℕ × List ℕ = (number_in n bytes, drop n bytes) in
    let parts : bytes ≡ number_bytes n (number_in n bytes) ++ drop n bytes = rw (number_bytes_back n bytes long fits) (sym (take-append-drop n bytes)) in
    subst (λ (y : ℕ × List ℕ). Takes bytes (number_bytes n y.0) y.1 × (y.0 < 256 ^ n)) (ok_is made x g.1) (record { parts = parts; rest_fits = IsBytes-drop n bytes fits }, number_below n bytes fits)

pub number_again : (n x : ℕ) (rest : List ℕ) → x < 256 ^ n → number_at n (number_bytes n x ++ rest) ≡ Ok (x, rest)
number_again n x rest h =
    let len = length_number_bytes n x in
    let long : ltb (length (number_bytes n x ++ rest)) n ≡ false = le-ltb _ _ (omega (arith, length-append (number_bytes n x) rest)) in
    rw (long, number_back n x rest h, drop_at (number_bytes n x) rest n len) refl

-- ---- signed numbers

-- a signed number of the width w in n bytes, where as many bits as these bytes have fit the width
signed_takes : (w : Width) (n : ℕ) → ((k : ℕ) → k < 256 ^ n → cast_unsigned w (cast_signed w k) ≡ k) → ((k : ℕ) → k < 256 ^ n → FitsSigned w (cast_signed w k)) → (bytes : List ℕ) (x : ℤ × List ℕ) → IsBytes bytes → signed_at w n bytes ≡ Ok x → Takes bytes (signed_bytes w n x.0) x.1 × FitsSigned w x.0
signed_takes w n back sound bytes x fits e =
    made_from (number_at n bytes) (λ k. (cast_signed w k.0, k.1)) (λ (y : ℤ × List ℕ). Takes bytes (signed_bytes w n y.0) y.1 × FitsSigned w y.0) x (λ k is.
    let t = number_takes n bytes k fits is in
    (subst (λ (m : ℕ). Takes bytes (number_bytes n m) k.1) (sym (back k.0 t.1)) t.0, sound k.0 t.1)) e

signed_again : (w : Width) (n : ℕ) (z : ℤ) (rest : List ℕ) → cast_unsigned w z < 256 ^ n → FitsSigned w z → signed_at w n (signed_bytes w n z ++ rest) ≡ Ok (z, rest)
signed_again w n z rest fit h =
    let back = to_z-of_z w z h in
    rw (number_again n (cast_unsigned w z) rest fit, back) refl

pub signed32_takes : (bytes : List ℕ) (x : ℤ × List ℕ) → IsBytes bytes → signed_at w32 4 bytes ≡ Ok x → Takes bytes (signed_bytes w32 4 x.0) x.1 × FitsSigned w32 x.0
signed32_takes = signed_takes w32 4 (λ k h. of_z-to_z w32 k h) (λ k h. sfits_to_z (record { fits = h }))

pub signed32_again : (z : ℤ) (rest : List ℕ) → FitsSigned w32 z → signed_at w32 4 (signed_bytes w32 4 z ++ rest) ≡ Ok (z, rest)
signed32_again z rest h = signed_again w32 4 z rest (Fits-of_z h).fits h

pub signed64_takes : (bytes : List ℕ) (x : ℤ × List ℕ) → IsBytes bytes → signed_at w64 8 bytes ≡ Ok x → Takes bytes (signed_bytes w64 8 x.0) x.1 × FitsSigned w64 x.0
signed64_takes = signed_takes w64 8 (λ k h. of_z-to_z w64 k h) (λ k h. sfits_to_z (record { fits = h }))

pub signed64_again : (z : ℤ) (rest : List ℕ) → FitsSigned w64 z → signed_at w64 8 (signed_bytes w64 8 z ++ rest) ≡ Ok (z, rest)
signed64_again z rest h = signed_again w64 8 z rest (Fits-of_z h).fits h

-- ---- the end

pub ended_takes : {X : Type 0} (x y : X) (bytes : List ℕ) → ended x bytes ≡ Ok y → (x ≡ y) × (bytes ≡ [])
ended_takes x y bytes e =
    let g = guard_ok (ltb 0 (length bytes)) Malformed (Ok x) y e in
    let none : length bytes ≤ 0 = ltb-false _ _ g.0 in
    (ok_is x y g.1, nil_from_length bytes (omega (arith, none)))

-- ---- pairs

pub paired_takes : {X : Type 0} (x y : X) (bytes : List ℕ) → paired x bytes ≡ Ok y → (x ≡ y) × (length bytes ≤ 1024) × (length bytes % 16 ≡ 0)
paired_takes x y bytes e =
    let few = guard_ok (ltb 1024 (length bytes)) Malformed (cond (eqb (length bytes % 16) 0) (Ok x) (Err Malformed)) y e in
    let even = wanted_ok (eqb (length bytes % 16) 0) Malformed (Ok x) y few.1 in
    (ok_is x y even.1, ltb-false _ _ few.0, eqb-true _ _ even.0)

pub paired_again : {X : Type 0} (x : X) (bytes : List ℕ) → length bytes ≤ 1024 → length bytes % 16 ≡ 0 → paired x bytes ≡ Ok x
paired_again x bytes few even =
    let within : ltb 1024 (length bytes) ≡ false = le-ltb _ _ few in
    rw (within, even) refl

-- the last of the bytes that were taken
pub Takes-all : (bytes front rest : List ℕ) → Takes bytes front rest → rest ≡ [] → bytes ≡ front
Takes-all bytes front rest t e = t.parts ∙ ap (λ (r : List ℕ). front ++ r) e ∙ append-nil front

-- ---- the last field

pub number_last : (n x : ℕ) → x < 256 ^ n → number_at n (number_bytes n x) ≡ Ok (x, [])
number_last n x h = ap (number_at n) (sym (append-nil (number_bytes n x))) ∙ number_again n x [] h

pub signed32_last : (z : ℤ) → FitsSigned w32 z → signed_at w32 4 (signed_bytes w32 4 z) ≡ Ok (z, [])
signed32_last z h = ap (signed_at w32 4) (sym (append-nil (signed_bytes w32 4 z))) ∙ signed32_again z [] h

pub signed64_last : (z : ℤ) → FitsSigned w64 z → signed_at w64 8 (signed_bytes w64 8 z) ≡ Ok (z, [])
signed64_last z h = ap (signed_at w64 8) (sym (append-nil (signed_bytes w64 8 z))) ∙ signed64_again z [] h
