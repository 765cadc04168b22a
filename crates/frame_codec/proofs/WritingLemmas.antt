-- Fields that are written one behind the other.
use Rattle.std.proofs.Common.{◌≡◌, ℕ, ℤ, ◌+◌, List, [], ◌++◌, length, take, drop, refl, sym, ap, ◌∙◌, arith, length-append, ap₂, ◌-◌}
use Rattle.std.proofs.lemmas.List.{drop-drop, drop_at, take_at}
use Rattle.byteorder.specs.Numbers.{length-bytes_low_first}
use Rattle.std.specs.Prelude.{replicate}
use Rattle.frame_codec.specs.Frame.{padded}
use Rattle.frame_codec.specs.Writing.{number_bytes, signed_bytes, front_bytes, Puts, Starts}
use Rattle.frame_codec.specs.declared.header.Header.{Header}
use Rattle.frame_codec.specs.Header.{header_bytes}

pub length-number_bytes : (n x : ℕ) → length (number_bytes n x) ≡ n
unfolding number_bytes
length-number_bytes n x = length-bytes_low_first 0 n x

pub length-signed_bytes : (z : ℤ) → length (signed_bytes z) ≡ 4
unfolding signed_bytes
length-signed_bytes z = refl

pub length-header_bytes : (h : Header) → length (header_bytes h) ≡ 32
unfolding header_bytes front_bytes number_bytes signed_bytes
length-header_bytes h = refl

-- nothing was written
pub put_none : (old : List ℕ) → Starts old old 0 []
put_none old = record { is = refl; size = refl }

-- a field more was written
pub put_more : {start old new : List ℕ} {place n : ℕ} {front bytes : List ℕ} → Starts start old place front → Puts old new place n bytes → length bytes ≡ n
    → Starts start new (place + n) (front ++ bytes)
put_more {start = start} {old = old} {new = new} {place = place} {n = n} {front = front} {bytes = bytes} s p size =
    let front_size = s.size in
    record {
      is = p.is front (drop place start) s.size s.is ∙ ap (λ (rest : List ℕ). (front ++ bytes) ++ rest) (drop-drop n place start);
      size = omega (arith, length-append front bytes, front_size, size);
    }

-- a stretch in the middle was replaced
pub put_middle : (old bytes : List ℕ) (place n : ℕ) → length bytes ≡ n → Puts old (take place old ++ bytes ++ drop (place + n) old) place n bytes
put_middle old bytes place n size = record {
  is = λ front rest at is.
      rw is (ap (λ (a : List ℕ). a ++ bytes ++ drop (place + n) (front ++ rest)) (take_at front rest place at)
      ∙ ap (λ (b : List ℕ). (front ++ bytes) ++ b) (sym (drop-drop n place (front ++ rest)) ∙ ap (drop n) (drop_at front rest place at)));
}

-- zeros up to the next multiple of 32
pub filled : (front old : List ℕ) (size end n : ℕ) → end ≡ padded size → n ≡ end - size
    → front ++ replicate n 0 ++ drop (size + n) old ≡ front ++ replicate (padded size - size) 0 ++ drop (padded size) old
filled front old size end n is count =
    let fill : n ≡ padded size - size = omega arith in
    let whole : size + n ≡ padded size = omega arith in
    ap₂ (λ (k d : ℕ). front ++ replicate k 0 ++ drop d old) fill whole
