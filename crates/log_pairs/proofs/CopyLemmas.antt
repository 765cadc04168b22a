-- Copies of fragments are read as they were written.
use Rattle.std.proofs.Common.{◌≡◌, ℕ, zero, suc, ◌+◌, ◌<◌, ◌≤◌, List, [], ◌∷◌, ◌++◌, length, take, drop, refl, sym, ap, ap₂, ◌∙◌, subst, arith}
use Rattle.std.specs.Prelude.{All, Result, Ok, Err, OnOk, OnErr}
use Rattle.std.proofs.lemmas.List.{nil_from_length}
use Rattle.std.proofs.lemmas.List.{append_assoc, append-nil, length-append}
use Rattle.std.proofs.lemmas.List.Elements.{All-head, All-nil, All-push, All-tail}
use Rattle.std.proofs.Math.Seq.{drop-append_seam, take-append_seam}
use Rattle.byteorder.specs.Endian.{little_bytes, little_number}
use Rattle.byteorder.specs.Numbers.{little_number-reads_back}
use Rattle.log_pairs.specs.Copies.{AreWritten, Fits, behind_one, read_all, read_most, read_one, written, written_one}
use Rattle.log_pairs.specs.Polling.{Fetched}

-- what stands behind the position
behind_position : Fetched → List ℕ → List ℕ
behind_position f rest = f.flags.bits ∷ (little_bytes 8 (length f.payload) ++ (f.payload ++ rest))

size_back : (f : Fetched) (rest : List ℕ) → Fits f → little_number 8 (drop 9 (written_one f ++ rest)) ≡ length f.payload
size_back f rest fits = little_number-reads_back 8 (length f.payload) (f.payload ++ rest) fits.1

one_back : (f : Fetched) (rest : List ℕ) → Fits f → read_one (written_one f ++ rest) ≡ f
one_back f rest fits =
    let position : little_number 8 (written_one f ++ rest) ≡ f.position = little_number-reads_back 8 f.position (behind_position f rest) fits.0 in
    let payload : take (little_number 8 (drop 9 (written_one f ++ rest))) (drop 17 (written_one f ++ rest)) ≡ f.payload =
    ap (λ (n : ℕ). take n (f.payload ++ rest)) (size_back f rest fits) ∙ take-append_seam f.payload rest in
    ap₂ (λ (p : ℕ) (bytes : List ℕ). let g : Fetched = record { position = p; flags = f.flags; payload = bytes } in g) position payload

behind_back : (f : Fetched) (rest : List ℕ) → Fits f → behind_one (written_one f ++ rest) ≡ rest
behind_back f rest fits = ap (λ (n : ℕ). drop n (f.payload ++ rest)) (size_back f rest fits) ∙ drop-append_seam f.payload rest

long : (f : Fetched) (rest : List ℕ) → length (written_one f ++ rest) ≡ 17 + (length f.payload + length rest)
long f rest = omega (arith, length-append f.payload rest)

most_back : (n : ℕ) (fs : List Fetched) → All Fits fs → length (written fs) ≤ n → read_most n (written fs) ≡ fs
most_back zero [] fit few = refl
most_back (suc n) [] fit few = refl
most_back zero (f ∷ fs) fit few = absurd (omega (arith, few, long f (written fs)))
most_back (suc n) (f ∷ fs) fit few =
    ap₂ (λ (g : Fetched) (gs : List Fetched). g ∷ gs) (one_back f (written fs) (All-head Fits f fs fit))
    (ap (read_most n) (behind_back f (written fs) (All-head Fits f fs fit)) ∙ most_back n fs (All-tail Fits f fs fit) (omega (arith, few, long f (written fs))))

pub back : (fs : List Fetched) → All Fits fs → read_all (written fs) ≡ fs
unfolding read_all
back fs fit = most_back (length (written fs)) fs fit (omega arith)

pub read_is : (bytes : List ℕ) (are : AreWritten bytes) → read_all bytes ≡ are.fragments
read_is bytes are = ap read_all are.is ∙ back are.fragments are.fit

pub written_back : (bytes : List ℕ) → AreWritten bytes → written (read_all bytes) ≡ bytes
written_back bytes are = ap written (read_is bytes are) ∙ sym are.is

few_written : (fs : List Fetched) → length fs ≤ length (written fs)
few_written [] = omega arith
few_written (f ∷ fs) = omega (arith, few_written fs, long f (written fs))

-- no more fragments than bytes
pub few_read : (bytes : List ℕ) → AreWritten bytes → length (read_all bytes) ≤ length bytes
few_read bytes are = omega (arith, few_written are.fragments, ap length are.is, ap length (read_is bytes are))

written_push : (fs : List Fetched) (f : Fetched) → written (fs ++ f ∷ []) ≡ written fs ++ written_one f
written_push [] f = append-nil (written_one f)
written_push (g ∷ gs) f = ap (λ (bytes : List ℕ). written_one g ++ bytes) (written_push gs f) ∙ sym (append_assoc (written_one g) (written gs) (written_one f))

-- ---- none

pub none_written : AreWritten []
none_written = record { fragments = []; fit = All-nil Fits; is = refl }

none_read : read_all [] ≡ []
unfolding read_all
none_read = refl

pub nothing_read : (bytes : List ℕ) → length bytes ≡ 0 → read_all bytes ≡ []
nothing_read bytes none = ap read_all (nil_from_length bytes none) ∙ none_read

-- ---- one more

module _ (bytes : List ℕ) (f : Fetched) (fits : Fits f) (are : AreWritten bytes) where
  pub more_written : AreWritten (bytes ++ written_one f)
  more_written = record {
    fragments = are.fragments ++ f ∷ [];
    fit = All-push Fits are.fragments f are.fit fits;
    is = ap (λ (b : List ℕ). b ++ written_one f) are.is ∙ sym (written_push are.fragments f);
  }

  pub more_read : read_all (bytes ++ written_one f) ≡ read_all bytes ++ f ∷ []
  unfolding more_written
  more_read = read_is (bytes ++ written_one f) more_written ∙ ap (λ (fs : List Fetched). fs ++ f ∷ []) (sym (read_is bytes are))

-- ---- the first one

pub record HasFirst (bytes : List ℕ) : Type 0 where
  pub head : 17 ≤ length bytes
  pub payload : 17 + little_number 8 (drop 9 bytes) ≤ length bytes
  pub rest : AreWritten (behind_one bytes)
  pub read : read_all bytes ≡ read_one bytes ∷ read_all (behind_one bytes)

first_of : (bytes : List ℕ) (f : Fetched) (fs : List Fetched) → All Fits (f ∷ fs) → bytes ≡ written_one f ++ written fs → HasFirst bytes
first_of bytes f fs fit is =
    let fits = All-head Fits f fs fit in
    let one : read_one bytes ≡ f = ap read_one is ∙ one_back f (written fs) fits in
    let behind : behind_one bytes ≡ written fs = ap behind_one is ∙ behind_back f (written fs) fits in
    let size : little_number 8 (drop 9 bytes) ≡ length f.payload = ap (λ (b : List ℕ). little_number 8 (drop 9 b)) is ∙ size_back f (written fs) fits in
    let length_is : length bytes ≡ 17 + (length f.payload + length (written fs)) = ap length is ∙ long f (written fs) in
    let rest : AreWritten (behind_one bytes) = record { fragments = fs; fit = All-tail Fits f fs fit; is = behind } in
    let all : read_all bytes ≡ f ∷ fs = ap read_all is ∙ back (f ∷ fs) fit in
    record {
      head = omega (arith, length_is);
      payload = omega (arith, length_is, size);
      rest = rest;
      read = all ∙ ap₂ (λ (g : Fetched) (gs : List Fetched). g ∷ gs) (sym one) (sym (read_is (behind_one bytes) rest));
    }

first_among : (bytes : List ℕ) (fs : List Fetched) → All Fits fs → bytes ≡ written fs → 0 < length bytes → HasFirst bytes
first_among bytes [] fit is some = absurd (omega (arith, some, ap length is))
first_among bytes (f ∷ fs) fit is some = first_of bytes f fs fit is

pub has_first : (bytes : List ℕ) → AreWritten bytes → 0 < length bytes → HasFirst bytes
has_first bytes are some = first_among bytes are.fragments are.fit are.is some

-- ---- writing

pub put_is : (old mid new head : List ℕ) (f : Fetched) → mid ≡ old ++ head → new ≡ mid ++ f.payload
    → head ≡ little_bytes 8 f.position ++ (f.flags.bits ∷ [] ++ little_bytes 8 (length f.payload)) → new ≡ old ++ written_one f
put_is old mid new head f mid_is new_is head_is =
    new_is ∙ ap (λ (b : List ℕ). b ++ f.payload) mid_is ∙ append_assoc old head f.payload ∙ ap (λ (b : List ℕ). old ++ (b ++ f.payload)) head_is

pub put_written : {E : Type 0} (r : Result (Unit {0}) E) (old new : List ℕ) (f : Fetched) → OnOk r (Fits f) → AreWritten old
    → OnOk r (new ≡ old ++ written_one f) → OnErr r (new ≡ old) → AreWritten new
put_written (Ok done) old new f fits are ok err = subst AreWritten (sym ok) (more_written old f fits are)
put_written (Err fault) old new f fits are ok err = subst AreWritten (sym err) are

pub put_read : {E : Type 0} (r : Result (Unit {0}) E) (old new : List ℕ) (f : Fetched) → OnOk r (Fits f) → AreWritten old
    → OnOk r (new ≡ old ++ written_one f) → OnOk r (read_all new ≡ read_all old ++ f ∷ [])
put_read (Ok done) old new f fits are ok = ap read_all ok ∙ more_read old f fits are
put_read (Err fault) old new f fits are ok = tt
