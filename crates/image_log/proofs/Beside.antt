-- Beside the frames of a store are zeros.
use Rattle.std.proofs.Common.{◌≡◌, ℕ, zero, suc, ◌+◌, Bool, cond, ◌∙◌, List, ◌∷◌, map, replicate, refl, sym, ap, ap₂, subst}
use Rattle.std.specs.List.{All, list_any, range_with_len}
use Rattle.std.specs.Prelude.{slice_index}
use Rattle.std.proofs.lemmas.List.Elements.{All-replicate}
use Rattle.log_arena.specs.Lease.{lease_bytes, lease_len}
use Rattle.log_arena.specs.declared.lease.Lease.{Lease}
use Rattle.image_log.specs.Frame.{Frame}
use Rattle.image_log.specs.Kept.{IsStore, stored_of}
use Rattle.image_log.specs.Stored.{IsBlank, bytes_beside, covers}
use Rattle.image_log.specs.declared.place.Place.{Place}
use Rattle.image_log.proofs.Tests.{by_test}

all_zeros : (f : ℕ → ℕ) → ((i : ℕ) → f i ≡ 0) → (at n : ℕ) → map f (range_with_len at n) ≡ replicate n 0
all_zeros f is at zero = refl
all_zeros f is at (suc n) = ap₂ (λ (x : ℕ) (xs : List ℕ). x ∷ xs) (is at) (all_zeros f is (at + 1) n)

pub zeros_beside : (len : ℕ) (fs : List Frame) (bytes : List ℕ) → IsBlank len fs bytes → bytes_beside len fs bytes ≡ replicate len 0
unfolding IsBlank bytes_beside
zeros_beside len fs bytes blank =
    all_zeros (λ i. cond (list_any (covers len i) fs) 0 (slice_index bytes i))
    (λ i. by_test (list_any (covers len i) fs)
    (λ t. ap (λ (b : Bool). cond b 0 (slice_index bytes i)) t)
    (λ t. ap (λ (b : Bool). cond b 0 (slice_index bytes i)) t ∙ blank i t))
    0 len

pub store_beside : (lease : Lease) (low room : ℕ) (ps : List Place) → IsStore lease low ps room → (stored_of lease low ps).beside ≡ replicate (lease_len lease) 0
store_beside lease low room ps is = zeros_beside (lease_len lease) (stored_of lease low ps).frames (lease_bytes lease) is.blank

pub store_zeros : (lease : Lease) (low room : ℕ) (ps : List Place) → IsStore lease low ps room → All (λ (byte : ℕ). byte ≡ 0) (stored_of lease low ps).beside
store_zeros lease low room ps is =
    subst (λ (bytes : List ℕ). All (λ (byte : ℕ). byte ≡ 0) bytes) (sym (store_beside lease low room ps is))
    (All-replicate (λ (byte : ℕ). byte ≡ 0) (lease_len lease) 0 refl)
