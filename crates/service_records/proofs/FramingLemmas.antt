-- A record that was written is cut again, whatever follows it; and what is cut is the front.
use Rattle.std.proofs.Common.{◌≡◌, ℕ, ◌^◌, ◌<◌, ◌≤◌, Bool, true, false, cond, ltb, List, ◌++◌, length, take, drop, Option, Some, None, Result, Ok, Err, refl, sym, subst, ap, ◌∙◌, append_assoc, arith}
use Rattle.std.proofs.lemmas.Bool.{le-ltb, ltb-false}
use Rattle.std.proofs.lemmas.List.{take_at, drop_at, length-append, length-take-le, take-append-drop}
use Rattle.service_records.specs.Fields.{IsBytes, number_bytes, number_in}
use Rattle.service_records.specs.Framing.{IsCut, IsFront, longest, framed, cut_of}
use Rattle.service_records.specs.declared.fault.RecordFault.{RecordFault}
use Rattle.service_records.specs.declared.fault.RecordFault.TheVariants.{TooLong}
use Rattle.service_records.specs.declared.framing.Cut.{Cut}
use Rattle.service_records.proofs.FieldLemmas.{guard_ok, length_number_bytes, number_back, number_bytes_back}

pub framed_again : (body rest : List ℕ) → length body ≤ longest → cut_of (framed body ++ rest) ≡ Ok (Some (body, rest))
unfolding cut_of
framed_again body rest h =
    let size = length body in
    let regrouped : framed body ++ rest ≡ number_bytes 4 size ++ (body ++ rest) = append_assoc (number_bytes 4 size) body rest in
    let len = length_number_bytes 4 size in
    let small : size < 256 ^ 4 = omega (arith, h) in
    let head : ltb (length (number_bytes 4 size ++ (body ++ rest))) 4 ≡ false = le-ltb _ _ (omega (arith, len, length-append (number_bytes 4 size) (body ++ rest))) in
    let bounded : ltb longest size ≡ false = le-ltb _ _ h in
    let within : ltb (length (body ++ rest)) size ≡ false = le-ltb _ _ (omega (arith, length-append body rest)) in
    ap cut_of regrouped ∙ rw (head, number_back 4 size (body ++ rest) small, drop_at (number_bytes 4 size) (body ++ rest) 4 len, bounded, within, take_at body rest size refl, drop_at body rest size refl) refl

-- a length and as many bytes after it are a record after its length
front_framed : (bytes : List ℕ) → IsBytes bytes → 4 ≤ length bytes → number_in 4 bytes ≤ length (drop 4 bytes) → bytes ≡ framed (take (number_in 4 bytes) (drop 4 bytes)) ++ drop (number_in 4 bytes) (drop 4 bytes)
front_framed bytes fits long room =
    let size = number_in 4 bytes in
    let rest = drop 4 bytes in
    let n : length (take size rest) ≡ size = length-take-le size rest room in
    let head : number_bytes 4 (length (take size rest)) ≡ take 4 bytes = ap (number_bytes 4) n ∙ number_bytes_back 4 bytes long fits in
    sym (append_assoc (number_bytes 4 (length (take size rest))) (take size rest) (drop size rest) ∙ rw (head, take-append-drop size rest) (take-append-drop 4 bytes))

-- a record was cut, so it was not passed over
not_passed : (b : Bool) (x : Result (Option (List ℕ × List ℕ)) RecordFault) (y : List ℕ × List ℕ) → cond b (Ok None) x ≡ Ok (Some y) → (b ≡ false) × (x ≡ Ok (Some y))
not_passed true x y e = absurd cc
not_passed false x y e = (refl, e)

abbrev found : List ℕ × List ℕ → Result (Option (List ℕ × List ℕ)) RecordFault
found x = Ok (Some x)

found_is : (x y : List ℕ × List ℕ) → found x ≡ found y → x ≡ y
found_is x y e = cc

cut_front : (bytes : List ℕ) (cut : List ℕ × List ℕ) → IsBytes bytes → cut_of bytes ≡ Ok (Some cut) → bytes ≡ framed cut.0 ++ cut.1
unfolding cut_of
cut_front bytes cut fits e =
    let size = number_in 4 bytes in
    let rest = drop 4 bytes in
    let whole : List ℕ × List ℕ = (take size rest, drop size rest) in
    let one = not_passed (ltb (length bytes) 4) (cond (ltb longest size) (Err TooLong) (cond (ltb (length rest) size) (Ok None) (Ok (Some whole)))) cut e in
    let two = guard_ok (ltb longest size) TooLong (cond (ltb (length rest) size) (Ok None) (Ok (Some whole))) (Some cut) one.1 in
    let three = not_passed (ltb (length rest) size) (Ok (Some whole)) cut two.1 in
    subst (λ (x : List ℕ × List ℕ). bytes ≡ framed x.0 ++ x.1) (found_is whole cut three.1) (front_framed bytes fits (ltb-false _ _ one.0) (ltb-false _ _ three.0))

pub front_of : (result : Result (Option Cut) RecordFault) (bytes : List ℕ) → IsBytes bytes → IsCut result (cut_of bytes) → IsFront result bytes
front_of (Ok None) bytes fits cut = record {}
front_of (Ok (Some cut)) bytes fits is = cut_front bytes (cut.record.now, cut.rest.now) fits is
front_of (Err fault) bytes fits cut = record {}
