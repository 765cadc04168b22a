-- Rows that stay where the log beside them does, moved to the front one after another.
use Rattle.std.proofs.Common.{◌≡◌, ℕ, zero, suc, ◌+◌, ◌<◌, ◌≤◌, Bool, true, false, cond, List, [], ◌∷◌, ◌++◌, length, map, filter, take, drop, get_or, set, refl, sym, ap, ◌∙◌, arith, add-one, append-nil, ⊎_elim}
use Rattle.std.specs.List.{SwappedAt}
use Rattle.std.proofs.lemmas.Bool.{cases_lt}
use Rattle.std.proofs.lemmas.List.{drop-set-lt, length-set, set-set, take-set-le, take_more_set}
use Rattle.log_readers.specs.Readers.{beside}
use Rattle.stream_registry.specs.declared.row.LogRow.{LogRow}

one_mapped : (b : Bool) (f : LogRow → List ℕ) (log : LogRow) (rest : List LogRow) (readers : List (List ℕ)) →
    readers ≡ map f rest → cond b (f log ∷ readers) readers ≡ map f (cond b (log ∷ rest) rest)
one_mapped true f log rest readers h = ap (λ (others : List (List ℕ)). f log ∷ others) h
one_mapped false f log rest readers h = h

-- beside a row for each log
pub beside_mapped : (stays : LogRow → Bool) (f : LogRow → List ℕ) (logs : List LogRow) →
    beside stays logs (map f logs) ≡ map f (filter stays logs)
beside_mapped stays f [] = refl
beside_mapped stays f (log ∷ logs) =
    one_mapped (stays log) f log (filter stays logs) (beside stays logs (map f logs)) (beside_mapped stays f logs)

longer : (b : Bool) (numbers : List ℕ) (rest more : List (List ℕ)) →
    cond b (numbers ∷ (rest ++ more)) (rest ++ more) ≡ cond b (numbers ∷ rest) rest ++ more
longer true numbers rest more = refl
longer false numbers rest more = refl

-- one log on
pub beside_more : (stays : LogRow → Bool) (logs : List LogRow) (readers : List (List ℕ)) (i : ℕ) (log : LogRow)
    (d : List ℕ) → length readers ≡ length logs → i < length logs →
    beside stays (take (suc i) logs) readers
    ≡ beside stays (take i logs) readers ++ cond (stays (get_or logs i log)) (get_or readers i d ∷ []) []
beside_more stays [] readers i other d same below = absurd (omega (arith, below))
beside_more stays (log ∷ logs) [] i other d same below = absurd (omega (arith, same))
beside_more stays (log ∷ logs) (numbers ∷ readers) zero other d same below = refl
beside_more stays (log ∷ logs) (numbers ∷ readers) (suc i) other d same below =
    ap (λ (rest : List (List ℕ)). cond (stays log) (numbers ∷ rest) rest)
    (beside_more stays logs readers i other d (omega (arith, same)) (omega (arith, below)))
    ∙ longer (stays log) numbers (beside stays (take i logs) readers)
    (cond (stays (get_or logs i other)) (get_or readers i d ∷ []) [])

-- what stays of the first `at` rows stands in the first `kept` places, and from `at` on the rows are as they were
pub record IsSettling (stays : LogRow → Bool) (logs : List LogRow) (before readers : List (List ℕ)) (kept at : ℕ) : Type 0 where
  pub front : take kept readers ≡ beside stays (take at logs) before
  pub rest : drop at readers ≡ drop at before
  pub behind : kept ≤ at
  pub long : length readers ≡ length before

get_rest : (xs ys : List (List ℕ)) (i : ℕ) (d : List ℕ) → drop i xs ≡ drop i ys → i < length xs → i < length ys →
    get_or xs i d ≡ get_or ys i d
get_rest [] ys i d same above below = absurd (omega (arith, above))
get_rest (x ∷ xs) [] i d same above below = absurd (omega (arith, below))
get_rest (x ∷ xs) (y ∷ ys) zero d same above below = cc
get_rest (x ∷ xs) (y ∷ ys) (suc i) d same above below = get_rest xs ys i d same (omega (arith, above)) (omega (arith, below))

drop_on : (xs ys : List (List ℕ)) (i : ℕ) → drop i xs ≡ drop i ys → drop (suc i) xs ≡ drop (suc i) ys
drop_on xs ys i same = tail_of xs i ∙ ap (drop 1) same ∙ sym (tail_of ys i)
  where
    tail_of : (zs : List (List ℕ)) (n : ℕ) → drop (suc n) zs ≡ drop 1 (drop n zs)
    tail_of [] zero = refl
    tail_of [] (suc n) = refl
    tail_of (z ∷ zs) zero = refl
    tail_of (z ∷ zs) (suc n) = tail_of zs n

module _ (stays : LogRow → Bool) (logs : List LogRow) (before : List (List ℕ)) where
  -- the row goes
  pub settling_no : (readers : List (List ℕ)) (kept at : ℕ) (log : LogRow) → IsSettling stays logs before readers kept at →
      length before ≡ length logs → at < length logs → log ≡ get_or logs at log → stays log ≡ false →
      IsSettling stays logs before readers kept (at + 1)
  settling_no readers kept at log h same below is goes =
      let more = beside_more stays logs before at log [] same below in
      rw add-one (record {
        front = h.front ∙ sym (more
            ∙ ap (λ (b : Bool). beside stays (take at logs) before ++ cond b (get_or before at [] ∷ []) [])
            (ap stays (sym is) ∙ goes)
            ∙ append-nil (beside stays (take at logs) before));
        rest = drop_on readers before at h.rest;
        behind = let behind = h.behind in omega (arith, behind);
        long = h.long;
      })

  swapped_front : (readers : List (List ℕ)) (kept at : ℕ) → kept ≤ at → at < length readers →
      take (kept + 1) (set (set readers kept (get_or readers at [])) at (get_or readers kept []))
      ≡ take kept readers ++ get_or readers at [] ∷ []
  swapped_front readers kept at behind below =
      ⊎_elim
      (λ before_it.
      take-set-le (kept + 1) (set readers kept (get_or readers at [])) at (get_or readers kept []) (omega (arith, before_it))
      ∙ take_more_set readers kept (get_or readers at []) (omega (arith, before_it, below)))
      (λ not_before.
      let here : kept ≡ at = omega (arith, behind, not_before) in
      rw here (ap (take (at + 1)) (set-set readers at (get_or readers at []) (get_or readers at []))
      ∙ take_more_set readers at (get_or readers at []) below))
      (cases_lt kept at)

  -- the row stays
  pub settling_yes : (readers swapped : List (List ℕ)) (kept at : ℕ) (log : LogRow) →
      IsSettling stays logs before readers kept at → length before ≡ length logs → at < length logs →
      log ≡ get_or logs at log → stays log ≡ true → SwappedAt readers swapped kept at →
      IsSettling stays logs before swapped (kept + 1) (at + 1)
  settling_yes readers swapped kept at log h same below is stays_here swap =
      let more = beside_more stays logs before at log [] same below in
      let long : length readers ≡ length before = h.long in
      let behind : kept ≤ at = h.behind in
      let there : at < length readers = omega (arith, long, same, below) in
      let made : swapped ≡ set (set readers kept (get_or readers at [])) at (get_or readers kept []) = swap.3 [] in
      let row : get_or readers at [] ≡ get_or before at [] =
      get_rest readers before at [] h.rest there (omega (arith, long, there)) in
      record {
        front = ap (take (kept + 1)) made
            ∙ swapped_front readers kept at behind there
            ∙ ap (λ (front : List (List ℕ)). front ++ get_or readers at [] ∷ []) h.front
            ∙ ap (λ (numbers : List ℕ). beside stays (take at logs) before ++ numbers ∷ []) row
            ∙ sym (rw add-one (more
            ∙ ap (λ (b : Bool). beside stays (take at logs) before ++ cond b (get_or before at [] ∷ []) []) (ap stays (sym is) ∙ stays_here)));
        rest = rw add-one (ap (drop (suc at)) made
            ∙ drop-set-lt (suc at) (set readers kept (get_or readers at [])) at (get_or readers kept []) (omega arith)
            ∙ drop-set-lt (suc at) readers kept (get_or readers at []) (omega (arith, behind))
            ∙ drop_on readers before at h.rest);
        behind = omega (arith, behind);
        long = ap length made ∙ length-set (set readers kept (get_or readers at [])) at (get_or readers kept [])
            ∙ length-set readers kept (get_or readers at []) ∙ long;
      }
