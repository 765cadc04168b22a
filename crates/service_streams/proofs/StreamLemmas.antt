-- Steps of a stream, one after another.
use Rattle.std.proofs.Common.{◌≡◌, ℕ, List, [], ◌∷◌, ◌++◌, append_assoc, append-nil, drop, take, length, Option, None, Some, ap, refl, subst, sym, ◌∙◌, Result, Ok, Err, arith, ◌-◌, ◌+◌, false, true≢false, is_err}
use Rattle.std.proofs.KnownBytes.{Appends-kept, Appends-nil, Appends-trans, Consumes-kept, Consumes-nil}
use Rattle.std.proofs.Math.Seq.{drop-append_seam}
use Rattle.std.proofs.lemmas.List.{length-append, nil_from_length, take-append-drop}
use Rattle.std.specs.Io.KnownBytes.{Appends, Consumes, Keeps}
use Rattle.service_streams.specs.Streams.{AppendsFront, Drains, Flushes, Heard, Known, Step, TakesSteps, Told, WritesOf, all_heard, all_told}
use Rattle.service_streams.specs.declared.talking.Ended.{Ended}
use Rattle.service_streams.specs.declared.talking.Ended.TheVariants as ends

-- ---- what is written

pub nothing_appended : (a : Option (List ℕ)) (text : List ℕ) → AppendsFront a a text
nothing_appended a text = ([], text, refl, Appends-nil a)

pub whole_front : (a b : Option (List ℕ)) (text : List ℕ) → Appends a b text → AppendsFront a b text
whole_front a b text whole = (text, [], sym (append-nil text), whole)

pub kept_appended : (a b : Option (List ℕ)) → Keeps a b → Appends a b []
kept_appended None b kept = tt
kept_appended (Some x) None kept = absurd kept
kept_appended (Some x) (Some y) kept = kept ∙ sym (append-nil x)

-- a front was written, and nothing is left of the text
pub wrote_whole : (a b : Option (List ℕ)) (text front rest : List ℕ) → text ≡ front ++ rest → Appends a b front → length rest ≡ 0 → Appends a b text
wrote_whole a b text front rest whole appended none =
    let same : front ≡ text = sym (append-nil front) ∙ (ap (λ (l : List ℕ). front ++ l) (sym (nil_from_length rest none)) ∙ sym whole) in
    subst (λ (l : List ℕ). Appends a b l) same appended

-- or some more of it was written
pub wrote_more : (a b c : Option (List ℕ)) (text front rest : List ℕ) (n : ℕ) → text ≡ front ++ rest → Appends a b front → Appends b c (take n rest) → AppendsFront a c text
wrote_more a b c text front rest n whole appended more = (
  front ++ take n rest,
  drop n rest,
  whole ∙ (ap (λ (l : List ℕ). front ++ l) (sym (take-append-drop n rest)) ∙ sym (append_assoc front (take n rest) (drop n rest))),
  Appends-trans a b c front (take n rest) appended more,
)

-- or no more was
pub wrote_front : (a b c : Option (List ℕ)) (text front rest : List ℕ) → text ≡ front ++ rest → Appends a b front → Keeps b c → AppendsFront a c text
wrote_front a b c text front rest whole appended kept = (front, rest, whole, Appends-kept a b c front appended kept)

-- much of it was not there yet
pub none_drained : (a : Option (List ℕ)) (out : List ℕ) → WritesOf a a out out
none_drained a out = record { front = []; whole = refl; appended = Appends-nil a }

-- or all of it is written
pub flush_drains : (told : Result Unit Ended) (a b : Option (List ℕ)) (out after : List ℕ) → Flushes told a b out after → Drains told a b out after
flush_drains (Ok x) a b out after f = record { front = out; whole = sym (append-nil out) ∙ ap (λ (l : List ℕ). out ++ l) (sym f.1); appended = f.0 }
flush_drains (Err ends.Closed) a b out after f = f
flush_drains (Err ends.Silent) a b out after f = absurd f
flush_drains (Err ends.TooLong) a b out after f = absurd f
flush_drains (Err (ends.Gone reason)) a b out after f = absurd f
flush_drains (Err ends.Stopped) a b out after f = absurd f
flush_drains (Err ends.NoMemory) a b out after f = absurd f

-- ---- what is read

pub kept_consumed : (a b : Option (List ℕ)) → Keeps a b → Consumes a b []
kept_consumed a b kept = Consumes-kept a a b [] (Consumes-nil a) kept

pub none_consumed : (a b : Option (List ℕ)) (bytes : List ℕ) (n : ℕ) → n ≡ 0 → Consumes a b (take n bytes) → Consumes a b []
none_consumed a b bytes n none consumed =
    let P : ℕ → Type 0 = λ k. Consumes a b (take k bytes) in
    subst P none consumed

-- ---- steps

pub steps_then : {T : Type 0} (remaining contents : Known T) (xs ys : List Step) (a b c : T) →
    TakesSteps remaining contents a xs b → TakesSteps remaining contents b ys c → TakesSteps remaining contents a (xs ++ ys) c
steps_then remaining contents [] ys a b c first rest = subst (λ s. TakesSteps remaining contents s ys c) first rest
steps_then remaining contents (x ∷ xs) ys a b c first rest =
    (first.0, first.1, steps_then remaining contents xs ys first.0 b c first.2 rest)

pub heard_then : (xs ys : List Step) → all_heard (xs ++ ys) ≡ all_heard xs ++ all_heard ys
heard_then [] ys = refl
heard_then (Heard bytes ∷ xs) ys = ap (λ (l : List ℕ). bytes ++ l) (heard_then xs ys) ∙ sym (append_assoc bytes (all_heard xs) (all_heard ys))
heard_then (Told bytes ∷ xs) ys = heard_then xs ys

pub told_then : (xs ys : List Step) → all_told (xs ++ ys) ≡ all_told xs ++ all_told ys
told_then [] ys = refl
told_then (Heard bytes ∷ xs) ys = told_then xs ys
told_then (Told bytes ∷ xs) ys = ap (λ (l : List ℕ). bytes ++ l) (told_then xs ys) ∙ sym (append_assoc bytes (all_told xs) (all_told ys))

-- ---- bytes

-- what follows a record is what stands behind it, counted from the end
pub rest_at : (at : ℕ) (xs ys rest : List ℕ) → drop at xs ≡ ys ++ rest → drop (length xs - length rest) xs ≡ rest
rest_at at xs ys rest is =
    let front = take at xs ++ ys in
    let whole : front ++ rest ≡ xs = append_assoc (take at xs) ys rest ∙ (ap (λ (l : List ℕ). take at xs ++ l) (sym is) ∙ take-append-drop at xs) in
    let long : length xs ≡ length front + length rest = ap length (sym whole) ∙ length-append front rest in
    let place : length xs - length rest ≡ length front = omega (arith, long) in
    ap (λ (n : ℕ). drop n xs) place ∙ (ap (λ (l : List ℕ). drop (length front) l) (sym whole) ∙ drop-append_seam front rest)

-- what went well
pub ok_of : {E : Type 0} (told : Result Unit E) → is_err told ≡ false → told ≡ Ok tt
ok_of (Ok x) well = refl
ok_of (Err e) well = absurd (true≢false well)
