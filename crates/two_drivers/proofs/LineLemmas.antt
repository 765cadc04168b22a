-- What polls give of a log whose frames are one line's is what a run of the line carries.
use Rattle.std.proofs.Common.{◌≡◌, ℕ, ◌-◌, ◌≤◌, ◌==◌, Bool, true, false, cond, List, [], ◌∷◌, ◌++◌, map, Option, Some, None, refl, sym, ap, ◌∙◌, subst, arith, append_assoc}
use Rattle.std.specs.List.{All}
use Rattle.std.specs.Prelude.{IfSome}
use Rattle.std.proofs.lemmas.List.{append-nil}
use Rattle.std.proofs.lemmas.List.Elements.{All-filter, All-head, All-tail}
use Rattle.image_log.specs.Frame.{Frame as Kept, end_of}
use Rattle.image_log.specs.Order.{Begins, begins_within}
use Rattle.image_log.specs.Pairs.{IsWithin}
use Rattle.image_log.specs.Polling.{Poll, polled_frame, passes, whole_from}
use Rattle.image_log.specs.Reading.{Adjoin}
use Rattle.image_log.specs.Rebuilt.{Rebuilt, contiguous_of, settled}
use Rattle.image_log.proofs.Between.{adjoin-from}
use Rattle.image_log.proofs.Polls.{polled_some}
use Rattle.log_pairs.specs.Pairs.{position_of}
use Rattle.log_pairs.specs.Polling.{Fetched, Polled, behind, counted, fragments_of, passed, with_fragment}
use Rattle.log_pairs.proofs.Pairing.{at_found}
use Rattle.log_traffic.proofs.AnyLemmas.{moved_there}
use Rattle.two_drivers.specs.Line.{IsIn, IsLine, IsRunTo}
use Rattle.two_drivers.specs.LineLaws.{PollsGoOn}
use Rattle.two_drivers.specs.Mirror.{Mirrors}

-- where a line ends
abbrev pub line_end : ℕ → List Kept → ℕ
line_end position fs = behind position (map polled_frame fs)

end_above : (size position : ℕ) (fs : List Kept) → IsLine size position fs → position ≤ line_end position fs
end_above size position [] line = omega arith
end_above size position (f ∷ fs) line =
    let rest = end_above size (end_of f) fs line.3 in
    omega (arith, rest, line.0)

-- a frame of the line begins in it
begins_in : (size position : ℕ) (before after : List Kept) (f : Kept) → IsLine size position (before ++ f ∷ after) →
    f.position ≡ line_end position before
begins_in size position [] after f line = line.0
begins_in size position (g ∷ before) after f line = begins_in size (end_of g) before after f line.3

-- no frame of a line begins below it
in_above : (size position : ℕ) (fs : List Kept) (f : Kept) → IsLine size position fs → IsIn fs f → position ≤ f.position
in_above size position fs f line is =
    let at = begins_in size position is.before is.after f (subst (IsLine size position) is.is line) in
    let front = end_above size position is.before (front_line size position is.before (f ∷ is.after) (subst (IsLine size position) is.is line)) in
    omega (arith, at, front)
  where
    front_line : (size position : ℕ) (fs gs : List Kept) → IsLine size position (fs ++ gs) → IsLine size position fs
    front_line size position [] gs line = tt
    front_line size position (f ∷ fs) gs line = (line.0, line.1, line.2, front_line size (end_of f) fs gs line.3)

-- the first of a list, or one of the others
pub data Where (g f : Kept) (fs : List Kept) : Type 0 where
  first : f ≡ g → Where g f fs
  later : IsIn fs f → Where g f fs

where_is : (g f : Kept) (fs before after : List Kept) → g ∷ fs ≡ before ++ f ∷ after → Where g f fs
where_is g f fs [] after is = first (cc is)
where_is g f fs (h ∷ before) after is = later (record { before = before; after = after; is = cc is })

pub where_in : (g f : Kept) (fs : List Kept) → IsIn (g ∷ fs) f → Where g f fs
where_in g f fs is = where_is g f fs is.before is.after is.is

-- the frame that begins where a front of the line ends is the next one
pub record IsNext (f : Kept) (after : List Kept) : Type 0 where
  pub rest : List Kept
  pub is : after ≡ f ∷ rest

next_here : (size position : ℕ) (after : List Kept) (f : Kept) → IsLine size position after → IsIn after f → f.position ≡ position →
    IsNext f after
next_here size position [] f line is at = none is.before is.is
  where
    none : (before : List Kept) → [] ≡ before ++ f ∷ is.after → IsNext f []
    none [] same = absurd (cc same)
    none (h ∷ before) same = absurd (cc same)
next_here size position (g ∷ after) f line is at =
    elim (where_in g f after is) [
      | first same ↦ record { rest = after; is = ap (λ (h : Kept). h ∷ after) (sym same) }
      | later more ↦ (let above = in_above size (end_of g) after f line.3 more in absurd (omega (arith, above, at, line.0, line.1)))
    ]

pub next_at : (size position : ℕ) (before after : List Kept) (f : Kept) → IsLine size position (before ++ after) →
    IsIn (before ++ after) f → f.position ≡ line_end position before → IsNext f after
next_at size position [] after f line is at = next_here size position after f line is at
next_at size position (g ∷ before) after f line is at =
    elim (where_in g f (before ++ after) is) [
      | first same ↦ (let ends = end_above size (end_of g) before (front size (end_of g) before after line.3) in
          let here = ap (λ (h : Kept). h.position) same in absurd (omega (arith, ends, here, at, line.0, line.1)))
      | later more ↦ next_at size (end_of g) before after f line.3 more at
    ]
  where
    front : (size position : ℕ) (fs gs : List Kept) → IsLine size position (fs ++ gs) → IsLine size position fs
    front size position [] gs line = tt
    front size position (f ∷ fs) gs line = (line.0, line.1, line.2, front size (end_of f) fs gs line.3)

-- ---- frames of the line that stand one behind the other are a run of it

pub record GoesOn (gs after : List Kept) : Type 0 where
  pub rest : List Kept
  pub is : after ≡ gs ++ rest

end_push : (position : ℕ) (before : List Kept) (f : Kept) → line_end position (before ++ f ∷ []) ≡ end_of f
end_push position [] f = refl
end_push position (g ∷ before) f = end_push (end_of g) before f

goes_on : (size position : ℕ) (line before after gs : List Kept) → IsLine size position line → line ≡ before ++ after →
    All (IsIn line) gs → Adjoin (line_end position before) gs → GoesOn gs after
goes_on size position line before after [] is same all adjoin = record { rest = after; is = refl }
goes_on size position line before after (f ∷ gs) is same all adjoin =
    let first = next_at size position before after f (subst (IsLine size position) same is)
    (subst (λ (l : List Kept). IsIn l f) same (All-head (IsIn line) f gs all)) adjoin.0 in
    let moved : line ≡ (before ++ f ∷ []) ++ first.rest =
    same ∙ ap (λ (l : List Kept). before ++ l) first.is ∙ sym (append_assoc before (f ∷ []) first.rest) in
    let more = goes_on size position line (before ++ f ∷ []) first.rest gs is moved (All-tail (IsIn line) f gs all)
    (subst (λ (n : ℕ). Adjoin n gs) (sym (end_push position before f)) adjoin.1) in
    record { rest = more.rest; is = first.is ∙ ap (λ (l : List Kept). f ∷ l) more.is }

-- ---- what a poll passes is a front of what it comes to

pub record IsFront (limit : ℕ) (gs : List Kept) : Type 0 where
  pub front : List Kept
  pub left : List Kept
  pub is : gs ≡ front ++ left
  pub passes : passed limit (map polled_frame gs) ≡ map polled_frame front

front_by : (b : Bool) (limit : ℕ) (f : Kept) (gs : List Kept) → IsFront (limit - counted (polled_frame f)) gs →
    (front : List Kept) × (left : List Kept) × (f ∷ gs ≡ front ++ left)
    × (cond b [] (polled_frame f ∷ passed (limit - counted (polled_frame f)) (map polled_frame gs)) ≡ map polled_frame front)
front_by true limit f gs rest = ([], f ∷ gs, refl, refl)
front_by false limit f gs rest =
    (f ∷ rest.front, rest.left, ap (λ (l : List Kept). f ∷ l) rest.is, ap (λ (l : List Polled). polled_frame f ∷ l) rest.passes)

pub front_of : (limit : ℕ) (gs : List Kept) → IsFront limit gs
front_of limit [] = record { front = []; left = []; is = refl; passes = refl }
front_of limit (f ∷ gs) =
    let x = front_by (limit == 0) limit f gs (front_of (limit - counted (polled_frame f)) gs) in
    record { front = x.0; left = x.1; is = x.2; passes = x.3 }

-- ---- fragments of a run and of more

with_both : (o : Option Fetched) (xs ys : List Fetched) → with_fragment o (xs ++ ys) ≡ with_fragment o xs ++ ys
with_both None xs ys = refl
with_both (Some f) xs ys = refl

pub fragments_both : (run more : List Kept) →
    fragments_of (map polled_frame (run ++ more)) ≡ fragments_of (map polled_frame run) ++ fragments_of (map polled_frame more)
fragments_both [] more = refl
fragments_both (f ∷ run) more =
    ap (with_fragment (polled_frame f).fragment) (fragments_both run more)
    ∙ with_both (polled_frame f).fragment (fragments_of (map polled_frame run)) (fragments_of (map polled_frame more))

end_both : (position : ℕ) (run more : List Kept) → line_end position (run ++ more) ≡ line_end (line_end position run) more
end_both position [] more = refl
end_both position (f ∷ run) more = end_both (end_of f) run more

-- ---- a run goes on

-- nothing was passed yet: the run begins here
begin_run : (size start : ℕ) (line front left : List Kept) (at : ℕ) → IsLine size start line → All (IsIn line) (front ++ left) →
    Adjoin at (front ++ left) → IsRunTo line (line_end at front) (fragments_of (map polled_frame front))
begin_run size start line [] left at is all adjoin =
    record { before = line; run = []; after = []; is = sym (append-nil line); ends = refl; given_are = refl }
begin_run size start line (f ∷ front) left at is all adjoin =
    let there = All-head (IsIn line) f (front ++ left) all in
    let here = begins_in size start there.before there.after f (subst (IsLine size start) there.is is) in
    let on : Adjoin (line_end start there.before) (f ∷ (front ++ left)) =
    subst (λ (n : ℕ). Adjoin n (f ∷ (front ++ left))) (sym adjoin.0 ∙ here) adjoin in
    let more = goes_on size start line there.before (f ∷ there.after) (f ∷ (front ++ left)) is there.is all on in
    record {
      before = there.before;
      run = f ∷ front;
      after = left ++ more.rest;
      is = there.is ∙ ap (λ (l : List Kept). there.before ++ l) (more.is ∙ append_assoc (f ∷ front) left more.rest);
      ends = refl;
      given_are = refl;
    }

-- the run so far ends where these begin
more_run : (size start : ℕ) (line before run after front left : List Kept) (f : Kept) (at : ℕ) → IsLine size start line →
    line ≡ before ++ ((f ∷ run) ++ after) → line_end at (f ∷ run) ≡ at → All (IsIn line) (front ++ left) → Adjoin at (front ++ left) →
    IsRunTo line (line_end at front) (fragments_of (map polled_frame (f ∷ run)) ++ fragments_of (map polled_frame front))
more_run size start line before run after front left f at is same ends all adjoin =
    let regrouped : line ≡ (before ++ (f ∷ run)) ++ after = same ∙ sym (append_assoc before (f ∷ run) after) in
    let stands : line_end start (before ++ (f ∷ run)) ≡ at = end_both start before (f ∷ run) ∙ ends in
    let more = goes_on size start line (before ++ (f ∷ run)) after (front ++ left) is regrouped all
    (subst (λ (n : ℕ). Adjoin n (front ++ left)) (sym stands) adjoin) in
    record {
      before = before;
      run = (f ∷ run) ++ front;
      after = left ++ more.rest;
      is = same
          ∙ ap (λ (l : List Kept). before ++ ((f ∷ run) ++ l)) (more.is ∙ append_assoc front left more.rest)
          ∙ ap (λ (l : List Kept). before ++ l) (sym (append_assoc (f ∷ run) front (left ++ more.rest)));
      ends = end_both (line_end at front) (f ∷ run) front ∙ ap (λ (n : ℕ). line_end n front) ends;
      given_are = sym (fragments_both (f ∷ run) front);
    }

goes_by : (size start : ℕ) (line before run after front left : List Kept) (at : ℕ) → IsLine size start line →
    line ≡ before ++ (run ++ after) → line_end at run ≡ at → All (IsIn line) (front ++ left) → Adjoin at (front ++ left) →
    IsRunTo line (line_end at front) (fragments_of (map polled_frame run) ++ fragments_of (map polled_frame front))
goes_by size start line before [] after front left at is same ends all adjoin = begin_run size start line front left at is all adjoin
goes_by size start line before (f ∷ run) after front left at is same ends all adjoin =
    more_run size start line before run after front left f at is same ends all adjoin

pub run_on : (size start : ℕ) (line front left : List Kept) (at : ℕ) (given : List Fetched) → IsLine size start line →
    IsRunTo line at given → All (IsIn line) (front ++ left) → Adjoin at (front ++ left) →
    IsRunTo line (line_end at front) (given ++ fragments_of (map polled_frame front))
run_on size start line front left at given is run all adjoin =
    subst (λ (xs : List Fetched). IsRunTo line (line_end at front) (xs ++ fragments_of (map polled_frame front))) (sym run.given_are)
    (goes_by size start line run.before run.run run.after front left at is run.is run.ends all adjoin)

-- ---- a poll

stands_at : (P : ℕ → Type 0) (o : Option ℕ) (at : ℕ) → o ≡ Some at → IfSome o P → P at
stands_at P o at is holds = subst (λ (x : Option ℕ). IfSome x P) is holds

-- what is whole from where a subscription stands stands one behind the other
pub whole_adjoins : (line : List Kept) (r : Rebuilt) (subscription at : ℕ) → Mirrors line r →
    position_of r.pairs subscription ≡ Some at → Adjoin at (whole_from r at)
whole_adjoins line r subscription at mirrors stood =
    let c : ℕ = contiguous_of r in
    let order = mirrors.order in
    let within = stands_at (IsWithin r.base c) (position_of r.pairs subscription) at stood
    (at_found (IsWithin r.base c) subscription r.pairs order.paired) in
    let begins = stands_at (Begins c r.frames) (position_of r.pairs subscription) at stood
    (at_found (Begins c r.frames) subscription r.pairs order.starts) in
    adjoin-from at c c _ order.end r.frames order.order refl within.1 (omega arith) begins

passes_on : (size start : ℕ) (line : List Kept) (r : Rebuilt) (subscription limit at : ℕ) (given : List Fetched) →
    IsLine size start line → Mirrors line r → position_of r.pairs subscription ≡ Some at → IsRunTo line at given →
    IfSome (position_of (passes r subscription at (passed limit (map polled_frame (whole_from r at)))).after.pairs subscription)
    (λ next. IsRunTo line next (given ++ (passes r subscription at (passed limit (map polled_frame (whole_from r at)))).fragments))
unfolding settled
passes_on size start line r subscription limit at given is mirrors stood run =
    let gs : List Kept = whole_from r at in
    let f = front_of limit gs in
    let all : All (IsIn line) gs = All-filter (begins_within at (contiguous_of r)) (IsIn line) r.frames mirrors.frames in
    let adjoin : Adjoin at gs = whole_adjoins line r subscription at mirrors stood in
    let more = run_on size start line f.front f.left at given is run (subst (All (IsIn line)) f.is all) (subst (Adjoin at) f.is adjoin) in
    let next : position_of (passes r subscription at (passed limit (map polled_frame gs))).after.pairs subscription
    ≡ Some (behind at (passed limit (map polled_frame gs))) =
    moved_there subscription (behind at (passed limit (map polled_frame gs))) at r.pairs stood in
    subst (λ (o : Option ℕ). IfSome o (λ next. IsRunTo line next (given ++ fragments_of (passed limit (map polled_frame gs))))) (sym next)
    (subst (λ (ps : List Polled). IsRunTo line (behind at ps) (given ++ fragments_of ps)) (sym f.passes) more)

pub polls_on : PollsGoOn
polls_on size start line r subscription limit at given is mirrors stood run =
    subst
    (λ (p : Poll). IfSome (position_of p.after.pairs subscription) (λ next. IsRunTo line next (given ++ p.fragments)))
    (sym (polled_some r subscription limit at stood))
    (passes_on size start line r subscription limit at given is mirrors stood run)
