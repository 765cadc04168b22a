-- All frames that are held, term by term.
use Rattle.std.proofs.Common.{◌≡◌, ℕ, ◌+◌, ◌*◌, ◌-◌, ◌/◌, ◌%◌, ◌^◌, ◌<◌, ◌≤◌, Bool, true, false, cond, List, [], ◌∷◌, ◌++◌, min, refl, sym, ap, ap₂, ◌∙◌, subst, arith, append_assoc}
use Rattle.std.specs.Prelude.{Contains, max, nat_lt, nat_le, ◌&&◌, if◌then◌else◌, filter}
use Rattle.std.proofs.lemmas.Bool.Decides.{nat_tests}
use Rattle.std.proofs.lemmas.List.{append-nil}
use Rattle.std.proofs.lemmas.List.Elements.{All-contains, filter-append}
use Rattle.std.proofs.lemmas.Nat.{div-add-mod', mod-mul-add, mul-le}
use Rattle.term_log.specs.declared.ident.Ident.{Ident}
use Rattle.term_log.specs.Ident.{IsIdent}
use Rattle.term_log.specs.Frames.{Frame, fragment, pad, span, total, IsFrame, IsRun}
use Rattle.term_log.specs.Kept.{IsStart, Kept, StandsFor}
use Rattle.term_log.specs.Log.{low_of}
use Rattle.term_log.specs.Reading.{Given, given, all_given, sent_size, of_term, within, GivesFrom, GivesAll}
use Rattle.term_log.specs.Ranges.{meets, is_over, over_start, GivesOver, IsSearchStart, Reaches}
use Rattle.term_log.proofs.Held.{run_front, run_rest, total_both, term_near}
use Rattle.term_log.proofs.Places.{mod_within}
use Rattle.term_log.proofs.Stands.{frame_fits}

-- ---- the frames of one term

-- the start of the next term
abbrev pub term_end : ℕ → ℕ → ℕ
term_end term position = position - position % term + term

-- the frames behind those of a term
abbrev later_of : ℕ → ℕ → List Frame → List Frame
later_of term position [] = []
later_of term position (f ∷ fs) = if nat_le term (position % term + span f) then fs else later_of term (position + span f) fs

pub some_span : (i : Ident) (position : ℕ) (f : Frame) → IsFrame i position f → 0 < span f
some_span i position (fragment flags payload) is = omega arith
some_span i position (pad size) is = omega (arith, is.0)

sent_less : (i : Ident) (position : ℕ) (f : Frame) → IsFrame i position f → sent_size f ≤ span f
sent_less i position (fragment flags payload) is = omega arith
sent_less i position (pad size) is = is.0

term_split : (term position : ℕ) (fs : List Frame) → fs ≡ of_term term position fs ++ later_of term position fs
term_split term position [] = refl
term_split term position (f ∷ fs) =
    let rest = term_split term (position + span f) fs in
    elim (nat_le term (position % term + span f)) as (λ b. f ∷ fs ≡ f ∷ (if b then [] else of_term term (position + span f) fs) ++ (if b then fs else later_of term (position + span f) fs)) [
      | true ↦ refl
      | false ↦ ap (λ (gs : List Frame). f ∷ gs) rest
    ]

-- the frames of a term end at its end or at the last one's
term_total : (i : Ident) (position : ℕ) (fs : List Frame) → IsIdent i → IsRun i position fs
    → position + total (of_term i.term_length position fs) ≡ min (position + total fs) (term_end i.term_length position)
term_total i position [] sound run =
    let term_low = sound.term_low in
    let split = div-add-mod' position i.term_length in
    let below : position % i.term_length < i.term_length = omega arith in
    omega arith
term_total i position (f ∷ fs) sound run =
    let term : ℕ = i.term_length in
    let term_low = sound.term_low in
    let split = div-add-mod' position term in
    let fits = frame_fits i position f run.0 in
    let rest = term_total i (position + span f) fs sound run.1 in
    elim (nat_le term (position % term + span f)) as (λ b. nat_le term (position % term + span f) ≡ b
    → position + total (f ∷ (if b then [] else of_term term (position + span f) fs)) ≡ min (position + (span f + total fs)) (term_end term position)) [
      | true ↦ λ ends.
          let last : term ≤ position % term + span f = grind (arith, nat_tests, ends) in
          omega arith
      | false ↦ λ goes.
          let before : position % term + span f < term = grind (arith, nat_tests, goes) in
          let here : (position + span f) % term ≡ position % term + span f = mod_within position (span f) term (omega arith) before in
          omega arith
    ]
    refl

within_whole : (i : Ident) (position budget : ℕ) (fs : List Frame) → IsRun i position fs → total fs ≤ budget → within budget fs ≡ fs
within_whole i position budget [] run fits = refl
within_whole i position budget (f ∷ fs) run fits =
    let less = sent_less i position f run.0 in
    let rest = within_whole i (position + span f) (budget - sent_size f) fs run.1 (omega arith) in
    let admits : nat_lt budget (sent_size f) ≡ false = grind (arith, nat_tests, less, fits) in
    ap (λ (b : Bool). if b then [] else f ∷ within (budget - sent_size f) fs) admits ∙ ap (λ (gs : List Frame). f ∷ gs) rest

pub given_both : (i : Ident) (position : ℕ) (fs gs : List Frame) → all_given i position (fs ++ gs) ≡ all_given i position fs ++ all_given i (position + total fs) gs
given_both i position [] gs =
    let here : position ≡ position + 0 = omega arith in
    ap (λ (p : ℕ). all_given i p gs) here
given_both i position (f ∷ fs) gs =
    let here : position + span f + total fs ≡ position + (span f + total fs) = omega arith in
    ap (λ (xs : List Given). given i position f ∷ xs) (given_both i (position + span f) fs gs ∙ ap (λ (p : ℕ). all_given i (position + span f) fs ++ all_given i p gs) here)

-- ---- one term after another

-- what is known of all frames from a position on
record From (k : Kept) (position : ℕ) (after : List Frame) : Type 0 where
  before : List Frame
  stands : StandsFor k (before ++ after)
  place : position ≡ k.ident.start + total before

-- the frames of the term in which a position lies, from there on
record OfTerm (k : Kept) (position : ℕ) (after : List Frame) : Type 0 where
  run : IsRun k.ident position (of_term k.ident.term_length position after)
  least : total (of_term k.ident.term_length position after) ≤ k.ident.term_length
  ends : position + total (of_term k.ident.term_length position after) ≡ min k.tail (term_end k.ident.term_length position)

frames_of_term : (k : Kept) (position : ℕ) (after : List Frame) → IsIdent k.ident → From k position after → OfTerm k position after
frames_of_term k position after sound from =
    let i : Ident = k.ident in
    let term : ℕ = i.term_length in
    let term_low = sound.term_low in
    let s = from.stands in
    let place = from.place in
    let here : List Frame = of_term term position after in
    let later : List Frame = later_of term position after in
    let split : after ≡ here ++ later = term_split term position after in
    let run = subst (λ (p : ℕ). IsRun i p after) (sym place) (run_rest i i.start from.before after s.sound) in
    let tail = s.tail in
    let both = total_both from.before after in
    let ends = term_total i position after sound run in
    let split_offset = div-add-mod' position term in
    record {
      run = run_front i position here later (subst (λ (fs : List Frame). IsRun i position fs) split run);
      least = omega arith;
      ends = omega arith;
    }

-- what is kept of given frames is kept of each part of them
record KeepsParts (keep : List Given → List Given) : Type 0 where
  both : (xs ys : List Given) → keep (xs ++ ys) ≡ keep xs ++ keep ys
  none : keep [] ≡ []

-- what is given from a position on, of which a part is kept: the same as if all frames of its term were given
record GivesKept (keep : List Given → List Given) (k : Kept) (position : ℕ) (left : List Given) : Type 0 where
  on : (before after : List Frame) → StandsFor k (before ++ after) → position ≡ k.ident.start + total before
      → keep left ≡ keep (all_given k.ident position (of_term k.ident.term_length position after))

-- the frames of a term that are given, and those behind it
record Turn (keep : List Given → List Given) (k : Kept) (position next : ℕ) (after : List Frame) (left : List Given) : Type 0 where
  later : List Frame
  rest : From k next later
  all : keep (all_given k.ident position after) ≡ keep left ++ keep (all_given k.ident next later)

turn : (keep : List Given → List Given) (k : Kept) (position next : ℕ) (after : List Frame) (left : List Given) → KeepsParts keep → IsIdent k.ident
    → From k position after → GivesKept keep k position left → next ≡ min k.tail (term_end k.ident.term_length position)
    → Turn keep k position next after left
turn keep k position next after left parts sound from gives next_is =
    let i : Ident = k.ident in
    let term : ℕ = i.term_length in
    let s = from.stands in
    let place = from.place in
    let here : List Frame = of_term term position after in
    let later : List Frame = later_of term position after in
    let split : after ≡ here ++ later = term_split term position after in
    let ends = (frames_of_term k position after sound from).ends in
    let next_here : next ≡ position + total here = omega arith in
    let given_is = gives.on from.before after s place in
    let whole : from.before ++ after ≡ (from.before ++ here) ++ later = ap (λ (fs : List Frame). from.before ++ fs) split ∙ sym (append_assoc from.before here later) in
    record {
      later = later;
      rest = record {
        before = from.before ++ here;
        stands = subst (λ (fs : List Frame). StandsFor k fs) whole s;
        place = omega (arith, total_both from.before here);
      };
      all = ap (λ (fs : List Frame). keep (all_given i position fs)) split
          ∙ ap keep (given_both i position here later)
          ∙ parts.both (all_given i position here) (all_given i (position + total here) later)
          ∙ ap₂ (λ (xs : List Given) (p : ℕ). xs ++ keep (all_given i p later)) (sym given_is) (sym next_here);
    }

-- fewer terms are left
terms_less : (tail position next term more : ℕ) → 0 < term → next ≡ min tail (term_end term position) → tail ≤ term_end term position + more → term ≤ more
    → tail ≤ next - next % term + more
terms_less tail position next term more some is left enough =
    let own = div-add-mod' next term in
    let split = div-add-mod' position term in
    elim (nat_le tail (term_end term position)) as (λ b. nat_le tail (term_end term position) ≡ b → tail ≤ next - next % term + more) [
      | true ↦ λ last.
          let near : tail ≤ term_end term position = grind (arith, nat_tests, last) in
          let below : next % term < term = omega arith in
          omega arith
      | false ↦ λ full.
          let far : term_end term position < tail = grind (arith, nat_tests, full) in
          let up : (position / term + 1) * term ≡ position / term * term + term = omega arith in
          let here : next ≡ (position / term + 1) * term + 0 = omega arith in
          let start : next % term ≡ 0 = ap (λ (n : ℕ). n % term) here ∙ mod-mul-add (position / term + 1) term 0 some in
          omega arith
    ]
    refl

-- nothing is left at the tail
none_left : (k : Kept) (position : ℕ) (after : List Frame) → From k position after → k.tail ≤ position → all_given k.ident position after ≡ []
none_left k position [] from ends = refl
none_left k position (f ∷ fs) from ends =
    let i : Ident = k.ident in
    let s = from.stands in
    let place = from.place in
    let tail = s.tail in
    let run = subst (λ (p : ℕ). IsRun i p (f ∷ fs)) (sym place) (run_rest i i.start from.before (f ∷ fs) s.sound) in
    let some = some_span i position f run.0 in
    absurd (omega (arith, total_both from.before (f ∷ fs)))

-- all frames from the first held term on
three_terms : (keep : List Given → List Given) (k : Kept) (low second third : ℕ) (after : List Frame) (a b c : List Given) → KeepsParts keep
    → IsIdent k.ident → From k low after → (k.tail / k.ident.term_length - 2) * k.ident.term_length ≤ low
    → GivesKept keep k low a → GivesKept keep k second b → GivesKept keep k third c
    → second ≡ min k.tail (term_end k.ident.term_length low) → third ≡ min k.tail (term_end k.ident.term_length second)
    → keep (all_given k.ident low after) ≡ keep (a ++ b ++ c)
three_terms keep k low second third after a b c parts sound from held gives_a gives_b gives_c second_is third_is =
    let i : Ident = k.ident in
    let term : ℕ = i.term_length in
    let term_low = sound.term_low in
    let some : 0 < term = omega arith in
    let end : ℕ = min k.tail (term_end term third) in
    let one = turn keep k low second after a parts sound from gives_a second_is in
    let two = turn keep k second third one.later b parts sound one.rest gives_b third_is in
    let three = turn keep k third end two.later c parts sound two.rest gives_c refl in
    let near = term_near k.tail low term some held in
    let own = div-add-mod' k.tail term in
    let split = div-add-mod' low term in
    let up : (low / term + 2) * term ≡ low / term * term + 2 * term = omega arith in
    let bound : k.tail / term * term ≤ (low / term + 2) * term = mul-le (k.tail / term) term (low / term + 2) term near (omega arith) in
    let offset : k.tail % term < term = omega arith in
    let first_left : k.tail ≤ term_end term low + 2 * term = omega arith in
    let second_left : k.tail ≤ second - second % term + 2 * term = terms_less k.tail low second term (2 * term) some second_is first_left (omega arith) in
    let third_left : k.tail ≤ third - third % term + term = terms_less k.tail second third term term some third_is (omega arith) (omega arith) in
    let last : k.tail ≤ end = omega arith in
    let ended : keep (all_given i end three.later) ≡ [] = ap keep (none_left k end three.later three.rest last) ∙ parts.none in
    one.all
    ∙ ap (λ (xs : List Given). keep a ++ xs) (two.all ∙ ap (λ (xs : List Given). keep b ++ xs) (three.all ∙ ap (λ (xs : List Given). keep c ++ xs) ended ∙ append-nil (keep c)))
    ∙ sym (append_assoc (keep a) (keep b) (keep c))
    ∙ sym (parts.both (a ++ b) c ∙ ap (λ (xs : List Given). xs ++ keep c) (parts.both a b))

-- ---- what is held, of all frames

-- a frame begins where a term does
boundary : (position at term : ℕ) → 0 < term → position < at → at % term ≡ 0 → term_end term position ≤ at
boundary position at term some before is =
    let x = div-add-mod' position term in
    let y = div-add-mod' at term in
    elim (nat_le (at / term) (position / term)) as (λ b. nat_le (at / term) (position / term) ≡ b → term_end term position ≤ at) [
      | true ↦ λ not_over.
          let less : at / term ≤ position / term = grind (arith, nat_tests, not_over) in
          let under : at / term * term ≤ position / term * term = mul-le (at / term) term (position / term) term less (omega arith) in
          absurd (omega arith)
      | false ↦ λ over.
          let more : position / term + 1 ≤ at / term = grind (arith, nat_tests, over) in
          let up : (position / term + 1) * term ≡ position / term * term + term = omega arith in
          let above : (position / term + 1) * term ≤ at / term * term = mul-le (position / term + 1) term (at / term) term more (omega arith) in
          omega arith
    ]
    refl

record Parted (position at : ℕ) (fs : List Frame) : Type 0 where
  before : List Frame
  after : List Frame
  is : fs ≡ before ++ after
  place : at ≡ position + total before

part_at : (i : Ident) (position at : ℕ) (fs : List Frame) → IsIdent i → IsRun i position fs → position ≤ at → at ≤ position + total fs
    → (position < at → at % i.term_length ≡ 0) → Parted position at fs
part_at i position at [] sound run low high starts = record { before = []; after = []; is = refl; place = omega arith }
part_at i position at (f ∷ fs) sound run low high starts =
    let term_low = sound.term_low in
    let fits = frame_fits i position f run.0 in
    let split = div-add-mod' position i.term_length in
    elim (nat_le at position) as (λ b. nat_le at position ≡ b → Parted position at (f ∷ fs)) [
      | true ↦ λ here.
          let same : at ≤ position = grind (arith, nat_tests, here) in
          record { before = []; after = f ∷ fs; is = refl; place = omega arith }
      | false ↦ λ there.
          let ahead : position < at = grind (arith, nat_tests, there) in
          let over = boundary position at i.term_length (omega arith) ahead (starts ahead) in
          let some = some_span i position f run.0 in
          let rest = part_at i (position + span f) at fs sound run.1 (omega arith) (omega arith) (λ more. starts ahead) in
          let place = rest.place in
          record { before = f ∷ rest.before; after = rest.after; is = ap (λ (gs : List Frame). f ∷ gs) rest.is; place = omega arith }
    ]
    refl

-- no frame before `low` is held
none_below : (i : Ident) (position low at size : ℕ) (fs : List Frame) → IsRun i position fs → position + total fs ≤ low
    → filter (is_over low at size) (all_given i position fs) ≡ []
none_below i position low at size [] run under = refl
none_below i position low at size (f ∷ fs) run under =
    let some = some_span i position f run.0 in
    let below : nat_le low position ≡ false = grind (arith, nat_tests, some, under) in
    let rest = none_below i (position + span f) low at size fs run.1 (omega arith) in
    let others : List Given = filter (is_over low at size) (all_given i (position + span f) fs) in
    ap (λ (b : Bool). cond (b && meets at size (given i position f)) (given i position f ∷ others) others) below ∙ rest

all_above : (i : Ident) (position low at size : ℕ) (fs : List Frame) → low ≤ position
    → filter (is_over low at size) (all_given i position fs) ≡ filter (meets at size) (all_given i position fs)
all_above i position low at size [] above = refl
all_above i position low at size (f ∷ fs) above =
    let held : nat_le low position ≡ true = grind (arith, nat_tests, above) in
    let rest = all_above i (position + span f) low at size fs (omega arith) in
    let g : Given = given i position f in
    ap₂ (λ (b : Bool) (others : List Given). cond (b && meets at size g) (g ∷ others) others) held rest

low_within : (tail term : ℕ) → (tail / term - 2) * term ≤ tail
low_within tail term =
    let own = div-add-mod' tail term in
    let less : (tail / term - 2) * term ≤ tail / term * term = mul-le (tail / term - 2) term (tail / term) term (omega arith) (omega arith) in
    omega arith

pub low_before : (k : Kept) → k.ident.start ≤ k.tail → low_of k ≤ k.tail
low_before k low = omega (arith, low, low_within k.tail k.ident.term_length)

low_starts : (k : Kept) → 0 < k.ident.term_length → k.ident.start < low_of k → low_of k % k.ident.term_length ≡ 0
low_starts k some ahead =
    let term : ℕ = k.ident.term_length in
    let is : low_of k ≡ (k.tail / term - 2) * term + 0 = omega (arith, ahead) in
    ap (λ (n : ℕ). n % term) is ∙ mod-mul-add (k.tail / term - 2) term 0 some

-- all of what is given is kept
keeps_all : KeepsParts (λ xs. xs)
keeps_all = record { both = λ xs ys. refl; none = refl }

-- a budget of a whole term leaves nothing of one out
gives_whole : (k : Kept) (position : ℕ) (left : List Given) → IsIdent k.ident → GivesFrom k position k.ident.term_length left → GivesKept (λ xs. xs) k position left
gives_whole k position left sound gives =
    record {
      on = λ before after s place.
          let from : From k position after = record { before = before; stands = s; place = place } in
          let here = frames_of_term k position after sound from in
          let term : ℕ = k.ident.term_length in
          gives.on before after s place ∙ ap (all_given k.ident position) (within_whole k.ident position term (of_term term position after) here.run here.least);
    }

-- the frames of three terms are all from the first position on
pub gives_all : (k : Kept) (position second third : ℕ) (a b c : List Given) → IsIdent k.ident → low_of k ≤ position
    → GivesFrom k position k.ident.term_length a → GivesFrom k second k.ident.term_length b → GivesFrom k third k.ident.term_length c
    → second ≡ min k.tail (term_end k.ident.term_length position) → third ≡ min k.tail (term_end k.ident.term_length second)
    → GivesAll k position (a ++ b ++ c)
gives_all k position second third a b c sound low gives_a gives_b gives_c second_is third_is =
    record {
      on = λ before after s place.
          let from : From k position after = record { before = before; stands = s; place = place } in
          sym (three_terms (λ xs. xs) k position second third after a b c keeps_all sound from (omega (arith, low))
          (gives_whole k position a sound gives_a) (gives_whole k second b sound gives_b) (gives_whole k third c sound gives_c) second_is third_is);
    }

-- ---- the frames that meet a range

keeps_meeting : (at size : ℕ) → KeepsParts (filter (meets at size))
keeps_meeting at size = record { both = λ xs ys. filter-append (meets at size) xs ys; none = refl }

-- no frame meets a range that ends before it
none_behind : (i : Ident) (position at size : ℕ) (fs : List Frame) → at + size ≤ position → filter (meets at size) (all_given i position fs) ≡ []
none_behind i position at size [] over = refl
none_behind i position at size (f ∷ fs) over =
    let apart : min (position + span f) (at + size) ≤ max position at = omega arith in
    let out : meets at size (given i position f) ≡ false = grind (arith, nat_tests, apart) in
    let rest = none_behind i (position + span f) at size fs (omega arith) in
    let others : List Given = filter (meets at size) (all_given i (position + span f) fs) in
    ap (λ (b : Bool). cond b (given i position f ∷ others) others) out ∙ rest

-- no frame meets a range that begins behind it
none_under : (i : Ident) (position low at size : ℕ) (fs : List Frame) → position + total fs ≤ at
    → filter (is_over low at size) (all_given i position fs) ≡ []
none_under i position low at size [] under = refl
none_under i position low at size (f ∷ fs) under =
    let apart : min (position + span f) (at + size) ≤ max position at = omega arith in
    let out : meets at size (given i position f) ≡ false = grind (arith, nat_tests, apart) in
    let rest = none_under i (position + span f) low at size fs (omega arith) in
    let g : Given = given i position f in
    let others : List Given = filter (is_over low at size) (all_given i (position + span f) fs) in
    let left : cond (nat_le low position && false) (g ∷ others) others ≡ others =
    elim (nat_le low position) as (λ b. cond (b && false) (g ∷ others) others ≡ others) [ true ↦ refl | false ↦ refl ] in
    ap (λ (b : Bool). cond (nat_le low position && b) (g ∷ others) others) out ∙ left ∙ rest

sent_most : (i : Ident) (position : ℕ) (f : Frame) → IsFrame i position f → sent_size f ≤ i.mtu + 32
sent_most i position (fragment flags payload) is = omega (arith, is.0)
sent_most i position (pad size) is = omega arith

-- what a budget leaves out meets no range that ends so far before it
within_meets : (i : Ident) (position at size budget : ℕ) (fs : List Frame) → IsRun i position fs → position + total fs < 2 ^ 64
    → Reaches i at size position budget
    → filter (meets at size) (all_given i position (within budget fs)) ≡ filter (meets at size) (all_given i position fs)
within_meets i position at size budget [] run high reaches = refl
within_meets i position at size budget (f ∷ fs) run high reaches =
    let less = sent_less i position f run.0 in
    let most = sent_most i position f run.0 in
    elim (nat_lt budget (sent_size f)) as (λ b. nat_lt budget (sent_size f) ≡ b
    → filter (meets at size) (all_given i position (if b then [] else f ∷ within (budget - sent_size f) fs)) ≡ filter (meets at size) (all_given i position (f ∷ fs))) [
      | true ↦ λ short.
          let little : budget < sent_size f = grind (arith, nat_tests, short) in
          sym (none_behind i position at size (f ∷ fs) (omega arith))
      | false ↦ λ fits.
          let enough : sent_size f ≤ budget = grind (arith, nat_tests, fits) in
          let rest = within_meets i (position + span f) at size (budget - sent_size f) fs run.1 (omega arith) (omega arith) in
          ap (λ (others : List Given). cond (meets at size (given i position f)) (given i position f ∷ others) others) rest
    ]
    refl

gives_meeting : (k : Kept) (position at size budget : ℕ) (left : List Given) → IsIdent k.ident → k.tail < 2 ^ 64 → Reaches k.ident at size position budget
    → GivesFrom k position budget left → GivesKept (filter (meets at size)) k position left
gives_meeting k position at size budget left sound high reaches gives =
    record {
      on = λ before after s place.
          let from : From k position after = record { before = before; stands = s; place = place } in
          let here = frames_of_term k position after sound from in
          let ends = here.ends in
          ap (filter (meets at size)) (gives.on before after s place)
          ∙ within_meets k.ident position at size budget (of_term k.ident.term_length position after) here.run (omega arith) reaches;
    }

-- the search begins where a term does, or at the first position that is held
over_starts : (k : Kept) (at : ℕ) → 0 < k.ident.term_length → k.ident.start < max (low_of k) (at - at % k.ident.term_length)
    → max (low_of k) (at - at % k.ident.term_length) % k.ident.term_length ≡ 0
over_starts k at some ahead =
    let term : ℕ = k.ident.term_length in
    let begin : ℕ = at - at % term in
    elim (nat_le begin (low_of k)) as (λ b. nat_le begin (low_of k) ≡ b → max (low_of k) begin % term ≡ 0) [
      | true ↦ λ under.
          let less : begin ≤ low_of k = grind (arith, nat_tests, under) in
          let is : max (low_of k) begin ≡ low_of k = omega arith in
          ap (λ (n : ℕ). n % term) is ∙ low_starts k some (omega arith)
      | false ↦ λ over.
          let more : low_of k < begin = grind (arith, nat_tests, over) in
          let split = div-add-mod' at term in
          let is : max (low_of k) begin ≡ at / term * term + 0 = omega arith in
          ap (λ (n : ℕ). n % term) is ∙ mod-mul-add (at / term) term 0 some
    ]
    refl

part_over : (k : Kept) (at : ℕ) (frames : List Frame) → IsIdent k.ident → StandsFor k frames → Parted k.ident.start (over_start k at) frames
part_over k at frames sound s =
    let i : Ident = k.ident in
    let term_low = sound.term_low in
    let tail = s.tail in
    let some : 0 < i.term_length = omega arith in
    let before_tail = low_before k (omega arith) in
    let first : ℕ = max (low_of k) (at - at % i.term_length) in
    elim (nat_le k.tail first) as (λ b. nat_le k.tail first ≡ b → Parted i.start (over_start k at) frames) [
      | true ↦ λ behind.
          let over : k.tail ≤ first = grind (arith, nat_tests, behind) in
          record { before = frames; after = []; is = sym (append-nil frames); place = omega arith }
      | false ↦ λ before.
          let under : first < k.tail = grind (arith, nat_tests, before) in
          let is : over_start k at ≡ first = omega arith in
          subst (λ (n : ℕ). Parted i.start n frames) (sym is) (part_at i i.start first frames sound s.sound (omega arith) (omega arith) (over_starts k at some))
    ]
    refl

-- the start of the range's term is where the search may begin
pub over_search : (k : Kept) (at : ℕ) → IsIdent k.ident → k.ident.start ≤ k.tail → IsSearchStart k at (over_start k at)
over_search k at sound start =
    let before_tail = low_before k start in
    record {
      low = omega arith;
      high = omega arith;
      near = omega arith;
      starts = λ frames s.
          let parted = part_over k at frames sound s in
          record { before = parted.before; after = parted.after; is = parted.is; place = parted.place };
    }

later_start : (k : Kept) (at one mark : ℕ) (b : Bool) → nat_le mark one ≡ b → mark ≤ at → mark ≤ k.tail
    → ((frames : List Frame) → StandsFor k frames → IsStart k.ident.start frames mark) → IsSearchStart k at one → IsSearchStart k at (max one mark)
later_start k at one mark true is near high starts start =
    let under : mark ≤ one = grind (arith, nat_tests, is) in
    let same : one ≡ max one mark = omega arith in
    subst (λ (n : ℕ). IsSearchStart k at n) same start
later_start k at one mark false is near high starts start =
    let over : one < mark = grind (arith, nat_tests, is) in
    let same : mark ≡ max one mark = omega arith in
    let low = start.low in
    let found : IsSearchStart k at mark = record { low = omega arith; high = high; near = omega arith; starts = starts } in
    subst (λ (n : ℕ). IsSearchStart k at n) same found

-- so is a mark that lies behind it
pub mark_search : (k : Kept) (at one mark : ℕ) → Contains k.marks mark → mark ≤ min at k.tail → IsSearchStart k at one
    → IsSearchStart k at (max one mark)
mark_search k at one mark there near start =
    later_start k at one mark (nat_le mark one) refl (omega arith) (omega arith)
    (λ frames s. All-contains (IsStart k.ident.start frames) k.marks mark s.starts there) start

-- no frame before the search's start is asked for
none_before : (k : Kept) (at size begin : ℕ) (fs : List Frame) → IsRun k.ident k.ident.start fs → begin ≤ max (low_of k) at
    → k.ident.start + total fs ≡ begin → filter (is_over (low_of k) at size) (all_given k.ident k.ident.start fs) ≡ []
none_before k at size begin fs run near ends =
    let i : Ident = k.ident in
    let low : ℕ = low_of k in
    elim (nat_le begin low) as (λ b. nat_le begin low ≡ b → filter (is_over low at size) (all_given i i.start fs) ≡ []) [
      | true ↦ λ under.
          let less : begin ≤ low = grind (arith, nat_tests, under) in
          none_below i i.start low at size fs run (omega arith)
      | false ↦ λ over.
          let more : low < begin = grind (arith, nat_tests, over) in
          none_under i i.start low at size fs (omega arith)
    ]
    refl

-- what meets a range of what is given from the search's start on is all that is held and meets it
pub gives_over : (k : Kept) (at size begin second third budget budget_2 budget_3 : ℕ) (a b c left : List Given) → IsIdent k.ident
    → IsSearchStart k at begin → k.tail < 2 ^ 64 → GivesFrom k begin budget a → GivesFrom k second budget_2 b → GivesFrom k third budget_3 c
    → Reaches k.ident at size begin budget → Reaches k.ident at size second budget_2 → Reaches k.ident at size third budget_3
    → second ≡ min k.tail (term_end k.ident.term_length begin) → third ≡ min k.tail (term_end k.ident.term_length second)
    → left ≡ filter (meets at size) (a ++ b ++ c) → GivesOver k at size left
gives_over k at size begin second third budget budget_2 budget_3 a b c left sound start high gives_a gives_b gives_c reaches_a reaches_b reaches_c second_is third_is left_is =
    record {
      on = λ frames s.
          let i : Ident = k.ident in
          let low : ℕ = low_of k in
          let above = start.low in
          let near = start.near in
          let parted = start.starts frames s in
          let place = parted.place in
          let stands = subst (λ (fs : List Frame). StandsFor k fs) parted.is s in
          let front_run = run_front i i.start parted.before parted.after (subst (λ (fs : List Frame). IsRun i i.start fs) parted.is s.sound) in
          let from : From k begin parted.after = record { before = parted.before; stands = stands; place = place } in
          let keep : List Given → List Given = filter (meets at size) in
          let test : Given → Bool = is_over low at size in
          left_is
          ∙ sym (three_terms keep k begin second third parted.after a b c (keeps_meeting at size) sound from (omega arith)
          (gives_meeting k begin at size budget a sound high reaches_a gives_a)
          (gives_meeting k second at size budget_2 b sound high reaches_b gives_b)
          (gives_meeting k third at size budget_3 c sound high reaches_c gives_c) second_is third_is)
          ∙ sym (all_above i begin low at size parted.after (omega arith))
          ∙ ap (λ (p : ℕ). filter test (all_given i p parted.after)) place
          ∙ sym (ap (λ (xs : List Given). xs ++ filter test (all_given i (i.start + total parted.before) parted.after)) (none_before k at size begin parted.before front_run near (sym place)))
          ∙ sym (filter-append test (all_given i i.start parted.before) (all_given i (i.start + total parted.before) parted.after))
          ∙ ap (filter test) (sym (given_both i i.start parted.before parted.after) ∙ ap (all_given i i.start) (sym parted.is));
    }

-- each of the frames from a position on meets the range up to the tail
all_meet : (i : Ident) (position at size : ℕ) (fs : List Frame) → IsRun i position fs → at ≤ position → position + total fs ≤ at + size
    → filter (meets at size) (all_given i position fs) ≡ all_given i position fs
all_meet i position at size [] run low high = refl
all_meet i position at size (f ∷ fs) run low high =
    let some = some_span i position f run.0 in
    let rest = all_meet i (position + span f) at size fs run.1 (omega arith) (omega arith) in
    let start : max position at ≡ position = omega arith in
    let end : min (position + span f) (at + size) ≡ position + span f = omega arith in
    let before : nat_lt position (position + span f) ≡ true = grind (arith, nat_tests, some) in
    let meet : meets at size (given i position f) ≡ true = ap₂ nat_lt start end ∙ before in
    ap₂ (λ (b : Bool) (others : List Given). cond b (given i position f ∷ others) others) meet rest

pub gives_behind : (k : Kept) (position size : ℕ) (all left : List Given) → size + position ≡ k.tail → GivesAll k position all
    → left ≡ filter (meets position size) all → GivesAll k position left
gives_behind k position size all left room gives left_is =
    record {
      on = λ before after s place.
          let i : Ident = k.ident in
          let run = subst (λ (p : ℕ). IsRun i p after) (sym place) (run_rest i i.start before after s.sound) in
          let tail = s.tail in
          let both = total_both before after in
          left_is
          ∙ ap (filter (meets position size)) (gives.on before after s place)
          ∙ all_meet i position position size after run (omega arith) (omega arith);
    }
