-- What is remembered after many looks, and what it says of them.
use Rattle.std.proofs.Common.{◌≡◌, ℕ, ◌+◌, ◌-◌, ◌<◌, ◌≤◌, All, Bool, true, false, cond, leb, List, [], ◌∷◌, ◌++◌, Option, Some, None, refl, sym, ap, subst, ◌∙◌, append-nil, append_assoc, arith}
use Rattle.std.proofs.lemmas.Bool.{leb-false, leb-true, lt-ltb, ltb-true}
use Rattle.std.proofs.lemmas.List.Elements.{All-head, All-nil, All-push, All-tail}
use Rattle.reading_progress.specs.declared.marks.Mark.{Mark}
use Rattle.reading_progress.specs.Marks.{HasMore, IsWhereItWas, Look, StandsStill, StoodStill, has_gone_on, is_stuck, kept_mark, mark_after, mark_at, next_mark}

-- ---- who is stuck stood still

-- the mark is of such a stretch of these looks
record IsMarkOf (looks : List Look) (mark : Mark) : Type 0 where
  before : List Look
  first : Look
  later : List Look
  looks_are : looks ≡ before ++ first ∷ later
  something : HasMore first
  still : All (StandsStill first) later
  mark_is : mark ≡ mark_at first.now first.position first.received

abbrev Remembers : List Look → Option Mark → Type 0
Remembers looks None = Unit {0}
Remembers looks (Some mark) = IsMarkOf looks mark

-- a stretch begins with the last look
begins : (looks : List Look) (look : Look) → HasMore look → IsMarkOf (looks ++ look ∷ []) (mark_at look.now look.position look.received)
begins looks look something = record {
  before = looks;
  first = look;
  later = [];
  looks_are = refl;
  something = something;
  still = All-nil (StandsStill look);
  mark_is = refl;
}

-- it goes on with the last look
goes_on : (looks : List Look) (mark : Mark) (look : Look) → HasMore look → has_gone_on mark look.position ≡ false → IsMarkOf looks mark → IsMarkOf (looks ++ look ∷ []) mark
goes_on looks mark look something still m = record {
  before = m.before;
  first = m.first;
  later = m.later ++ look ∷ [];
  looks_are = ap (λ (xs : List Look). xs ++ look ∷ []) m.looks_are ∙ append_assoc m.before (m.first ∷ m.later) (look ∷ []);
  something = m.something;
  still = All-push (StandsStill m.first) m.later look m.still (something, subst (λ (x : Mark). has_gone_on x look.position ≡ false) m.mark_is still);
  mark_is = m.mark_is;
}

kept : (looks : List Look) (mark : Mark) (look : Look) (gone : Bool) → has_gone_on mark look.position ≡ gone → HasMore look → IsMarkOf looks mark → IsMarkOf (looks ++ look ∷ []) (cond gone (mark_at look.now look.position look.received) mark)
kept looks mark look true is something m = begins looks look something
kept looks mark look false is something m = goes_on looks mark look something is m

something_there : (looks : List Look) (mark : Option Mark) (look : Look) → HasMore look → Remembers looks mark → IsMarkOf (looks ++ look ∷ []) (kept_mark mark look.now look.position look.received)
something_there looks None look something m = begins looks look something
something_there looks (Some mark) look something m = kept looks mark look (has_gone_on mark look.position) refl something m

step_by : (looks : List Look) (mark : Option Mark) (look : Look) (all : Bool) → leb look.received look.position ≡ all → Remembers looks mark → Remembers (looks ++ look ∷ []) (cond all None (Some (kept_mark mark look.now look.position look.received)))
step_by looks mark look true is m = record {}
step_by looks mark look false is m = something_there looks mark look (leb-false look.received look.position is) m

steps : (looks : List Look) (mark : Option Mark) (more : List Look) → Remembers looks mark → Remembers (looks ++ more) (mark_after mark more)
steps looks mark [] m = subst (λ (xs : List Look). Remembers xs mark) (sym (append-nil looks)) m
steps looks mark (look ∷ more) m =
    let next = step_by looks mark look (leb look.received look.position) refl m in
    subst (λ (xs : List Look). Remembers xs (mark_after mark (look ∷ more))) (append_assoc looks (look ∷ []) more)
    (steps (looks ++ look ∷ []) (next_mark mark look.now look.position look.received) more next)

stuck_with : (looks : List Look) (now longest : ℕ) (mark : Option Mark) → Remembers looks mark → is_stuck mark now longest ≡ true → (since : ℕ) × StoodStill looks since × (longest + since < now)
stuck_with looks now longest None m is = absurd cc
stuck_with looks now longest (Some mark) m is =
    let long = ltb-true _ _ is in (
      mark.since,
      record {
        before = m.before;
        first = m.first;
        later = m.later;
        looks_are = m.looks_are;
        something = m.something;
        still = m.still;
        since_is = ap (λ (x : Mark). x.since) m.mark_is;
      },
      omega (arith, long),
    )

pub stuck_stood_still : (looks : List Look) (now longest : ℕ) → is_stuck (mark_after None looks) now longest ≡ true → (since : ℕ) × StoodStill looks since × (longest + since < now)
stuck_stood_still looks now longest is = stuck_with looks now longest (mark_after None looks) (steps [] None looks (record {})) is

-- ---- who stands still is stuck

-- what is remembered is not from after that moment
abbrev IsSince : ℕ → Option Mark → Type 0
IsSince moment None = Unit {0}
IsSince moment (Some mark) = mark.since ≤ moment

since_kept : (moment : ℕ) (mark : Mark) (look : Look) (gone : Bool) → look.now ≤ moment → mark.since ≤ moment → IsSince moment (Some (cond gone (mark_at look.now look.position look.received) mark))
since_kept moment mark look true now m = now
since_kept moment mark look false now m = m

since_there : (moment : ℕ) (mark : Option Mark) (look : Look) → look.now ≤ moment → IsSince moment mark → IsSince moment (Some (kept_mark mark look.now look.position look.received))
since_there moment None look now m = now
since_there moment (Some mark) look now m = since_kept moment mark look (has_gone_on mark look.position) now m

since_by : (moment : ℕ) (mark : Option Mark) (look : Look) (all : Bool) → look.now ≤ moment → IsSince moment mark → IsSince moment (cond all None (Some (kept_mark mark look.now look.position look.received)))
since_by moment mark look true now m = record {}
since_by moment mark look false now m = since_there moment mark look now m

since_after : (moment : ℕ) (mark : Option Mark) (looks : List Look) → All (λ (look : Look). look.now ≤ moment) looks → IsSince moment mark → IsSince moment (mark_after mark looks)
since_after moment mark [] early m = m
since_after moment mark (look ∷ looks) early m =
    since_after moment (next_mark mark look.now look.position look.received) looks (All-tail (λ (l : Look). l.now ≤ moment) look looks early) (since_by moment mark look (leb look.received look.position) (All-head (λ (l : Look). l.now ≤ moment) look looks early) m)

-- it is remembered since that moment or longer, and who is there has not gone on
record Stays (moment position : ℕ) (mark : Option Mark) : Type 0 where
  kept : Mark
  is : mark ≡ Some kept
  since : kept.since ≤ moment
  still : has_gone_on kept position ≡ false

-- nothing was read of what is there now
still_there : (first : Look) → HasMore first → has_gone_on (mark_at first.now first.position first.received) first.position ≡ false
still_there first more = search (arith, more)

stays_kept : (moment : ℕ) (mark : Mark) (first : Look) (gone : Bool) → has_gone_on mark first.position ≡ gone → first.now ≤ moment → HasMore first → mark.since ≤ moment → Stays moment first.position (Some (cond gone (mark_at first.now first.position first.received) mark))
stays_kept moment mark first true is now more m = record { kept = mark_at first.now first.position first.received; is = refl; since = now; still = still_there first more }
stays_kept moment mark first false is now more m = record { kept = mark; is = refl; since = m; still = is }

stays_there : (moment : ℕ) (mark : Option Mark) (first : Look) → first.now ≤ moment → HasMore first → IsSince moment mark → Stays moment first.position (Some (kept_mark mark first.now first.position first.received))
stays_there moment None first now more m = record { kept = mark_at first.now first.position first.received; is = refl; since = now; still = still_there first more }
stays_there moment (Some mark) first now more m = stays_kept moment mark first (has_gone_on mark first.position) refl now more m

stays_by : (moment : ℕ) (mark : Option Mark) (first : Look) (all : Bool) → leb first.received first.position ≡ all → first.now ≤ moment → HasMore first → IsSince moment mark → Stays moment first.position (cond all None (Some (kept_mark mark first.now first.position first.received)))
stays_by moment mark first true is now more m = absurd (omega (arith, leb-true _ _ is, more))
stays_by moment mark first false is now more m = stays_there moment mark first now more m

-- what is kept is kept where it has not gone on
kept_on : (moment position : ℕ) (mark : Mark) (look : Look) (gone : Bool) → has_gone_on mark look.position ≡ gone → gone ≡ false → mark.since ≤ moment → has_gone_on mark position ≡ false → Stays moment position (Some (cond gone (mark_at look.now look.position look.received) mark))
kept_on moment position mark look true is not m still = absurd cc
kept_on moment position mark look false is not m still = record { kept = mark; is = refl; since = m; still = still }

on_by : (moment position : ℕ) (mark : Mark) (look : Look) (all : Bool) → leb look.received look.position ≡ all → HasMore look → look.position ≡ position → mark.since ≤ moment → has_gone_on mark position ≡ false → Stays moment position (cond all None (Some (kept_mark (Some mark) look.now look.position look.received)))
on_by moment position mark look true is more at m still = absurd (omega (arith, leb-true _ _ is, more))
on_by moment position mark look false is more at m still =
    kept_on moment position mark look (has_gone_on mark look.position) refl (ap (λ (p : ℕ). has_gone_on mark p) at ∙ still) m still

stays_on : (first : Look) (mark : Option Mark) (later : List Look) → All (IsWhereItWas first) later → Stays first.now first.position mark → Stays first.now first.position (mark_after mark later)
stays_on first mark [] where_it_was s = s
stays_on first mark (look ∷ later) where_it_was s =
    let here = All-head (IsWhereItWas first) look later where_it_was in
    let next = on_by first.now first.position s.kept look (leb look.received look.position) refl here.0 here.1 s.since s.still in
    stays_on first (next_mark mark look.now look.position look.received) later (All-tail (IsWhereItWas first) look later where_it_was)
    (subst (λ (x : Option Mark). Stays first.now first.position (next_mark x look.now look.position look.received)) (sym s.is) next)

after_both : (mark : Option Mark) (before later : List Look) → mark_after mark (before ++ later) ≡ mark_after (mark_after mark before) later
after_both mark [] later = refl
after_both mark (look ∷ before) later = after_both (next_mark mark look.now look.position look.received) before later

stuck_of : (first : Look) (now longest : ℕ) (mark : Option Mark) → longest + first.now < now → Stays first.now first.position mark → is_stuck mark now longest ≡ true
stuck_of first now longest mark long s =
    subst (λ (x : Option Mark). is_stuck x now longest ≡ true) (sym s.is) (lt-ltb longest (now - s.kept.since) (omega (arith, long, s.since)))

pub standing_is_stuck : (before : List Look) (first : Look) (later : List Look) (now longest : ℕ) →
    All (λ (look : Look). look.now ≤ first.now) before → HasMore first → All (IsWhereItWas first) later → longest + first.now < now →
    is_stuck (mark_after None (before ++ first ∷ later)) now longest ≡ true
standing_is_stuck before first later now longest early more where_it_was long =
    let old = mark_after None before in
    let begun = stays_by first.now old first (leb first.received first.position) refl (omega arith) more (since_after first.now None before early (record {})) in
    let s = stays_on first (next_mark old first.now first.position first.received) later where_it_was begun in
    subst (λ (x : Option Mark). is_stuck x now longest ≡ true) (sym (after_both None before (first ∷ later))) (stuck_of first now longest _ long s)
