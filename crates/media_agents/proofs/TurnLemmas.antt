-- A turn goes on by one event more.
use Rattle.std.proofs.Common.{◌≡◌, ℕ, ◌+◌, ◌≤◌, ◌⊎◌, List, [], ◌∷◌, ◌++◌, append_assoc, append-nil, arith, length, refl, sym, ap, subst, inl, inr, ◌∙◌}
use Rattle.std.proofs.lemmas.List.{map-append}
use Rattle.command_queue.specs.Facts.{Fits}
use Rattle.command_queue.specs.declared.known.Facts.{Facts}
use Rattle.command_queue.specs.declared.letter.Letter.{Letter}
use Rattle.command_queue.specs.Taken.{Taken}
use Rattle.media_agents.specs.Turns.{made, missed, Enough, HasRoom, IsAtLast, Served, Takes, Turned, TakesAll, events_of}

module _ {S E : Type 0} (history : S → List E) (Does Misses : S → E → S → Type 0) where
  pub served_made : (events : List E) (before there after : S) (misses : ℕ) (event : E) → HasRoom (history there) →
      history after ≡ history there ++ event ∷ [] → Does there event after →
      Served history Does Misses events there before misses → Served history Does Misses (events ++ event ∷ []) after before misses
  served_made [] before there after misses event room is did served =
      made (subst (λ (s : S). HasRoom (history s)) served.0 room) after
      (subst (λ (s : S). history after ≡ history s ++ event ∷ []) served.0 is) (subst (λ (s : S). Does s event after) served.0 did) (refl, served.1)
  served_made (first ∷ events) before there after misses event room is did (made free next so early rest) =
      made free next so early (served_made events next there after misses event room is did rest)
  served_made (first ∷ events) before there after misses event room is did (missed free next so early fewer few rest) =
      missed free next so early fewer few (served_made events next there after fewer event room is did rest)

  pub served_missed : (events : List E) (before there after : S) (misses : ℕ) (event : E) → HasRoom (history there) →
      history after ≡ history there → Misses there event after →
      Served history Does Misses events there before misses → Served history Does Misses (events ++ event ∷ []) after before (misses + 1)
  served_missed [] before there after misses event room is did served =
      missed (subst (λ (s : S). HasRoom (history s)) served.0 room) after
      (subst (λ (s : S). history after ≡ history s) served.0 is) (subst (λ (s : S). Misses s event after) served.0 did) misses refl (refl, served.1)
  served_missed (first ∷ events) before there after misses event room is did (made free next so early rest) =
      made free next so early (served_missed events next there after misses event room is did rest)
  served_missed (first ∷ events) before there after misses event room is did (missed free next so early fewer few rest) =
      missed free next so early (fewer + 1) (ap (λ n. n + 1) few) (served_missed events next there after fewer event room is did rest)

  events_more : (letters : List (Letter E)) (letter : Letter E) → events_of (letters ++ letter ∷ []) ≡ events_of letters ++ letter.event ∷ []
  events_more letters letter = map-append (λ (l : Letter E). l.event) letters (letter ∷ [])

  more_taken : (old now new : Taken E) (letters : List (Letter E)) (letter : Letter E) → now ≡ record old { taken = old.taken ++ letters } →
      new ≡ record now { taken = now.taken ++ letter ∷ [] } → new ≡ record old { taken = old.taken ++ (letters ++ letter ∷ []) }
  more_taken old now new letters letter is next =
      next ∙ ap (λ (t : Taken E). let u : Taken E = record t { taken = t.taken ++ letter ∷ [] } in u) is
      ∙ ap (λ (ls : List (Letter E)). let u : Taken E = record old { taken = ls } in u) (append_assoc old.taken letters (letter ∷ []))

  pub takes_none : (old : Taken E) (before : S) → Takes history Does Misses old old [] before before 0
  takes_none old before = record {
    taker = ap (λ (ls : List (Letter E)). let u : Taken E = record old { taken = ls } in u) (sym (append-nil old.taken));
    served = (refl, refl);
  }

  pub takes_made : (old now new : Taken E) (letters : List (Letter E)) (letter : Letter E) (before there after : S) (misses : ℕ) →
      HasRoom (history there) → Takes history Does Misses old now letters before there misses → new ≡ record now { taken = now.taken ++ letter ∷ [] } → history after ≡ history there ++ letter.event ∷ [] → Does there letter.event after →
      Takes history Does Misses old new (letters ++ letter ∷ []) before after misses
  takes_made old now new letters letter before there after misses room takes next is did = record {
    taker = more_taken old now new letters letter takes.taker next;
    served = subst (λ (es : List E). Served history Does Misses es after before misses) (sym (events_more letters letter))
        (served_made (events_of letters) before there after misses letter.event room is did takes.served);
  }

  pub takes_missed : (old now new : Taken E) (letters : List (Letter E)) (letter : Letter E) (before there after : S) (misses : ℕ) →
      HasRoom (history there) → Takes history Does Misses old now letters before there misses → new ≡ record now { taken = now.taken ++ letter ∷ [] } → history after ≡ history there → Misses there letter.event after →
      Takes history Does Misses old new (letters ++ letter ∷ []) before after (misses + 1)
  takes_missed old now new letters letter before there after misses room takes next is did = record {
    taker = more_taken old now new letters letter takes.taker next;
    served = subst (λ (es : List E). Served history Does Misses es after before (misses + 1)) (sym (events_more letters letter))
        (served_missed (events_of letters) before there after misses letter.event room is did takes.served);
  }

  ticked : (old : Taken E) (letters : List (Letter E)) (facts : Facts E) (tick : E) (before there after : S) (misses : ℕ) → HasRoom (history there) →
      Enough old letters facts ⊎ IsAtLast (history there) → Served history Does Misses (events_of letters ++ tick ∷ []) after before misses →
      (Enough old letters facts × Served history Does Misses (events_of letters ++ tick ∷ []) after before misses)
      ⊎ (IsAtLast (history after) × Served history Does Misses (events_of letters) after before misses)
  ticked old letters facts tick before there after misses room (inl enough) served = inl (enough, served)
  ticked old letters facts tick before there after misses room (inr last) served = absurd (last_has_none (history there) room last)
    where
      last_has_none : (those : List E) → HasRoom those → IsAtLast those → ⊥
      last_has_none those free last = omega (arith, free, last)

  -- and then the tick
  pub turned_made : (old new : Taken E) (facts : Facts E) (tick : E) (before there after : S) (misses : ℕ) → HasRoom (history there) →
      TakesAll history Does Misses old new facts before there misses → history after ≡ history there ++ tick ∷ [] → Does there tick after → Turned history Does Misses old new facts tick before after misses
  turned_made old new facts tick before there after misses room all is did = record {
    letters = all.letters;
    taker = all.takes.taker;
    served = ticked old all.letters facts tick before there after misses room all.enough
        (served_made (events_of all.letters) before there after misses tick room is did all.takes.served);
  }

  pub turned_missed : (old new : Taken E) (facts : Facts E) (tick : E) (before there after : S) (misses : ℕ) → HasRoom (history there) →
      TakesAll history Does Misses old new facts before there misses → history after ≡ history there → Misses there tick after → Turned history Does Misses old new facts tick before after (misses + 1)
  turned_missed old new facts tick before there after misses room all is did = record {
    letters = all.letters;
    taker = all.takes.taker;
    served = ticked old all.letters facts tick before there after (misses + 1) room all.enough
        (served_missed (events_of all.letters) before there after misses tick room is did all.takes.served);
  }

  -- or the tick is left, since there is no number for it
  pub turned_full : (old new : Taken E) (facts : Facts E) (tick : E) (before after : S) (misses : ℕ) → IsAtLast (history after) →
      TakesAll history Does Misses old new facts before after misses → Turned history Does Misses old new facts tick before after misses
  turned_full old new facts tick before after misses last all = record {
    letters = all.letters;
    taker = all.takes.taker;
    served = inr (last, all.takes.served);
  }

  -- a turn as far as it went: so many events were taken
  pub record Going (old now : Taken E) (before after : S) (misses count : ℕ) : Type 0 where
    pub letters : List (Letter E)
    pub takes : Takes history Does Misses old now letters before after misses
    pub size : length letters ≡ count
    pub few : misses ≤ count

  -- the taker's queue stays
  pub still_there : (old now : Taken E) (before after : S) (misses count : ℕ) → Going old now before after misses count → now.queue ≡ old.queue
  still_there old now before after misses count going = ap (λ (t : Taken E). t.queue) going.takes.taker

  -- the queue was empty
  pub all_taken : (old now : Taken E) (before after : S) (misses count : ℕ) (facts facts' : Facts E) → Going old now before after misses count
      → facts' ≡ facts → Fits now.taken [] facts' → TakesAll history Does Misses old now facts before after misses
  all_taken old now before after misses count facts facts' going is fits = record {
    letters = going.letters;
    takes = going.takes;
    enough = inl (inr (subst (λ (f : Facts E). Fits (old.taken ++ going.letters) [] f) is (subst (λ (t : Taken E). Fits t.taken [] facts') going.takes.taker fits)));
  }

  -- there is no number left
  pub taken_to_last : (old now : Taken E) (before after : S) (misses count : ℕ) (facts : Facts E) → Going old now before after misses count
      → IsAtLast (history after) → TakesAll history Does Misses old now facts before after misses
  taken_to_last old now before after misses count facts going last = record {
    letters = going.letters;
    takes = going.takes;
    enough = inr last;
  }
