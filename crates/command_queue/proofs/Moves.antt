-- Each move keeps the rule of a queue, and what a pass learns from it.
use Rattle.std.proofs.Common.{◌≡◌, ◌≢◌, ◌<◌, ◌+◌, ℕ, Bool, true, false, true≢false, List, [], ◌∷◌, ◌++◌, length, set, All, sym, refl, ap, ◌∙◌, subst, append_assoc, append-nil, arith}
use Rattle.std.proofs.lemmas.List.Elements.{All-append, All-nil}
use mathlib.Core.Option.{some, some-ne-none}
use lib.ListN.{get_elem?}
use Rattle.crossbeam_queue.specs.Fifo.{Pushes, Pops, Forks, Merges, Learns}
use Rattle.command_queue.specs.Facts.{Begins, Fits, AreSent, AreTaken, nothing, joined, at_least, in_all, were_taken}
use Rattle.command_queue.specs.Letters.{of}
use Rattle.command_queue.specs.Views.{Delivers, IsView, Knows, AreApart, taking, knowing, resting, counted, hiring, hired, hearing, with_sent, with_taken}
use Rattle.command_queue.specs.declared.known.Facts.{Facts}
use Rattle.command_queue.specs.declared.letter.Letter.{Letter}
use Rattle.command_queue.specs.declared.letter.SentBy.{SentBy}
use Rattle.command_queue.specs.declared.rule.View.{View}
use Rattle.command_queue.proofs.Lists.{one, all_of, all_both, one_set, one_end, two_set, two_end, of_append, of_own, of_other, of_none}

false_is : false ≡ true → ⊥
false_is is = true≢false (sym is)

idle : (b : Bool) → b ≡ false → b ≡ true → ⊥
idle b rests is = true≢false (sym is ∙ rests)

module _ {E : Type 0} where
  knows_nothing : (made : ℕ) (gone letters : List (Letter E)) → Knows made gone letters nothing
  knows_nothing made gone letters =
      (record { at_least = All-nil _; in_all = All-nil _; taken = All-nil _ }, All-nil _)

  -- a pass that neither takes nor sends fits by what it knows
  knower : (place total made : ℕ) (gone letters : List (Letter E)) (seat : ℕ) (facts : Facts E) → Knows made gone letters facts
      → IsView place total made gone letters seat (knowing facts)
  knower place total made gone letters seat facts knows =
      record { taker = λ is. absurd (false_is is); sender = λ is. absurd (false_is is); knows = knows }

  -- what is known stays so when a letter is put, or one is taken, or one more sender is made
  begins_more : (part : List E) (xs ys : List E) → Begins part xs → Begins part (xs ++ ys)
  begins_more part xs ys begins =
      (begins.0 ++ ys, ap (λ (l : List E). l ++ ys) begins.1 ∙ append_assoc part begins.0 ys)

  of_more : (number : ℕ) (gone letters : List (Letter E)) (letter : Letter E)
      → of number (gone ++ (letters ++ letter ∷ [])) ≡ of number (gone ++ letters) ++ of number (letter ∷ [])
  of_more number gone letters letter =
      ap (of number) (sym (append_assoc gone letters (letter ∷ []))) ∙ of_append number (gone ++ letters) (letter ∷ [])

  knows_put : (made : ℕ) (gone letters : List (Letter E)) (letter : Letter E) (facts : Facts E) → Knows made gone letters facts
      → All (λ (by : SentBy E). by.number ≢ letter.from) facts.in_all → Knows made gone (letters ++ letter ∷ []) facts
  knows_put made gone letters letter facts knows live = (
    record {
      at_least = all_of (λ (by : SentBy E). Begins by.sent (of by.number (gone ++ letters)))
          (λ (by : SentBy E). Begins by.sent (of by.number (gone ++ (letters ++ letter ∷ []))))
          facts.at_least
          (λ by was. subst (Begins by.sent) (sym (of_more by.number gone letters letter))
          (begins_more by.sent (of by.number (gone ++ letters)) (of by.number (letter ∷ [])) was))
          knows.0.at_least;
      in_all = all_both (λ (by : SentBy E). of by.number (gone ++ letters) ≡ by.sent)
          (λ (by : SentBy E). by.number ≢ letter.from)
          (λ (by : SentBy E). of by.number (gone ++ (letters ++ letter ∷ [])) ≡ by.sent)
          facts.in_all
          (λ by was other. ap (of by.number) (sym (append_assoc gone letters (letter ∷ [])))
          ∙ of_other by.number (gone ++ letters) letter (λ same. other (sym same)) ∙ was)
          knows.0.in_all live;
      taken = knows.0.taken;
    },
    knows.1,
  )

  knows_got : (made : ℕ) (gone letters : List (Letter E)) (letter : Letter E) (facts : Facts E) → Knows made gone (letter ∷ letters) facts
      → Knows made (gone ++ letter ∷ []) letters facts
  knows_got made gone letters letter facts knows =
      let same : gone ++ letter ∷ letters ≡ (gone ++ letter ∷ []) ++ letters = sym (append_assoc gone (letter ∷ []) letters) in (
        record {
          at_least = subst (λ (all : List (Letter E)). All (λ (by : SentBy E). Begins by.sent (of by.number all)) facts.at_least) same knows.0.at_least;
          in_all = subst (λ (all : List (Letter E)). All (λ (by : SentBy E). of by.number all ≡ by.sent) facts.in_all) same knows.0.in_all;
          taken = all_of (λ (part : List (Letter E)). Begins part gone) (λ (part : List (Letter E)). Begins part (gone ++ letter ∷ [])) facts.taken
              (λ part was. (was.0 ++ letter ∷ [], ap (λ (l : List (Letter E)). l ++ letter ∷ []) was.1 ∙ append_assoc part was.0 (letter ∷ [])))
              knows.0.taken;
        },
        knows.1,
      )

  knows_hired : (made : ℕ) (gone letters : List (Letter E)) (facts : Facts E) → Knows made gone letters facts → Knows (made + 1) gone letters facts
  knows_hired made gone letters facts knows = (
    knows.0,
    all_of (λ (by : SentBy E). by.number < made) (λ (by : SentBy E). by.number < made + 1) facts.in_all (λ by lt. omega (arith, lt)) knows.1,
  )

  knows_both : (made : ℕ) (gone letters : List (Letter E)) (mine its : Facts E) → Knows made gone letters mine → Knows made gone letters its
      → Knows made gone letters (joined mine its)
  knows_both made gone letters mine its knows theirs = (
    record {
      at_least = All-append (λ (by : SentBy E). Begins by.sent (of by.number (gone ++ letters))) its.at_least mine.at_least theirs.0.at_least knows.0.at_least;
      in_all = All-append (λ (by : SentBy E). of by.number (gone ++ letters) ≡ by.sent) its.in_all mine.in_all theirs.0.in_all knows.0.in_all;
      taken = All-append (λ (part : List (Letter E)). Begins part gone) its.taken mine.taken theirs.0.taken knows.0.taken;
    },
    All-append (λ (by : SentBy E). by.number < made) its.in_all mine.in_all theirs.1 knows.1,
  )

  -- at first there are no letters and no senders
  pub begins : Delivers {E = E} [] (taking 0 0 ∷ [])
  begins = record {
    place = 0;
    total = 0;
    made = 0;
    gone = [];
    few = omega arith;
    each = All-nil _;
    one = one_end (IsView 0 0 0 [] []) [] (taking 0 0)
        (record { taker = λ _. (refl, refl, refl, refl); sender = λ is. absurd (false_is is); knows = knows_nothing 0 [] [] })
        (λ j u at. absurd (some-ne-none u (sym at)));
    two = two_end AreApart [] (taking 0 0) (λ is _ _. absurd (false_is is), λ is. absurd (false_is is))
        (λ k y at. absurd (some-ne-none y (sym at)))
        (λ j u k y at at'. absurd (some-ne-none u (sym at)));
  }

  pub sends : (n seat : ℕ) (v : View E) (letter : Letter E) → v.sends ≡ true → letter.from ≡ v.number
      → Pushes Delivers n seat v letter (λ w. w ≡ with_sent v letter)
  sends n seat v letter may from letters views room h at =
      let w : View E = with_sent v letter in
      let mine = h.one seat v at in
      let role = mine.sender may in
      let same : (h.gone ++ letters) ++ letter ∷ [] ≡ h.gone ++ (letters ++ letter ∷ []) = append_assoc h.gone letters (letter ∷ []) in
      let ended : (u : View E) → All (λ (by : SentBy E). by.number ≢ v.number) u.facts.in_all → All (λ (by : SentBy E). by.number ≢ letter.from) u.facts.in_all =
      λ u live. all_of (λ (by : SentBy E). by.number ≢ v.number) (λ (by : SentBy E). by.number ≢ letter.from) u.facts.in_all (λ by other is. other (is ∙ from)) live in (
        w,
        record {
          place = h.place;
          total = h.total;
          made = h.made;
          gone = h.gone;
          few = h.few;
          each = subst (All (λ (l : Letter E). l.from < h.made)) same
              (All-append (λ (l : Letter E). l.from < h.made) (h.gone ++ letters) (letter ∷ []) h.each
              (one (λ (l : Letter E). l.from < h.made) letter (subst (λ (x : ℕ). x < h.made) (sym from) role.1)));
          one = one_set (IsView h.place h.total h.made h.gone (letters ++ letter ∷ [])) views seat w
              (record {
                taker = mine.taker;
                sender = λ does. (
                  role.0,
                  role.1,
                  ap (of v.number) (sym same) ∙ of_own v.number (h.gone ++ letters) letter from ∙ ap (λ (l : List E). l ++ letter.event ∷ []) role.2,
                );
                knows = knows_put h.made h.gone letters letter v.facts mine.knows (ended v ((h.two seat v seat v at at).1 may));
              })
              (λ j u other e.
              let its = h.one j u e in
              record {
                taker = its.taker;
                sender = λ does.
                    let was = its.sender does in
                    let differ : letter.from ≢ u.number = λ is. other ((h.two j u seat v e at).0 does may (sym is ∙ from)) in
                    (was.0, was.1, ap (of u.number) (sym same) ∙ of_other u.number (h.gone ++ letters) letter differ ∙ was.2);
                knows = knows_put h.made h.gone letters letter u.facts its.knows (ended u ((h.two j u seat v e at).1 may));
              });
          two = two_set AreApart views seat w (h.two seat v seat v at at) (λ k y other e. (h.two seat v k y at e, h.two k y seat v e at)) h.two;
        },
        refl,
      )

  pub takes : (seat : ℕ) (v : View E) → v.takes ≡ true → v.sends ≡ false
      → Pops Delivers seat v (λ letter w. (w ≡ with_taken v letter) × AreTaken w.taken v.facts)
  takes seat v may rests letter letters views h at =
      let w : View E = with_taken v letter in
      let mine = h.one seat v at in
      let role = mine.taker may in
      let same : (h.gone ++ letter ∷ []) ++ letters ≡ h.gone ++ letter ∷ letters = append_assoc h.gone (letter ∷ []) letters in
      let knows = knows_got h.made h.gone letters letter v.facts mine.knows in
      let got : v.taken ++ letter ∷ [] ≡ h.gone ++ letter ∷ [] = ap (λ (l : List (Letter E)). l ++ letter ∷ []) role.3 in (
        w,
        record {
          place = h.place;
          total = h.total;
          made = h.made;
          gone = h.gone ++ letter ∷ [];
          few = h.few;
          each = subst (All (λ (l : Letter E). l.from < h.made)) (sym same) h.each;
          one = one_set (IsView h.place h.total h.made (h.gone ++ letter ∷ []) letters) views seat w
              (record { taker = λ _. (role.0, role.1, role.2, got); sender = λ does. absurd (idle v.sends rests does); knows = knows })
              (λ j u other e.
              let its = h.one j u e in
              record {
                taker = λ does. absurd (other ((its.taker does).0 ∙ sym role.0));
                sender = λ does. (let was = its.sender does in (was.0, was.1, ap (of u.number) same ∙ was.2));
                knows = knows_got h.made h.gone letters letter u.facts its.knows;
              });
          two = two_set AreApart views seat w (h.two seat v seat v at at) (λ k y other e. (h.two seat v k y at e, h.two k y seat v e at)) h.two;
        },
        (refl, (letters, subst (λ (l : List (Letter E)). Fits l letters v.facts) (sym got) knows.0)),
      )

  -- one that rests is apart from all
  rest_apart : (n : ℕ) (k : ℕ) (y : View E) → AreApart n resting k y
  rest_apart n k y = (λ is _ _. absurd (false_is is), λ _. All-nil _)

  apart_rest : (n : ℕ) (facts : Facts E) (k : ℕ) (y : View E) → AreApart k y n (knowing facts)
  apart_rest n facts k y = (λ _ is _. absurd (false_is is), λ is. absurd (false_is is))

  pub counts : (seat : ℕ) (v : View E) → v.takes ≡ true → v.sends ≡ false → v.made ≡ 0 → Forks Delivers seat v (counted v) resting
  counts seat v may rests none letters views h at =
      let w : View E = counted v in
      let mine = h.one seat v at in
      let role = mine.taker may in
      let no_one : h.made ≡ 0 = sym role.2 ∙ none in
      record {
        place = h.place;
        total = h.total + 1;
        made = h.made;
        gone = h.gone;
        few = (let few = h.few in omega (arith, few));
        each = h.each;
        one = one_end (IsView h.place (h.total + 1) h.made h.gone letters) (set views seat w) resting
            (knower h.place (h.total + 1) h.made h.gone letters (length (set views seat w)) nothing (knows_nothing h.made h.gone letters))
            (one_set (IsView h.place (h.total + 1) h.made h.gone letters) views seat w
            (record {
              taker = λ _. (role.0, ap (λ (x : ℕ). x + 1) role.1, role.2, role.3);
              sender = λ does. absurd (idle v.sends rests does);
              knows = mine.knows;
            })
            (λ j u other e.
            let its = h.one j u e in
            record {
              taker = λ does. absurd (other ((its.taker does).0 ∙ sym role.0));
              sender = λ does. absurd (let lt = (its.sender does).1 in omega (arith, lt, no_one));
              knows = its.knows;
            }));
        two = two_end AreApart (set views seat w) resting (rest_apart (length (set views seat w)) (length (set views seat w)) resting)
            (λ k y e. (rest_apart (length (set views seat w)) k y, apart_rest (length (set views seat w)) nothing k y))
            (two_set AreApart views seat w (h.two seat v seat v at at) (λ k y other e. (h.two seat v k y at e, h.two k y seat v e at)) h.two);
      }

  pub hires : (seat : ℕ) (v : View E) → v.takes ≡ true → v.sends ≡ false → v.made < v.total → Forks Delivers seat v (hiring v) (hired v)
  hires seat v may rests room letters views h at =
      let w : View E = hiring v in
      let its : View E = hired v in
      let mine = h.one seat v at in
      let role = mine.taker may in
      let made : v.made ≡ h.made = role.2 in
      let total : v.total ≡ h.total = role.1 in
      let before : (j : ℕ) (u : View E) → get_elem? (set views seat w) j ≡ some u
      → (u.sends ≡ true → u.number ≢ v.made) × All (λ (by : SentBy E). by.number ≢ v.made) u.facts.in_all =
      one_set (λ (j : ℕ) (u : View E). (u.sends ≡ true → u.number ≢ v.made) × All (λ (by : SentBy E). by.number ≢ v.made) u.facts.in_all) views seat w
      (λ does. absurd (idle v.sends rests does), all_of (λ (by : SentBy E). by.number < h.made) (λ (by : SentBy E). by.number ≢ v.made) v.facts.in_all (λ by lt same. omega (arith, lt, made, same)) mine.knows.1)
      (λ j u other e.
      let was = h.one j u e in (
        λ does same. (let lt = (was.sender does).1 in omega (arith, lt, made, same)),
        all_of (λ (by : SentBy E). by.number < h.made) (λ (by : SentBy E). by.number ≢ v.made) u.facts.in_all (λ by lt same. omega (arith, lt, made, same)) was.knows.1,
      )) in
      record {
        place = h.place;
        total = h.total;
        made = h.made + 1;
        gone = h.gone;
        few = omega (arith, made, total, room);
        each = all_of (λ (l : Letter E). l.from < h.made) (λ (l : Letter E). l.from < h.made + 1) (h.gone ++ letters) (λ l lt. omega (arith, lt)) h.each;
        one = one_end (IsView h.place h.total (h.made + 1) h.gone letters) (set views seat w) its
            (record {
              taker = λ is. absurd (false_is is);
              sender = λ _. (total, omega (arith, made), of_none v.made h.made (h.gone ++ letters) h.each (omega (arith, made)));
              knows = knows_nothing (h.made + 1) h.gone letters;
            })
            (one_set (IsView h.place h.total (h.made + 1) h.gone letters) views seat w
            (record {
              taker = λ _. (role.0, role.1, ap (λ (x : ℕ). x + 1) role.2, role.3);
              sender = λ does. absurd (idle v.sends rests does);
              knows = knows_hired h.made h.gone letters v.facts mine.knows;
            })
            (λ j u other e.
            let was = h.one j u e in
            record {
              taker = λ does. absurd (other ((was.taker does).0 ∙ sym role.0));
              sender = λ does. (let so = was.sender does in (so.0, (let lt = so.1 in omega (arith, lt)), so.2));
              knows = knows_hired h.made h.gone letters u.facts was.knows;
            }));
        two = two_end AreApart (set views seat w) its (λ _ _ _. refl, λ _. All-nil _)
            (λ k y e.
            let so = before k y e in (
              (λ _ does same. absurd (so.0 does (sym same)), λ _. All-nil _),
              (λ does _ same. absurd (so.0 does same), λ _. so.1),
            ))
            (two_set AreApart views seat w (h.two seat v seat v at at) (λ k y other e. (h.two seat v k y at e, h.two k y seat v e at)) h.two);
      }

  -- a pass tells what it knows, and stays as it is
  tells : (seat : ℕ) (v : View E) (facts : Facts E)
      → ((letters : List (Letter E)) (views : List (View E)) (h : Delivers letters views) → get_elem? views seat ≡ some v
      → Knows h.made h.gone letters facts × ((k : ℕ) (y : View E) → get_elem? views k ≡ some y → y.sends ≡ true → All (λ (by : SentBy E). by.number ≢ y.number) facts.in_all))
      → Forks Delivers seat v v (knowing facts)
  tells seat v facts knows letters views h at =
      let so = knows letters views h at in
      let n : ℕ = length (set views seat v) in
      let live : (k : ℕ) (y : View E) → get_elem? (set views seat v) k ≡ some y → y.sends ≡ true → All (λ (by : SentBy E). by.number ≢ y.number) facts.in_all =
      one_set (λ (k : ℕ) (y : View E). y.sends ≡ true → All (λ (by : SentBy E). by.number ≢ y.number) facts.in_all) views seat v
      (so.1 seat v at) (λ k y other e. so.1 k y e) in
      record {
        place = h.place;
        total = h.total;
        made = h.made;
        gone = h.gone;
        few = h.few;
        each = h.each;
        one = one_end (IsView h.place h.total h.made h.gone letters) (set views seat v) (knowing facts)
            (knower h.place h.total h.made h.gone letters n facts so.0)
            (one_set (IsView h.place h.total h.made h.gone letters) views seat v (h.one seat v at) (λ j u other e. h.one j u e));
        two = two_end AreApart (set views seat v) (knowing facts) (apart_rest n facts n (knowing facts))
            (λ k y e. ((λ is _ _. absurd (false_is is), live k y e), apart_rest n facts k y))
            (two_set AreApart views seat v (h.two seat v seat v at at) (λ k y other e. (h.two seat v k y at e, h.two k y seat v e at)) h.two);
      }

  pub copies : (seat : ℕ) (v : View E) → Forks Delivers seat v v (knowing v.facts)
  copies seat v = tells seat v v.facts (λ letters views h at. ((h.one seat v at).knows, λ k y e does. (h.two seat v k y at e).1 does))

  pub tells_sent : (seat : ℕ) (v : View E) → v.sends ≡ true → Forks Delivers seat v v (knowing (at_least v.number v.sent))
  tells_sent seat v may = tells seat v (at_least v.number v.sent) (λ letters views h at.
      let own = ((h.one seat v at).sender may).2 in (
        (
          record {
            at_least = one (λ (by : SentBy E). Begins by.sent (of by.number (h.gone ++ letters))) (record { number = v.number; sent = v.sent }) ([], own ∙ sym (append-nil v.sent));
            in_all = All-nil _;
            taken = All-nil _;
          },
          All-nil _,
        ),
        λ k y e does. All-nil _,
      ))

  pub tells_taken : (seat : ℕ) (v : View E) → v.takes ≡ true → Forks Delivers seat v v (knowing (were_taken v.taken))
  tells_taken seat v may = tells seat v (were_taken v.taken) (λ letters views h at.
      let all = ((h.one seat v at).taker may).3 in (
        (
          record {
            at_least = All-nil _;
            in_all = All-nil _;
            taken = one (λ (part : List (Letter E)). Begins part h.gone) v.taken ([], sym all ∙ sym (append-nil v.taken));
          },
          All-nil _,
        ),
        λ k y e does. All-nil _,
      ))

  pub ends : (seat : ℕ) (v : View E) → v.sends ≡ true → Forks Delivers seat v resting (knowing (in_all v.number v.sent))
  ends seat v may letters views h at =
      let facts : Facts E = in_all v.number v.sent in
      let role = (h.one seat v at).sender may in
      let n : ℕ = length (set views seat resting) in
      let live : (k : ℕ) (y : View E) → get_elem? (set views seat resting) k ≡ some y → y.sends ≡ true → v.number ≢ y.number =
      one_set (λ (k : ℕ) (y : View E). y.sends ≡ true → v.number ≢ y.number) views seat resting
      (λ is. absurd (false_is is)) (λ k y other e does same. other (sym ((h.two seat v k y at e).0 may does same))) in
      record {
        place = h.place;
        total = h.total;
        made = h.made;
        gone = h.gone;
        few = h.few;
        each = h.each;
        one = one_end (IsView h.place h.total h.made h.gone letters) (set views seat resting) (knowing facts)
            (knower h.place h.total h.made h.gone letters n facts (
              record {
                at_least = All-nil _;
                in_all = one (λ (by : SentBy E). of by.number (h.gone ++ letters) ≡ by.sent) (record { number = v.number; sent = v.sent }) role.2;
                taken = All-nil _;
              },
              one (λ (by : SentBy E). by.number < h.made) (record { number = v.number; sent = v.sent }) role.1,
            ))
            (one_set (IsView h.place h.total h.made h.gone letters) views seat resting
            (knower h.place h.total h.made h.gone letters seat nothing (knows_nothing h.made h.gone letters)) (λ j u other e. h.one j u e));
        two = two_end AreApart (set views seat resting) (knowing facts) (apart_rest n facts n (knowing facts))
            (λ k y e. (
              (λ is _ _. absurd (false_is is), λ does. one (λ (by : SentBy E). by.number ≢ y.number) (record { number = v.number; sent = v.sent }) (live k y e does)),
              apart_rest n facts k y,
            ))
            (two_set AreApart views seat resting (rest_apart seat seat resting)
            (λ k y other e. (rest_apart seat k y, apart_rest seat nothing k y)) h.two);
      }

  pub hears : (seat : ℕ) (v : View E) (other : ℕ) (u : View E) → Merges Delivers seat v other u (hearing v u) resting
  hears seat v other u letters views h at two at' =
      let w : View E = hearing v u in
      let mine = h.one seat v at in
      let was : get_elem? views other ≡ some u = one_set (λ (k : ℕ) (y : View E). k ≢ seat → get_elem? views k ≡ some y) views seat w
      (λ no. absurd (no refl)) (λ k y _ e _. e) other u at' two in
      let its = h.one other u was in
      let live : (k : ℕ) (y : View E) → get_elem? views k ≡ some y → y.sends ≡ true → All (λ (by : SentBy E). by.number ≢ y.number) w.facts.in_all =
      λ k y e does. All-append (λ (by : SentBy E). by.number ≢ y.number) u.facts.in_all v.facts.in_all ((h.two other u k y was e).1 does) ((h.two seat v k y at e).1 does) in
      record {
        place = h.place;
        total = h.total;
        made = h.made;
        gone = h.gone;
        few = h.few;
        each = h.each;
        one = one_set (IsView h.place h.total h.made h.gone letters) (set views seat w) other resting
            (knower h.place h.total h.made h.gone letters other nothing (knows_nothing h.made h.gone letters))
            (λ j y _ e. one_set (IsView h.place h.total h.made h.gone letters) views seat w
            (record { taker = mine.taker; sender = mine.sender; knows = knows_both h.made h.gone letters v.facts u.facts mine.knows its.knows })
            (λ j' y' _ e'. h.one j' y' e') j y e);
        two = two_set AreApart (set views seat w) other resting (rest_apart other other resting)
            (λ k y _ e. (rest_apart other k y, apart_rest other nothing k y))
            (two_set AreApart views seat w ((h.two seat v seat v at at).0, live seat v at)
            (λ k y _ e. (((h.two seat v k y at e).0, live k y e), h.two k y seat v e at)) h.two);
      }

  -- what a sender learns of the letters in the queue
  pub sender_learns : (seat : ℕ) (v : View E) → v.sends ≡ true → Learns Delivers seat v (λ letters. AreSent v.total v.number v.sent v.facts letters)
  sender_learns seat v may letters views h at =
      let mine = h.one seat v at in
      let role = mine.sender may in
      record {
        gone = h.gone;
        own = role.2;
        all = all_of (λ (l : Letter E). l.from < h.made) (λ (l : Letter E). l.from < v.total) (h.gone ++ letters)
            (λ l lt. (let few = h.few in let among = role.0 in omega (arith, lt, few, among))) h.each;
        fits = mine.knows.0;
      }

  -- what the taker learns
  pub taker_learns : (seat : ℕ) (v : View E) → v.takes ≡ true → Learns Delivers seat v (λ letters. Fits v.taken letters v.facts)
  taker_learns seat v may letters views h at =
      let mine = h.one seat v at in
      subst (λ (l : List (Letter E)). Fits l letters v.facts) (sym (mine.taker may).3) mine.knows.0
