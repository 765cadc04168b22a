-- How frames go into datagrams.
use Rattle.std.proofs.Common.{◌≡◌, ◌<◌, ◌≤◌, ℕ, zero, suc, ◌+◌, ◌-◌, ◌*◌, ◌/◌, ◌%◌, true, false, List, [], ◌∷◌, length, Option, Some, None, refl, sym, ap, subst, ◌∙◌, arith}
use Rattle.std.specs.Prelude.{◌++◌, ◌==◌, drop, nat_le, nat_lt}
use Rattle.std.proofs.lemmas.Bool.{eq-eqb}
use Rattle.std.proofs.lemmas.Bool.Decides.{nat_tests}
use Rattle.std.proofs.lemmas.List.{append-nil, append_assoc, drop_at, length-append, length-drop}
use Rattle.std.proofs.lemmas.Nat.{div-add-mod', div-mul-add}
use Rattle.log_traffic.specs.Datagrams.{Copies, CopiesFirst, TakesNext, ahead, datagrams_in, datagrams_of, first_run, fits, fitting}
use Rattle.term_log.specs.Reading.{Given, sent_bytes}

-- ---- lists

sent-append : (gs hs : List Given) → sent_bytes (gs ++ hs) ≡ sent_bytes gs ++ sent_bytes hs
sent-append [] hs = refl
sent-append (g ∷ gs) hs = ap (λ (bs : List ℕ). g.bytes ++ bs) (sent-append gs hs) ∙ sym (append_assoc g.bytes (sent_bytes gs) (sent_bytes hs))

-- ---- the term of a position

-- it has that number where the position lies at most a term behind that term's start
pub in_term : (term number position : ℕ) → 0 < term → number * term ≤ position
    → nat_lt (position - number * term) term ≡ (position / term == number)
in_term term number position some low =
    let own = div-add-mod' position term in
    let rest : position % term < term = omega arith in
    elim (nat_lt (position - number * term) term) as (λ b. nat_lt (position - number * term) term ≡ b → b ≡ (position / term == number)) [
      | true ↦ λ is.
          let near : position - number * term < term = grind (arith, nat_tests, is) in
          let here : position ≡ number * term + (position - number * term) = omega arith in
          let same : position / term ≡ number = ap (λ (n : ℕ). n / term) here ∙ div-mul-add number term (position - number * term) near in
          sym (eq-eqb (position / term) number same)
      | false ↦ λ is.
          let far : term ≤ position - number * term = grind (arith, nat_tests, is) in
          elim (position / term == number) as (λ e. (position / term == number) ≡ e → false ≡ e) [
            | true ↦ λ same.
                let alike : position / term ≡ number = grind (arith, nat_tests, same) in
                let product : position / term * term ≡ number * term = ap (λ (n : ℕ). n * term) alike in
                absurd (omega arith)
            | false ↦ λ differs. refl
          ]
          refl
    ]
    refl

pub starts_before : (position term : ℕ) → position / term * term ≤ position
starts_before position term =
    let own = div-add-mod' position term in
    omega arith

-- ---- the run of one datagram

-- nothing fits where nothing is left
pub none_left : (term number budget : ℕ) (gs : List Given) → gs ≡ [] → fitting term number budget gs ≡ []
none_left term number budget gs is = rw (is) refl

pub none_fits : (term number budget : ℕ) (gs later : List Given) (g : Given) → gs ≡ g ∷ later → fits term number budget g ≡ false
    → fitting term number budget gs ≡ []
none_fits term number budget gs later g is fails = rw (is, fails) refl

-- so far these were taken and copied
pub record Copied (term number mtu : ℕ) (all left : List Given) (copy : List ℕ) (size : ℕ) : Type 0 where
  pub taken : List Given
  pub is : all ≡ taken ++ left
  pub run : fitting term number mtu all ≡ taken ++ fitting term number (mtu - size) left
  pub sized : size ≡ length (sent_bytes taken)
  pub within : size ≤ mtu
  pub bytes : copy ≡ sent_bytes taken

pub copied_nothing : (term number mtu : ℕ) (all : List Given) → Copied term number mtu all all [] 0
copied_nothing term number mtu all =
    let same : mtu ≡ mtu - 0 = omega arith in
    record {
      taken = [];
      is = refl;
      run = ap (λ (budget : ℕ). fitting term number budget all) same;
      sized = refl;
      within = omega arith;
      bytes = refl;
    }

pub fits_within : (term number budget : ℕ) (g : Given) → fits term number budget g ≡ true → length g.bytes ≤ budget
fits_within term number budget g is = grind (arith, nat_tests, is)

-- what is taken next stands after the copy so far
pub copied_more : (term number mtu : ℕ) (all left later : List Given) (g : Given) (copy new : List ℕ) (size : ℕ)
    → Copied term number mtu all left copy size → left ≡ g ∷ later → fits term number (mtu - size) g ≡ true
    → new ≡ copy ++ g.bytes → Copied term number mtu all later new (size + length g.bytes)
copied_more term number mtu all left later g copy new size f is here written =
    let within = fits_within term number (mtu - size) g here in
    let front : List ℕ = sent_bytes f.taken in
    let fewer : (mtu - size) - length g.bytes ≡ mtu - (size + length g.bytes) = omega (arith, within, f.within) in
    let run : fitting term number (mtu - size) left ≡ g ∷ fitting term number (mtu - (size + length g.bytes)) later =
    rw (is, here) (ap (λ (budget : ℕ). g ∷ fitting term number budget later) fewer) in
    let sent : sent_bytes (f.taken ++ g ∷ []) ≡ front ++ g.bytes =
    sent-append f.taken (g ∷ []) ∙ ap (λ (bs : List ℕ). front ++ bs) (append-nil g.bytes) in
    record {
      taken = f.taken ++ g ∷ [];
      is = f.is ∙ ap (λ (gs : List Given). f.taken ++ gs) is ∙ sym (append_assoc f.taken (g ∷ []) later);
      run = f.run ∙ ap (λ (gs : List Given). f.taken ++ gs) run
          ∙ sym (append_assoc f.taken (g ∷ []) (fitting term number (mtu - (size + length g.bytes)) later));
      sized = omega (arith, f.sized, length-append front g.bytes, ap (λ (bs : List ℕ). length bs) sent);
      within = omega (arith, within, f.within);
      bytes = written ∙ ap (λ (bs : List ℕ). bs ++ g.bytes) f.bytes ∙ sym sent;
    }

pub copied_all : (term number mtu : ℕ) (all left : List Given) (copy : List ℕ) (size : ℕ) → Copied term number mtu all left copy size
    → fitting term number (mtu - size) left ≡ [] → Copies (fitting term number mtu all) all left copy
copied_all term number mtu all left copy size f done =
    let run : f.taken ≡ fitting term number mtu all = sym (append-nil f.taken) ∙ ap (λ (gs : List Given). f.taken ++ gs) (sym done) ∙ sym f.run in
    let copies : Copies f.taken all left copy = record {
      copy_is = f.bytes;
      left = sym (ap (drop (length f.taken)) f.is ∙ drop_at f.taken left (length f.taken) refl);
    } in
    subst (λ (gs : List Given). Copies gs all left copy) run copies

-- ---- the first datagram

pub copied_none : (term mtu : ℕ) (all : List Given) → all ≡ [] → CopiesFirst (first_run term mtu all) all all None
copied_none term mtu all is = rw (is) (record { copy_is = refl; left = refl })

pub copied_long : (term mtu : ℕ) (all later : List Given) (g : Given) → all ≡ g ∷ later → nat_le (length g.bytes) mtu ≡ false
    → CopiesFirst (first_run term mtu all) all all None
copied_long term mtu all later g is long =
    rw (is, eq-eqb (g.position / term) (g.position / term) refl, long) (record { copy_is = refl; left = refl })

pub copied_fits : (term mtu : ℕ) (all later new : List Given) (g : Given) (copy : List ℕ) → all ≡ g ∷ later
    → nat_le (length g.bytes) mtu ≡ true → Copies (fitting term (g.position / term) mtu all) all new copy
    → CopiesFirst (first_run term mtu all) all new (Some copy)
copied_fits term mtu all later new g copy is short copies =
    let run : first_run term mtu all ≡ g ∷ fitting term (g.position / term) (mtu - length g.bytes) later =
    rw (is, eq-eqb (g.position / term) (g.position / term) refl, short) refl in
    let same : fitting term (g.position / term) mtu all ≡ g ∷ fitting term (g.position / term) (mtu - length g.bytes) later =
    rw (is, eq-eqb (g.position / term) (g.position / term) refl, short) refl in
    let here : Copies (g ∷ fitting term (g.position / term) (mtu - length g.bytes) later) all new copy =
    subst (λ (gs : List Given). Copies gs all new copy) same copies in
    subst (λ (gs : List Given). CopiesFirst gs all new (Some copy)) (sym run)
    (record { copy_is = ap Some here.copy_is; left = here.left })

-- ---- the datagrams one after the other

-- more steps than frames change nothing
pub datagrams_enough : (n m term mtu : ℕ) (gs : List Given) → length gs ≤ n → length gs ≤ m → datagrams_in n term mtu gs ≡ datagrams_in m term mtu gs
datagrams_enough zero zero term mtu gs less fewer = refl
datagrams_enough zero (suc m) term mtu [] less fewer = refl
datagrams_enough zero (suc m) term mtu (g ∷ gs) less fewer = absurd (omega (arith, less))
datagrams_enough (suc n) zero term mtu [] less fewer = refl
datagrams_enough (suc n) zero term mtu (g ∷ gs) less fewer = absurd (omega (arith, fewer))
datagrams_enough (suc n) (suc m) term mtu gs less fewer =
    elim (first_run term mtu gs) as (λ (run : List Given). ahead run (datagrams_in n term mtu (drop (length run) gs)) ≡ ahead run (datagrams_in m term mtu (drop (length run) gs))) [
      | [] ↦ refl
      | (h ∷ hs) ↦
          ap (λ (others : List (List ℕ)). sent_bytes (h ∷ hs) ∷ others)
          (datagrams_enough n m term mtu (drop (suc (length hs)) gs) (omega (arith, less, length-drop (suc (length hs)) gs)) (omega (arith, fewer, length-drop (suc (length hs)) gs)))
    ]

-- behind the first are those of the frames that are left
pub datagrams_step : (term mtu : ℕ) (gs : List Given)
    → datagrams_of term mtu gs ≡ ahead (first_run term mtu gs) (datagrams_of term mtu (drop (length (first_run term mtu gs)) gs))
unfolding datagrams_of
datagrams_step term mtu [] = refl
datagrams_step term mtu (g ∷ gs) =
    elim (first_run term mtu (g ∷ gs)) as (λ (run : List Given). ahead run (datagrams_in (length gs) term mtu (drop (length run) (g ∷ gs))) ≡ ahead run (datagrams_in (length (drop (length run) (g ∷ gs))) term mtu (drop (length run) (g ∷ gs)))) [
      | [] ↦ refl
      | (h ∷ hs) ↦
          ap (λ (others : List (List ℕ)). sent_bytes (h ∷ hs) ∷ others)
          (datagrams_enough (length gs) (length (drop (length hs) gs)) term mtu (drop (length hs) gs) (omega (arith, length-drop (length hs) gs)) (omega arith))
    ]

taken_of : (run old new : List Given) (left : List (List ℕ)) (copy : Option (List ℕ)) → CopiesFirst run old new copy → (run ≡ [] → left ≡ [])
    → TakesNext (ahead run left) left copy
taken_of [] old new left copy copies none = rw (copies.copy_is) refl
taken_of (h ∷ hs) old new left copy copies none = rw (copies.copy_is) refl

pub takes_first : (term mtu : ℕ) (old new : List Given) (copy : Option (List ℕ)) → CopiesFirst (first_run term mtu old) old new copy
    → TakesNext (datagrams_of term mtu old) (datagrams_of term mtu new) copy
takes_first term mtu old new copy copies =
    let step = datagrams_step term mtu old in
    let left : datagrams_of term mtu new ≡ datagrams_of term mtu (drop (length (first_run term mtu old)) old) = ap (datagrams_of term mtu) copies.left in
    let none : first_run term mtu old ≡ [] → datagrams_of term mtu new ≡ [] = λ is.
    let same : drop (length (first_run term mtu old)) old ≡ old = rw (is) refl in
    left ∙ ap (datagrams_of term mtu) same ∙ step ∙ rw (is) refl in
    subst (λ (ds : List (List ℕ)). TakesNext ds (datagrams_of term mtu new) copy)
    (ap (λ (ds : List (List ℕ)). ahead (first_run term mtu old) ds) left ∙ sym step)
    (taken_of (first_run term mtu old) old new (datagrams_of term mtu new) copy copies none)
