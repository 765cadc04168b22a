-- Rounds of polls.
use Rattle.std.proofs.Common.{arith, ◌≡◌, Bool, true, false, cond, eqb, ℕ, zero, suc, ◌+◌, ◌≤◌, ◌<◌, List, [], ◌∷◌, ◌++◌, All, length, take, append_assoc, sym, subst, ap, ◌∙◌, ◌⊎◌, inl, inr, refl, Result, Ok, Err, IfOk}
use Rattle.std.proofs.lemmas.List.{append-nil, length-append, take_all, take_at}
use Rattle.std.proofs.lemmas.List.Elements.{All-append, All-cons, All-head, All-nil, All-push, All-tail, All-weaker}
use Rattle.service_records.specs.Pairs.{pairs_of}
use Rattle.service_records.specs.declared.pairs.Pair.{Pair}
use Rattle.driver_service.specs.Calls.{Call, CallsOnly, Does, Run}
use Rattle.driver_service.specs.Gathering.{Gathers, full}
use Rattle.driver_service.specs.Requests.{IsPollOf, IsPollWithin, fragments, polled_pairs}
use Rattle.driver_service.specs.Rounds.{AnswersAll, Follows, InOrder, IsIdle, IsRound, Part, Polled, PollsAll, Round, RoundTold, all_calls, part_bytes, part_count, part_head, round_bytes, round_calls, round_count}
use Rattle.driver_service.specs.declared.reason.Refusal.{Refusal}
use Rattle.driver_service.proofs.CallLemmas.{run_on}
use Rattle.driver_service.proofs.GatherLemmas.{gathers_each}

-- ---- rounds as lists

pub round_calls_on : (xs : List Polled) (x : Polled) → round_calls (xs ++ x ∷ []) ≡ round_calls xs ++ x.calls
round_calls_on [] x = append-nil x.calls
round_calls_on (y ∷ ys) x = ap (λ (b : List Call). y.calls ++ b) (round_calls_on ys x) ∙ sym (append_assoc y.calls (round_calls ys) x.calls)

pub bytes_on : (place : ℕ) (xs ys : List Polled) → round_bytes place (xs ++ ys) ≡ round_bytes place xs ++ round_bytes (place + length xs) ys
bytes_on place [] ys = let e : place ≡ place + 0 = omega arith in ap (λ (p : ℕ). round_bytes p ys) e
bytes_on place (x ∷ xs) ys =
    let e : place + 1 + length xs ≡ place + suc (length xs) = omega arith in
    ap (λ (b : List ℕ). part_bytes place x.written x.gave ++ b) (bytes_on (place + 1) xs ys ∙ ap (λ (p : ℕ). round_bytes (place + 1) xs ++ round_bytes p ys) e)
    ∙ sym (append_assoc (part_bytes place x.written x.gave) (round_bytes (place + 1) xs) (round_bytes (place + suc (length xs)) ys))

pub count_on : (xs ys : List Polled) → round_count (xs ++ ys) ≡ round_count xs + round_count ys
count_on [] ys = let e : round_count ys ≡ 0 + round_count ys = omega arith in e
count_on (x ∷ xs) ys = let e : round_count (xs ++ ys) ≡ round_count xs + round_count ys = count_on xs ys in omega arith

pub order_on : (limit : ℕ) (pairs : List (ℕ × ℕ)) (parts : List Polled) (pair : ℕ × ℕ) (part : Polled) → InOrder limit pairs parts → length parts ≡ length pairs → Gathers pair.0 pair.1 limit part.had part.calls part.written part.gave → InOrder limit (pairs ++ pair ∷ []) (parts ++ part ∷ [])
order_on limit [] [] pair part order long is = (is, record {})
order_on limit [] (c ∷ parts) pair part order long is = absurd order
order_on limit (p ∷ pairs) [] pair part order long is = absurd (omega (arith, long))
order_on limit (p ∷ pairs) (c ∷ parts) pair part order long is =
    let e : length parts ≡ length pairs = omega (arith, long) in
    (order.0, order_on limit pairs parts pair part order.1 e is)

-- the order of some is an order of more
pub order_more : (limit : ℕ) (pairs more : List (ℕ × ℕ)) (parts : List Polled) → InOrder limit pairs parts → InOrder limit (pairs ++ more) parts
order_more limit pairs more [] order = record {}
order_more limit [] more (c ∷ parts) order = absurd order
order_more limit (p ∷ pairs) more (c ∷ parts) order = (order.0, order_more limit pairs more parts order.1)

pub order_take : (n limit : ℕ) (pairs : List (ℕ × ℕ)) (parts : List Polled) → InOrder limit pairs parts → length parts ≤ n → InOrder limit (take n pairs) parts
order_take n limit pairs [] order few = record {}
order_take n limit [] (c ∷ parts) order few = absurd order
order_take zero limit (p ∷ pairs) (c ∷ parts) order few = absurd (omega (arith, few))
order_take (suc n) limit (p ∷ pairs) (c ∷ parts) order few =
    let e : length parts ≤ n = omega (arith, few) in
    (order.0, order_take n limit pairs parts order.1 e)

-- all calls of it are of these pairs
pub order_each : (limit : ℕ) (pairs : List (ℕ × ℕ)) (parts : List Polled) → InOrder limit pairs parts → All (IsPollOf (fragments limit) pairs) (round_calls parts)
order_each limit pairs [] order = All-nil (IsPollOf (fragments limit) pairs)
order_each limit [] (c ∷ parts) order = absurd order
order_each limit (p ∷ pairs) (c ∷ parts) order =
    let own = IsPollOf (fragments limit) (p ∷ pairs) in
    let first = gathers_each p.0 p.1 limit c.had c.calls c.written c.gave order.0 in
    All-append own c.calls (round_calls parts)
    (All-weaker (IsPollWithin p.0 p.1 (fragments limit)) own (λ call is. inl is) c.calls first)
    (All-weaker (IsPollOf (fragments limit) pairs) own (λ call is. inr is) (round_calls parts) (order_each limit pairs parts order.1))

pub follows_on : (place had : ℕ) (parts : List Polled) (part : Polled) → Follows place had parts → had + length (round_bytes place parts) < full → part.had ≡ had + length (round_bytes place parts) + length (part_head (place + length parts)) → Follows place had (parts ++ part ∷ [])
follows_on place had [] part follows short is =
    let e : had + 0 ≡ had = omega arith in
    let p : place + 0 ≡ place = omega arith in
    (omega (arith, short), is ∙ (ap (λ (n : ℕ). n + length (part_head (place + 0))) e ∙ ap (λ (n : ℕ). had + length (part_head n)) p), record {})
follows_on place had (x ∷ xs) part follows short is =
    let bytes = part_bytes place x.written x.gave in
    let rest = round_bytes (place + 1) xs in
    let sum : had + length (bytes ++ rest) ≡ had + length bytes + length rest = omega (arith, length-append bytes rest) in
    let at : place + suc (length xs) ≡ place + 1 + length xs = omega arith in
    let fits : had + length bytes + length rest < full = omega (arith, sum, short) in
    (follows.0, follows.1, follows_on (place + 1) (had + length bytes) xs part follows.2 fits (is ∙ (ap (λ (n : ℕ). n + length (part_head (place + suc (length xs)))) sum ∙ ap (λ (n : ℕ). had + length bytes + length rest + length (part_head n)) at)))

-- a poll that counts for nothing wrote nothing
nothing_if : (none : Bool) (written : List ℕ) → ◌≡◌ {A = ℕ} (cond none 0 1) 0 → cond none [] written ≡ []
nothing_if true written e = refl
nothing_if false written e = let no : ◌≡◌ {A = ℕ} 1 0 = e in absurd (omega (arith, no))

part_nothing : (place : ℕ) (written : List ℕ) (result : Result ℕ Refusal) → part_count result ≡ 0 → part_bytes place written result ≡ []
part_nothing place written (Ok count) none = nothing_if (eqb count 0) (part_head place ++ written) none
part_nothing place written (Err r) none = let no : ◌≡◌ {A = ℕ} 1 0 = none in absurd (omega (arith, no))

pub nothing : (place : ℕ) (parts : List Polled) → round_count parts ≡ 0 → round_bytes place parts ≡ []
nothing place [] none = refl
nothing place (c ∷ parts) none =
    let first : part_count c.gave ≡ 0 = omega (arith, none) in
    let others : round_count parts ≡ 0 = omega (arith, none) in
    let a = part_nothing place c.written c.gave first in
    let b = nothing (place + 1) parts others in
    rw (a, b) refl

-- ---- one round, so far

pub record SoFar {S : Type 0} (does : Does S) (limit : ℕ) (tail left : List ℕ) (old new : S) (out after : List ℕ) (place count : ℕ) : Type 0 where
  pub taken : List (ℕ × ℕ)
  pub parts : List Polled
  pub pairs_are : pairs_of tail ≡ taken ++ pairs_of left
  pub order : InOrder limit taken parts
  pub follows : Follows 0 (length out) parts
  pub run : Run does old (round_calls parts) new
  pub long : length taken ≡ place
  pub same : length parts ≡ length taken
  pub written : after ≡ out ++ round_bytes 0 parts
  pub counted : count ≡ round_count parts
  pub few : count ≤ place

pub none_yet : {S : Type 0} (does : Does S) (limit : ℕ) (tail : List ℕ) (s : S) (out : List ℕ) → SoFar does limit tail tail s s out out 0 0
none_yet does limit tail s out = record { taken = []; parts = []; pairs_are = refl; order = record {}; follows = record {}; run = refl; long = refl; same = refl; written = sym (append-nil out); counted = refl; few = omega arith }

-- what the poll of a pair came to
abbrev polled_of : {S E : Type 0} (does : Does S) (place : ℕ) (pair : Pair) (limit : ℕ) (old new : S) (out after : List ℕ) (told : Result ℕ E) → Part does place pair limit old new out after told → Polled
polled_of does place pair limit old new out after told part = record { had = part.had; calls = part.polled.calls; written = part.written; gave = part.gave }

-- the polls with one more, in the order of all pairs
order_with : (limit : ℕ) (taken : List (ℕ × ℕ)) (pair : ℕ × ℕ) (rest all : List (ℕ × ℕ)) (parts : List Polled) (part : Polled) → all ≡ taken ++ pair ∷ rest → length taken < 64 → InOrder limit taken parts → length parts ≡ length taken → Gathers pair.0 pair.1 limit part.had part.calls part.written part.gave → InOrder limit (take 64 all) (parts ++ part ∷ [])
order_with limit taken pair rest all parts part is few order same gathers =
    let front = taken ++ pair ∷ [] in
    let with = order_on limit taken parts pair part order same gathers in
    let whole : front ++ rest ≡ all = append_assoc taken (pair ∷ []) rest ∙ sym is in
    let more = subst (λ (ps : List (ℕ × ℕ)). InOrder limit ps (parts ++ part ∷ [])) whole (order_more limit front rest (parts ++ part ∷ []) with) in
    order_take 64 limit all (parts ++ part ∷ []) more (omega (arith, few, same, length-append parts (part ∷ [])))

run_with : {S : Type 0} (does : Does S) (old mid new : S) (parts : List Polled) (part : Polled) → Run does old (round_calls parts) mid → Run does mid part.calls new → Run does old (round_calls (parts ++ part ∷ [])) new
run_with does old mid new parts part first last = subst (λ (calls : List Call). Run does old calls new) (sym (round_calls_on parts part)) (run_on does old mid new (round_calls parts) part.calls first last)

-- one more poll
pub one_more_part : {S E : Type 0} (does : Does S) (limit : ℕ) (tail left rest : List ℕ) (old mid new : S) (out between after : List ℕ) (place count n : ℕ) (pair : Pair) (told : Result ℕ E) → SoFar does limit tail left old mid out between place count → pairs_of left ≡ (pair.subscription, pair.source) ∷ pairs_of rest → length between < full → Part does place pair limit mid new between after told → told ≡ Ok n → SoFar does limit tail rest old new out after (place + 1) (count + n)
one_more_part {E = E} does limit tail left rest old mid new out between after place count n pair told so first short part ok =
    let it = polled_of does place pair limit mid new between after told part in
    let named : ℕ × ℕ = (pair.subscription, pair.source) in
    let gave = subst (λ (r : Result ℕ E). IfOk r (λ (m : ℕ). (part.had ≡ length between + length (part_head place)) × (m ≡ part_count part.gave) × (m ≤ 1) × (after ≡ between ++ part_bytes place part.written part.gave))) ok part.answered in
    let bytes = part_bytes place part.written part.gave in
    let at : 0 + length so.parts ≡ place = omega (arith, so.long, so.same) in
    let last : round_bytes (0 + length so.parts) (it ∷ []) ≡ bytes = ap (λ (p : ℕ). part_bytes p part.written part.gave ++ []) at ∙ append-nil bytes in
    let sum : length between ≡ length out + length (round_bytes 0 so.parts) = ap length so.written ∙ length-append out (round_bytes 0 so.parts) in
    record {
      taken = so.taken ++ named ∷ [];
      parts = so.parts ++ it ∷ [];
      pairs_are = so.pairs_are ∙ (ap (λ (ps : List (ℕ × ℕ)). so.taken ++ ps) first ∙ sym (append_assoc so.taken (named ∷ []) (pairs_of rest)));
      order = order_on limit so.taken so.parts named it so.order so.same part.polled.gathers;
      follows = follows_on 0 (length out) so.parts it so.follows (omega (arith, sum, short)) (gave.0 ∙ (ap (λ (m : ℕ). m + length (part_head place)) sum ∙ ap (λ (p : ℕ). length out + length (round_bytes 0 so.parts) + length (part_head p)) (sym at)));
      run = run_with does old mid new so.parts it so.run part.polled.run;
      long = omega (arith, so.long, length-append so.taken (named ∷ []));
      same = omega (arith, so.same, length-append so.taken (named ∷ []), length-append so.parts (it ∷ []));
      written = gave.3 ∙ (ap (λ (b : List ℕ). b ++ bytes) so.written ∙ (append_assoc out (round_bytes 0 so.parts) bytes ∙ ap (λ (b : List ℕ). out ++ b) (ap (λ (b : List ℕ). round_bytes 0 so.parts ++ b) (sym last) ∙ sym (bytes_on 0 so.parts (it ∷ [])))));
      counted = let e : count ≡ round_count so.parts = so.counted in let f : n ≡ part_count part.gave = gave.1 in let g : round_count (so.parts ++ it ∷ []) ≡ round_count so.parts + round_count (it ∷ []) = count_on so.parts (it ∷ []) in omega arith;
      few = let e : count ≤ place = so.few in let f : n ≤ 1 = gave.2 in omega arith;
    }

-- all pairs that are polled were polled
whole_round : {S E : Type 0} (does : Does S) (limit : ℕ) (tail left : List ℕ) (old new : S) (out after : List ℕ) (place count : ℕ) → (so : SoFar does limit tail left old new out after place count) → polled_pairs tail ≡ so.taken → Round {S = S} {E = E} does limit (polled_pairs tail) old new out after (Ok count)
whole_round does limit tail left old new out after place count so all = record {
  parts = so.parts;
  run = so.run;
  answered = record {
    order = subst (λ (ps : List (ℕ × ℕ)). InOrder limit ps so.parts) (sym all) so.order;
    follows = so.follows;
    reached = inl (so.same ∙ ap length (sym all));
    written = so.written;
    counted = so.counted;
  };
}

-- none is left
pub round_ends : {S E : Type 0} (does : Does S) (limit : ℕ) (tail left : List ℕ) (old new : S) (out after : List ℕ) (place count : ℕ) → SoFar does limit tail left old new out after place count → place < 64 → pairs_of left ≡ [] → Round {S = S} {E = E} does limit (polled_pairs tail) old new out after (Ok count)
round_ends does limit tail left old new out after place count so few none =
    let all : pairs_of tail ≡ so.taken = so.pairs_are ∙ (ap (λ (ps : List (ℕ × ℕ)). so.taken ++ ps) none ∙ append-nil so.taken) in
    whole_round does limit tail left old new out after place count so (ap (take 64) all ∙ take_all 64 so.taken (omega (arith, so.long, few)))

-- as many were polled as may be
pub round_full : {S E : Type 0} (does : Does S) (limit : ℕ) (tail left : List ℕ) (old new : S) (out after : List ℕ) (place count : ℕ) → SoFar does limit tail left old new out after place count → place ≡ 64 → Round {S = S} {E = E} does limit (polled_pairs tail) old new out after (Ok count)
round_full does limit tail left old new out after place count so many =
    whole_round does limit tail left old new out after place count so (ap (take 64) so.pairs_are ∙ take_at so.taken (pairs_of left) 64 (so.long ∙ many))

-- much is to be written
pub round_long : {S E : Type 0} (does : Does S) (limit : ℕ) (tail left : List ℕ) (old new : S) (out after : List ℕ) (place count : ℕ) → SoFar does limit tail left old new out after place count → place < 64 → full ≤ length after → Round {S = S} {E = E} does limit (polled_pairs tail) old new out after (Ok count)
round_long does limit tail left old new out after place count so few much =
    let more = subst (λ (ps : List (ℕ × ℕ)). InOrder limit ps so.parts) (sym so.pairs_are) (order_more limit so.taken (pairs_of left) so.parts so.order) in
    record {
      parts = so.parts;
      run = so.run;
      answered = record {
        order = order_take 64 limit (pairs_of tail) so.parts more (omega (arith, so.long, so.same, few));
        follows = so.follows;
        reached = inr much;
        written = so.written;
        counted = so.counted;
      };
    }

-- memory ran out
pub round_fails : {S E : Type 0} (does : Does S) (limit : ℕ) (tail left rest : List ℕ) (old mid new : S) (out between after : List ℕ) (place count : ℕ) (pair : Pair) (told : Result ℕ E) (fault : E) → SoFar does limit tail left old mid out between place count → place < 64 → pairs_of left ≡ (pair.subscription, pair.source) ∷ pairs_of rest → Part does place pair limit mid new between after told → Round {S = S} {E = E} does limit (polled_pairs tail) old new out after (Err fault)
round_fails does limit tail left rest old mid new out between after place count pair told fault so few first part =
    let it = polled_of does place pair limit mid new between after told part in
    let named : ℕ × ℕ = (pair.subscription, pair.source) in
    record {
      parts = so.parts ++ it ∷ [];
      run = run_with does old mid new so.parts it so.run part.polled.run;
      answered = order_with limit so.taken named (pairs_of rest) (pairs_of tail) so.parts it (so.pairs_are ∙ ap (λ (ps : List (ℕ × ℕ)). so.taken ++ ps) first) (omega (arith, so.long, few)) so.order so.same part.polled.gathers;
    }

-- ---- rounds

pub record Idles {S : Type 0} (does : Does S) (limit : ℕ) (pairs : List (ℕ × ℕ)) (old new : S) (out : List ℕ) : Type 0 where
  pub earlier : List (List Polled)
  pub idle : All (IsIdle limit pairs out) earlier
  pub run : Run does old (all_calls earlier) new

pub no_rounds : {S : Type 0} (does : Does S) (limit : ℕ) (pairs : List (ℕ × ℕ)) (s : S) (out : List ℕ) → Idles does limit pairs s s out
no_rounds does limit pairs s out = record { earlier = []; idle = All-nil (IsIdle limit pairs out); run = refl }

calls_on : (xss : List (List Polled)) (ys : List Polled) → all_calls (xss ++ ys ∷ []) ≡ all_calls xss ++ round_calls ys
calls_on [] ys = append-nil (round_calls ys)
calls_on (xs ∷ xss) ys = ap (λ (b : List Call). round_calls xs ++ b) (calls_on xss ys) ∙ sym (append_assoc (round_calls xs) (all_calls xss) (round_calls ys))

-- one more round that gave nothing, and wrote nothing
pub idle_more : {S E : Type 0} (does : Does S) (limit : ℕ) (pairs : List (ℕ × ℕ)) (old mid new : S) (out between after : List ℕ) (told : Result ℕ E) → Idles does limit pairs old mid out → between ≡ out → Round does limit pairs mid new between after told → told ≡ Ok 0 → Idles does limit pairs old new out × (after ≡ out)
idle_more {E = E} does limit pairs old mid new out between after told so same round none =
    let gave = subst (λ (r : Result ℕ E). RoundTold limit pairs round.parts between after r) none round.answered in
    let zeros : round_count round.parts ≡ 0 = sym gave.counted in
    let empty : after ≡ between = gave.written ∙ (ap (λ (b : List ℕ). between ++ b) (nothing 0 round.parts zeros) ∙ append-nil between) in
    let idle = subst (λ (b : List ℕ). IsIdle limit pairs b round.parts) same (subst (λ (b : List ℕ). IsRound limit pairs round.parts between b 0) empty gave) in (
      record {
        earlier = so.earlier ++ round.parts ∷ [];
        idle = All-push (IsIdle limit pairs out) so.earlier round.parts so.idle idle;
        run = subst (λ (calls : List Call). Run does old calls new) (sym (calls_on so.earlier round.parts)) (run_on does old mid new (all_calls so.earlier) (round_calls round.parts) so.run round.run);
      },
      empty ∙ same,
    )

-- the last one
pub polls_all : {S E : Type 0} (does : Does S) (limit : ℕ) (pairs : List (ℕ × ℕ)) (old mid new : S) (out between after : List ℕ) (told : Result ℕ E) → Idles does limit pairs old mid out → between ≡ out → Round does limit pairs mid new between after told → PollsAll does limit pairs old new out after told
polls_all does limit pairs old mid new out between after told so same round = record {
  earlier = so.earlier;
  idle = so.idle;
  between = mid;
  run = so.run;
  last = subst (λ (b : List ℕ). Round does limit pairs mid new b after told) same round;
}

-- all calls of it are of these pairs
idle_each : (limit : ℕ) (pairs : List (ℕ × ℕ)) (out : List ℕ) (earlier : List (List Polled)) → All (IsIdle limit pairs out) earlier → All (IsPollOf (fragments limit) pairs) (all_calls earlier)
idle_each limit pairs out [] idle = All-nil (IsPollOf (fragments limit) pairs)
idle_each limit pairs out (parts ∷ earlier) idle =
    let first = All-head (IsIdle limit pairs out) parts earlier idle in
    All-append (IsPollOf (fragments limit) pairs) (round_calls parts) (all_calls earlier) (order_each limit pairs parts first.order) (idle_each limit pairs out earlier (All-tail (IsIdle limit pairs out) parts earlier idle))

told_order : {E : Type 0} (limit : ℕ) (pairs : List (ℕ × ℕ)) (parts : List Polled) (out after : List ℕ) (told : Result ℕ E) → RoundTold limit pairs parts out after told → InOrder limit pairs parts
told_order limit pairs parts out after (Ok count) told = told.order
told_order limit pairs parts out after (Err fault) told = told

pub of_rounds : {S E : Type 0} (does : Does S) (limit : ℕ) (pairs : List (ℕ × ℕ)) (old new : S) (out after : List ℕ) (told : Result Unit E) → AnswersAll does limit pairs old new out after told → CallsOnly does (IsPollOf (fragments limit) pairs) old new
of_rounds does limit pairs old new out after told answers =
    let polls = answers.polls in
    let own = IsPollOf (fragments limit) pairs in
    let last = polls.last in
    let order = told_order limit pairs last.parts out answers.written answers.gave last.answered in
    record {
      calls = all_calls polls.earlier ++ round_calls last.parts;
      each = All-append own (all_calls polls.earlier) (round_calls last.parts) (idle_each limit pairs out polls.earlier polls.idle) (order_each limit pairs last.parts order);
      run = run_on does old polls.between new (all_calls polls.earlier) (round_calls last.parts) polls.run last.run;
    }
