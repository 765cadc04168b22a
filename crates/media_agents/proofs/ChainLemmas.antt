-- What was done one after another, act by act.
use Rattle.std.proofs.Common.{◌≡◌, ℕ, ◌+◌, ◌<◌, List, [], ◌∷◌, ◌++◌, inl, inr, refl, sym, ap, subst, ◌∙◌, append_assoc, arith, get_or, length, take, All}
use Rattle.std.proofs.lemmas.List.{append-nil, length-append, take_more}
use Rattle.std.proofs.lemmas.List.Elements.{All-append, All-cons, All-nil}
use Rattle.channel_uri.specs.declared.address.Address.{Address}
use Rattle.media_agents.specs.Acts.{Act, Chain, Each, GoesOn}
use Rattle.media_agents.specs.Traffic.{HearsOut, IsReading}
use Rattle.media_agents.proofs.ActLemmas.{goes_on, goes_on_as, stays}
use Rattle.media_wire.specs.declared.letter.Letter.{Letter}
use Rattle.std.specs.Prelude.{None}

module _ {A S X : Type 0} (Does : X → S → S → List A → Type 0) where
  -- one more
  pub chain_more : (before : List X) (one : X) (s t u : S) (a b : List A) → Chain Does before s t a → Does one t u b
      → Chain Does (before ++ one ∷ []) s u (a ++ b)
  chain_more [] one s t u a b none does =
      (u, b, [], ap (λ (a : List A). a ++ b) none.1 ∙ sym (append-nil b), subst (λ (t : S). Does one t u b) none.0 does, (refl, refl))
  chain_more (first ∷ before) one s t u a b chain does = (
    chain.0,
    chain.1,
    chain.2 ++ b,
    ap (λ (a : List A). a ++ b) chain.3 ∙ append_assoc chain.1 chain.2 b,
    chain.4,
    chain_more before one chain.0 t u chain.2 b chain.5 does,
  )

  pub chain_none : (s : S) (old : List A → Type 0) → GoesOn (Chain Does [] s s) old old
  chain_none s old = stays (Chain Does [] s s) old (refl, refl)

  pub chain_then : (before : List X) (one : X) (s t u : S) (old between new : List A → Type 0)
      → GoesOn (Chain Does before s t) old between → GoesOn (Does one t u) between new
      → GoesOn (Chain Does (before ++ one ∷ []) s u) old new
  chain_then before one s t u old between new =
      goes_on (Chain Does before s t) (Does one t u) (Chain Does (before ++ one ∷ []) s u) old between new
      (λ a b chain does. chain_more before one s t u a b chain does)

  -- one more of a list
  pub chain_on : (all : List X) (at : ℕ) (one : X) (s t u : S) (old between new : List A → Type 0) → at < length all
      → GoesOn (Chain Does (take at all) s t) old between → GoesOn (Does (get_or all at one) t u) between new
      → GoesOn (Chain Does (take (at + 1) all) s u) old new
  chain_on all at one s t u old between new within first then =
      subst (λ (xs : List X). GoesOn (Chain Does xs s u) old new) (sym (take_more all at one within))
      (chain_then (take at all) (get_or all at one) s t u old between new first then)

pub each_none : {A X : Type 0} (Does : X → List A → Type 0) (old : List A → Type 0) → GoesOn (Each Does []) old old
each_none {A} {X} Does old = chain_none (λ (x : X) (before after : Unit {0}). Does x) tt old

-- one more, which leaves no state
pub each_next : {A X : Type 0} (Does : X → List A → Type 0) (all : List X) (at : ℕ) (one : X) (old between new : List A → Type 0) → at < length all
    → GoesOn (Each Does (take at all)) old between → GoesOn (Does (get_or all at one)) between new → GoesOn (Each Does (take (at + 1) all)) old new
each_next {A} {X} Does all at one old between new =
    chain_on (λ (x : X) (before after : Unit {0}). Does x) all at one tt tt tt old between new

-- ---- datagrams that came to an address

module _ {S : Type 0} (Takes : Letter → S → S → List Act → Type 0) (at : Address) where
  -- so many came, and of each came that
  pub record Came (count : ℕ) (s t : S) (acts : List Act) : Type 0 where
    pub letters : List Letter
    pub came : All (λ (it : Letter). it.to ≡ at) letters
    pub count_is : length letters ≡ count
    pub takes : Chain Takes letters s t acts

  pub came_none : (s : S) (old : List Act → Type 0) → GoesOn (Came 0 s s) old old
  came_none s old = stays (Came 0 s s) old (record { letters = []; came = All-nil (λ (it : Letter). it.to ≡ at); count_is = refl; takes = (refl, refl) })

  pub came_more : (count : ℕ) (it : Letter) (s t u : S) (old between new : List Act → Type 0) → it.to ≡ at
      → GoesOn (Came count s t) old between → GoesOn (Takes it t u) between new → GoesOn (Came (count + 1) s u) old new
  came_more count it s t u old between new here =
      goes_on (Came count s t) (Takes it t u) (Came (count + 1) s u) old between new (λ a b came takes. record {
        letters = came.letters ++ it ∷ [];
        came = All-append (λ (it : Letter). it.to ≡ at) came.letters (it ∷ []) came.came
            (All-cons (λ (it : Letter). it.to ≡ at) it [] here (All-nil (λ (it : Letter). it.to ≡ at)));
        count_is = omega (arith, length-append came.letters (it ∷ []), came.count_is);
        takes = chain_more Takes came.letters it s t u a b came.takes takes;
      })

  -- as many as a turn reads
  pub hears_most : (count : ℕ) (s t : S) (old new : List Act → Type 0) → count ≡ 1024
      → GoesOn (Came count s t) old new → GoesOn (HearsOut Takes at s t) old new
  hears_most count s t old new most =
      goes_on_as (Came count s t) (HearsOut Takes at s t) old new (λ a came. record {
        letters = came.letters;
        heard = a;
        last = [];
        order = sym (append-nil a);
        came = came.came;
        takes = came.takes;
        ends = inl (came.count_is ∙ most, refl);
      })

  -- then none was there, or a read failed
  pub hears_out : (count : ℕ) (s t : S) (bytes : List ℕ) (old between new : List Act → Type 0) → count < 1024
      → GoesOn (Came count s t) old between → GoesOn (IsReading at None bytes) between new → GoesOn (HearsOut Takes at s t) old new
  hears_out count s t bytes old between new few =
      goes_on (Came count s t) (IsReading at None bytes) (HearsOut Takes at s t) old between new (λ a b came reading. record {
        letters = came.letters;
        heard = a;
        last = b;
        order = refl;
        came = came.came;
        takes = came.takes;
        ends = inr (omega (arith, came.count_is), reading);
      })
