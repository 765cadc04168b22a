-- Turns of the sender with one log, one after another.
use Rattle.std.proofs.Common.{◌≡◌, ℕ, ◌+◌, ◌<◌, true, false, List, [], ◌∷◌, ◌++◌, Option, inl, inr, refl, sym, subst, ◌∙◌, arith, length, All}
use Rattle.std.proofs.lemmas.List.{append-nil, length-append}
use Rattle.std.proofs.lemmas.List.Elements.{All-append, All-cons, All-nil}
use Rattle.channel_uri.specs.declared.address.Address.{Address}
use Rattle.media_agents.specs.Acts.{Act, Chain, GoesOn}
use Rattle.media_agents.specs.declared.slots.LogAt.{LogAt}
use Rattle.media_agents.specs.declared.stepping.Stepped.{Stepped}
use Rattle.media_agents.specs.Traffic.{SendsOne, SendsRun, was_due}
use Rattle.media_agents.proofs.ChainLemmas.{chain_more}
use Rattle.media_agents.proofs.ActLemmas.{goes_on, goes_on_as, stays}
use Rattle.published_registry.specs.Histories.{History}

module _ (now : ℕ) (local : Address) (at : LogAt) where
  -- so many, in each of which something was due
  pub record Ran (count : ℕ) (s t : History) (acts : List Act) : Type 0 where
    pub turns : List (Option Stepped)
    pub due : All (λ (turn : Option Stepped). was_due turn ≡ true) turns
    pub count_is : length turns ≡ count
    pub sends : Chain (SendsOne now local at) turns s t acts

  pub ran_none : (s : History) (old : List Act → Type 0) → GoesOn (Ran 0 s s) old old
  ran_none s old =
      stays (Ran 0 s s) old (record { turns = []; due = All-nil (λ (turn : Option Stepped). was_due turn ≡ true); count_is = refl; sends = (refl, refl) })

  pub ran_more : (count : ℕ) (it : Option Stepped) (s t u : History) (old between new : List Act → Type 0) → was_due it ≡ true
      → GoesOn (Ran count s t) old between → GoesOn (SendsOne now local at it t u) between new
      → GoesOn (Ran (count + 1) s u) old new
  ran_more count it s t u old between new due =
      goes_on (Ran count s t) (SendsOne now local at it t u) (Ran (count + 1) s u) old between new (λ a b ran sends. record {
        turns = ran.turns ++ it ∷ [];
        due = All-append (λ (turn : Option Stepped). was_due turn ≡ true) ran.turns (it ∷ []) ran.due
            (All-cons (λ (turn : Option Stepped). was_due turn ≡ true) it [] due (All-nil (λ (turn : Option Stepped). was_due turn ≡ true)));
        count_is = omega (arith, length-append ran.turns (it ∷ []), ran.count_is);
        sends = chain_more (SendsOne now local at) ran.turns it s t u a b ran.sends sends;
      })

  -- nothing was due in the last one
  pub run_ends : (count : ℕ) (it : Option Stepped) (s t u : History) (old between new : List Act → Type 0) → count < 16 → was_due it ≡ false
      → GoesOn (Ran count s t) old between → GoesOn (SendsOne now local at it t u) between new
      → GoesOn (SendsRun now local at s u) old new
  run_ends count it s t u old between new few undue =
      goes_on (Ran count s t) (SendsOne now local at it t u) (SendsRun now local at s u) old between new (λ a b ran sends. record {
        turns = ran.turns;
        rest = it ∷ [];
        due = ran.due;
        ends = inr (omega (arith, ran.count_is), (it, refl, undue));
        sends = chain_more (SendsOne now local at) ran.turns it s t u a b ran.sends sends;
      })

  -- there were 16
  pub run_full : (count : ℕ) (s t : History) (old new : List Act → Type 0) → count ≡ 16
      → GoesOn (Ran count s t) old new → GoesOn (SendsRun now local at s t) old new
  run_full count s t old new full =
      goes_on_as (Ran count s t) (SendsRun now local at s t) old new (λ a ran. record {
        turns = ran.turns;
        rest = [];
        due = ran.due;
        ends = inl (ran.count_is ∙ full, refl);
        sends = subst (λ (turns : List (Option Stepped)). Chain (SendsOne now local at) turns s t a) (sym (append-nil ran.turns)) ran.sends;
      })
